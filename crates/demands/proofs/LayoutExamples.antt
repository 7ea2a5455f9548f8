-- The statements on layouts: structures that meet their premises, what is written or read besides and is no structure of the
-- volume, and what each statement rules out.
use Prim.Native.Nat.{ℕ, ◌+◌, ◌%◌, ◌≤◌, ◌<◌}
use native.Mathlib.Omega.{arith}
use mathlib.Core.Path.{◌≡◌, refl, sym, ap, ◌∙◌}
use mathlib.Core.Bool.{Bool, true, false}
use mathlib.Core.Logic.{◌⊎◌, inl, inr}
use mathlib.Core.List.{List, [], ◌∷◌, ◌++◌}
use native.Mathlib.Decide.{dec_le}
use lib.ListN.{length, get_or, take, drop, replicate, length-replicate}
use Rattle.wire.specs.Bytes.{be16, two, Octets}
use Rattle.wire.proofs.WireLaws.{true_false, two_back}
use Rattle.wire.proofs.OctetLaws.{octets_append, octets_tested}
use Rattle.answer.specs.declared.Refusal.TheVariants.{Incomplete, InvalidDssType}
use Rattle.answer.specs.declared.Refused.{Refused}
use Rattle.dss_head.specs.Heads.{bit, type_byte, flags_byte, flags_of}
use Rattle.dss_head.proofs.HeadLaws.{format_back}
use Rattle.dss_head.specs.declared.DssFlags.{DssFlags}
use Rattle.dss_head.specs.declared.DssHeader.{DssHeader}
use Rattle.dss_head.specs.declared.DssType.{DssType}
use Rattle.dss_head.specs.declared.DssType.TheVariants.{Request, Reply, Object}
use Rattle.dss_frame.specs.declared.Rules.TheVariants.{Reader, Salvage}
use Rattle.dss_frame.specs.Segments.{payload_of, end_of, frame_walk, continuations, walk_fuel}
use Rattle.dss_frame.specs.Reading.{Read, Frame, frame, refused, read_at, absorb, absorb_fuel, look}
use Rattle.dss_frame.specs.Written.{Sent, head_of, chunks, written}
use Rattle.dss_laws.proofs.WritingLaws.{written_single, written_several}
use Rattle.layouts.specs.DssLayout.{Structure, Allowed, ends, Dss, one, several, EndsFull, FullLast, rest}
use Rattle.demands.specs.DssLayouts.{structure_of, WritesLayout, ReadAs, ReadsDssLayout, ReadsFullLast, WaitsBehindFull, LayoutFixes, NoLayout}
use Rattle.demands.proofs.Mending.{octets_same}
use Rattle.demands.proofs.Impostors.{empty, sendable, frame_refused, same_frame}
use Rattle.demands.proofs.WrittenLayout.{allowed_sent, writes_layout}
use Rattle.demands.proofs.FaithfulLayout.{allowed_in, told_at}
use Rattle.demands.proofs.LayoutReads.{reads_layout, reads_full_last, waits_behind_full}

-- ---- structures that meet the premises

-- a frame to be sent that is chained and has same correlation, and its layout
abbrev chain : Sent
chain = record { type = Object; chained = true; same = true; correlation = 1; payload = 0xC1 ∷ [] }

pub chain_laid : Dss (structure_of chain) (written chain)
chain_laid = writes_layout chain (allowed_sent chain (record { correlation = omega arith; payload = octets_tested (0xC1 ∷ []) refl }) (λ e. refl))

pub chain_written : written chain ≡ 0x00 ∷ 0x07 ∷ 0xD0 ∷ 0x53 ∷ 0x00 ∷ 0x01 ∷ 0xC1 ∷ []
unfolding written
chain_written = refl

-- a chained request with same correlation and continue on error: all that a format byte can say
abbrev pub asking : Bool → Structure
asking on_error = record { type = 1; chained = true; on_error = on_error; same = true; correlation = 0x1234; payload = 0xC1 ∷ [] }

pub asking_allowed : (on_error : Bool) → Allowed (asking on_error)
asking_allowed on_error =
    record {
      type = (omega arith, omega arith);
      correlation = omega arith;
      payload = octets_tested (0xC1 ∷ []) refl;
      on_error_is = λ e. (refl, inl refl);
      same = λ e. refl;
    }

abbrev pub asked : List ℕ
asked = 0x00 ∷ 0x07 ∷ 0xD0 ∷ 0x71 ∷ 0x12 ∷ 0x34 ∷ 0xC1 ∷ []

unfoldable pub asked_laid : Dss (asking true) asked
asked_laid = one (asking_allowed true) (omega arith)

pub asked_reads : ReadAs (read_at Reader) (asking true) asked
unfolding FullLast asked_laid
asked_reads = reads_layout (asking true) asked asked_laid (λ k. k)

-- a request that wants no reply: `0006D0050007`
abbrev pub no_reply : Structure
no_reply = record { type = 5; chained = false; on_error = false; same = false; correlation = 7; payload = [] }

abbrev pub unanswered : List ℕ
unanswered = 0x00 ∷ 0x06 ∷ 0xD0 ∷ 0x05 ∷ 0x00 ∷ 0x07 ∷ []

unfoldable pub no_reply_laid : Dss no_reply unanswered
no_reply_laid =
    one
    (record {
      type = (omega arith, omega arith);
      correlation = omega arith;
      payload = octets_tested [] refl;
      on_error_is = λ e. absurd (true_false false e refl);
      same = λ e. absurd (true_false false e refl);
    })
    (omega arith)

pub no_reply_reads : ReadAs (read_at Reader) no_reply unanswered
unfolding FullLast no_reply_laid
no_reply_reads = reads_layout no_reply unanswered no_reply_laid (λ k. k)

-- ---- a full last chunk

abbrev pub object : List ℕ → Structure
object b = record { type = 3; chained = false; on_error = false; same = false; correlation = 1; payload = b }

object_allowed : (b : List ℕ) → Octets b → Allowed (object b)
object_allowed b o =
    record {
      type = (omega arith, omega arith);
      correlation = omega arith;
      payload = o;
      on_error_is = λ e. absurd (true_false false e refl);
      same = λ e. absurd (true_false false e refl);
    }

abbrev pub two_chunks : List ℕ → List ℕ → List ℕ
two_chunks x y = two 0xFFFF ++ (rest (object (x ++ y)) ++ (x ++ (two (length y + 2) ++ y)))

-- two segments, whatever is in them; the last is full or it isn't
pub record CutShort (x y : List ℕ) : Type 0 where
  pub laid : Dss (object (x ++ y)) (two_chunks x y)
  pub full : length y + 2 ≡ 0x7FFF → FullLast laid
  pub short : FullLast laid → length y + 2 ≡ 0x7FFF

cut : (x y : List ℕ) → length x ≡ 32761 → length y ≤ 32765 → Octets (x ++ y) → CutShort x y
unfolding FullLast EndsFull
cut x y h k o =
    record {
      laid = several (object_allowed (x ++ y) o) x y (two (length y + 2) ++ y) refl (omega arith) (ends y (omega arith));
      full = λ e. e;
      short = λ e. e;
    }

-- so many bytes C1
abbrev pub filling : ℕ → List ℕ
filling n = replicate n 0xC1

pub filling_length : (n : ℕ) → length (filling n) ≡ n
filling_length n = length-replicate {A = ℕ} n 0xC1

pub filled : (n : ℕ) → n ≤ 32765 → CutShort (filling 32761) (filling n)
filled n h =
    cut (filling 32761) (filling n) (filling_length 32761) (omega (arith, filling_length n))
    (octets_append (filling 32761) (filling n) (octets_same 32761 0xC1 (omega arith)) (octets_same n 0xC1 (omega arith)))

-- a last chunk of one byte is read, and a full one is waited behind
pub two_chunks_read : ReadAs (read_at Reader) (object (filling 32761 ++ filling 1)) (two_chunks (filling 32761) (filling 1))
two_chunks_read = let c = filled 1 (omega arith) in reads_layout _ _ c.laid (λ e. omega (arith, c.short e, filling_length 1))

pub full_waits : read_at Reader (two_chunks (filling 32761) (filling 32765)) 0 ≡ refused (record { why = Incomplete; place = 0 })
full_waits = let c = filled 32765 (omega arith) in waits_behind_full _ _ c.laid (c.full (omega (arith, filling_length 32765)))

-- (with a frame behind it, that frame is taken for the chunk that is waited for: `Limits`, `swallowed`)

-- under salvage's rules the full one is read
pub full_read : ReadAs (read_at Salvage) (object (filling 32761 ++ filling 32765)) (two_chunks (filling 32761) (filling 32765))
full_read = let c = filled 32765 (omega arith) in reads_full_last _ _ c.laid

-- ---- what is no structure of the volume

-- same correlation without chained
pub same_unchained : (b : List ℕ) → bit 0x10 (get_or b 3 0) ≡ true → bit 0x40 (get_or b 3 0) ≡ false → NoLayout b
same_unchained b e k w l = let t = told_at l in true_false w.chained ((allowed_in l).same (sym t.same ∙ e)) (sym t.chained ∙ k)

-- continue on error, and not chained, or no request
pub on_error_unchained : (b : List ℕ) → bit 0x20 (get_or b 3 0) ≡ true → bit 0x40 (get_or b 3 0) ≡ false → NoLayout b
on_error_unchained b e k w l = let t = told_at l in true_false w.chained ((allowed_in l).on_error_is (sym t.on_error_is ∙ e)).0 (sym t.chained ∙ k)

pub on_error_no_request : (b : List ℕ) → bit 0x20 (get_or b 3 0) ≡ true → (get_or b 3 0 % 16 ≡ 1 → ⊥) → (get_or b 3 0 % 16 ≡ 5 → ⊥) → NoLayout b
on_error_no_request b e one' five w l = go ((allowed_in l).on_error_is (sym (told_at l).on_error_is ∙ e)).1
  where
    go : (w.type ≡ 1) ⊎ (w.type ≡ 5) → ⊥
    go (inl k) = one' ((told_at l).type ∙ k)
    go (inr k) = five ((told_at l).type ∙ k)

-- the reserved bit set
pub reserved_set : (b : List ℕ) → 0x80 ≤ get_or b 3 0 → NoLayout b
reserved_set b h w l = omega (arith, (told_at l).reserved)

-- a first length of 8000 to FFFE
pub length_between : (b : List ℕ) → 0x8000 ≤ be16 b 0 → be16 b 0 < 0xFFFF → NoLayout b
length_between b lo hi w l = go w b l lo hi
  where
    go : (w : Structure) (b : List ℕ) → Dss w b → 0x8000 ≤ be16 b 0 → be16 b 0 < 0xFFFF → ⊥
    go w b (one a h) lo hi = omega (arith, two_back (length w.payload + 6) (rest w ++ w.payload) (omega arith))
    go w b (several a x more bytes e h c) lo hi = omega arith

-- What is written where the volume doesn't allow it has no structure's layout.
same_written : (f : Sent) (n : ℕ) (x b : List ℕ) → b ≡ two n ++ (0xD0 ∷ (type_byte f.type + flags_byte (head_of f n).flags) ∷ x) → f.same ≡ true → f.chained ≡ false → NoLayout b
same_written f n x b k e c =
    let z : get_or b 3 0 ≡ type_byte f.type + flags_byte (head_of f n).flags = ap (λ (l : List ℕ). get_or l 3 0) k in
    let y : flags_of (get_or b 3 0) ≡ (head_of f n).flags = ap flags_of z ∙ (format_back f.type (head_of f n).flags 0).1 in
    same_unchained b (ap (λ (g : DssFlags). g.same_correlation) y ∙ e) (ap (λ (g : DssFlags). g.chained) y ∙ c)

pub unallowed_written : (f : Sent) → f.same ≡ true → f.chained ≡ false → NoLayout (written f)
unallowed_written f e c =
    elim (dec_le (length f.payload) 32761) [
      | yes h ↦ same_written f (length f.payload + 6) (two f.correlation ++ f.payload) (written f) (written_single f h) e c
      | no h ↦ same_written f 65535 (two f.correlation ++ (take 32761 f.payload ++ chunks (drop 32761 f.payload))) (written f) (written_several f (omega arith)) e c
    ]

-- a frame of a head alone
abbrev head : DssType → Bool → Bool → Bool → ℕ → DssHeader
head type chained on_error same correlation =
    record { length = 6; dss_type = type; flags = record { chained = chained; continue_on_error = on_error; same_correlation = same }; correlation_id = correlation }

abbrev alone : DssHeader → Frame
alone h = record { head = h; segments = record { at = 0; framing = 6; dropped = 0; end = 6 } ∷ [] }

-- `0006D0130001`, an object with same correlation and not chained: written, read, and no structure
abbrev loose : List ℕ
loose = 0x00 ∷ 0x06 ∷ 0xD0 ∷ 0x13 ∷ 0x00 ∷ 0x01 ∷ []

pub loose_written : written (record { type = Object; chained = false; same = true; correlation = 1; payload = [] }) ≡ loose
unfolding written
loose_written = refl

pub loose_read : read_at Reader loose 0 ≡ frame (alone (head Object false false true 1))
unfolding read_at absorb absorb_fuel look payload_of end_of frame_walk continuations walk_fuel
loose_read = refl

pub loose_none : NoLayout loose
loose_none = same_unchained loose refl refl

-- `0006D0210001`, a request with continue on error and not chained: read, and no structure
abbrev unchained : List ℕ
unchained = 0x00 ∷ 0x06 ∷ 0xD0 ∷ 0x21 ∷ 0x00 ∷ 0x01 ∷ []

pub unchained_read : read_at Reader unchained 0 ≡ frame (alone (head Request false true false 1))
unfolding read_at absorb absorb_fuel look payload_of end_of frame_walk continuations walk_fuel
unchained_read = refl

pub unchained_none : NoLayout unchained
unchained_none = on_error_unchained unchained refl refl

-- `0006D0620001`, a chained reply with continue on error: read, and no structure
abbrev replying : List ℕ
replying = 0x00 ∷ 0x06 ∷ 0xD0 ∷ 0x62 ∷ 0x00 ∷ 0x01 ∷ []

pub replying_read : read_at Reader replying 0 ≡ frame (alone (head Reply true true false 1))
unfolding read_at absorb absorb_fuel look payload_of end_of frame_walk continuations walk_fuel
replying_read = refl

pub replying_none : NoLayout replying
replying_none = on_error_no_request replying refl (λ e. omega arith) (λ e. omega arith)

-- `0006D0820007`, a reply with the reserved bit: read, and no structure
abbrev reserved : List ℕ
reserved = 0x00 ∷ 0x06 ∷ 0xD0 ∷ 0x82 ∷ 0x00 ∷ 0x07 ∷ []

pub reserved_read : read_at Reader reserved 0 ≡ frame (alone (head Reply false false false 7))
unfolding read_at absorb absorb_fuel look payload_of end_of frame_walk continuations walk_fuel
reserved_read = refl

pub reserved_none : NoLayout reserved
reserved_none = reserved_set reserved (omega arith)

-- ---- what the statements rule out

empty_allowed : (t : DssType) → Allowed (structure_of (empty t))
empty_allowed t = allowed_sent (empty t) (sendable t) (λ e. absurd (true_false false e refl))

-- a writer that lays down one thing for all
pub no_fixed_layout : (b : List ℕ) → WritesLayout (λ f. b) → ⊥
no_fixed_layout b all =
    let e : ◌≡◌ {A = ℕ} 1 2 = sym (told_at (all (empty Request) (empty_allowed Request))).type ∙ (told_at (all (empty Reply) (empty_allowed Reply))).type in
    omega arith

-- a reader that refuses everything, one that answers one thing, and one that forgets continue on error
pub no_layout_refuser : (r : List ℕ → ℕ → Refused) → ReadsDssLayout (λ s p. refused (r s p)) → ⊥
unfolding FullLast asked_laid
no_layout_refuser r back = let b = back (asking true) asked asked_laid (λ k. k) in frame_refused (refused (r asked 0)) b.read (r asked 0) b.is refl

quiet : Dss (asking false) (0x00 ∷ 0x07 ∷ 0xD0 ∷ 0x51 ∷ 0x12 ∷ 0x34 ∷ 0xC1 ∷ [])
quiet = one (asking_allowed false) (omega arith)

pub no_layout_fixed : (x : Read) → ReadsDssLayout (λ s p. x) → ⊥
unfolding FullLast asked_laid quiet
no_layout_fixed x back =
    let a = back (asking true) asked asked_laid (λ k. k) in
    let b = back (asking false) _ quiet (λ k. k) in
    let e : a.read ≡ b.read = same_frame x a.read b.read a.is b.is in
    true_false a.read.head.flags.continue_on_error a.says.on_error_is (ap (λ (g : Frame). g.head.flags.continue_on_error) e ∙ b.says.on_error_is)

abbrev forgets : Read → Read
forgets (refused r) = refused r
forgets (frame g) =
    frame (record {
      head = record {
        length = g.head.length;
        dss_type = g.head.dss_type;
        flags = record { chained = g.head.flags.chained; continue_on_error = false; same_correlation = g.head.flags.same_correlation };
        correlation_id = g.head.correlation_id;
      };
      segments = g.segments;
    })

forgotten : (x : Read) (g : Frame) → forgets x ≡ frame g → g.head.flags.continue_on_error ≡ false
forgotten (refused r) g e = absurd (frame_refused (refused r) g r e refl)
forgotten (frame h) g e = ap (λ (k : Frame). k.head.flags.continue_on_error) (same_frame (frame g) g _ refl (sym e))

pub no_forgetting : (reads : List ℕ → ℕ → Read) → ReadsDssLayout (λ s p. forgets (reads s p)) → ⊥
unfolding FullLast asked_laid
no_forgetting reads back =
    let a = back (asking true) asked asked_laid (λ k. k) in
    true_false a.read.head.flags.continue_on_error a.says.on_error_is (forgotten (reads asked 0) a.read a.is)

-- a reader that always hands out a frame: it doesn't wait
pub no_waiting : (g : List ℕ → ℕ → Frame) → WaitsBehindFull (λ s p. frame (g s p)) → ⊥
no_waiting g waits =
    let c = filled 32765 (omega arith) in
    let b : List ℕ = two_chunks (filling 32761) (filling 32765) in
    frame_refused (frame (g b 0)) (g b 0) (record { why = Incomplete; place = 0 }) refl (waits _ _ c.laid (c.full (omega (arith, filling_length 32765))))

-- one that does both: reads a full last chunk, and waits behind it
pub no_both_layouts : (reads : List ℕ → ℕ → Read) → WaitsBehindFull reads → ReadsFullLast reads → ⊥
no_both_layouts reads waits back =
    let c = filled 32765 (omega arith) in
    let r = back _ _ c.laid in
    let b : List ℕ = two_chunks (filling 32761) (filling 32765) in
    frame_refused (reads b 0) r.read (record { why = Incomplete; place = 0 }) r.is (waits _ _ c.laid (c.full (omega (arith, filling_length 32765))))

-- a reader of four types
pub no_four_types : (reads : List ℕ → ℕ → Read) → reads unanswered 0 ≡ refused (record { why = InvalidDssType 5; place = 0 }) → ReadsDssLayout reads → ⊥
unfolding FullLast no_reply_laid
no_four_types reads e back =
    let r = back no_reply unanswered no_reply_laid (λ k. k) in frame_refused (reads unanswered 0) r.read (record { why = InvalidDssType 5; place = 0 }) r.is e

-- a layout that all bytes have, and one without the bit of continue on error
pub no_loose_layout : LayoutFixes (λ w b. Unit {0}) → ⊥
no_loose_layout fixes = true_false true refl (ap (λ (w : Structure). w.on_error) (fixes (asking true) (asking false) [] tt tt))

pub no_short_format : LayoutFixes (λ w b. Dss (record { type = w.type; chained = w.chained; on_error = false; same = w.same; correlation = w.correlation; payload = w.payload }) b) → ⊥
no_short_format fixes = true_false true refl (ap (λ (w : Structure). w.on_error) (fixes (asking true) (asking false) _ quiet quiet))
