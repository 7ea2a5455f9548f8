-- Demand 2's clause on layouts, writing: what is written is a data stream structure of volume 3, at every size, where the volume
-- allows what is asked for. And what a structure's six head bytes are, in the words of heads.
use Prim.Native.Nat.{ℕ, zero, suc, ◌+◌, ◌*◌, ◌-◌, ◌/◌, ◌%◌, ◌≤◌, ◌<◌}
use native.Mathlib.Omega.{arith}
use native.Mathlib.Decide.{dec_le}
use mathlib.Core.Path.{◌≡◌, refl, sym, ap, subst, ◌∙◌}
use mathlib.Core.Bool.{true, false}
use mathlib.Core.List.{List, ◌∷◌, ◌++◌}
use lib.ListN.{length, take, drop, length-drop, take-append-drop}
use lib.Seq.{length-take-le}
use Rattle.wire.specs.Bytes.{two}
use Rattle.wire.proofs.WireLaws.{true_false}
use Rattle.dss_head.specs.Heads.{head_bytes, type_byte, flags_byte}
use Rattle.dss_head.proofs.TypeLaws.{type_range}
use Rattle.dss_head.specs.declared.DssFlags.{DssFlags}
use Rattle.dss_head.specs.declared.DssHeader.{DssHeader}
use Rattle.dss_head.specs.declared.DssType.{DssType}
use Rattle.dss_frame.specs.Written.{Sent, chunks, written}
use Rattle.layouts.specs.DssLayout.{Structure, Allowed, Continued, ends, goes_on, Dss, one, several, format, rest}
use Rattle.demands.specs.Demands.{Sendable}
use Rattle.demands.specs.DssLayouts.{structure_of, WritesLayout}
use Rattle.dss_laws.proofs.ChunkLaws.{chunks_last, chunks_more}
use Rattle.dss_laws.proofs.WritingLaws.{Cut, cut, cut_of, written_single, written_several}

-- ---- what may be asked for

-- of a frame that can be sent the volume allows what has same correlation only when chained, and nothing else
pub allowed_sent : (f : Sent) → Sendable f → (f.same ≡ true → f.chained ≡ true) → Allowed (structure_of f)
allowed_sent f v k =
    record {
      type = type_range f.type;
      correlation = v.correlation;
      payload = v.payload;
      on_error_is = λ e. absurd (true_false false e refl);
      same = k;
    }

pub sent_allowed : (f : Sent) → Allowed (structure_of f) → Sendable f × (f.same ≡ true → f.chained ≡ true)
sent_allowed f a = (record { correlation = a.correlation; payload = a.payload }, a.same)

-- ---- a structure's head

-- the flags of a structure, and its head with a length, where t is its type
abbrev pub flags_in : Structure → DssFlags
flags_in w = record { chained = w.chained; continue_on_error = w.on_error; same_correlation = w.same }

abbrev pub head_in : Structure → DssType → ℕ → DssHeader
head_in w t n = record { length = n; dss_type = t; flags = flags_in w; correlation_id = w.correlation }

-- the head's bytes, in the volume's order of words
pub head_bytes_lem : (w : Structure) (t : DssType) (n : ℕ) (x : List ℕ) → type_byte t ≡ w.type → two n ++ (rest w ++ x) ≡ head_bytes (head_in w t n) ++ x
head_bytes_lem w t n x e =
    let z : format w ≡ type_byte t + flags_byte (flags_in w) = omega arith in
    ap (λ (k : ℕ). n / 256 % 256 ∷ n % 256 ∷ 0xD0 ∷ k ∷ w.correlation / 256 % 256 ∷ w.correlation % 256 ∷ x) z

-- ---- what is written

continued : (k r : ℕ) (b : List ℕ) → length b ≡ k * 32765 + r → 1 ≤ r → r ≤ 32765 → Continued (chunks b) b
continued zero r b e lo hi = rw (chunks_last b (omega arith)) (ends b (omega arith))
continued (suc k) r b e lo hi =
    let c : Continued (chunks (drop 32765 b)) (drop 32765 b) = continued k r (drop 32765 b) (length-drop 32765 b ∙ omega arith) lo hi in
    let t : length (take 32765 b) ≡ 32765 = length-take-le 32765 b (omega arith) in
    rw (chunks_more b (omega arith))
    (subst (Continued (two 65535 ++ (take 32765 b ++ chunks (drop 32765 b)))) (take-append-drop 32765 b)
    (goes_on (take 32765 b) (chunks (drop 32765 b)) (drop 32765 b) (omega arith) c))

pub writes_layout : WritesLayout written
writes_layout f a =
    let w : Structure = structure_of f in
    elim (dec_le (length f.payload) 32761) [
      | yes h ↦ subst (Dss w) (head_bytes_lem w f.type (length f.payload + 6) f.payload refl ∙ sym (written_single f h)) (one a (omega arith))
      | no h ↦ many (omega arith) (cut_of (length f.payload - 32761) (omega arith))
    ]
  where
    many : 32761 < length f.payload → Cut (length f.payload - 32761) → Dss (structure_of f) (written f)
    many h (cut k r e lo hi) =
        let w : Structure = structure_of f in
        let x : List ℕ = take 32761 f.payload in
        let d : List ℕ = drop 32761 f.payload in
        let t : length x ≡ 32761 = length-take-le 32761 f.payload (omega arith) in
        subst (Dss w) (head_bytes_lem w f.type 65535 (x ++ chunks d) refl ∙ sym (written_several f h))
        (several a x d (chunks d) (sym (take-append-drop 32761 f.payload)) (omega arith) (continued k r d (length-drop 32761 f.payload ∙ e) lo hi))
