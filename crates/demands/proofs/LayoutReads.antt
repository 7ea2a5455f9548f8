-- Demand 2's clause on layouts, reading: bytes that have volume 3's layout of one structure are read as the layout says, unless
-- their last chunk is full, where the reader, as the Rust, waits for another and salvage doesn't.
use Rattle.std.specs.Prelude.{Result, Ok}
use Prim.Native.Nat.{ℕ, ◌+◌, ◌-◌, ◌≤◌, ◌<◌}
use native.Mathlib.Omega.{arith}
use mathlib.Core.Path.{◌≡◌, refl, sym, ap, ap₂, ◌∙◌}
use mathlib.Core.List.{List, [], ◌∷◌, ◌++◌, append_assoc, append-nil}
use lib.Dec.{eqb}
use lib.ListN.{length, drop, length-append}
use borrow.Author.Tests.{le-leb, le-ltb}
use Rattle.wire.specs.Bytes.{be16, two}
use Rattle.wire.proofs.WireLaws.{pick_by, pick_yes, pick_no, two_back}
use Rattle.wire.proofs.Places.{here_first, here_length, piece_part, piece_next}
use Rattle.dss_head.specs.Heads.{head_at, length_of, type_byte}
use Rattle.dss_head.proofs.TypeLaws.{type_known}
use Rattle.dss_head.proofs.HeadLaws.{head_back}
use Rattle.dss_head.specs.declared.DssHeader.{DssHeader}
use Rattle.dss_head.specs.declared.DssType.{DssType}
use Rattle.dss_frame.specs.Rules.{chunk_under}
use Rattle.dss_frame.specs.declared.Rules.{Rules}
use Rattle.dss_frame.specs.declared.Rules.TheVariants.{Reader, Salvage}
use Rattle.dss_frame.specs.Segments.{Segment, whole, short, behind, continuation, first, continuations, frame_walk, payload_of, end_of}
use Rattle.dss_frame.specs.Reading.{Read, frame, read_head, read_walk, read_at}
use Rattle.dss_laws.proofs.RawLengths.{MayEnd, chunk_ends, chunk_full, chunk_full_low}
use Rattle.dss_laws.proofs.Continuations.{continuations_short, continuations_last, continuations_full}
use Rattle.dss_laws.proofs.Framed.{Framed, single, WholeUnder, segments_of, framed_walk, walk_several}
use Rattle.dss_laws.proofs.Looking.{look_nothing, absorb_finished}
use Rattle.layouts.specs.DssLayout.{Structure, Continued, ends, goes_on, EndsFull, Dss, one, several, FullLast, rest}
use Rattle.demands.specs.DssLayouts.{ReadAs, ReadsDssLayout, ReadsFullLast, WaitsBehindFull}
use Rattle.demands.proofs.FaithfulLayout.{allowed_in}
use Rattle.demands.proofs.WrittenLayout.{head_in, head_bytes_lem}
use Rattle.answer.specs.declared.Refused.{Refused}

-- ---- the walk over the chunks

-- what a last chunk may be: for the reader not full, for salvage anything
abbrev Ending : Rules → {bytes more : List ℕ} → Continued bytes more → Type 0
Ending Reader c = EndsFull c → ⊥
Ending Salvage c = Unit {0}

ending_last : (rules : Rules) (b : List ℕ) (h : length b + 2 ≤ 0x7FFF) → Ending rules (ends b h) → MayEnd rules (length b + 2)
unfolding EndsFull
ending_last Reader b h k = k
ending_last Salvage b h k = tt

ending_on : (rules : Rules) (b r m : List ℕ) (h : length b + 2 ≡ 0x7FFF) (c : Continued r m) → Ending rules (goes_on b r m h c) → Ending rules c
unfolding EndsFull
ending_on Reader b r m h c k = k
ending_on Salvage b r m h c k = tt

record Walked (rules : Rules) (s : List ℕ) (q n : ℕ) (more : List ℕ) : Type 0 where
  segments : List Segment
  is : continuations rules s q ≡ whole segments
  payload : payload_of s segments ≡ more
  end : (x : ℕ) → end_of x segments ≡ q + n

-- the chunk at q is full, and goes on with what stands behind it
behind_full : (s b r back : List ℕ) (q : ℕ) → length b + 2 ≡ 0x7FFF → drop q s ≡ (two 0xFFFF ++ (b ++ r)) ++ back
    → (drop q s ≡ two 0xFFFF ++ (b ++ (r ++ back))) × (be16 s q ≡ 0xFFFF) × (drop (q + 32767) s ≡ r ++ back)
behind_full s b r back q h d =
    let d₁ : drop q s ≡ two 0xFFFF ++ (b ++ (r ++ back)) = d ∙ ap (λ (l : List ℕ). two 0xFFFF ++ l) (append_assoc b r back) in
    (d₁, here_first s (two 0xFFFF ++ (b ++ r)) back q d (omega arith), piece_next s (two 0xFFFF) b (r ++ back) q 2 (q + 32767) d₁ refl (omega arith))

walk : (rules : Rules) {bytes more : List ℕ} (c : Continued bytes more) → Ending rules c → (s back : List ℕ) (q : ℕ) → drop q s ≡ bytes ++ back → Walked rules s q (length bytes) more
unfolding payload_of end_of
walk rules (ends b h) k s back q d =
    let n : ℕ = length b + 2 in
    let l : length s - q ≡ length (two n ++ b) + length back = here_length s (two n ++ b) back q d in
    let e : be16 s q ≡ n = here_first s (two n ++ b) back q d (omega arith) ∙ two_back n b (omega arith) in
    record {
      segments = continuation q n ∷ [];
      is =
          continuations_last rules s q (omega arith) (ap (chunk_under rules) e ∙ chunk_ends rules n (omega arith) (omega arith) (ending_last rules b h k)) (omega arith)
          ∙ ap (λ (m : ℕ). whole (continuation q m ∷ [])) e;
      payload = append-nil _ ∙ piece_part s (two n) b back q 2 (q + n) d refl (omega arith);
      end = λ x. omega arith;
    }
walk rules (goes_on b r m h c) k s back q d =
    let f = behind_full s b r back q h d in
    let l : length s - q ≡ length (two 0xFFFF ++ (b ++ r)) + length back = here_length s (two 0xFFFF ++ (b ++ r)) back q d in
    let w = walk rules c (ending_on rules b r m h c k) s back (q + 32767) f.2 in
    record {
      segments = continuation q 32767 ∷ w.segments;
      is = continuations_full rules s q (chunk_full rules (be16 s q) f.1) (omega (arith, length-append b r)) ∙ ap (behind (continuation q 32767)) w.is;
      payload = ap₂ (λ (x y : List ℕ). x ++ y) (piece_part s (two 0xFFFF) b (r ++ back) q 2 (q + 32767) f.0 refl (omega arith)) w.payload;
      end = λ x. w.end (q + 32767) ∙ omega (arith, length-append b r);
    }

-- with a full last chunk and nothing behind it, one more is missing
walk_full : {bytes more : List ℕ} (c : Continued bytes more) → EndsFull c → (s : List ℕ) (q : ℕ) → drop q s ≡ bytes ++ [] → continuations Reader s q ≡ short
unfolding EndsFull
walk_full (ends b h) k s q d =
    let n : ℕ = length b + 2 in
    let l : length s - q ≡ length (two n ++ b) + 0 = here_length s (two n ++ b) [] q d in
    let e : be16 s q ≡ n = here_first s (two n ++ b) [] q d (omega arith) ∙ two_back n b (omega arith) in
    continuations_full Reader s q (chunk_full_low (be16 s q) (e ∙ k)) (omega arith)
    ∙ ap (behind (continuation q 32767)) (continuations_short Reader s (q + 32767) (omega arith))
walk_full (goes_on b r m h c) k s q d =
    let f = behind_full s b r [] q h d in
    let l : length s - q ≡ length (two 0xFFFF ++ (b ++ r)) + 0 = here_length s (two 0xFFFF ++ (b ++ r)) [] q d in
    continuations_full Reader s q (chunk_full Reader (be16 s q) f.1) (omega (arith, length-append b r))
    ∙ ap (behind (continuation q 32767)) (walk_full c k s (q + 32767) f.2)

-- ---- the walk over the structure

-- its segments, which hold its payload and end where it ends
record Laid (rules : Rules) (w : Structure) (s : List ℕ) : Type 0 where
  segments : List Segment
  is : frame_walk rules s 0 ≡ whole segments
  payload : payload_of s segments ≡ w.payload
  end : end_of 0 segments ≡ length s
  six : (6 ≤ be16 s 0) × (6 ≤ length s)

-- the bytes of one segment, and of several
abbrev in_one : Structure → List ℕ
in_one w = two (length w.payload + 6) ++ (rest w ++ w.payload)

abbrev laid_out : Structure → List ℕ → List ℕ → List ℕ
laid_out w b bytes = two 0xFFFF ++ (rest w ++ (b ++ bytes))

-- one segment is of no size that waits
small : (rules : Rules) (n : ℕ) → n ≤ 32761 → WholeUnder rules n
small Reader n h = λ u. omega (arith, u.size)
small Salvage n h = tt

one_laid : (rules : Rules) (w : Structure) → length w.payload + 6 ≤ 0x7FFF → Laid rules w (in_one w)
unfolding payload_of end_of segments_of
one_laid rules w h =
    let s : List ℕ = in_one w in
    let n : ℕ = length w.payload in
    let e : be16 s 0 ≡ n + 6 = two_back (n + 6) (rest w ++ w.payload) (omega arith) in
    let f : Framed n s = single (omega arith) (omega arith) e in
    let d : s ≡ s ++ [] = sym (append-nil s) in
    let d₁ : s ≡ (two (n + 6) ++ rest w) ++ (w.payload ++ []) = ap (λ (x : List ℕ). two (n + 6) ++ (rest w ++ x)) (sym (append-nil w.payload)) in
    record {
      segments = first 0 (n + 6) ∷ [];
      is = framed_walk f rules (small rules n (omega arith)) s [] 0 d;
      payload = append-nil _ ∙ piece_part s (two (n + 6) ++ rest w) w.payload [] 0 6 (0 + (n + 6)) d₁ refl (omega arith);
      end = omega arith;
      six = (omega arith, omega arith);
    }

-- where the chunks start
walk_laid : (rules : Rules) (w : Structure) (b bytes : List ℕ) → length b + 6 ≡ 0x7FFF
    → (frame_walk rules (laid_out w b bytes) 0 ≡ behind (first 0 32767) (continuations rules (laid_out w b bytes) (0 + 32767)))
    × (drop (0 + 32767) (laid_out w b bytes) ≡ bytes ++ []) × (length (laid_out w b bytes) ≡ 32767 + length bytes)
walk_laid rules w b bytes h =
    let l : length (laid_out w b bytes) ≡ 32767 + length bytes = omega (arith, length-append b bytes) in (
      walk_several rules (laid_out w b bytes) 0 refl (omega arith),
      piece_next (laid_out w b bytes) (two 0xFFFF ++ rest w) b (bytes ++ []) 0 6 (0 + 32767) (ap (λ (x : List ℕ). laid_out w b x) (sym (append-nil bytes))) refl (omega arith),
      l,
    )

several_laid : (rules : Rules) (w : Structure) (b more bytes : List ℕ) → w.payload ≡ b ++ more → length b + 6 ≡ 0x7FFF → (c : Continued bytes more) → Ending rules c → Laid rules w (laid_out w b bytes)
unfolding payload_of end_of
several_laid rules w b more bytes e h c k =
    let s : List ℕ = laid_out w b bytes in
    let z = walk_laid rules w b bytes h in
    let g = walk rules c k s [] (0 + 32767) z.1 in
    record {
      segments = first 0 32767 ∷ g.segments;
      is = z.0 ∙ ap (behind (first 0 32767)) g.is;
      payload =
          ap₂ (λ (x y : List ℕ). x ++ y)
          (piece_part s (two 0xFFFF ++ rest w) b (bytes ++ []) 0 6 (0 + 32767) (ap (λ (x : List ℕ). laid_out w b x) (sym (append-nil bytes))) refl (omega arith)) g.payload
          ∙ sym e;
      end = g.end (0 + 32767) ∙ omega (arith, z.2);
      six = (omega arith, omega (arith, z.2));
    }

-- the same of a structure
abbrev Wholly : Rules → {w : Structure} {s : List ℕ} → Dss w s → Type 0
Wholly Reader l = FullLast l → ⊥
Wholly Salvage l = Unit {0}

laid : (rules : Rules) {w : Structure} {s : List ℕ} (l : Dss w s) → Wholly rules l → Laid rules w s
unfolding FullLast
laid rules {w} (one a h) k = one_laid rules w h
laid Reader {w} (several a b more bytes e h c) k = several_laid Reader w b more bytes e h c k
laid Salvage {w} (several a b more bytes e h c) k = several_laid Salvage w b more bytes e h c tt

-- ---- its head

head_sent : (w : Structure) (t : DssType) (n : ℕ) (x : List ℕ) → type_byte t ≡ w.type → n < 65536 → w.correlation < 65536
    → head_at (two n ++ (rest w ++ x)) 0 ≡ Ok (head_in w t (length_of n))
head_sent w t n x e h v = ap (λ (s : List ℕ). head_at s 0) (head_bytes_lem w t n x e) ∙ head_back (head_in w t n) x h v

head_laid : {w : Structure} {s : List ℕ} → Dss w s → (t : DssType) → type_byte t ≡ w.type → record { length : ℕ; is : head_at s 0 ≡ Ok (head_in w t length) }
head_laid {w} (one a h) t e = record { length = _; is = head_sent w t (length w.payload + 6) w.payload e (omega arith) a.correlation }
head_laid {w} (several a b more bytes k h c) t e = record { length = _; is = head_sent w t 0xFFFF (b ++ bytes) e (omega arith) a.correlation }

-- ---- the reading

-- of a walk that is whole and ends where the run ends, the head decides
reads_walk : (rules : Rules) (s : List ℕ) (gs : List Segment) (x : Result DssHeader Refused) → frame_walk rules s 0 ≡ whole gs → head_at s 0 ≡ x → read_at rules s 0 ≡ read_head rules s 0 gs x
unfolding read_at
reads_walk rules s gs x e k = pick_yes _ _ (le-leb 0 (length s) (omega arith)) ∙ ap (read_walk rules s 0) e ∙ ap (read_head rules s 0 gs) k

reads_frame : (rules : Rules) (s : List ℕ) (h : DssHeader) (gs : List Segment) → 6 ≤ be16 s 0 → end_of 0 gs ≡ length s
    → read_head rules s 0 gs (Ok h) ≡ frame (record { head = h; segments = gs })
reads_frame rules s h gs l e =
    pick_no _ _ (le-ltb (be16 s 0) 6 l)
    ∙ pick_by (λ (x : Read). x ≡ frame (record { head = h; segments = gs })) (eqb (be16 s 0) 0xFFFF) _ _ (λ k. refl)
    (λ k. absorb_finished rules s 0 h gs (look_nothing rules s (end_of 0 gs) (omega arith) _ _))

reads_under : (rules : Rules) (w : Structure) (s : List ℕ) (l : Dss w s) → Wholly rules l → ReadAs (read_at rules) w s
reads_under rules w s l k =
    let a = allowed_in l in
    let t = type_known w.type a.type.0 a.type.1 in
    let h = head_laid l t.type t.is in
    let g = laid rules l k in
    record {
      read = record { head = head_in w t.type h.length; segments = g.segments };
      is =
          reads_walk rules s g.segments (Ok (head_in w t.type h.length)) g.is h.is
          ∙ reads_frame rules s (head_in w t.type h.length) g.segments g.six.0 g.end;
      says = record { type = t.is; chained = refl; on_error_is = refl; same = refl; correlation = refl; payload = g.payload };
      consumed = g.end;
    }

pub reads_layout : ReadsDssLayout (read_at Reader)
reads_layout = reads_under Reader

pub reads_full_last : ReadsFullLast (read_at Salvage)
reads_full_last w s l = reads_under Salvage w s l tt

pub waits_behind_full : WaitsBehindFull (read_at Reader)
unfolding FullLast read_at
waits_behind_full w s (one a h) k = absurd k
waits_behind_full w s (several a b more bytes e h c) k =
    let s : List ℕ = laid_out w b bytes in
    let z = walk_laid Reader w b bytes h in
    pick_yes _ _ (le-leb 0 (length s) (omega arith))
    ∙ ap (read_walk Reader s 0) (z.0 ∙ ap (behind (first 0 32767)) (walk_full c k s (0 + 32767) z.1))
