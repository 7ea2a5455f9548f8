-- Bytes with a written frame's length and length fields, and the walk over them wherever they stand.
use Prim.Native.Nat.{ℕ, zero, suc, ◌+◌, ◌*◌, ◌-◌, ◌≤◌, ◌<◌}
use native.Mathlib.Omega.{arith}
use mathlib.Core.Path.{◌≡◌, ap, ◌∙◌}
use mathlib.Core.List.{List, [], ◌∷◌, ◌++◌}
use lib.ListN.{length, drop}
use lib.Seq.{drop-append_seam}
use borrow.Author.Tests.{le-ltb, le-leb, eq-eqb, ne_eqb}
use Rattle.wire.specs.Bytes.{be16}
use Rattle.dss_head.specs.declared.Chunk.TheVariants.{Last}
use Rattle.dss_frame.specs.Rules.{chunk_under}
use Rattle.dss_frame.specs.declared.Rules.{Rules}
use Rattle.dss_frame.specs.declared.Rules.TheVariants.{Reader, Salvage}
use Rattle.dss_frame.specs.Segments.{Segment, whole, short, behind, continuation, first, continuations, frame_walk, end_of}
use Rattle.wire.proofs.WireLaws.{pick_yes, pick_no}
use Rattle.dss_laws.proofs.RawLengths.{MayEnd, chunk_ends, chunk_full, chunk_full_low}
use Rattle.dss_laws.proofs.Continuations.{continuations_short, continuations_last, continuations_full}
use Rattle.wire.proofs.Places.{here_two, here_first, here_length}

-- the length fields of a frame in several segments: k full continuations, and one of r payload bytes
pub record Fields (k r : ℕ) (b : List ℕ) : Type 0 where
  pub size : length b ≡ (k + 1) * 32767 + (r + 2)
  pub starts : be16 b 0 ≡ 65535
  pub full : (i : ℕ) → i < k → be16 b ((i + 1) * 32767) ≡ 65535
  pub last : be16 b ((k + 1) * 32767) ≡ r + 2

-- the bytes of a frame with n payload bytes, as far as lengths go
pub data Framed (n : ℕ) (b : List ℕ) : Type 0 where
  single : n ≤ 32761 → length b ≡ n + 6 → be16 b 0 ≡ n + 6 → Framed n b
  several : (k r : ℕ) → n ≡ 32761 + k * 32765 + r → 1 ≤ r → r ≤ 32765 → Fields k r b → Framed n b

-- k full continuations from q on, and one of l bytes
unfoldable pub later : ℕ → ℕ → ℕ → List Segment
later zero q l = continuation q l ∷ []
later (suc k) q l = continuation q 32767 ∷ later k (q + 32767) l

-- the segments of a frame at p
unfoldable pub segments_of : {n : ℕ} {b : List ℕ} → Framed n b → ℕ → List Segment
unfolding later
segments_of {n} (single _ _ _) p = first p (n + 6) ∷ []
segments_of {n} (several k r _ _ _ _) p = first p 32767 ∷ later k (p + 32767) (r + 2)

pub later_end : (k x q l : ℕ) → end_of x (later k q l) ≡ q + k * 32767 + l
unfolding later end_of
later_end zero x q l = omega arith
later_end (suc k) x q l = later_end k (q + 32767) (q + 32767) l ∙ omega arith

pub segments_end : {n : ℕ} {b : List ℕ} (f : Framed n b) (p : ℕ) → end_of p (segments_of f p) ≡ p + length b
unfolding segments_of end_of
segments_end (single h e w) p = omega arith
segments_end (several k r e lo hi w) p = later_end k (p + 32767) (p + 32767) (r + 2) ∙ omega arith

-- ---- the walk over continuations, by their length fields

record Run (s : List ℕ) (q k l : ℕ) : Type 0 where
  full : (i : ℕ) → i < k → be16 s (q + i * 32767) ≡ 65535
  last : be16 s (q + k * 32767) ≡ l

run_first : {s : List ℕ} {q k l : ℕ} → Run s q (suc k) l → be16 s q ≡ 65535
run_first {s} {q} {k} r = let z : q ≡ q + 0 * 32767 = omega arith in ap (be16 s) z ∙ r.full 0 (omega arith)

run_only : {s : List ℕ} {q l : ℕ} → Run s q 0 l → be16 s q ≡ l
run_only {s} {q} r = let z : q ≡ q + 0 * 32767 = omega arith in ap (be16 s) z ∙ r.last

run_next : {s : List ℕ} {q k l : ℕ} → Run s q (suc k) l → Run s (q + 32767) k l
run_next {s} {q} {k} r =
    record {
      full = λ i h. (let z : q + 32767 + i * 32767 ≡ q + suc i * 32767 = omega arith in ap (be16 s) z ∙ r.full (suc i) (omega arith));
      last = (let z : q + 32767 + k * 32767 ≡ q + suc k * 32767 = omega arith in ap (be16 s) z ∙ r.last);
    }

later_walk : (k : ℕ) (rules : Rules) (s : List ℕ) (q l : ℕ) → Run s q k l → 2 ≤ l → chunk_under rules l ≡ Last → k * 32767 + l ≤ length s - q → continuations rules s q ≡ whole (later k q l)
unfolding later
later_walk zero rules s q l r a b c =
    let e : be16 s q ≡ l = run_only r in
    continuations_last rules s q (omega arith) (ap (chunk_under rules) e ∙ b) (omega arith)
    ∙ ap (λ (n : ℕ). whole (continuation q n ∷ [])) e
later_walk (suc k) rules s q l r a b c =
    continuations_full rules s q (chunk_full rules (be16 s q) (run_first r)) (omega arith)
    ∙ ap (behind (continuation q 32767)) (later_walk k rules s (q + 32767) l (run_next r) a b (omega arith))

-- where 0x7FFF is full, one more is missing behind it
later_short : (k : ℕ) (s : List ℕ) (q : ℕ) → Run s q k 32767 → length s - q ≡ k * 32767 + 32767 → continuations Reader s q ≡ short
later_short zero s q r c =
    continuations_full Reader s q (chunk_full_low (be16 s q) (run_only r)) (omega arith)
    ∙ ap (behind (continuation q 32767)) (continuations_short Reader s (q + 32767) (omega arith))
later_short (suc k) s q r c =
    continuations_full Reader s q (chunk_full Reader (be16 s q) (run_first r)) (omega arith)
    ∙ ap (behind (continuation q 32767)) (later_short k s (q + 32767) (run_next r) (omega arith))

-- ---- the walk over a frame

walk_single : (rules : Rules) (s : List ℕ) (p n : ℕ) → be16 s p ≡ n → 6 ≤ n → n < 65535 → n ≤ length s - p → frame_walk rules s p ≡ whole (first p n ∷ [])
unfolding frame_walk
walk_single rules s p n e a b c =
    pick_no _ _ (le-ltb (length s - p) 6 (omega arith))
    ∙ pick_no _ _ (ne_eqb (be16 s p) 65535 (omega arith))
    ∙ pick_yes _ _ (le-leb (be16 s p) (length s - p) (omega arith))
    ∙ ap (λ (k : ℕ). whole (first p k ∷ [])) e

pub walk_several : (rules : Rules) (s : List ℕ) (p : ℕ) → be16 s p ≡ 65535 → 32767 ≤ length s - p → frame_walk rules s p ≡ behind (first p 32767) (continuations rules s (p + 32767))
unfolding frame_walk
walk_several rules s p e c =
    pick_no _ _ (le-ltb (length s - p) 6 (omega arith))
    ∙ pick_yes _ _ (eq-eqb (be16 s p) 65535 e)
    ∙ pick_yes _ _ (le-leb 32767 (length s - p) c)

-- the length fields where b stands
fields_run : {k r : ℕ} {b : List ℕ} (s rest : List ℕ) (p : ℕ) → Fields k r b → drop p s ≡ b ++ rest → Run s (p + 32767) k (r + 2)
fields_run {k} {r} {b} s rest p w e =
    record {
      full = λ i h. (let z : p + 32767 + i * 32767 ≡ p + (i + 1) * 32767 = omega arith in
          ap (be16 s) z ∙ here_two s b rest p ((i + 1) * 32767) e (omega (arith, w.size)) ∙ w.full i h);
      last = (let z : p + 32767 + k * 32767 ≡ p + (k + 1) * 32767 = omega arith in
          ap (be16 s) z ∙ here_two s b rest p ((k + 1) * 32767) e (omega (arith, w.size)) ∙ w.last);
    }

-- 32,761 plus one or more times 32,765
abbrev pub Even : ℕ → Type 0
Even n = record { times : ℕ; size : n ≡ 32761 + (times + 1) * 32765 }

-- the sizes of which a frame is whole: for the reader all but those, and for salvage all
abbrev pub WholeUnder : Rules → ℕ → Type 0
WholeUnder Reader n = Even n → ⊥
WholeUnder Salvage n = Unit {0}

may_end : (rules : Rules) (n k r : ℕ) → WholeUnder rules n → n ≡ 32761 + k * 32765 + r → MayEnd rules (r + 2)
may_end Reader n k r u e = λ q. u (record { times = k; size = omega arith })
may_end Salvage n k r u e = tt

-- the frame's segments, wherever it stands and whatever follows
pub framed_walk : {n : ℕ} {b : List ℕ} (f : Framed n b) (rules : Rules) → WholeUnder rules n → (s rest : List ℕ) (p : ℕ) → drop p s ≡ b ++ rest → frame_walk rules s p ≡ whole (segments_of f p)
unfolding segments_of
framed_walk {n} {b} (single h e w) rules u s rest p d =
    let l : length s - p ≡ length b + length rest = here_length s b rest p d in
    walk_single rules s p (n + 6) (here_first s b rest p d (omega arith) ∙ w) (omega arith) (omega arith) (omega arith)
framed_walk {n} {b} (several k r e lo hi w) rules u s rest p d =
    let l : length s - p ≡ length b + length rest = here_length s b rest p d in
    let z : length b ≡ (k + 1) * 32767 + (r + 2) = w.size in
    walk_several rules s p (here_first s b rest p d (omega arith) ∙ w.starts) (omega arith)
    ∙ ap (behind (first p 32767)) (later_walk k rules s (p + 32767) (r + 2) (fields_run s rest p w d) (omega arith) (chunk_ends rules (r + 2) (omega arith) (omega arith) (may_end rules n k r u e)) (omega arith))

-- behind any bytes and before any others
pub framed_between : {n : ℕ} {b : List ℕ} (f : Framed n b) (rules : Rules) → WholeUnder rules n → (pre rest : List ℕ) → frame_walk rules (pre ++ (b ++ rest)) (length pre) ≡ whole (segments_of f (length pre))
framed_between {b = b} f rules u pre rest = framed_walk f rules u (pre ++ (b ++ rest)) rest (length pre) (drop-append_seam pre (b ++ rest))

-- such a size leaves a frame that stands last short for the reader
pub framed_short : {n : ℕ} {b : List ℕ} → Framed n b → Even n → (s : List ℕ) (p : ℕ) → drop p s ≡ b ++ [] → frame_walk Reader s p ≡ short
framed_short {n} {b} (single h e w) u s p d = absurd (omega (arith, u.size))
framed_short {n} {b} (several k r e lo hi w) u s p d =
    let l : length s - p ≡ length b + 0 = here_length s b [] p d in
    let z : length b ≡ (k + 1) * 32767 + (r + 2) = w.size in
    let full : r ≡ 32765 = omega (arith, u.size) in
    let run : Run s (p + 32767) k (r + 2) = fields_run s [] p w d in
    let run' : Run s (p + 32767) k 32767 = record { full = run.full; last = run.last ∙ omega arith } in
    walk_several Reader s p (here_first s b [] p d (omega arith) ∙ w.starts) (omega arith)
    ∙ ap (behind (first p 32767)) (later_short k s (p + 32767) run' (omega arith))
