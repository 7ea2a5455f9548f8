-- The parts that are kept where markers come out, one behind the other.
use Rattle.std.specs.Prelude.{min}
use Prim.Native.Nat.{ℕ, ◌+◌, ◌*◌, ◌≤◌, ◌<◌}
use native.Mathlib.Omega.{arith}
use mathlib.Core.Path.{◌≡◌, refl, sym, ◌∙◌, ap, ap₂}
use mathlib.Core.Bool.{true}
use mathlib.Core.List.{List, [], ◌∷◌, ◌++◌}
use borrow.Author.Tests.{ne_eqb, ltb-true, leb-true, leb-false}
use lib.Dec.{leb, ltb}
use lib.ListN.{length, get_or, take, drop, length-drop, length-append, drop_of_length-le}
use lib.Seq.{get_or-drop, take_all, take_at, take-add, drop_at, drop-drop, length-take-le, take-length}
use Rattle.wire.specs.Bytes.{or, be16, splice, laid}
use Rattle.wire.proofs.WireLaws.{by, true_false, and_split, be16_same}
use Rattle.wire.proofs.Splicing.{splice_length, splice_splice, laid_fits}
use Rattle.ddm_length.specs.Markers.{marker_first, past_marker, has_markers, unmarked}
use Rattle.ddm_length.specs.inner.Keeping.{kept, KeptPart}
use Rattle.ddm_length.proofs.MarkerLaws.{kept_none, kept_some, rest_length, marked_unmarked}

-- the two bytes at a place are those at the start of what stands from there on
pub be16_drop : (s : List ℕ) (at : ℕ) → be16 (drop at s) 0 ≡ be16 s at
be16_drop s at = let z : at + 0 ≡ at = omega arith in
    be16_same (drop at s) s 0 at (get_or-drop at s 0 0 ∙ ap (λ (i : ℕ). get_or s i 0) z) (get_or-drop at s 1 0)

-- a marker has two bytes
pub marker_two : (d : List ℕ) → marker_first d ≡ true → 2 ≤ length d
marker_two [] e = absurd (true_false (marker_first []) e refl)
marker_two (a ∷ []) e =
    absurd (true_false (marker_first (a ∷ [])) e
    (ap₂ or (ne_eqb (a * 256 + 0) 0x7FFE (omega arith)) (ne_eqb (a * 256 + 0) 0x7FFF (omega arith))))
marker_two (a ∷ b ∷ d) e = omega arith

-- up to a chunk's length or the end
module _ (p : List ℕ) (m : ℕ) (e : m ≡ min (length p) 32764) where
  chunk_front : take 32764 p ≡ take m p
  chunk_front =
      by (leb (length p) 32764)
      (λ c. let h : length p ≤ 32764 = leb-true (length p) 32764 c in take_all 32764 p h ∙ sym (take_all m p (omega arith)))
      (λ c. let h : 32764 < length p = leb-false (length p) 32764 c in
      let n : 32764 ≡ m = omega arith in ap (λ (n : ℕ). take n p) n)

  chunk_behind : drop 32764 p ≡ drop m p
  chunk_behind =
      by (leb (length p) 32764)
      (λ c. let h : length p ≤ 32764 = leb-true (length p) 32764 c in
      drop_of_length-le p {i = 32764} h ∙ sym (drop_of_length-le p {i = m} (omega arith)))
      (λ c. let h : 32764 < length p = leb-false (length p) 32764 c in
      let n : 32764 ≡ m = omega arith in ap (λ (n : ℕ). drop n p) n)

-- the walk's step at any data but none
pub kept_part : (d p : List ℕ) (m : ℕ) → 0 < length d → p ≡ past_marker d → m ≡ min (length p) 32764 → KeptPart d (take m p) (drop m p)
kept_part [] p m h q e = absurd (omega arith)
kept_part (x ∷ d) p m h q e =
    let b : drop 32764 (past_marker (x ∷ d)) ≡ drop m p = ap (drop 32764) (sym q) ∙ chunk_behind p m e in
    record {
      keeps = kept_some x d ∙ ap₂ (λ (f l : List ℕ). f ++ kept l) (ap (take 32764) (sym q) ∙ chunk_front p m e) b;
      on = omega (arith, rest_length x d, ap length b);
    }

-- ---- the loop over parts: `fill` bytes are kept so far, and `left` is what is left of the data

pub record Keeping (d left : List ℕ) (fill : ℕ) : Type 0 where
  pub few : fill ≤ length (unmarked d)
  pub rest : drop fill (unmarked d) ≡ kept left

pub keeping_start : (d : List ℕ) → has_markers d ≡ true → (32757 < length d) × Keeping d (drop 32757 d) 32757
keeping_start d e =
    let k : (ltb 32759 (length d) ≡ true) × (marker_first (drop 32757 d) ≡ true) = and_split (ltb 32759 (length d)) (marker_first (drop 32757 d)) e in
    let l : 32759 < length d = ltb-true 32759 (length d) k.0 in
    let u : unmarked d ≡ take 32757 d ++ kept (drop 32757 d) = marked_unmarked d l k.1 in
    let t : length (take 32757 d) ≡ 32757 = length-take-le 32757 d (omega arith) in (
      omega arith,
      record {
        few = omega (arith, ap length u ∙ length-append (take 32757 d) (kept (drop 32757 d)));
        rest = ap (drop 32757) u ∙ drop_at (take 32757 d) (kept (drop 32757 d)) 32757 t;
      },
    )

-- the first bytes are the data's
pub first_kept : (d : List ℕ) → has_markers d ≡ true → take 32757 (unmarked d) ≡ take 32757 d
first_kept d e =
    let k : (ltb 32759 (length d) ≡ true) × (marker_first (drop 32757 d) ≡ true) = and_split (ltb 32759 (length d)) (marker_first (drop 32757 d)) e in
    let l : 32759 < length d = ltb-true 32759 (length d) k.0 in
    ap (take 32757) (marked_unmarked d l k.1)
    ∙ take_at (take 32757 d) (kept (drop 32757 d)) 32757 (length-take-le 32757 d (omega arith))

module _ (d left p behind : List ℕ) (fill : ℕ) (k : Keeping d left fill) (q : KeptPart left p behind) where
  next_left : drop fill (unmarked d) ≡ p ++ kept behind
  next_left = k.rest ∙ q.keeps

  pub part_fits : fill + length p ≤ length (unmarked d)
  part_fits =
      omega (arith, k.few, ap length next_left ∙ length-append p (kept behind), length-drop fill (unmarked d))

  pub keeping_step : Keeping d behind (fill + length p)
  keeping_step =
      record {
        few = part_fits;
        rest = sym (drop-drop (length p) fill (unmarked d)) ∙ ap (drop (length p)) next_left ∙ drop_at p (kept behind) (length p) refl;
      }

  -- the bytes kept so far, with the next part
  pub kept_more : take (fill + length p) (unmarked d) ≡ take fill (unmarked d) ++ p
  kept_more =
      take-add fill (length p) (unmarked d)
      ∙ ap (λ (l : List ℕ). take fill (unmarked d) ++ l) (ap (take (length p)) next_left ∙ take_at p (kept behind) (length p) refl)

  -- the same of a work area that has room for all
  pub laid_more : (room work : List ℕ) → length (unmarked d) ≤ length room → work ≡ splice room 0 (take fill (unmarked d))
      → laid work fill p ≡ splice room 0 (take (fill + length p) (unmarked d))
  laid_more room work h e =
      let x : List ℕ = take fill (unmarked d) in
      let lx : length x ≡ fill = length-take-le fill (unmarked d) k.few in
      let w : length work ≡ length room = ap length e ∙ splice_length room 0 x (omega (arith, k.few)) in
      let z : fill ≡ 0 + length x = omega arith in
      laid_fits work fill p (omega (arith, part_fits))
      ∙ ap₂ (λ (s : List ℕ) (n : ℕ). splice s n p) e z
      ∙ splice_splice room 0 x p (omega arith)
      ∙ ap (splice room 0) (sym kept_more)

-- at the end all are kept
pub keeping_end : (d left : List ℕ) (fill : ℕ) → Keeping d left fill → length left ≡ 0 → fill ≡ length (unmarked d)
keeping_end d [] fill k h = omega (arith, k.few, length-drop fill (unmarked d), ap length (k.rest ∙ kept_none))
keeping_end d (x ∷ left) fill k h = absurd (omega arith)

-- what a work area that has room for all holds once the first bytes are laid down
pub first_laid : (d room first : List ℕ) → has_markers d ≡ true → length (unmarked d) ≤ length room → first ≡ laid room 0 (take 32757 d)
    → first ≡ splice room 0 (take 32757 (unmarked d))
first_laid d room first e h f =
    let k : 32757 ≤ length (unmarked d) = (keeping_start d e).1.few in
    let t : length (take 32757 (unmarked d)) ≡ 32757 = length-take-le 32757 (unmarked d) k in
    f ∙ ap (laid room 0) (sym (first_kept d e)) ∙ laid_fits room 0 (take 32757 (unmarked d)) (omega arith)

-- and once all are kept
pub all_laid : (d left room work : List ℕ) (fill : ℕ) → Keeping d left fill → length left ≡ 0 → length (unmarked d) ≤ length room
    → work ≡ splice room 0 (take fill (unmarked d)) → work ≡ laid room 0 (unmarked d)
all_laid d left room work fill k z h e =
    e ∙ ap (λ (n : ℕ). splice room 0 (take n (unmarked d))) (keeping_end d left fill k z)
    ∙ ap (splice room 0) (take-length (unmarked d))
    ∙ sym (laid_fits room 0 (unmarked d) (omega arith))
