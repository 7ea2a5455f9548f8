-- The continuation markers: what stays without them, the equations of the walk with its fuel gone, and the order of what is kept.
use Prim.Native.Nat.{ℕ, zero, suc, ◌+◌, ◌*◌, ◌/◌, ◌%◌, ◌≤◌, ◌<◌}
use native.Mathlib.Omega.{arith}
use mathlib.Core.Path.{◌≡◌, refl, sym, ◌∙◌, ap, ap₂, subst}
use mathlib.Core.Bool.{Bool, true, false}
use mathlib.Core.List.{List, [], ◌∷◌, ◌++◌, append-nil}
use borrow.Author.Tests.{le-ltb, lt-ltb, ne_eqb}
use lib.Dec.{ltb}
use lib.ListN.{length, take, drop, length-append, length-drop, take-append-drop, drop_of_length-le}
use lib.Seq.{take_all, take_at, drop_at}
use Rattle.wire.specs.Bytes.{and, or, two}
use Rattle.ddm_length.specs.Markers.{marker_first, past_marker, kept_fuel, unmarked, Marker, Marked, fe, ff, ends, goes_on}
use Rattle.wire.proofs.WireLaws.{by, and_no, pick_yes, pick_no}
use Rattle.ddm_length.specs.inner.Keeping.{kept}

module _ (d : List ℕ) where
  -- "data up to 32,759 bytes ... are unchanged"
  pub short_unmarked : length d ≤ 32759 → unmarked d ≡ d
  unfolding unmarked
  short_unmarked h = pick_no _ _ (ap (λ (t : Bool). and t (marker_first (drop 32757 d))) (le-ltb 32759 (length d) h))

  -- "or without 7FFE or 7FFF at offset 32,757"
  pub plain_unmarked : marker_first (drop 32757 d) ≡ false → unmarked d ≡ d
  unfolding unmarked
  plain_unmarked e = pick_no _ _ (ap (and (ltb 32759 (length d))) e ∙ and_no (ltb 32759 (length d)))

-- at most two bytes less
pub past_length : (d : List ℕ) → length (past_marker d) ≤ length d
past_length d = by (marker_first d)
    (λ e. omega (arith, ap length (pick_yes (drop 2 d) d e), length-drop 2 d))
    (λ e. omega (arith, ap length (pick_no (drop 2 d) d e)))

pub rest_length : (x : ℕ) (d : List ℕ) → length (drop 32764 (past_marker (x ∷ d))) ≤ length d
rest_length x d = omega (arith, length-drop 32764 (past_marker (x ∷ d)), past_length (x ∷ d))

-- fuel that suffices is as good as any other that does
pub enough : (f g : ℕ) (d : List ℕ) → length d ≤ f → length d ≤ g → kept_fuel f d ≡ kept_fuel g d
unfolding kept_fuel
enough zero zero d h k = refl
enough zero (suc g) [] h k = refl
enough zero (suc g) (x ∷ d) h k = absurd (omega arith)
enough (suc f) zero [] h k = refl
enough (suc f) zero (x ∷ d) h k = absurd (omega arith)
enough (suc f) (suc g) [] h k = refl
enough (suc f) (suc g) (x ∷ d) h k =
    let l : length (drop 32764 (past_marker (x ∷ d))) ≤ length d = rest_length x d in
    ap (λ (r : List ℕ). take 32764 (past_marker (x ∷ d)) ++ r) (enough f g (drop 32764 (past_marker (x ∷ d))) (omega arith) (omega arith))

pub kept_none : kept [] ≡ []
unfolding kept
kept_none = refl

pub kept_some : (x : ℕ) (d : List ℕ) → kept (x ∷ d) ≡ take 32764 (past_marker (x ∷ d)) ++ kept (drop 32764 (past_marker (x ∷ d)))
unfolding kept
kept_some x d =
    ap (λ (r : List ℕ). take 32764 (past_marker (x ∷ d)) ++ r)
    (enough (length d) (length (drop 32764 (past_marker (x ∷ d)))) (drop 32764 (past_marker (x ∷ d))) (rest_length x d) (omega arith))

-- "Else 32,757 bytes are kept"
pub marked_unmarked : (d : List ℕ) → 32759 < length d → marker_first (drop 32757 d) ≡ true → unmarked d ≡ take 32757 d ++ kept (drop 32757 d)
unfolding unmarked kept
marked_unmarked d h e =
    pick_yes _ _ (ap (λ (t : Bool). and t (marker_first (drop 32757 d))) (lt-ltb 32759 (length d) h) ∙ e)
    ∙ ap (λ (r : List ℕ). take 32757 d ++ r)
    (enough (length d) (length (drop 32757 d)) (drop 32757 d) (omega (arith, length-drop 32757 d)) (omega arith))

-- k is d without some markers of two bytes, and in d's order
pub data Without : List ℕ → List ℕ → Type 0 where
  done : Without [] []
  keep : {d k : List ℕ} (x : ℕ) → Without d k → Without (x ∷ d) (x ∷ k)
  marker : {d k : List ℕ} (a b : ℕ) → marker_first (a ∷ b ∷ []) ≡ true → Without d k → Without (a ∷ b ∷ d) k

pub keep_all : (p : List ℕ) {d k : List ℕ} → Without d k → Without (p ++ d) (p ++ k)
keep_all [] w = w
keep_all (x ∷ p) w = keep x (keep_all p w)

-- one byte alone is no marker
lone : (a : ℕ) → marker_first (a ∷ []) ≡ false
lone a =
    ap₂ or (ne_eqb (a * 256 + 0) 0x7FFE (omega arith)) (ne_eqb (a * 256 + 0) 0x7FFF (omega arith))

past : (d k : List ℕ) → Without (past_marker d) k → Without d k
past [] k w = w
past (a ∷ []) k w = subst (λ (l : List ℕ). Without l k) (pick_no [] (a ∷ []) (lone a)) w
past (a ∷ b ∷ d) k w =
    by (marker_first (a ∷ b ∷ []))
    (λ e. marker a b e (subst (λ (l : List ℕ). Without l k) (pick_yes d (a ∷ b ∷ d) e) w))
    (λ e. subst (λ (l : List ℕ). Without l k) (pick_no d (a ∷ b ∷ d) e) w)

fuel_without : (f : ℕ) (d : List ℕ) → length d ≤ f → Without d (kept_fuel f d)
unfolding kept_fuel
fuel_without zero [] h = done
fuel_without zero (x ∷ d) h = absurd (omega arith)
fuel_without (suc f) [] h = done
fuel_without (suc f) (x ∷ d) h =
    let l : length (drop 32764 (past_marker (x ∷ d))) ≤ length d = rest_length x d in
    let m : List ℕ = past_marker (x ∷ d) in
    past (x ∷ d) _ (subst (λ (s : List ℕ). Without s (take 32764 m ++ kept_fuel f (drop 32764 m))) (take-append-drop 32764 m)
    (keep_all (take 32764 m) (fuel_without f (drop 32764 m) (omega arith))))

same : (d : List ℕ) → Without d d
same [] = done
same (x ∷ d) = keep x (same d)

-- every byte that is kept is in order, and only markers are gone
pub unmarked_without : (d : List ℕ) → Without d (unmarked d)
unfolding unmarked
unmarked_without d =
    by (and (ltb 32759 (length d)) (marker_first (drop 32757 d)))
    (λ e. subst (Without d) (sym (pick_yes _ _ e))
    (subst (λ (s : List ℕ). Without s (take 32757 d ++ kept_fuel (length d) (drop 32757 d))) (take-append-drop 32757 d)
    (keep_all (take 32757 d) (fuel_without (length d) (drop 32757 d) (omega (arith, length-drop 32757 d))))))
    (λ e. subst (Without d) (sym (pick_no _ _ e)) (same d))

pub without_length : {d k : List ℕ} → Without d k → length k ≤ length d
without_length done = omega arith
without_length (keep x w) = omega (arith, without_length w)
without_length (marker a b e w) = omega (arith, without_length w)

pub unmarked_length : (d : List ℕ) → length (unmarked d) ≤ length d
unmarked_length d = without_length (unmarked_without d)

marker_first_lem : {n : ℕ} → Marker n → (s : List ℕ) → marker_first (two n ++ s) ≡ true
marker_first_lem fe s = refl
marker_first_lem ff s = refl

marker_past : {n : ℕ} → Marker n → (s : List ℕ) → past_marker (two n ++ s) ≡ s
marker_past fe s = refl
marker_past ff s = refl

pub kept_marked : {s m : List ℕ} → Marked s m → kept s ≡ m
kept_marked (ends {n} m c lo hi) =
    kept_some (n / 256 % 256) (n % 256 ∷ c)
    ∙ ap (λ (x : List ℕ). take 32764 x ++ kept (drop 32764 x)) (marker_past m c)
    ∙ ap₂ (λ (x y : List ℕ). x ++ kept y) (take_all 32764 c hi) (drop_of_length-le c {i = 32764} hi)
    ∙ ap (λ (x : List ℕ). c ++ x) kept_none
    ∙ append-nil c
kept_marked (goes_on {n} m c rest more l w) =
    kept_some (n / 256 % 256) (n % 256 ∷ (c ++ rest))
    ∙ ap (λ (x : List ℕ). take 32764 x ++ kept (drop 32764 x)) (marker_past m (c ++ rest))
    ∙ ap₂ (λ (x y : List ℕ). x ++ kept y) (take_at c rest 32764 l) (drop_at c rest 32764 l)
    ∙ ap (λ (x : List ℕ). c ++ x) (kept_marked w)

marked_first : {s m : List ℕ} → Marked s m → (marker_first s ≡ true) × (3 ≤ length s)
marked_first (ends m c lo hi) = (marker_first_lem m c, omega arith)
marked_first (goes_on m c rest more l w) = (marker_first_lem m (c ++ rest), omega (arith, length-append c rest))

-- what the markers were put into comes back
pub unmarked_marked : (a : List ℕ) {s m : List ℕ} → length a ≡ 32757 → Marked s m → unmarked (a ++ s) ≡ a ++ m
unmarked_marked a {s} {m} l w =
    marked_unmarked (a ++ s) (omega (arith, marked_first w, length-append a s)) (ap marker_first (drop_at a s 32757 l) ∙ (marked_first w).0)
    ∙ ap₂ (λ (x y : List ℕ). x ++ kept y) (take_at a s 32757 l) (drop_at a s 32757 l)
    ∙ ap (λ (x : List ℕ). a ++ x) (kept_marked w)
