-- How many length bytes data takes, and how long an object is.
use Prim.Native.Nat.{ℕ, zero, suc, ◌+◌, ◌≤◌, ◌<◌}
use native.Mathlib.Omega.{arith}
use mathlib.Core.Path.{◌≡◌, refl, sym, ◌∙◌, ap, ap₂}
use mathlib.Core.List.{List, ◌++◌}
use borrow.Author.Tests.{le-leb, lt-leb, leb-true, leb-false}
use lib.Dec.{leb}
use lib.ListN.{length, length-append}
use Rattle.wire.specs.Bytes.{pick, two, last}
use Rattle.wire.proofs.WireLaws.{by, pick_by}
use Rattle.wire.proofs.Widths.{length_last}
use Rattle.ddm_builder.specs.Built.{length_bytes, built_with, built}
use Rattle.ddm_builder.specs.inner.FormsLaid.{raw_length}

module _ (n : ℕ) where
  pub inline_bytes : n ≤ 32763 → length_bytes n ≡ 0
  unfolding length_bytes
  inline_bytes h = simp (le-leb n 32763 h)

  pub four_bytes : 32763 < n → n ≤ 2147483643 → length_bytes n ≡ 4
  unfolding length_bytes
  four_bytes l h = simp (lt-leb n 32763 l, le-leb n 2147483643 h)

  pub six_bytes : 2147483643 < n → n ≤ 140737488355323 → length_bytes n ≡ 6
  unfolding length_bytes
  six_bytes l h = simp (lt-leb n 32763 (omega arith), lt-leb n 2147483643 l, le-leb n 140737488355323 h)

  pub eight_bytes : 140737488355323 < n → length_bytes n ≡ 8
  unfolding length_bytes
  eight_bytes l = simp (lt-leb n 32763 (omega arith), lt-leb n 2147483643 (omega arith), lt-leb n 140737488355323 l)

  -- four at least where the data is not inline, and eight at most
  pub wide_bytes : 32763 < n → 4 ≤ length_bytes n
  wide_bytes l =
      by (leb n 2147483643) (λ a. omega (arith, four_bytes l (leb-true n 2147483643 a)))
      (λ a. by (leb n 140737488355323) (λ b. omega (arith, six_bytes (leb-false n 2147483643 a) (leb-true n 140737488355323 b)))
      (λ b. omega (arith, eight_bytes (leb-false n 140737488355323 b))))

  pub few_bytes : length_bytes n ≤ 8
  unfolding length_bytes
  few_bytes =
      pick_by (λ k. k ≤ 8) (leb n 32763) 0 (pick (leb n 2147483643) 4 (pick (leb n 140737488355323) 6 8)) (λ a. omega arith)
      (λ a. pick_by (λ k. k ≤ 8) (leb n 2147483643) 4 (pick (leb n 140737488355323) 6 8) (λ b. omega arith)
      (λ b. pick_by (λ k. k ≤ 8) (leb n 140737488355323) 6 8 (λ d. omega arith) (λ d. omega arith)))

-- with none
pub built_inline : (cp : ℕ) (d : List ℕ) → length d ≤ 32763 → built cp d ≡ two (length d + 4) ++ (two cp ++ d)
unfolding built
built_inline cp d h = ap (λ (k : ℕ). built_with k cp d) (inline_bytes (length d) h)

-- with any number of length bytes but none
pub built_wide : (k cp : ℕ) (d : List ℕ) → 0 < k → built_with k cp d ≡ two (0x8004 + k) ++ (two cp ++ (last k (length d) ++ d))
built_wide zero cp d h = absurd (omega arith)
built_wide (suc k) cp d h = refl

pub length_built_with : (k cp : ℕ) (d : List ℕ) → length (built_with k cp d) ≡ 4 + k + length d
length_built_with zero cp d = omega arith
length_built_with (suc k) cp d = omega (arith, length-append (last (suc k) (length d)) d, length_last (suc k) (length d))

-- four bytes, the length bytes, and the data
pub length_built : (cp : ℕ) (d : List ℕ) → length (built cp d) ≡ 4 + length_bytes (length d) + length d
unfolding built
length_built cp d = length_built_with (length_bytes (length d)) cp d

-- ---- laying an object down

pub raw_inline : (k n : ℕ) → k ≡ 0 → raw_length k n ≡ n + 4
raw_inline zero n e = refl
raw_inline (suc k) n e = absurd (omega arith)

pub raw_wide : (k n : ℕ) → ¬ (k ≡ 0) → raw_length k n ≡ 0x8004 + k
raw_wide zero n h = absurd (h refl)
raw_wide (suc k) n h = refl

-- it has two bytes
pub raw_small : (n : ℕ) → raw_length (length_bytes n) n < 65536
raw_small n =
    by (leb n 32763) (λ a. let h : n ≤ 32763 = leb-true n 32763 a in omega (arith, raw_inline (length_bytes n) n (inline_bytes n h)))
    (λ a. let l : 32763 < n = leb-false n 32763 a in omega (arith, few_bytes n, raw_wide (length_bytes n) n (λ e. omega (arith, wide_bytes n l))))

-- one form for every number of length bytes
built_with_lem : (k cp : ℕ) (d : List ℕ) → built_with k cp d ≡ two (raw_length k (length d)) ++ (two cp ++ (last k (length d) ++ d))
unfolding last
built_with_lem zero cp d = refl
built_with_lem (suc k) cp d = refl

pub built_is : (cp : ℕ) (d : List ℕ) → built cp d ≡ two (raw_length (length_bytes (length d)) (length d)) ++ (two cp ++ (last (length_bytes (length d)) (length d) ++ d))
unfolding built
built_is cp d = built_with_lem (length_bytes (length d)) cp d

-- from its parts
pub built_from : (cp : ℕ) (d : List ℕ) (k raw : ℕ) → k ≡ length_bytes (length d) → raw ≡ raw_length k (length d)
    → two raw ++ (two cp ++ (last k (length d) ++ d)) ≡ built cp d
built_from cp d k raw e f =
    ap₂ (λ (j n : ℕ). two n ++ (two cp ++ (last j (length d) ++ d))) e (f ∙ ap (λ (j : ℕ). raw_length j (length d)) e) ∙ sym (built_is cp d)
