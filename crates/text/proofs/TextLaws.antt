-- The laws of joined pieces and of numbers in decimal, with the count gone.
use Prim.Native.Nat.{ℕ, zero, suc, ◌+◌, ◌/◌, ◌%◌, ◌≤◌, ◌<◌}
use native.Mathlib.Omega.{arith}
use mathlib.Core.Path.{◌≡◌, refl, ap, ◌∙◌}
use mathlib.Core.Bool.{Bool, true, false}
use mathlib.Core.List.{List, [], ◌∷◌, ◌++◌, append-nil}
use lib.Dec.{ltb}
use borrow.Author.Tests.{lt-ltb, le-ltb, ltb-false}
use Rattle.text.specs.Texts.{text, together, digits_before, decimal_fuel, decimal}

-- ---- pieces

pub joined_more : (x : List ℕ) (xs : List (List ℕ)) → together (x ∷ xs) ≡ x ++ together xs
unfolding together
joined_more x xs = refl

pub joined_one : (x : List ℕ) → together (x ∷ []) ≡ x
unfolding together
joined_one x = append-nil x

-- ---- numbers

-- fuel that suffices is as good as any other that does
enough : (f g n : ℕ) → n < f → n < g → decimal_fuel f n ≡ decimal_fuel g n
unfolding decimal_fuel
enough zero g n h k = absurd (omega arith)
enough (suc f) zero n h k = absurd (omega arith)
enough (suc f) (suc g) n h k = ap (λ (l : List ℕ). l ++ ((48 + n % 10) ∷ [])) (same (ltb n 10) refl (λ l. enough f g (n / 10) (omega arith) (omega arith)))
  where
    same : (t : Bool) → ltb n 10 ≡ t → (10 ≤ n → decimal_fuel f (n / 10) ≡ decimal_fuel g (n / 10))
        → digits_before t (n / 10) (λ m. decimal_fuel f m) ≡ digits_before t (n / 10) (λ m. decimal_fuel g m)
    same true e k = refl
    same false e k = k (ltb-false n 10 e)

pub decimal_one : (n : ℕ) → n < 10 → decimal n ≡ (48 + n % 10) ∷ []
unfolding decimal decimal_fuel
decimal_one n h = ap (λ (t : Bool). digits_before t (n / 10) (λ m. decimal_fuel n m) ++ ((48 + n % 10) ∷ [])) (lt-ltb n 10 h)

pub decimal_more : (n : ℕ) → 10 ≤ n → decimal n ≡ decimal (n / 10) ++ ((48 + n % 10) ∷ [])
unfolding decimal decimal_fuel
decimal_more n h =
    ap (λ (t : Bool). digits_before t (n / 10) (λ m. decimal_fuel n m) ++ ((48 + n % 10) ∷ [])) (le-ltb n 10 h)
    ∙ ap (λ (l : List ℕ). l ++ ((48 + n % 10) ∷ [])) (enough n (suc (n / 10)) (n / 10) (omega arith) (omega arith))

-- what they come to
decimal_met : (decimal 0 ≡ text "0") × (decimal 9 ≡ text "9") × (decimal 10 ≡ text "10") × (decimal 65536 ≡ text "65536") × (decimal 18446744073709551615 ≡ text "18446744073709551615")
unfolding decimal decimal_fuel
decimal_met = (refl, refl, refl, refl, refl)
