-- A number in k bytes, and back: one law for every width.
use Prim.Native.Nat.{ℕ, zero, suc, ◌+◌, ◌*◌, ◌/◌, ◌%◌, ◌^◌, ◌<◌}
use native.Mathlib.Nat.{pow-succ', div-div-eq-div-mul}
use native.Mathlib.Omega.{arith}
use mathlib.Core.Path.{◌≡◌, refl, sym, ◌∙◌, ap}
use mathlib.Core.List.{List, [], ◌∷◌, ◌++◌}
use lib.ListN.{length, length-append}
use Rattle.wire.specs.Bytes.{be16, two, spelled, last}

pub spelled_append : (n : ℕ) (a b : List ℕ) → spelled n (a ++ b) ≡ spelled (spelled n a) b
unfolding spelled
spelled_append n [] b = refl
spelled_append n (x ∷ a) b = spelled_append (n * 256 + x) a b

pub length_last : (k n : ℕ) → length (last k n) ≡ k
unfolding last
length_last zero n = refl
length_last (suc k) n = length-append (last k (n / 256)) (n % 256 ∷ []) ∙ omega (arith, length_last k (n / 256))

pub spelled_last : (k n : ℕ) → n < 256 ^ k → spelled 0 (last k n) ≡ n
unfolding last spelled
spelled_last zero n h = omega arith
spelled_last (suc k) n h = spelled_append 0 (last k (n / 256)) (n % 256 ∷ []) ∙ omega (arith, spelled_last k (n / 256) (omega arith))

-- a number's bytes from the front, as a loop writes them
pub last_first : (k n : ℕ) → last (suc k) n ≡ (n / 256 ^ k % 256) ∷ last k n
unfolding last
last_first zero n = ap (λ (x : ℕ). x ∷ []) (omega arith)
last_first (suc k) n =
    ap (λ (l : List ℕ). l ++ (n % 256 ∷ [])) (last_first k (n / 256))
    ∙ ap (λ (x : ℕ). x % 256 ∷ (last k (n / 256) ++ (n % 256 ∷ []))) (div-div-eq-div-mul n 256 (256 ^ k) ∙ ap (λ (x : ℕ). n / x) (sym (pow-succ' 256 k)))

-- two bytes are the case k = 2: what they spell, and how they are laid down
pub two_last : (n : ℕ) → two n ≡ last 2 n
unfolding last
two_last n = refl

pub be16_spelled : (a b : ℕ) (s : List ℕ) → be16 (a ∷ b ∷ s) 0 ≡ spelled 0 (a ∷ b ∷ [])
unfolding spelled
be16_spelled a b s = omega arith
