-- Text as a list of bytes: words, pieces joined, numbers in decimal.
use Rattle.std.specs.Prelude.{ℕ, zero, suc, ◌+◌, ◌/◌, ◌%◌, Bool, true, false, List, [], ◌∷◌, ◌++◌, ltb}
use Prim.Native.Char.{code}
use Prim.Native.String.{String}
use Prim.Native.String as string

-- the bytes of a quoted text
abbrev pub text : String → List ℕ
text string.[] = []
text (string.◌∷◌ c s) = code c ∷ text s

-- pieces one behind the other
unfoldable pub together : List (List ℕ) → List ℕ
together [] = []
together (x ∷ xs) = x ++ together xs

-- the digits before the last one: none where there is but one
abbrev pub digits_before : Bool → ℕ → (ℕ → List ℕ) → List ℕ
digits_before true tenth more = []
digits_before false tenth more = more tenth

-- at most so many digits
unfoldable pub decimal_fuel : ℕ → ℕ → List ℕ
decimal_fuel zero n = []
decimal_fuel (suc fuel) n = digits_before (ltb n 10) (n / 10) (λ tenth. decimal_fuel fuel tenth) ++ ((48 + n % 10) ∷ [])

-- a number in decimal, with no zero in front; it has no more digits than it counts, or one
unfoldable pub decimal : ℕ → List ℕ
unfolding decimal_fuel
decimal n = decimal_fuel (suc n) n
