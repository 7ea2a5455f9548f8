-- An object's record can be read back from its eight words, and a row's records from the row's words: the words fix them.
use Prim.Native.Nat.{ℕ}
use native.Mathlib.Omega.{arith}
use mathlib.Core.Path.{◌≡◌, refl, ap, ap₂}
use mathlib.Core.Bool.{Bool, true, false}
use mathlib.Core.List.{List, [], ◌∷◌}
use lib.ListN.{length, get_or, take, drop}
use Rattle.ddm_object.specs.declared.DdmObject.{DdmObject}
use Rattle.gateway_object.specs.ObjectWords.{flag_word, placed_words}
use Rattle.gateway_object_rows.specs.ListWords.{list_row}

flag_fixes : (b b' : Bool) → flag_word b ≡ flag_word b' → b ≡ b'
flag_fixes true true e = refl
flag_fixes true false e = absurd (omega arith)
flag_fixes false true e = absurd (omega arith)
flag_fixes false false e = refl

pub words_fix : (place place' : ℕ) (o o' : DdmObject) → placed_words place o ≡ placed_words place' o' → (place ≡ place') × (o ≡ o')
words_fix place place' o o' e = (word 1, fields (word 2) (flag_fixes o.in_work o'.in_work (word 3)) (word 4) (word 5) (word 6))
  where
    word : (i : ℕ) → get_or (placed_words place o) i 0 ≡ get_or (placed_words place' o') i 0
    word i = ap (λ (w : List ℕ). get_or w i 0) e

    fields : o.code_point ≡ o'.code_point → o.in_work ≡ o'.in_work → o.data_at ≡ o'.data_at → o.data_len ≡ o'.data_len → o.consumed ≡ o'.consumed → o ≡ o'
    fields p q s t u = λ i. record { code_point = p i; in_work = q i; data_at = s i; data_len = t i; consumed = u i }

pub row_fixes : (os os' : List DdmObject) → list_row os ≡ list_row os' → os ≡ os'
unfolding list_row
row_fixes [] [] e = refl
row_fixes [] (o' ∷ os') e = absurd (omega (arith, ap length e))
row_fixes (o ∷ os) [] e = absurd (omega (arith, ap length e))
row_fixes (o ∷ os) (o' ∷ os') e = ap₂ (λ (x : DdmObject) (l : List DdmObject). x ∷ l) (words_fix 0 0 o o' (ap (take 8) e)).1 (row_fixes os os' (ap (drop 8) e))
