-- Of each public function: any two outcomes that its contract allows are equal, the number, the words, the work area and the
-- row. The contract is named, and not written again.
use Prim.Native.Nat.{ℕ}
use mathlib.Core.Path.{◌≡◌}
use mathlib.Core.List.{List}
use contract.Lifetimes.{Lfts}
use denote.Ref.{Bor, MutBor, at_last}
use Rattle.gateway_words.proofs.Unique.{leaves_row_one}
use Rattle.gateway_object_rows.proofs.lattrugone_objects.Reads as objects
use Rattle.gateway_object_rows.proofs.lattrugone_parameters.Reads as parameters

module _ (κs : Lfts 4) (run : Bor (List ℕ)) (work row words : MutBor (List ℕ)) (r r' : ℕ) (k k' m m' l l' : List ℕ) where
  pub objects_one : objects.Post κs (run, (work, (row, (words, tt)))) r (run, (at_last work k, (at_last row m, (at_last words l, tt))))
      → objects.Post κs (run, (work, (row, (words, tt)))) r' (run, (at_last work k', (at_last row m', (at_last words l', tt))))
      → (r ≡ r') × (l ≡ l') × (k ≡ k') × (m ≡ m')
  objects_one p q = leaves_row_one p q

  pub parameters_one : parameters.Post κs (run, (work, (row, (words, tt)))) r (run, (at_last work k, (at_last row m, (at_last words l, tt))))
      → parameters.Post κs (run, (work, (row, (words, tt)))) r' (run, (at_last work k', (at_last row m', (at_last words l', tt))))
      → (r ≡ r') × (l ≡ l') × (k ≡ k') × (m ≡ m')
  parameters_one p q = leaves_row_one p q
