-- Any two outcomes that the contract of `lattrugone_salvage` allows are equal: the number, the words, the room and the row. The contract is
-- named, and not written again.
use Prim.Native.Nat.{ℕ}
use mathlib.Core.Path.{◌≡◌}
use mathlib.Core.List.{List}
use contract.Lifetimes.{Lfts}
use denote.Ref.{Bor, MutBor, at_last}
use Rattle.gateway_words.proofs.Unique.{leaves_row_one}
use Rattle.gateway_salvage.proofs.lattrugone_salvage.Reads as salvage

module _ (κs : Lfts 4) (run : Bor (List ℕ)) (room row words : MutBor (List ℕ)) (r r' : ℕ) (k k' m m' l l' : List ℕ) where
  pub salvage_one : salvage.Post κs (run, (room, (row, (words, tt)))) r (run, (at_last room k, (at_last row m, (at_last words l, tt))))
      → salvage.Post κs (run, (room, (row, (words, tt)))) r' (run, (at_last room k', (at_last row m', (at_last words l', tt))))
      → (r ≡ r') × (l ≡ l') × (k ≡ k') × (m ≡ m')
  salvage_one p q = leaves_row_one p q
