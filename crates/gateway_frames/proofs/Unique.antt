-- Any two outcomes that the contract of `lattrugone_read_all_frames` allows are equal: the number, the words, the room and the row. The
-- contract is named, and not written again.
use Prim.Native.Nat.{ℕ}
use mathlib.Core.Path.{◌≡◌}
use mathlib.Core.List.{List}
use contract.Lifetimes.{Lfts}
use denote.Ref.{Bor, MutBor, at_last}
use Rattle.gateway_words.proofs.Unique.{leaves_row_one}
use Rattle.gateway_frames.proofs.lattrugone_read_all_frames.Reads as read_all_frames

module _ (κs : Lfts 4) (run : Bor (List ℕ)) (room row words : MutBor (List ℕ)) (at r r' : ℕ) (k k' m m' l l' : List ℕ) where
  pub read_all_frames_one : read_all_frames.Post κs (run, (at, (room, (row, (words, tt))))) r (run, (at, (at_last room k, (at_last row m, (at_last words l, tt)))))
      → read_all_frames.Post κs (run, (at, (room, (row, (words, tt))))) r' (run, (at, (at_last room k', (at_last row m', (at_last words l', tt)))))
      → (r ≡ r') × (l ≡ l') × (k ≡ k') × (m ≡ m')
  read_all_frames_one p q = leaves_row_one p q
