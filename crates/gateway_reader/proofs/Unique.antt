-- Of each of the reader's functions: any two outcomes that its contract allows are equal, the number, the words and the room.
-- The contract is named, and not written again.
use Prim.Native.Nat.{ℕ}
use mathlib.Core.Path.{◌≡◌, sym, ◌∙◌}
use mathlib.Core.List.{List}
use contract.Lifetimes.{Lfts}
use denote.Ref.{Bor, MutBor, at_last}
use Rattle.gateway_words.proofs.Unique.{answered_one, leaves_one}
use Rattle.gateway_reader.proofs.lattrugone_remaining.Reads as remaining
use Rattle.gateway_reader.proofs.lattrugone_has_frame.Reads as has_frame
use Rattle.gateway_reader.proofs.lattrugone_frame_end.Reads as frame_end
use Rattle.gateway_reader.proofs.lattrugone_first_frame_end.Reads as first_frame_end
use Rattle.gateway_reader.proofs.lattrugone_next_frame.Reads as next_frame

module _ (κs : Lfts 1) (run : Bor (List ℕ)) (at r r' : ℕ) where
  pub remaining_one : remaining.Post κs (run, (at, tt)) r (run, (at, tt)) → remaining.Post κs (run, (at, tt)) r' (run, (at, tt)) → r ≡ r'
  remaining_one p q = p ∙ sym q

  pub has_frame_one : has_frame.Post κs (run, (at, tt)) r (run, (at, tt)) → has_frame.Post κs (run, (at, tt)) r' (run, (at, tt)) → r ≡ r'
  has_frame_one p q = p ∙ sym q

module _ (κs : Lfts 2) (run : Bor (List ℕ)) (words : MutBor (List ℕ)) (r r' : ℕ) (l l' : List ℕ) where
  pub frame_end_one : (at : ℕ)
      → frame_end.Post κs (run, (at, (words, tt))) r (run, (at, (at_last words l, tt)))
      → frame_end.Post κs (run, (at, (words, tt))) r' (run, (at, (at_last words l', tt)))
      → (r ≡ r') × (l ≡ l')
  frame_end_one at p q = answered_one p q

  pub first_frame_end_one : first_frame_end.Post κs (run, (words, tt)) r (run, (at_last words l, tt))
      → first_frame_end.Post κs (run, (words, tt)) r' (run, (at_last words l', tt))
      → (r ≡ r') × (l ≡ l')
  first_frame_end_one p q = answered_one p q

module _ (κs : Lfts 3) (run : Bor (List ℕ)) (room words : MutBor (List ℕ)) (at r r' : ℕ) (k k' l l' : List ℕ) where
  pub next_frame_one : next_frame.Post κs (run, (at, (room, (words, tt)))) r (run, (at, (at_last room k, (at_last words l, tt))))
      → next_frame.Post κs (run, (at, (room, (words, tt)))) r' (run, (at, (at_last room k', (at_last words l', tt))))
      → (r ≡ r') × (l ≡ l') × (k ≡ k')
  next_frame_one p q = leaves_one p q
