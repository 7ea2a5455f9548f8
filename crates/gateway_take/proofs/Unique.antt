-- Any two outcomes that the contract allows are equal: the number, the words and the room. The contract is named, and not written
-- again.
use Prim.Native.Nat.{ℕ}
use mathlib.Core.Path.{◌≡◌}
use mathlib.Core.List.{List}
use contract.Lifetimes.{Lfts}
use denote.Ref.{Bor, MutBor, at_last}
use Rattle.gateway_words.proofs.Unique.{leaves_one}
use Rattle.gateway_take.proofs.lattrugone_take_frame.Reads as take_frame

pub take_frame_one : (κs : Lfts 3) (rules : ℕ) (run : Bor (List ℕ)) (at : ℕ) (room words : MutBor (List ℕ)) (r r' : ℕ) (k k' l l' : List ℕ)
    → take_frame.Post κs (rules, (run, (at, (room, (words, tt))))) r (rules, (run, (at, (at_last room k, (at_last words l, tt)))))
    → take_frame.Post κs (rules, (run, (at, (room, (words, tt))))) r' (rules, (run, (at, (at_last room k', (at_last words l', tt)))))
    → (r ≡ r') × (l ≡ l') × (k ≡ k')
take_frame_one κs rules run at room words r r' k k' l l' p q = leaves_one p q
