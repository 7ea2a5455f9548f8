-- Of each function: any two outcomes that its contract allows are equal, the number, the words and the room. The contract is named, and
-- not written again.
use Prim.Native.Nat.{ℕ}
use mathlib.Core.Path.{◌≡◌}
use mathlib.Core.List.{List}
use contract.Lifetimes.{Lfts}
use denote.Ref.{Bor, MutBor, at_last}
use Rattle.gateway_words.proofs.Unique.{answered_one, leaves_one}
use Rattle.gateway_change.proofs.lattrugone_change_param.Reads as change_param
use Rattle.gateway_change.proofs.lattrugone_change_param_len.Reads as change_param_len
use Rattle.gateway_change.proofs.lattrugone_change_request.Reads as change_request

module _ (κs : Lfts 4) (d new : Bor (List ℕ)) (room words : MutBor (List ℕ)) (cp : ℕ) (r r' : ℕ) (k k' l l' : List ℕ) where
  pub change_param_one : change_param.Post κs (d, (cp, (new, (room, (words, tt))))) r (d, (cp, (new, (at_last room k, (at_last words l, tt)))))
      → change_param.Post κs (d, (cp, (new, (room, (words, tt))))) r' (d, (cp, (new, (at_last room k', (at_last words l', tt)))))
      → (r ≡ r') × (l ≡ l') × (k ≡ k')
  change_param_one p q = leaves_one p q

  pub change_request_one : change_request.Post κs (d, (cp, (new, (room, (words, tt))))) r (d, (cp, (new, (at_last room k, (at_last words l, tt)))))
      → change_request.Post κs (d, (cp, (new, (room, (words, tt))))) r' (d, (cp, (new, (at_last room k', (at_last words l', tt)))))
      → (r ≡ r') × (l ≡ l') × (k ≡ k')
  change_request_one p q = leaves_one p q

pub change_param_len_one : (κs : Lfts 2) (d : Bor (List ℕ)) (words : MutBor (List ℕ)) (cp n r r' : ℕ) (l l' : List ℕ)
    → change_param_len.Post κs (d, (cp, (n, (words, tt)))) r (d, (cp, (n, (at_last words l, tt))))
    → change_param_len.Post κs (d, (cp, (n, (words, tt)))) r' (d, (cp, (n, (at_last words l', tt)))) → (r ≡ r') × (l ≡ l')
change_param_len_one κs d words cp n r r' l l' p q = answered_one p q
