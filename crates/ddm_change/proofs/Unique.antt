-- Any two outcomes that a public contract of this crate allows are equal. Each statement names the contract, and doesn't write it again.
use Rattle.std.specs.Prelude.{Result}
use Prim.Native.Nat.{ℕ}
use mathlib.Core.Path.{◌≡◌, sym, ◌∙◌}
use mathlib.Core.List.{List}
use contract.Lifetimes.{Lfts}
use denote.Ref.{Bor, MutBor, at_last}
use Rattle.ddm_change.proofs.change_param.Reads as change_param
use Rattle.ddm_change.proofs.change_param_len.Reads as change_param_len
use Rattle.ddm_change.proofs.change_request.Reads as change_request
use Rattle.answer.specs.declared.Refused.{Refused}

module _ (κs : Lfts 3) (d new : Bor (List ℕ)) (room : MutBor (List ℕ)) (cp : ℕ) (r r' : Result ℕ Refused) (l l' : List ℕ) where
  pub change_param_one : change_param.Post κs (d, (cp, (new, (room, tt)))) r (d, (cp, (new, (at_last room l, tt))))
      → change_param.Post κs (d, (cp, (new, (room, tt)))) r' (d, (cp, (new, (at_last room l', tt)))) → (r ≡ r') × (l ≡ l')
  change_param_one p q = (p.answers ∙ sym q.answers, p.room_is ∙ sym q.room_is)

  pub change_request_one : change_request.Post κs (d, (cp, (new, (room, tt)))) r (d, (cp, (new, (at_last room l, tt))))
      → change_request.Post κs (d, (cp, (new, (room, tt)))) r' (d, (cp, (new, (at_last room l', tt)))) → (r ≡ r') × (l ≡ l')
  change_request_one p q = (p.answers ∙ sym q.answers, p.room_is ∙ sym q.room_is)

pub change_param_len_one : (κs : Lfts 1) (d : Bor (List ℕ)) (cp n : ℕ) (r r' : Result ℕ Refused)
    → change_param_len.Post κs (d, (cp, (n, tt))) r (d, (cp, (n, tt))) → change_param_len.Post κs (d, (cp, (n, tt))) r' (d, (cp, (n, tt))) → r ≡ r'
change_param_len_one κs d cp n r r' p q = p ∙ sym q
