-- Any two outcomes that a contract of this crate allows are equal. Each statement names the contract.
use Rattle.std.specs.Prelude.{Result}
use Prim.Native.Nat.{ℕ}
use mathlib.Core.Path.{◌≡◌, sym, ◌∙◌}
use mathlib.Core.Bool.{Bool}
use contract.Lifetimes.{Lfts}
use Rattle.answer.specs.declared.Refusal.{Refusal}
use Rattle.answer.specs.declared.Refused.{Refused}
use Rattle.answer.proofs.Refusal.number.Reads as number
use Rattle.answer.proofs.Refusal.not_whole.Reads as not_whole
use Rattle.answer.proofs.Refusal.first_value.Reads as first_value
use Rattle.answer.proofs.Refusal.second_value.Reads as second_value
use Rattle.answer.proofs.Refusal.third_value.Reads as third_value
use Rattle.answer.proofs.Refusal.at.Reads as refusal_at
use Rattle.answer.proofs.Refused.no_room.Reads as no_room
use Rattle.answer.proofs.Refused.out_of_bounds.Reads as out_of_bounds
use Rattle.answer.proofs.room_for.Reads as room_for

pub number_one : (κs : Lfts 0) (x : Refusal) (r r' : ℕ) → number.Post κs (x, tt) r (x, tt) → number.Post κs (x, tt) r' (x, tt) → r ≡ r'
number_one κs x r r' p q = p ∙ sym q

pub not_whole_one : (κs : Lfts 0) (x : Refusal) (r r' : Bool) → not_whole.Post κs (x, tt) r (x, tt) → not_whole.Post κs (x, tt) r' (x, tt) → r ≡ r'
not_whole_one κs x r r' p q = p ∙ sym q

pub first_value_one : (κs : Lfts 0) (x : Refusal) (r r' : ℕ) → first_value.Post κs (x, tt) r (x, tt) → first_value.Post κs (x, tt) r' (x, tt) → r ≡ r'
first_value_one κs x r r' p q = p ∙ sym q

pub second_value_one : (κs : Lfts 0) (x : Refusal) (r r' : ℕ) → second_value.Post κs (x, tt) r (x, tt) → second_value.Post κs (x, tt) r' (x, tt) → r ≡ r'
second_value_one κs x r r' p q = p ∙ sym q

pub third_value_one : (κs : Lfts 0) (x : Refusal) (r r' : ℕ) → third_value.Post κs (x, tt) r (x, tt) → third_value.Post κs (x, tt) r' (x, tt) → r ≡ r'
third_value_one κs x r r' p q = p ∙ sym q

pub refusal_at_one : (κs : Lfts 0) (x : Refusal) (place : ℕ) (r r' : Refused)
    → refusal_at.Post κs (x, (place, tt)) r (x, (place, tt)) → refusal_at.Post κs (x, (place, tt)) r' (x, (place, tt)) → r ≡ r'
refusal_at_one κs x place r r' p q = p ∙ sym q

pub no_room_one : (κs : Lfts 0) (bytes records place : ℕ) (r r' : Refused)
    → no_room.Post κs (bytes, (records, (place, tt))) r (bytes, (records, (place, tt)))
    → no_room.Post κs (bytes, (records, (place, tt))) r' (bytes, (records, (place, tt))) → r ≡ r'
no_room_one κs bytes records place r r' p q = p ∙ sym q

pub out_of_bounds_one : (κs : Lfts 0) (mark size : ℕ) (r r' : Refused)
    → out_of_bounds.Post κs (mark, (size, tt)) r (mark, (size, tt)) → out_of_bounds.Post κs (mark, (size, tt)) r' (mark, (size, tt)) → r ≡ r'
out_of_bounds_one κs mark size r r' p q = p ∙ sym q

pub room_for_one : (κs : Lfts 0) (mark size need : ℕ) (r r' : Result (Unit {0}) Refused)
    → room_for.Post κs (mark, (size, (need, tt))) r (mark, (size, (need, tt))) → room_for.Post κs (mark, (size, (need, tt))) r' (mark, (size, (need, tt))) → r ≡ r'
room_for_one κs mark size need r r' p q = p ∙ sym q
