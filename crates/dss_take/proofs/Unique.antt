-- Any two outcomes that the contract of `measure` or of `take` allows are equal: the answer, and every byte of the room. Each statement
-- names the contract, and doesn't write it again.
use Rattle.std.specs.Prelude.{Result}
use Prim.Native.Nat.{ℕ}
use mathlib.Core.Path.{◌≡◌, refl, sym, ◌∙◌}
use mathlib.Core.List.{List}
use lib.ListN.{length}
use contract.Lifetimes.{Lfts}
use denote.Ref.{Bor, MutBor, at_last}
use Rattle.dss_frame.specs.declared.Rules.{Rules}
use Rattle.dss_frame.specs.Reading.{read_at}
use Rattle.dss_measure.specs.Measure.{measured_at}
use Rattle.dss_take.specs.Take.{taken_of, room_read}
use Rattle.dss_take.proofs.measure.Reads as measuring
use Rattle.dss_take.proofs.take.Reads as taking
use Rattle.dss_measure.specs.declared.FrameMeasure.{FrameMeasure}
use Rattle.answer.specs.declared.Refused.{Refused}

pub measure_one : (κs : Lfts 1) (rules : Rules) (run : Bor (List ℕ)) (at : ℕ) (r r' : Result FrameMeasure Refused)
    → measuring.Post κs (rules, (run, (at, tt))) r (rules, (run, (at, tt))) → measuring.Post κs (rules, (run, (at, tt))) r' (rules, (run, (at, tt)))
    → r ≡ r'
measure_one κs rules run at r r' p q = p ∙ sym q

-- and one outcome is allowed, whatever the rules, the run and the place
pub measure_some : (κs : Lfts 1) (rules : Rules) (run : Bor (List ℕ)) (at : ℕ)
    → measuring.Post κs (rules, (run, (at, tt))) (measured_at rules run.now at) (rules, (run, (at, tt)))
measure_some κs rules run at = refl

module _ (κs : Lfts 2) (rules : Rules) (run : Bor (List ℕ)) (at : ℕ) (room : MutBor (List ℕ)) where
  pub take_one : (r r' : Result FrameMeasure Refused) (l l' : List ℕ)
      → taking.Post κs (rules, (run, (at, (room, tt)))) r (rules, (run, (at, (at_last room l, tt))))
      → taking.Post κs (rules, (run, (at, (room, tt)))) r' (rules, (run, (at, (at_last room l', tt))))
      → (r ≡ r') × (l ≡ l')
  take_one r r' l l' p q = (p.answers ∙ sym q.answers, p.room_is ∙ sym q.room_is)

  -- and one outcome is allowed, whatever the rules, the run, the place and the room
  pub take_some : taking.Post κs (rules, (run, (at, (room, tt)))) (taken_of run.now at (length room.now) (read_at rules run.now at))
      (rules, (run, (at, (at_last room (room_read run.now room.now (read_at rules run.now at)), tt))))
  take_some = record { answers = refl; room_is = refl }
