-- `ddm_object::object_at` meets its contract: the part of the run from the place on is parsed as a whole input.
use mathlib.Core.Path.{subst}
use Rattle.wire.proofs.LentParts.{tail_drop}
use Rattle.ddm_object.specs.inner.RecordsGiven.{GivesIn}
use Rattle.ddm_object.proofs.ObjectRecords.{at_place, beyond_place}
use Rattle.ddm_object.proofs.object_at.Goals as goal

pub returns-then-run-at : goal.returns-then-run-at
returns-then-run-at c =
    let s = c.args in
    rw c.out_of_bounds.ensures (beyond_place s.run.now s.at s.work.now c.if-run-at.true)

pub returns : goal.returns
returns c =
    let s = c.args in
    at_place s.run.now s.at s.work.now _ _ c.if-run-at.false
    (subst (λ b. GivesIn b s.at s.at s.work.now c.parse_in.result c.parse_in.new.work) (tail_drop s.run.now s.at) c.parse_in.ensures)
