-- `ddm_object::step_at` meets its contract: by the record at the place, or that there is none.
use native.Mathlib.Omega.{arith}
use mathlib.Core.Path.{sym}
use Rattle.ddm_object.proofs.ObjectRecords.{record_of, refused_of, record_next}
use Rattle.ddm_object.proofs.FindingParams.{step_object, step_end, step_beyond}
use Rattle.ddm_object.proofs.step_at.Goals as goal

pub returns-then-data-at : goal.returns-then-data-at
returns-then-data-at c = rw c.out_of_bounds.ensures (sym (step_beyond _ _ c.if-data-at.true))

pub overflow_add-result : goal.overflow_add-result
overflow_add-result c =
    omega (arith, record_next _ _ _ (omega arith) (record_of _ _ _ (sym c.in-Ok.ensures)))

pub returns-in-Ok : goal.returns-in-Ok
returns-in-Ok c = sym (step_object _ _ _ (record_of _ _ _ (sym c.in-Ok.ensures)))

pub returns-in-Err : goal.returns-in-Err
returns-in-Err c = rw c.at.ensures (sym (step_end _ _ _ (omega arith) (refused_of _ _ _ (sym c.in-Err.ensures))))
