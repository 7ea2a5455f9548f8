-- `ddm_rows::measure_objects` meets its contract: fewer than four bytes where the walk stopped are ignored, and what stands
-- there is refused otherwise.
use native.Mathlib.Omega.{arith}
use mathlib.Core.Path.{sym, ◌∙◌, ap}
use Rattle.std.proofs.lemmas.Result.{err_from_is_err_and}
use Rattle.ddm_length.specs.Lengths.{measured}
use Rattle.wire.proofs.LentParts.{tail_drop}
use Rattle.ddm_rows.proofs.ObjectLists.{measured_listed, measured_broken, stopped}
use Rattle.ddm_rows.proofs.measure_objects.Goals as goal

pub returns-in_err-measure_at : goal.returns-in_err-measure_at
returns-in_err-measure_at c =
    let w = c.walk-end in
    let run = c.args.run.now in
    let e = sym (ap (λ b. measured b w.result.end) (tail_drop run w.result.end)) ∙ sym c.in_err-measure_at.ensures in
    let p = err_from_is_err_and c.from_residual.result c.from_residual.ensures.1 in
    rw (p.1, p.2) (sym (measured_broken run _ w.ensures _ (omega (arith, c.if-run-end-ge4.true, w.ensures.within)) e))

pub returns-in_ok-measure_at : goal.returns-in_ok-measure_at
returns-in_ok-measure_at c =
    let w = c.walk-end in
    let run = c.args.run.now in
    absurd (stopped run _ w.ensures _ _ (sym (ap (λ b. measured b w.result.end) (tail_drop run w.result.end)) ∙ sym c.in_ok-measure_at.ensures))

pub returns-else-run-end-ge4 : goal.returns-else-run-end-ge4
returns-else-run-end-ge4 c =
    let w = c.walk-end in
    sym (measured_listed c.args.run.now _ w.ensures (omega (arith, c.if-run-end-ge4.false, w.ensures.within)))
