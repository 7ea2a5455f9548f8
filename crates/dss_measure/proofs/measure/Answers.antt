-- `dss_measure::measure` meets its contract: 10, 1 and 16 by their laws, and a whole frame by what `measure_whole` ensures.
use Rattle.std.proofs.Common.{rules}
use Rattle.std.specs.Prelude.{Err}
use mathlib.Core.Path.{◌≡◌, sym, ap, ◌∙◌}
use Rattle.dss_measure.proofs.Readings.{measured_beyond, measured_not_whole}
use Rattle.dss_measure.proofs.measure.Goals as goal

pub returns-then-run-at : goal.returns-then-run-at
returns-then-run-at c =
    let a = c.args in
    ap Err c.out_of_bounds.ensures ∙ sym (measured_beyond a.rules a.run.now a.at c.if-run-at.true)

pub returns-in_err-walked : goal.returns-in_err-walked
returns-in_err-walked c =
    let a = c.args in
    let r : c.from_residual.result ≡ Err c.in_err-walked.field-0.0 = search rules in
    r ∙ sym (measured_not_whole a.rules a.run.now a.at _ c.if-run-at.false (sym c.in_err-walked.ensures))
