-- `dss_reader::frame_end` meets its contract: 10 by its law, and each answer of the walk by its own.
use Rattle.std.specs.Prelude.{Err}
use Rattle.std.proofs.Common.{rules}
use mathlib.Core.Path.{◌≡◌, sym, ap, ◌∙◌}
use Rattle.dss_reader.proofs.FrameEnds.{end_beyond, end_whole, end_not}
use Rattle.dss_reader.proofs.frame_end.Goals as goal

pub returns-then-run-at : goal.returns-then-run-at
returns-then-run-at c = ap Err c.out_of_bounds.ensures ∙ sym (end_beyond _ _ c.if-run-at.true)

pub returns-in_err-walked : goal.returns-in_err-walked
returns-in_err-walked c =
    let r : c.from_residual.result ≡ Err c.in_err-walked.field-0.0 = search rules in
    r ∙ sym (end_not _ _ c.if-run-at.false _ (sym c.in_err-walked.ensures))

pub returns : goal.returns
returns c = sym (end_whole _ _ c.if-run-at.false _ (sym c.in_ok-walked.ensures))
