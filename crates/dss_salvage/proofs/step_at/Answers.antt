-- `dss_salvage::step_at` meets its contract: a measure is a frame's step, and a refusal is what `step_over` ensures.
use mathlib.Core.Path.{sym, ◌∙◌}
use Rattle.dss_salvage.proofs.SalvageStepping.{step_frame, step_refused}
use Rattle.dss_salvage.proofs.step_at.Goals as goal

pub returns-in-Ok : goal.returns-in-Ok
returns-in-Ok c = sym (step_frame _ _ _ (sym c.in-Ok.ensures))

pub returns-in-Err : goal.returns-in-Err
returns-in-Err c = c.step_over.ensures ∙ sym (step_refused _ _ _ (sym c.in-Err.ensures))
