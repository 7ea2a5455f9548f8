-- `dss_measure::look_behind` meets its contract: fewer than six bytes end the frame, and else the head there decides.
use native.Mathlib.Omega.{arith}
use mathlib.Core.Path.{sym, ap, ◌∙◌}
use Rattle.dss_laws.proofs.Looking.{look_nothing}
use Rattle.dss_measure.specs.inner.Walking.{looked_of}
use Rattle.dss_measure.proofs.LookLaws.{look_head}
use Rattle.dss_measure.proofs.look_behind.Goals as goal

pub returns-then-left-lt-DSS_HEADER_LEN : goal.returns-then-left-lt-DSS_HEADER_LEN
returns-then-left-lt-DSS_HEADER_LEN c =
    let a = c.args in
    ap looked_of (sym (look_nothing a.rules a.run.now a.at (omega arith) a.first a.extended))

pub returns-in-Ok : goal.returns-in-Ok
returns-in-Ok c =
    let a = c.args in
    c.look_head.ensures ∙ ap looked_of (sym (look_head a.rules a.run.now a.first a.extended a.at _ (omega arith) c.in-Ok.ensures))

pub returns-in-Err : goal.returns-in-Err
returns-in-Err c =
    let a = c.args in
    c.refusal.ensures ∙ ap looked_of (sym (look_head a.rules a.run.now a.first a.extended a.at _ (omega arith) c.in-Err.ensures))
