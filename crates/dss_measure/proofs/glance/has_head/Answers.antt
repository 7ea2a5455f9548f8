-- `dss_measure::glance::has_head` meets its contract: six bytes, the magic byte, a type.
use native.Mathlib.Omega.{arith}
use Rattle.dss_measure.proofs.GlanceLaws.{headed}
use Rattle.dss_measure.proofs.glance.has_head.Goals as goal

pub returns-in-1-to-5 : goal.returns-in-1-to-5
returns-in-1-to-5 c _ =
    let a = c.args in
    headed a.run.now a.at (omega arith) (omega arith) (omega arith) (omega arith)
