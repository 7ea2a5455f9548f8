-- `ddm_rows::walk` meets its contract. The invariant: what was met so far, and where the walk stands.
use native.Mathlib.Omega.{arith}
use mathlib.Core.Path.{sym}
use Rattle.ddm_object.proofs.FindingParams.{step_of}
use Rattle.ddm_rows.proofs.ObjectLists.{walking_start, walking_step, walking_end}
use Rattle.ddm_rows.proofs.walk.Goals as goal

pub loop-o-init : goal.loop-o-init
loop-o-init c = walking_start _

pub overflow_add-work : goal.overflow_add-work
overflow_add-work c =
    let w = walking_step _ _ _ _ c.loop-o.invariant _ _ (step_of _ _ _ _ (sym c.in-Ok.ensures)) in
    omega (arith, c.work_len-work.ensures, w.small, w.within)

pub loop-o-smaller : goal.loop-o-smaller
loop-o-smaller c =
    let f = step_of _ _ _ _ (sym c.in-Ok.ensures) in
    omega (arith, f.on, f.within)

pub loop-o-preserved : goal.loop-o-preserved
loop-o-preserved c =
    rw c.work_len-work.ensures (walking_step _ _ _ _ c.loop-o.invariant _ _ (step_of _ _ _ _ (sym c.in-Ok.ensures)))

pub returns : goal.returns
returns c =
    walking_end _ _ _ _ _ c.loop-o.invariant (sym c.in_default.ensures)
