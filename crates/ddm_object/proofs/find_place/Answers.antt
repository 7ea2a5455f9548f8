-- `ddm_object::find_place` meets its contract. The invariant: the parameters passed so far have other code points.
use native.Mathlib.Omega.{arith}
use mathlib.Core.Path.{sym}
use Rattle.ddm_object.proofs.ObjectRecords.{record_of, refused_of, record_next}
use Rattle.ddm_object.proofs.FindingParams.{looking_step, looking_found, looking_end}
use Rattle.ddm_object.proofs.find_place.Goals as goal

pub returns-then-o-code_point : goal.returns-then-o-code_point
returns-then-o-code_point c =
    looking_found _ _ _ c.loop-o.invariant _ (record_of _ _ _ (sym c.in-Ok.ensures)) c.if-o-code_point.true

pub overflow_add-at : goal.overflow_add-at
overflow_add-at c =
    omega (arith, record_next _ _ _ c.loop-o.invariant.within (record_of _ _ _ (sym c.in-Ok.ensures)))

pub loop-o-smaller : goal.loop-o-smaller
loop-o-smaller c =
    omega (arith, record_next _ _ _ c.loop-o.invariant.within (record_of _ _ _ (sym c.in-Ok.ensures)))

pub loop-o-preserved : goal.loop-o-preserved
loop-o-preserved c =
    let f = record_of _ _ _ (sym c.in-Ok.ensures) in
    looking_step _ _ _ c.loop-o.invariant _ f c.if-o-code_point.false (record_next _ _ _ c.loop-o.invariant.within f).1

pub returns : goal.returns
returns c =
    looking_end _ _ _ _ c.loop-o.invariant (refused_of _ _ _ (sym c.in_default.ensures))
