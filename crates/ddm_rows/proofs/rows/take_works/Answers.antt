-- `ddm_rows::rows::take_works` meets its contract. The invariant: nothing passed so far goes through the work area.
use Prim.Native.Nat.{◌+◌}
use native.Mathlib.Omega.{arith}
use mathlib.Core.Path.{sym, ◌∙◌, ap, ap₂}
use Rattle.wire.specs.Bytes.{laid}
use Rattle.ddm_length.specs.Markers.{unmarked}
use Rattle.wire.proofs.LentParts.{tail_drop}
use Rattle.ddm_object.proofs.FindingParams.{step_of}
use Rattle.ddm_rows.proofs.ObjectWorks.{seeking_step, seeking_found, seeking_end}
use Rattle.ddm_rows.proofs.rows.take_works.Goals as goal

pub returns-then-o : goal.returns-then-o
returns-then-o c =
    let d = c.args.«data».now in
    let l = c.loop-o in
    let f = step_of _ _ _ _ (sym c.in-Ok.ensures) in
    c.strip_extended_ddm_continuation_markers.ensures.room_is
    ∙ ap (λ x. laid l.work 0 (unmarked x)) (tail_drop d (l.at + 4))
    ∙ ap₂ (λ x y. laid x 0 y) l.invariant.1 (sym (seeking_found _ _ l.invariant.0 _ _ f c.if-o.true))

pub loop-o-smaller : goal.loop-o-smaller
loop-o-smaller c =
    let f = step_of _ _ _ _ (sym c.in-Ok.ensures) in
    omega (arith, f.on, f.within)

pub loop-o-preserved : goal.loop-o-preserved
loop-o-preserved c =
    let l = c.loop-o in
    (seeking_step _ _ l.invariant.0 _ _ (step_of _ _ _ _ (sym c.in-Ok.ensures)) c.if-o.false, l.invariant.1)

pub returns : goal.returns
returns c =
    let s = c.args in
    c.loop-o.invariant.1 ∙ seeking_end _ _ _ s.work.now c.loop-o.invariant.0 (sym c.in_default.ensures)

pub slice_bounds-strip_extended_ddm_continuation_markers-count : goal.slice_bounds-strip_extended_ddm_continuation_markers-count
slice_bounds-strip_extended_ddm_continuation_markers-count c = let f = step_of _ _ _ _ (sym c.in-Ok.ensures) in omega (arith, f.on, f.within)

pub slice_bounds-strip_extended_ddm_continuation_markers-start : goal.slice_bounds-strip_extended_ddm_continuation_markers-start
slice_bounds-strip_extended_ddm_continuation_markers-start c = let f = step_of _ _ _ _ (sym c.in-Ok.ensures) in omega (arith, f.on, f.within)
