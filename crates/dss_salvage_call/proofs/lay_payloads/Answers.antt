-- `dss_salvage_call::lay_payloads` meets its contract: what is taken is what is measured there, and what is refused is stepped over, or
-- ends the walk.
use Prim.Native.Nat.{ℕ, ◌≤◌}
use native.Mathlib.Omega.{arith}
use mathlib.Core.Path.{◌≡◌, refl, sym, ap, ◌∙◌}
use mathlib.Core.List.{List}
use lib.ListN.{length}
use Rattle.wire.specs.Bytes.{splice}
use Rattle.wire.proofs.Splicing.{splice_length}
use Rattle.dss_frame.specs.declared.Rules.TheVariants.{Salvage}
use Rattle.dss_measure.proofs.Measures.{measured_not}
use Rattle.dss_salvage.proofs.SalvageStepping.{step_frame, step_refused, on_frame, on_over}
use Rattle.dss_salvage_call.specs.inner.SalvageGathered.{bytes_in}
use Rattle.dss_salvage_call.proofs.LayingEntries.{laying_start, laying_room, laying_length, bytes_stop, taken_measured, taken_frame, taken_over, taken_end}
use Rattle.dss_salvage_call.proofs.lay_payloads.Goals as goal

-- the room at the end has as many bytes
same : (s room after : List ℕ) → length (bytes_in s) ≤ length room → after ≡ splice room 0 (bytes_in s) → length after ≡ length room
same s room after h e = ap length e ∙ splice_length room 0 (bytes_in s) (omega arith)

pub loop-measure-init : goal.loop-measure-init
loop-measure-init c = laying_start _ _ c.requires

-- ---- a frame

pub overflow_add-filled : goal.overflow_add-filled
overflow_add-filled c =
    let w = on_frame _ _ _ (step_frame _ _ _ (sym (taken_measured _ _ _ _ _ c.loop-measure.invariant _ _ c.in-Ok.ensures))) in
    let l = c.loop-measure.invariant in
    omega (arith, laying_room _ _ _ _ _ l _ w, laying_length _ _ _ _ _ l, same c.args.run.now c.args.room.now _ c.requires refl, c)

pub loop-measure-smaller-in-Ok : goal.loop-measure-smaller-in-Ok
loop-measure-smaller-in-Ok c =
    let w = (on_frame _ _ _ (step_frame _ _ _ (sym (taken_measured _ _ _ _ _ c.loop-measure.invariant _ _ c.in-Ok.ensures)))).measured in
    omega (arith, w)

pub loop-measure-preserved-in-Ok : goal.loop-measure-preserved-in-Ok
loop-measure-preserved-in-Ok c =
    let w = on_frame _ _ _ (step_frame _ _ _ (sym (taken_measured _ _ _ _ _ c.loop-measure.invariant _ _ c.in-Ok.ensures))) in
    taken_frame _ _ _ _ _ c.loop-measure.invariant _ _ _ w c.in-Ok.ensures

-- ---- a refusal

pub loop-measure-smaller : goal.loop-measure-smaller
loop-measure-smaller c =
    let e = sym (taken_measured _ _ _ _ _ c.loop-measure.invariant _ _ c.in-Err.ensures) in
    let w = on_over _ _ _ _ (sym (c.in-Over.ensures ∙ sym (step_refused _ _ _ e))) in
    omega (arith, w)

pub loop-measure-preserved : goal.loop-measure-preserved
loop-measure-preserved c =
    let e = sym (taken_measured _ _ _ _ _ c.loop-measure.invariant _ _ c.in-Err.ensures) in
    let w = on_over _ _ _ _ (sym (c.in-Over.ensures ∙ sym (step_refused _ _ _ e))) in
    taken_over _ _ _ _ _ c.loop-measure.invariant _ _ _ _ _ (measured_not Salvage _ _ _ e) c.in-Err.ensures w

-- ---- the end

pub returns-in_default : goal.returns-in_default
returns-in_default c =
    let e = sym (taken_measured _ _ _ _ _ c.loop-measure.invariant _ _ c.in-Err.ensures) in
    taken_end _ _ _ _ _ c.loop-measure.invariant _ _ _ (measured_not Salvage _ _ _ e) c.in-Err.ensures
    (bytes_stop _ _ _ _ e (step_refused _ _ _ e ∙ sym c.step_over.ensures) c.in_default.not-Over)

pub shape_of-room-in_default : goal.shape_of-room-in_default
shape_of-room-in_default c =
    let e = sym (taken_measured _ _ _ _ _ c.loop-measure.invariant _ _ c.in-Err.ensures) in
    same c.args.run.now c.args.room.now _ c.requires
    (taken_end _ _ _ _ _ c.loop-measure.invariant _ _ _ (measured_not Salvage _ _ _ e) c.in-Err.ensures
    (bytes_stop _ _ _ _ e (step_refused _ _ _ e ∙ sym c.step_over.ensures) c.in_default.not-Over))
