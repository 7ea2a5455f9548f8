-- `dss_salvage::measure_salvage` meets its contract. The loop's invariant: the whole reading comes to that from the present place on,
-- behind the entries and the payload so far. An entry takes six bytes of the run, and no fewer than its payload has; the measure is
-- what is left of the run.
use native.Mathlib.Omega.{arith}
use mathlib.Core.Path.{sym, ◌∙◌}
use Rattle.dss_salvage.proofs.SalvageStepping.{on_frame, on_over, on_last, on_end}
use Rattle.dss_salvage.proofs.SalvageMeasuring.{salvaging_start, salvaging_frame, salvaging_over, salvaging_last, salvaging_end}
use Rattle.dss_salvage.proofs.measure_salvage.Goals as goal

pub loop-measure-init : goal.loop-measure-init
loop-measure-init c = record { few = omega arith; short = omega arith; comes_to = salvaging_start _ }

pub overflow_add-all : goal.overflow_add-all
overflow_add-all c = let w = (on_frame _ _ _ (sym c.in-Frame.ensures)).measured in omega (arith, w)

pub overflow_add-all-in-Frame : goal.overflow_add-all-in-Frame
overflow_add-all-in-Frame c = let w = (on_frame _ _ _ (sym c.in-Frame.ensures)).measured in omega (arith, w)

pub loop-measure-smaller-in-Frame : goal.loop-measure-smaller-in-Frame
loop-measure-smaller-in-Frame c = let w = (on_frame _ _ _ (sym c.in-Frame.ensures)).measured in omega (arith, w)

pub loop-measure-preserved-in-Frame : goal.loop-measure-preserved-in-Frame
loop-measure-preserved-in-Frame c =
    let f = on_frame _ _ _ (sym c.in-Frame.ensures) in
    let w = f.measured in
    record {
      few = omega (arith, w);
      short = omega (arith, w);
      comes_to = c.loop-measure.invariant.comes_to ∙ salvaging_frame _ _ _ _ _ f;
    }

pub overflow_add-all-in-Over : goal.overflow_add-all-in-Over
overflow_add-all-in-Over c = let w = on_over _ _ _ _ (sym c.in-Over.ensures) in omega (arith, w)

pub loop-measure-smaller : goal.loop-measure-smaller
loop-measure-smaller c = let w = on_over _ _ _ _ (sym c.in-Over.ensures) in omega (arith, w)

pub loop-measure-preserved : goal.loop-measure-preserved
loop-measure-preserved c =
    let w = on_over _ _ _ _ (sym c.in-Over.ensures) in
    record {
      few = omega (arith, w);
      short = omega (arith, w);
      comes_to = c.loop-measure.invariant.comes_to ∙ salvaging_over _ _ _ _ _ _ w;
    }

pub overflow_add-result : goal.overflow_add-result
overflow_add-result c = let w = on_last _ _ _ (sym c.in-Last.ensures) in omega (arith, w)

pub returns-in-Last : goal.returns-in-Last
returns-in-Last c = sym (c.loop-measure.invariant.comes_to ∙ salvaging_last _ _ _ _ _ (on_last _ _ _ (sym c.in-Last.ensures)))

pub returns-in-End : goal.returns-in-End
returns-in-End c = sym (c.loop-measure.invariant.comes_to ∙ salvaging_end _ _ _ _ (on_end _ _ (sym c.in-End.ensures)))
