-- `dss_reader::measure_all` meets its contract: each turn is a frame, and the refusal that ends them says what is answered.
use Prim.Native.Nat.{ℕ, ◌+◌}
use native.Mathlib.Omega.{arith}
use mathlib.Core.Path.{sym, ap₂, ◌∙◌}
use Rattle.dss_frame.specs.declared.Rules.TheVariants.{Reader}
use Rattle.dss_measure.specs.Measure.{measured_at}
use Rattle.dss_measure.proofs.Extents.{Spanned, spanned, not_spanned}
use Rattle.dss_measure.proofs.Measures.{measures, measured_not}
use Rattle.dss_reader.specs.inner.MeasuredAll.{measured_frames}
use Rattle.dss_reader.proofs.MeasuredFrames.{adds_all, all_frame, all_end, all_refused}
use Rattle.dss_reader.proofs.measure_all.Goals as goal

pub returns-then-not_whole : goal.returns-then-not_whole
returns-then-not_whole c =
    sym
    (c.loop-extent.invariant.2
    ∙ all_end _ _ _ _ _ (measured_not Reader _ _ _ (not_spanned _ _ (sym c.in-Err.ensures))) (sym c.not_whole.ensures ∙ c.if-not_whole.true))

pub returns-in-Err : goal.returns-in-Err
returns-in-Err c =
    sym
    (c.loop-extent.invariant.2
    ∙ all_refused _ _ _ _ _ (measured_not Reader _ _ _ (not_spanned _ _ (sym c.in-Err.ensures))) (sym c.not_whole.ensures ∙ c.if-not_whole.false))

pub overflow_add-count : goal.overflow_add-count
overflow_add-count c =
    let x : Spanned c.in-Ok.extent.payload_len c.in-Ok.extent.end (measured_at Reader c.args.run.now c.loop-extent.end) = spanned _ _ _ (sym c.in-Ok.ensures) in
    omega (arith, measures Reader _ _ _ x.is, x)

pub overflow_add-bytes : goal.overflow_add-bytes
overflow_add-bytes c =
    let x : Spanned c.in-Ok.extent.payload_len c.in-Ok.extent.end (measured_at Reader c.args.run.now c.loop-extent.end) = spanned _ _ _ (sym c.in-Ok.ensures) in
    omega (arith, measures Reader _ _ _ x.is, x)

pub loop-extent-smaller : goal.loop-extent-smaller
loop-extent-smaller c =
    let x : Spanned c.in-Ok.extent.payload_len c.in-Ok.extent.end (measured_at Reader c.args.run.now c.loop-extent.end) = spanned _ _ _ (sym c.in-Ok.ensures) in
    omega (arith, measures Reader _ _ _ x.is, x)

pub loop-extent-preserved : goal.loop-extent-preserved
loop-extent-preserved c =
    let x = spanned _ _ _ (sym c.in-Ok.ensures) in
    let w = measures Reader _ _ _ x.is in
    let l = c.loop-extent in (
      omega (arith, w, x),
      omega (arith, w, x),
      l.invariant.2
          ∙ all_frame _ _ _ _ _ w
          ∙ ap₂ (λ (n e : ℕ). adds_all (l.count + 1) (l.bytes + n) (measured_frames c.args.run.now e)) (sym x.long) (sym x.ends),
    )
