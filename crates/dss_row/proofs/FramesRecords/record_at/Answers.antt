-- A frame's record at a place, as its contract says: none by its law, and what a measure says of the frame by `Measures`.
use Rattle.std.specs.Prelude.{ℕ, ◌+◌, ◌≡◌, Some, None, Result, Ok, Err, List}
use Rattle.std.specs.Result.{result_ok}
use native.Mathlib.Omega.{arith}
use mathlib.Core.Path.{sym, ap, ◌∙◌}
use Rattle.answer.specs.declared.Refused.{Refused}
use Rattle.dss_frame.specs.Reading.{refused}
use Rattle.dss_frame.specs.declared.RowPlace.{RowPlace}
use Rattle.dss_frame.specs.declared.Rules.TheVariants.{Reader}
use Rattle.dss_measure.specs.Measure.{measured_at}
use Rattle.dss_measure.specs.declared.FrameMeasure.{FrameMeasure}
use Rattle.dss_measure.proofs.Measures.{Measures, measures, measured_not}
use Rattle.dss_row.specs.inner.FrameRows.{record_at}
use Rattle.dss_row.specs.inner.RowRecords.{place_held}
use Rattle.dss_row.proofs.FrameRowLaws.{record_none, record_read, record_measured}
use Rattle.dss_row.proofs.FramesRecords.record_at.Goals as goal

module _ (s : List ℕ) (p : ℕ) where
  -- what measuring said, where it found a frame
  found : (r : Result FrameMeasure Refused) (m : FrameMeasure) → r ≡ measured_at Reader s p → Some m ≡ result_ok r → Measures Reader s p m
  found (Ok n) m e k = measures Reader s p m (sym e ∙ (let z : n ≡ m = cc in cc))
  found (Err x) m e k = let z : ◌≡◌ {A = ℕ} 0 1 = cc in absurd (omega arith)

-- and where it found none
none : (s : List ℕ) (x : RowPlace) → (x.left ≡ 0 → ⊥) → (r : Result FrameMeasure Refused) → r ≡ measured_at Reader s x.at → None ≡ result_ok r → None ≡ record_at s x
none s x h (Ok n) e k = let z : ◌≡◌ {A = ℕ} 0 1 = cc in absurd (omega arith)
none s x h (Err y) e k = sym (record_read s x (refused y) h (measured_not Reader s x.at y (sym e)))

pub returns-then-place-eq0-clause-is : goal.returns-then-place-eq0-clause-is
returns-then-place-eq0-clause-is c = sym (ap place_held (record_none _ _ c.if-place-eq0.true))

pub returns-then-place-eq0-clause-kept : goal.returns-then-place-eq0-clause-kept
returns-then-place-eq0-clause-kept c = λ h. (sym (record_none _ _ c.if-place-eq0.true), tt)

pub returns-in_err-measure-clause-is : goal.returns-in_err-measure-clause-is
returns-in_err-measure-clause-is c =
    c.from_residual.ensures ∙ ap place_held (none _ _ c.if-place-eq0.false _ c.measure.ensures c.in_err-measure.ensures.value)

pub returns-in_err-measure-clause-kept : goal.returns-in_err-measure-clause-kept
returns-in_err-measure-clause-kept c =
    rw c.from_residual.ensures (λ h. (none _ _ c.if-place-eq0.false _ c.measure.ensures c.in_err-measure.ensures.value, tt))

pub returns-clause-is : goal.returns-clause-is
returns-clause-is c =
    rw (c.record-record.ensures, c.saturating_add.ensures)
    (sym (ap place_held (record_measured _ _ _ c.if-place-eq0.false (found _ _ _ _ c.measure.ensures c.in_ok-measure.ensures.value))))

pub returns-clause-kept : goal.returns-clause-kept
returns-clause-kept c =
    let w : Measures Reader c.args.run.now c.args.place.at c.in_ok-measure.measure = found _ _ _ _ c.measure.ensures c.in_ok-measure.ensures.value in
    λ h.
    let e : c.saturating_add.result ≡ c.args.place.payload_at + c.in_ok-measure.measure.payload_len = omega (arith, w, c.saturating_add.ensures) in
    (rw (c.record-record.ensures, e) (sym (record_measured _ _ _ c.if-place-eq0.false w)), omega (arith, w, e))
