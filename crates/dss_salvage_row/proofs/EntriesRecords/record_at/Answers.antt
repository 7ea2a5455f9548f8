-- An entry's record at a place, as its contract says: none by its law, and each step of the walk by the step's own record.
use native.Mathlib.Omega.{arith}
use mathlib.Core.Path.{◌≡◌, sym, ap, ◌∙◌}
use Rattle.std.specs.Prelude.{ℕ, ◌+◌, ◌-◌, ◌^◌, min, Some}
use Rattle.dss_row.specs.inner.RowRecords.{place_held}
use Rattle.dss_salvage.proofs.SalvageStepping.{on_frame, on_over}
use Rattle.dss_salvage.specs.declared.Entry.TheVariants.{Refused as Refuses}
use Rattle.dss_salvage_row.specs.inner.EntryRows.{placed}
use Rattle.dss_salvage_row.proofs.EntryRowLaws.{record_none, record_step}
use Rattle.dss_salvage_row.proofs.EntriesRecords.record_at.Goals as goal

pub returns-then-left-eq0-clause-is : goal.returns-then-left-eq0-clause-is
returns-then-left-eq0-clause-is c = sym (ap place_held (record_none _ _ c.if-left-eq0.true))

pub returns-then-left-eq0-clause-kept : goal.returns-then-left-eq0-clause-kept
returns-then-left-eq0-clause-kept c = λ h. (sym (record_none _ _ c.if-left-eq0.true), tt)

pub returns-in-End-clause-is : goal.returns-in-End-clause-is
returns-in-End-clause-is c = sym (ap place_held (record_step _ _ _ c.if-left-eq0.false (sym c.in-End.ensures)))

pub returns-in-End-clause-kept : goal.returns-in-End-clause-kept
returns-in-End-clause-kept c = λ h. (sym (record_step _ _ _ c.if-left-eq0.false (sym c.in-End.ensures)), tt)

pub returns-in-Last-clause-is : goal.returns-in-Last-clause-is
returns-in-Last-clause-is c =
    let e : c.args.place.payload_at ≡ min c.args.place.payload_at (2 ^ 64 - 1) = omega arith in
    ap (λ (k : ℕ). Some (record { entry = Refuses c.in-Last.refused c.args.place.at c.args.place.at }, placed c.args.place.at k 0)) e
    ∙ sym (ap place_held (record_step _ _ _ c.if-left-eq0.false (sym c.in-Last.ensures)))

pub returns-in-Last-clause-kept : goal.returns-in-Last-clause-kept
returns-in-Last-clause-kept c = λ h. (sym (record_step _ _ _ c.if-left-eq0.false (sym c.in-Last.ensures)), h)

pub returns-in-Over-clause-is : goal.returns-in-Over-clause-is
returns-in-Over-clause-is c =
    let e : c.args.place.payload_at ≡ min c.args.place.payload_at (2 ^ 64 - 1) = omega arith in
    ap (λ (k : ℕ). Some (record { entry = Refuses c.in-Over.refused c.args.place.at c.in-Over.end }, placed c.in-Over.end k (c.args.place.left - 1))) e
    ∙ sym (ap place_held (record_step _ _ _ c.if-left-eq0.false (sym c.in-Over.ensures)))

pub returns-in-Over-clause-kept : goal.returns-in-Over-clause-kept
returns-in-Over-clause-kept c =
    let w = on_over _ _ _ _ (sym c.in-Over.ensures) in
    λ h. (sym (record_step _ _ _ c.if-left-eq0.false (sym c.in-Over.ensures)), omega (arith, w.past))

pub returns-in-Frame-clause-is : goal.returns-in-Frame-clause-is
returns-in-Frame-clause-is c =
    rw (c.record.ensures, c.saturating_add.ensures) (sym (ap place_held (record_step _ _ _ c.if-left-eq0.false (sym c.in-Frame.ensures))))

pub returns-in-Frame-clause-kept : goal.returns-in-Frame-clause-kept
returns-in-Frame-clause-kept c =
    let w = (on_frame _ _ _ (sym c.in-Frame.ensures)).measured in
    λ h.
    let e : c.saturating_add.result ≡ c.args.place.payload_at + c.in-Frame.measure.payload_len = omega (arith, w, c.saturating_add.ensures) in
    (rw (c.record.ensures, e) (sym (record_step _ _ _ c.if-left-eq0.false (sym c.in-Frame.ensures))), omega (arith, w, e))
