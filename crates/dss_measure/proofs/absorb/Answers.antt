-- `dss_measure::absorb` meets its contract. The loop's invariant: the reading comes to what is read on from the state, whose
-- count, end and payload so far are those of some segments. The measure is what is left of the run.
use Rattle.std.proofs.Common.{rules}
use Rattle.std.specs.Prelude.{Some, Ok, Err}
use Prim.Native.Nat.{◌+◌, ◌-◌, ◌≤◌}
use native.Mathlib.Omega.{arith}
use mathlib.Core.Path.{◌≡◌, sym, ap, ◌∙◌}
use mathlib.Core.List.{[], ◌∷◌}
use lib.ListN.{length}
use Rattle.dss_frame.specs.Segments.{first}
use Rattle.dss_frame.specs.Reading.{look, absorb}
use Rattle.dss_measure.specs.declared.PayloadSoFar.{PayloadSoFar}
use Rattle.dss_measure.specs.inner.Walking.{looked_of}
use Rattle.wire.proofs.WireLaws.{part_length}
use Rattle.dss_measure.proofs.Absorbing.{absorbing_one, absorbing_finished, absorbing_refused, absorbing_there, absorbing_len, absorbing_more}
use Rattle.dss_measure.proofs.absorb.Goals as goal
use Rattle.dss_measure.proofs.absorb.Goals.{In-Some}

pub loop-absorbed-init : goal.loop-absorbed-init
loop-absorbed-init c =
    let a = c.args in
    let s = a.run.now in
    let e = c.started-sofar.ensures in
    let l : c.started-sofar.result.len ≡ a.at + a.seg_len - (a.at + 6) = ap (λ (v : PayloadSoFar). v.len) e ∙ part_length s (a.at + 6) (a.at + a.seg_len) c.requires.1 in
    (omega arith, omega arith, omega arith, absorbing_one a.rules s a.at a.seg_len a.head c.started-sofar.result e)

pub returns-in_err-absorbed : goal.returns-in_err-absorbed
returns-in_err-absorbed c =
    let a = c.args in
    let l = c.loop-absorbed in
    let r : c.from_residual.result ≡ Err c.in_err-absorbed.field-0.0 = search rules in
    r
    ∙ sym
    (absorbing_refused a.rules a.run.now a.at _ l.header l.segments l.end l.sofar c.starts_extended.result
    l.invariant.3 c.starts_extended.ensures _ (sym c.in_err-absorbed.ensures))

-- ---- a segment is absorbed

-- what the look said
looked : (c : In-Some) → looked_of (look c.args.rules c.args.run.now c.loop-absorbed.header.dss_type c.starts_extended.result c.loop-absorbed.end) ≡ Ok (Some c.in-Some.absorbed)
looked c = sym (rw c.in-Some.is at c.in_ok-absorbed.ensures)

-- where the segment lies
there : (c : In-Some) → (c.loop-absorbed.end + 6 + c.in-Some.absorbed.dropped ≤ c.in-Some.absorbed.end) × (c.in-Some.absorbed.end ≤ length c.args.run.now)
there c =
    let a = c.args in
    let l = c.loop-absorbed in
    absorbing_there a.rules a.run.now a.at _ l.header l.segments l.end l.sofar c.starts_extended.result l.invariant.3 c.starts_extended.ensures _ (looked c)

pub overflow_add-from-in-Some : goal.overflow_add-from-in-Some
overflow_add-from-in-Some c = omega (arith, there (goal.at.overflow_add-from-in-Some c).In-Some)

pub slice_bounds-grown-count : goal.slice_bounds-grown-count
slice_bounds-grown-count c = omega (arith, there (goal.at.slice_bounds-grown-count c).In-Some)

pub slice_bounds-grown-start : goal.slice_bounds-grown-start
slice_bounds-grown-start c = omega (arith, there (goal.at.slice_bounds-grown-start c).In-Some)

pub slice_bounds-grown-end : goal.slice_bounds-grown-end
slice_bounds-grown-end c = omega (arith, there (goal.at.slice_bounds-grown-end c).In-Some)

pub grown-sofar-requires : goal.grown-sofar-requires
grown-sofar-requires c =
    let t = there (goal.at.grown-sofar-requires c).In-Some in
    omega (arith, t, part_length c.args.run.now (c.loop-absorbed.end + 6 + c.in-Some.absorbed.dropped) c.in-Some.absorbed.end t.1)

pub loop-absorbed-smaller : goal.loop-absorbed-smaller
loop-absorbed-smaller c = omega (arith, there (goal.at.loop-absorbed-smaller c).In-Some)

pub loop-absorbed-preserved : goal.loop-absorbed-preserved
loop-absorbed-preserved c =
    let a = c.args in
    let l = c.loop-absorbed in
    let s = a.run.now in
    let read = absorb a.rules s a.at a.head (first a.at a.seg_len ∷ []) in
    let b = c.in-Some.absorbed in
    let v = c.grown-sofar.result in
    let t = there (goal.at.loop-absorbed-preserved c).In-Some in
    let z : v.len ≡ l.sofar.len + (b.end - (l.end + 6 + b.dropped)) =
    absorbing_len a.rules s a.at read l.header l.segments l.end l.sofar c.starts_extended.result
    l.invariant.3 c.starts_extended.ensures _ b.end v t.1 c.grown-sofar.ensures in (
      t.1,
      omega arith,
      omega arith,
      absorbing_more a.rules s a.at read l.header l.segments l.end l.sofar c.starts_extended.result
          l.invariant.3 c.starts_extended.ensures _ v (looked (goal.at.loop-absorbed-preserved c).In-Some) c.grown-sofar.ensures,
    )

pub returns : goal.returns
returns c =
    let a = c.args in
    let l = c.loop-absorbed in
    sym
    (absorbing_finished a.rules a.run.now a.at _ l.header l.segments l.end l.sofar c.starts_extended.result
    l.invariant.3 c.starts_extended.ensures (sym (rw c.in_default.is at c.in_ok-absorbed.ensures)))
