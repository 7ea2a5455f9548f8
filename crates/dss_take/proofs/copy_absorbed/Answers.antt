-- `dss_take::copy_absorbed` meets its contract: the first segment's payload, and what each segment that is absorbed adds.
use Rattle.std.proofs.Common.{rules}
use Rattle.std.specs.Prelude.{None, Ok}
use Prim.Native.Nat.{ℕ, ◌+◌, ◌-◌}
use native.Mathlib.Omega.{arith}
use mathlib.Core.Path.{◌≡◌, refl, sym, ap, ◌∙◌}
use Rattle.dss_frame.specs.Reading.{starts_extended}
use Rattle.dss_take.specs.Take.{payload_at}
use Rattle.dss_take.proofs.PayloadLaws.{Next, payload_fits, laying_none, laying_on, laying_all, laying_room, laying_more}
use Rattle.dss_take.proofs.TakingLaws.{TakingFrame, taking_first, taking_finished, taking_refused, taking_absorbs}
use Rattle.dss_take.proofs.copy_absorbed.Goals as goal
use Rattle.dss_take.proofs.copy_absorbed.Goals.{After-from-seg_len, In-Ok-Some}

-- ---- the first segment

first_part : (c : After-from-seg_len)
    → Next c.args.run.now (payload_at c.args.rules c.args.run.now c.args.at) 0 (c.args.at + 6) (c.args.at + c.from-seg_len.result)
    × TakingFrame c.args.rules c.args.run.now c.args.at c.args.first (c.args.at + c.from-seg_len.result) (c.from-seg_len.result - 6)
first_part c = taking_first c.requires.0 c.requires.1 (c.from-seg_len.ensures ∙ c.u16_at.ensures) c.requires.2

pub overflow_sub-fill : goal.overflow_sub-fill
overflow_sub-fill c =
    let n = (first_part (goal.at.overflow_sub-fill c).After-from-seg_len).0 in
    omega (arith, n.order)

pub overflow_add-at : goal.overflow_add-at
overflow_add-at c =
    let n = (first_part (goal.at.overflow_add-at c).After-from-seg_len).0 in
    omega (arith, n.order, n.there)

pub copy_part-requires : goal.copy_part-requires
copy_part-requires c =
    let a = c.args in
    let n = (first_part (goal.at.copy_part-requires c).After-from-seg_len).0 in
    (n.order, n.there, laying_room (laying_none (payload_at a.rules a.run.now a.at) a.room.now (payload_fits c.requires.0)) n)

pub loop-fill-init : goal.loop-fill-init
loop-fill-init c =
    let a = c.args in
    let f = first_part (goal.at.loop-fill-init c).After-from-seg_len in
    let none = laying_none (payload_at a.rules a.run.now a.at) a.room.now (payload_fits c.requires.0) in
    (f.1, laying_on (laying_more none f.0 _ (c.from-seg_len.result - 6) c.copy_part.ensures (omega (arith, f.0.order))))

-- ---- a turn

pub returns-in_default : goal.returns-in_default
returns-in_default c =
    let a = c.args in
    let i = c.loop-fill.invariant in
    let n = (first_part (goal.at.returns-in_default c).After-from-seg_len).0 in
    let none = laying_none (payload_at a.rules a.run.now a.at) a.room.now (payload_fits c.requires.0) in
    let e : c.in_default.field-0 ≡ None = search rules in
    laying_all i.1 (taking_finished c.requires.0 i.0 (c.starts_extended-extended.ensures ∙ ap starts_extended i.1.holds) (sym c.look_behind.ensures ∙ c.in_default.is ∙ ap Ok e))
    ∙ (laying_more none n _ (c.from-seg_len.result - 6) c.copy_part.ensures (omega (arith, n.order))).gives

-- a frame is read, so that no head is refused
pub returns-in_default-2 : goal.returns-in_default-2
returns-in_default-2 c =
    let i = c.loop-fill.invariant in
    absurd
    (taking_refused c.requires.0 i.0 (c.starts_extended-extended.ensures ∙ ap starts_extended i.1.holds) _ (sym c.look_behind.ensures ∙ c.in_default.is))

-- a segment is absorbed
more : (c : In-Ok-Some)
    → (let from : ℕ = c.loop-fill.end + 6 + c.in-Ok-Some.absorbed.dropped in
    Next c.args.run.now (payload_at c.args.rules c.args.run.now c.args.at) c.loop-fill.fill from c.in-Ok-Some.absorbed.end
    × TakingFrame c.args.rules c.args.run.now c.args.at c.args.first c.in-Ok-Some.absorbed.end (c.loop-fill.fill + (c.in-Ok-Some.absorbed.end - from)))
more c =
    let i = c.loop-fill.invariant in
    taking_absorbs c.requires.0 i.0 (c.starts_extended-extended.ensures ∙ ap starts_extended i.1.holds) (sym (rw c.in-Ok-Some.field-0-is at c.in-Ok-Some.ensures))

pub overflow_add-from : goal.overflow_add-from
overflow_add-from c =
    let n = (more (goal.at.overflow_add-from c).In-Ok-Some).0 in
    omega (arith, n.order, n.there)

pub overflow_add-from-in-loop-fill : goal.overflow_add-from-in-loop-fill
overflow_add-from-in-loop-fill c =
    let n = (more (goal.at.overflow_add-from-in-loop-fill c).In-Ok-Some).0 in
    omega (arith, n.order, n.there)

pub copy_part-requires-in-loop-fill : goal.copy_part-requires-in-loop-fill
copy_part-requires-in-loop-fill c =
    let i = c.loop-fill.invariant in
    let n = (more (goal.at.copy_part-requires-in-loop-fill c).In-Ok-Some).0 in
    (n.order, n.there, laying_room i.1 n)

pub overflow_sub-fill-in-loop-fill : goal.overflow_sub-fill-in-loop-fill
overflow_sub-fill-in-loop-fill c =
    let n = (more (goal.at.overflow_sub-fill-in-loop-fill c).In-Ok-Some).0 in
    n.order

pub overflow_add-fill : goal.overflow_add-fill
overflow_add-fill c =
    let i = c.loop-fill.invariant in
    let n = (more (goal.at.overflow_add-fill c).In-Ok-Some).0 in
    let z = laying_more i.1 n _ _ c.copy_part-in-loop-fill.ensures refl in
    omega (arith, z.few, payload_fits c.requires.0, c)

pub loop-fill-smaller : goal.loop-fill-smaller
loop-fill-smaller c =
    let n = (more (goal.at.loop-fill-smaller c).In-Ok-Some).0 in
    omega (arith, n.order, n.there)

pub loop-fill-preserved : goal.loop-fill-preserved
loop-fill-preserved c =
    let i = c.loop-fill.invariant in
    let t = more (goal.at.loop-fill-preserved c).In-Ok-Some in
    (t.1, laying_more i.1 t.0 _ _ c.copy_part-in-loop-fill.ensures refl)

-- ---- all of it is there

pub returns : goal.returns
returns c =
    let a = c.args in
    let i = c.loop-fill.invariant in
    let n = (first_part (goal.at.returns c).After-from-seg_len).0 in
    let none = laying_none (payload_at a.rules a.run.now a.at) a.room.now (payload_fits c.requires.0) in
    laying_all i.1 (omega (arith, i.1.few, c.requires.3))
    ∙ (laying_more none n _ (c.from-seg_len.result - 6) c.copy_part.ensures (omega (arith, n.order))).gives
