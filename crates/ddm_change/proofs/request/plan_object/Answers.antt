-- `ddm_change::request::plan_object` meets its contract: by what the one object is measured as, and what is left over behind it or the
-- frame.
use native.Mathlib.Omega.{arith}
use mathlib.Core.Path.{refl, sym, ◌∙◌}
use lib.Seq.{length-take-le}
use Rattle.ddm_change.proofs.FramesCarried.{carriage_in}
use Rattle.ddm_change.proofs.PlanFrame.{standing_some, decides}
use Rattle.ddm_change.proofs.PlanObject.{refused_behind, refused_object, object_over, object_behind, object_raw, object_data}
use Rattle.ddm_change.proofs.request.plan_object.Goals as goal

pub overflow_sub-by : goal.overflow_sub-by
overflow_sub-by c = let a = c.args in standing_some a.frame.now a.alone.end a.alone.segments c.requires

pub slice_bounds-payload-end : goal.slice_bounds-payload-end
slice_bounds-payload-end c =
    let a = c.args in sym (length-take-le a.alone.end a.frame.now (decides a.frame.now a.alone.end a.alone.segments c.requires).within)

pub invariant_of-payload : goal.invariant_of-payload
invariant_of-payload c = let a = c.args in record { sound = (decides a.frame.now a.alone.end a.alone.segments c.requires).sound }

pub returns-then-total-len : goal.returns-then-total-len
returns-then-total-len c =
    let a = c.args in
    let d = decides a.frame.now a.alone.end a.alone.segments c.requires in
    rw (c.at.ensures, c.place_of.ensures)
    (λ new q. object_over a.frame.now a.alone.end (carriage_in a.alone.segments) d _ _ (sym c.in-Ok.ensures) (omega (arith, c.len.ensures, c.if-total-len.true)) a.code_point new)

pub returns-then-behind : goal.returns-then-behind
returns-then-behind c =
    let a = c.args in
    let d = decides a.frame.now a.alone.end a.alone.segments c.requires in
    rw c.at-then-behind.ensures
    (λ new q. object_behind a.frame.now a.alone.end (carriage_in a.alone.segments) d _ _ (sym c.in-Ok.ensures) (omega (arith, c.len.ensures, c.if-total-len.false))
    c.if-behind.true a.code_point new)

pub returns-then-u16_in : goal.returns-then-u16_in
returns-then-u16_in c =
    let a = c.args in
    let d = decides a.frame.now a.alone.end a.alone.segments c.requires in
    rw c.at-then-u16_in.ensures
    (λ new q. object_raw a.frame.now a.alone.end (carriage_in a.alone.segments) d _ _ (sym c.in-Ok.ensures) (omega (arith, c.len.ensures, c.if-total-len.false))
    c.if-behind.false refl (sym c.u16_in.ensures ∙ c.if-u16_in.true) a.code_point new)

pub plan_change-requires : goal.plan_change-requires
plan_change-requires c =
    let a = c.args in
    let d = decides a.frame.now a.alone.end a.alone.segments c.requires in
    object_data a.frame.now a.alone.end (carriage_in a.alone.segments) d _ _ (sym c.in-Ok.ensures) (omega (arith, c.len.ensures, c.if-total-len.false))
    c.if-behind.false refl (λ q. c.if-u16_in.false (c.u16_in.ensures ∙ q))

pub returns-in-Err : goal.returns-in-Err
returns-in-Err c =
    let a = c.args in
    let d = decides a.frame.now a.alone.end a.alone.segments c.requires in
    rw c.at-in-Err.ensures
    (λ new q. refused_behind a.frame.now a.alone.end (carriage_in a.alone.segments) d _ (sym c.in-Err.ensures) a.code_point new c.if-behind-2.true)

pub returns-in-Err-2 : goal.returns-in-Err-2
returns-in-Err-2 c =
    let a = c.args in
    let d = decides a.frame.now a.alone.end a.alone.segments c.requires in
    λ new q. refused_object a.frame.now a.alone.end (carriage_in a.alone.segments) d _ (sym c.in-Err.ensures) a.code_point new c.if-behind-2.false
