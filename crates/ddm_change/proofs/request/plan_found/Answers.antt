-- `ddm_change::request::plan_found` meets its contract: the lengths after, as far as they can be counted.
use Prim.Native.Nat.{ℕ, ◌+◌, ◌-◌}
use native.Mathlib.Omega.{arith}
use mathlib.Core.Path.{◌≡◌, refl, sym, ap, ◌∙◌}
use lib.ListN.{length}
use Rattle.answer.specs.Rooms.{capped}
use Rattle.ddm_builder.specs.Built.{built_size}
use Rattle.ddm_change.specs.inner.Carried.{carried}
use Rattle.ddm_change.proofs.CarriedLaws.{carried_length}
use Rattle.ddm_change.proofs.PlanSizes.{capped_built, found_unreadable, found_laying}
use Rattle.ddm_change.proofs.request.plan_found.Goals as goal

pub overflow_add-from : goal.overflow_add-from
overflow_add-from c =
    let p = c.args.payload in
    let f = c.requires in
    omega (arith, f.ordered, f.inside, carried_length p.by p.run.now p.sound)

pub overflow_add-to : goal.overflow_add-to
overflow_add-to c =
    let p = c.args.payload in
    let f = c.requires in
    omega (arith, f.inside, carried_length p.by p.run.now p.sound)

pub returns-then-is_unreadable : goal.returns-then-is_unreadable
returns-then-is_unreadable c =
    let a = c.args in
    let p = a.payload in
    let v = carried p.by p.run.now in
    let z : a.spot.from + (c.len.result - (a.first + a.spot.to)) + built_size (length a.new.now)
    ≡ (a.first + a.spot.from) - a.first + (length v - (a.first + a.spot.to)) + built_size (length a.new.now) = omega (arith, c.len.ensures) in
    rw c.at.ensures
    (found_unreadable p.run.now p.by p.sound a.first (a.first + a.spot.from) (a.first + a.spot.to) a.code_point c.requires (length a.new.now) (omega arith) (omega arith)
    _ _ (c.changed_len-data_len.ensures ∙ ap capped z) c.built_size-payload_len.ensures (sym c.is_unreadable.ensures ∙ c.if-is_unreadable.true))

pub returns : goal.returns
returns c =
    let a = c.args in
    let p = a.payload in
    let v = carried p.by p.run.now in
    let f = c.requires in
    let z : a.spot.from + (c.len.result - (a.first + a.spot.to)) + built_size (length a.new.now)
    ≡ (a.first + a.spot.from) - a.first + (length v - (a.first + a.spot.to)) + built_size (length a.new.now) = omega (arith, c.len.ensures) in
    let size = c.changed_len-data_len.ensures ∙ ap capped z in
    record {
      frame_is = refl;
      led = f.one.led;
      behind = f.behind;
      ordered = f.ordered;
      inside = f.inside;
      data_size_is = size;
      size = c.built_size-payload_len.ensures ∙ ap (λ (x : ℕ). capped (built_size x)) size ∙ capped_built _;
      comes = found_laying p.run.now p.by p.sound a.first (a.first + a.spot.from) (a.first + a.spot.to) a.code_point f (length a.new.now) (omega arith) (omega arith)
          _ _ size c.built_size-payload_len.ensures c.u16_in.result c.u16_in.ensures (sym c.is_unreadable.ensures ∙ c.if-is_unreadable.false);
    }
