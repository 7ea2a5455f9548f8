-- `ddm_builder::DdmBuilder::build` meets its contract: the mark is tested first, then the room.
use Rattle.std.specs.Prelude.{Err}
use mathlib.Core.Path.{sym, ap, ◌∙◌}
use lib.Seq.{length-take-le}
use borrow.Author.Tests.{le-leb, lt-leb}
use Rattle.wire.proofs.WireLaws.{pick_yes, pick_no}
use Rattle.ddm_builder.proofs.DdmBuilder.build.Goals as goal

pub returns-then-content-fill : goal.returns-then-content-fill
returns-then-content-fill c =
    let over = lt-leb _ _ c.if-content-fill.true in
    record { answers = ap Err c.out_of_bounds.ensures ∙ sym (pick_no _ _ over); room_is = sym (pick_no _ _ over) }

pub slice_bounds-lay_object_or_refuse-end : goal.slice_bounds-lay_object_or_refuse-end
slice_bounds-lay_object_or_refuse-end c =
    let s = c.args in
    sym (length-take-le s.self.fill s.content.now c.if-content-fill.false)

pub returns : goal.returns
returns c =
    let l = c.lay_object_or_refuse.ensures in
    let within = le-leb _ _ c.if-content-fill.false in
    record { answers = l.answers ∙ sym (pick_yes _ _ within); room_is = l.room_is ∙ sym (pick_yes _ _ within) }
