-- `ddm_builder::lay_object_or_refuse` meets its contract: the length is known first, and nothing is laid down unless it fits.
use native.Mathlib.Omega.{arith}
use mathlib.Core.Path.{◌∙◌}
use lib.ListN.{length}
use Rattle.ddm_builder.proofs.BuiltForms.{few_bytes, length_built}
use Rattle.ddm_builder.proofs.AddingLaws.{lays_enough, lays_refused}
use Rattle.ddm_builder.proofs.lay_object_or_refuse.Goals as goal

pub overflow_add-need : goal.overflow_add-need
overflow_add-need c =
    omega (arith, c.serialized_header_len.ensures, few_bytes (length c.args.«data».now), c.well_formed)

pub returns-then-room-need : goal.returns-then-room-need
returns-then-room-need c =
    let t = c in
    let s = t.args in
    let n = t.serialized_header_len in
    rw c.no_room.ensures (lays_refused s.place _ s.room.now _ (length_built s.cp s.«data».now ∙ omega (arith, n.ensures)) t.if-room-need.true)

pub returns : goal.returns
returns c =
    let s = c.args in
    lays_enough s.place _ s.room.now _ (length_built s.cp s.«data».now ∙ omega (arith, c.serialized_header_len.ensures)) _ c.if-room-need.false
    c.lay_object.ensures
