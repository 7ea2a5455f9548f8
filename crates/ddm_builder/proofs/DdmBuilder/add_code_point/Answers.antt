-- `ddm_builder::DdmBuilder::add_code_point` meets its contract: it goes by what the test for room says.
use native.Mathlib.Omega.{arith}
use mathlib.Core.Path.{sym, ◌∙◌}
use lib.ListN.{length}
use Rattle.std.proofs.lemmas.Result.{err_from_is_err_and}
use Rattle.ddm_length.proofs.LentData.{lent_laid}
use Rattle.ddm_builder.proofs.BuiltForms.{few_bytes, length_built}
use Rattle.ddm_builder.proofs.AddingLaws.{enough_fits, adds_enough, adds_refused}
use Rattle.ddm_builder.proofs.DdmBuilder.add_code_point.Goals as goal

pub overflow_add-need : goal.overflow_add-need
overflow_add-need c =
    omega (arith, c.serialized_header_len.ensures, few_bytes (length c.args.«data».now), c.well_formed)

pub returns-in_err-room_for : goal.returns-in_err-room_for
returns-in_err-room_for c =
    let s = c.args in
    let p = err_from_is_err_and c.from_residual.result c.from_residual.ensures.1 in
    rw (p.1, p.2)
    (adds_refused s.self _ s.room.now _ _ (length_built s.cp s.«data».now ∙ omega (arith, c.serialized_header_len.ensures))
    (sym c.in_err-room_for.ensures))

pub returns : goal.returns
returns c =
    let s = c.args in
    adds_enough s.self _ s.room.now _ _ (length_built s.cp s.«data».now ∙ omega (arith, c.serialized_header_len.ensures))
    (sym c.in_ok-room_for.ensures)
    (lent_laid _ _ _ _ (enough_fits _ _ _ (sym c.in_ok-room_for.ensures)).0 c.lay_object.ensures)
