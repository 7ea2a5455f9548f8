-- `ddm_builder::DdmBuilder::add_raw` meets its contract: it goes by what the test for room says.
use mathlib.Core.Path.{refl, sym}
use Rattle.std.proofs.lemmas.Result.{err_from_is_err_and}
use Rattle.ddm_length.proofs.LentData.{lent_laid}
use Rattle.ddm_builder.proofs.AddingLaws.{enough_fits, adds_enough, adds_refused}
use Rattle.ddm_builder.proofs.DdmBuilder.add_raw.Goals as goal

pub returns-in_err-room_for : goal.returns-in_err-room_for
returns-in_err-room_for c =
    let s = c.args in
    let p = err_from_is_err_and c.from_residual.result c.from_residual.ensures.1 in
    rw (p.1, p.2) (adds_refused s.self s.«data».now s.room.now _ _ refl (sym c.in_err-room_for.ensures))

pub returns : goal.returns
returns c =
    let s = c.args in
    adds_enough s.self s.«data».now s.room.now _ _ refl (sym c.in_ok-room_for.ensures)
    (lent_laid _ _ _ _ (enough_fits _ _ _ (sym c.in_ok-room_for.ensures)).0 c.copy.ensures)
