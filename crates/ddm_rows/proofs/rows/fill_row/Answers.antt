-- `ddm_rows::rows::fill_row` meets its contract: the laws of the loop's state, by what each step says.
use native.Mathlib.Omega.{arith}
use mathlib.Core.Path.{◌≡◌, sym}
use lib.ListN.{length, take}
use lib.Seq.{length-take-le}
use Rattle.std.proofs.lemmas.List.{set-get_or}
use Rattle.ddm_rows.proofs.ObjectFilling.{filling_start, filling_step, filling_full, filling_stops}
use Rattle.ddm_rows.proofs.rows.fill_row.Goals as goal

pub loop-slot-init : goal.loop-slot-init
loop-slot-init c = filling_start _ _ _

pub loop-slot-preserved : goal.loop-slot-preserved
loop-slot-preserved c =
    let part : length (take c.args.n c.args.row.now) ≡ c.args.n = length-take-le c.args.n c.args.row.now c.requires in
    filling_step _ _ _ _ _ _ c.loop-slot.invariant _ _ (omega arith) (omega (arith, c.loop-slot-test.true)) (sym c.in-Ok.ensures)

pub returns-after-loop-slot : goal.returns-after-loop-slot
returns-after-loop-slot c =
    let part : length (take c.args.n c.args.row.now) ≡ c.args.n = length-take-le c.args.n c.args.row.now c.requires in
    filling_full _ _ _ _ _ _ c.loop-slot.invariant (omega (arith, c.loop-slot-test.false))

pub returns-in_default : goal.returns-in_default
returns-in_default c =
    rw set-get_or (filling_stops _ _ _ _ _ _ c.loop-slot.invariant _ (sym c.in_default.ensures))
