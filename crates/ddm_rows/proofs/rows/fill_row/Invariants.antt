-- `ddm_rows::rows::fill_row` meets its contract. The invariant: the records stored so far, and what still stands behind them.
use lib.ListN.{take}
use Rattle.ddm_rows.proofs.ObjectFilling.{FillingObjects}
use Rattle.ddm_rows.proofs.rows.fill_row.Given as goal

abbrev pub invariant-loop-slot : goal.invariant-loop-slot
invariant-loop-slot l = FillingObjects l.«data» l.n (take l.n l.fn.row) l.slot-index l.at l.slot-items
