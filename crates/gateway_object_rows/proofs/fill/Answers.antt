-- `gateway_object_rows::fill` meets its contract. The invariant: so many records are met, and stand in the row.
use mathlib.Core.Path.{sym}
use Rattle.gateway_object_rows.proofs.FillingLaws.{filling_start, filling_step, filling_ends, filling_done}
use Rattle.gateway_object_rows.proofs.fill.Goals as goal

pub loop-i-init : goal.loop-i-init
loop-i-init c = filling_start _ _ _ c.requires

pub loop-i-preserved : goal.loop-i-preserved
loop-i-preserved c =
    filling_step _ _ _ _ _ _ c.loop-i.invariant c.loop-i-test.true _ _ _ (sym c.in-Ok.ensures) c.put_object.ensures.words_are

pub returns-in_default : goal.returns-in_default
returns-in_default c =
    filling_ends _ _ _ _ _ _ c.loop-i.invariant c.loop-i-test.true _ (sym c.in_default.ensures)

pub returns-after-loop-i : goal.returns-after-loop-i
returns-after-loop-i c = filling_done _ _ _ _ _ _ c.loop-i.invariant c.loop-i-test.false
