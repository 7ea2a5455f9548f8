-- `gateway_object_rows::list` meets its contract: the row as it was filled, and the words that say so.
use mathlib.Core.Path.{sym}
use Rattle.gateway_object_rows.proofs.FillingLaws.{none_met}
use Rattle.gateway_object_rows.proofs.list.Goals as goal

pub returns-in-Err : goal.returns-in-Err
returns-in-Err c =
    rw c.in-Err.is (record { answers = c.put_refusal.ensures; row_is = sym (none_met c.args.«data».now c.args.row.now) })
