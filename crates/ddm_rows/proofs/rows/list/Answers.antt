-- `ddm_rows::rows::list` meets its contract: what is laid down first, then the row.
use Rattle.ddm_rows.proofs.ObjectRowLaws.{lists_found}
use Rattle.ddm_rows.proofs.rows.list.Goals as goal

pub returns : goal.returns
returns c =
    let s = c.args in
    lists_found s.«data».now s.work.now s.row.now s.found c.in_ok-take_listed.field-0 _ _ c.requires c.in_ok-take_listed.ensures c.fill_row.ensures
