-- `ddm_rows::parse_ddm_objects` meets its contract: where something was measured of all objects, they are listed as the parameters are.
use mathlib.Core.Path.{sym, ◌∙◌, ap}
use Rattle.std.proofs.lemmas.Result.{err_from_is_err_and}
use Rattle.ddm_rows.specs.ListCalls.{measured_objects}
use Rattle.ddm_rows.proofs.ObjectRowLaws.{measured_all, lists_refused, lists_all}
use Rattle.ddm_rows.proofs.parse_ddm_objects.Goals as goal

pub returns-in_err-found : goal.returns-in_err-found
returns-in_err-found c =
    let s = c.args in
    let p = err_from_is_err_and c.from_residual.result c.from_residual.ensures.1 in
    rw (p.1, p.2) (lists_refused s.bytes.now s.work.now s.row.now _ (sym c.in_err-found.ensures))

pub list-requires : goal.list-requires
list-requires c =
    let s = c.args.bytes.now in
    c.in_ok-found.ensures ∙ ap (measured_objects s) (measured_all s _ (sym c.in_ok-found.ensures))

pub returns : goal.returns
returns c =
    let s = c.args in
    lists_all s.bytes.now s.work.now s.row.now _ _ _ _ (sym c.in_ok-found.ensures) c.list.ensures
