-- `ddm_rows::take_objects` meets its contract: where something was measured of all objects, they are the parameters.
use mathlib.Core.Path.{sym, ◌∙◌, ap, subst}
use Rattle.std.proofs.lemmas.Result.{err_from_is_err_and}
use Rattle.ddm_rows.specs.ListCalls.{measured_objects}
use Rattle.ddm_rows.specs.ObjectRows.{TakesWork}
use Rattle.ddm_rows.proofs.ObjectRowLaws.{measured_all, takes_refused}
use Rattle.ddm_rows.proofs.take_objects.Goals as goal

pub returns-in_err-found : goal.returns-in_err-found
returns-in_err-found c =
    let s = c.args in
    let p = err_from_is_err_and c.from_residual.result c.from_residual.ensures.1 in
    rw (p.1, p.2) (takes_refused s.run.now _ s.work.now s.rows _ (sym c.in_err-found.ensures))

pub take_listed-requires : goal.take_listed-requires
take_listed-requires c =
    let s = c.args.run.now in
    c.in_ok-found.ensures ∙ ap (measured_objects s) (measured_all s _ (sym c.in_ok-found.ensures))

pub returns : goal.returns
returns c =
    let s = c.args in
    subst (λ x. TakesWork s.run.now x s.work.now s.rows c.take_listed.result c.take_listed.new.work) (sym (measured_all s.run.now _ (sym c.in_ok-found.ensures))) c.take_listed.ensures
