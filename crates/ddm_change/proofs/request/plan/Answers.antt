-- `ddm_change::request::plan` meets its contract: the refusals of reading the one frame, and by what `plan_object` ensures.
use Rattle.std.proofs.lemmas.Result.{err_from_is_err_and}
use mathlib.Core.Path.{sym}
use Rattle.ddm_change.proofs.PlanFrame.{request_refused, standing}
use Rattle.ddm_change.proofs.request.plan.Goals as goal

pub returns-in_err-alone : goal.returns-in_err-alone
returns-in_err-alone c =
    let a = c.args in
    let p = err_from_is_err_and c.from_residual.result c.from_residual.ensures.1 in
    rw (p.1, p.2) (λ new e. request_refused a.frame.now _ (sym c.in_err-alone.ensures) a.code_point new)

pub plan_object-requires : goal.plan_object-requires
plan_object-requires c = standing c.args.frame.now _ (sym c.in_ok-alone.ensures)
