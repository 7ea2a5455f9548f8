-- `ddm_change::request::alone` meets its contract: what the walk and the head come to.
use Rattle.std.specs.Prelude.{Err}
use Rattle.std.proofs.lemmas.Result.{err_from_is_err_and}
use native.Mathlib.Omega.{arith}
use mathlib.Core.Path.{sym, ap, ◌∙◌}
use Rattle.ddm_change.proofs.AloneLaws.{alone_not_whole, alone_refused, alone_length, alone_stands}
use Rattle.ddm_change.proofs.request.alone.Goals as goal

pub returns-in_err-end : goal.returns-in_err-end
returns-in_err-end c =
    let p = err_from_is_err_and c.from_residual.result c.from_residual.ensures.1 in
    rw (p.1, p.2) (sym (alone_not_whole c.args.frame.now _ (sym c.in_err-end.ensures)))

pub returns-in_err-head_at : goal.returns-in_err-head_at
returns-in_err-head_at c =
    let p = err_from_is_err_and c.from_residual-in_err-head_at.result c.from_residual-in_err-head_at.ensures.1 in
    rw (p.1, p.2) (sym (alone_refused c.args.frame.now _ (sym c.in_ok-end.ensures) _ c.in_err-head_at.ensures))

pub returns-then-from-lt-DSS_HEADER_LEN : goal.returns-then-from-lt-DSS_HEADER_LEN
returns-then-from-lt-DSS_HEADER_LEN c =
    ap Err c.at.ensures
    ∙ sym (alone_length c.args.frame.now _ (sym c.in_ok-end.ensures) _ c.in_ok-head_at.ensures _ c.u16_at-raw.ensures (omega (arith, c.from.ensures, c.if-from-lt-DSS_HEADER_LEN.true)))

pub returns : goal.returns
returns c =
    sym (alone_stands c.args.frame.now _ (sym c.in_ok-end.ensures) _ c.in_ok-head_at.ensures _ c.u16_at-raw.ensures (omega (arith, c.from.ensures, c.if-from-lt-DSS_HEADER_LEN.false)))
