-- `listing::list` meets its contract: the text that was put into no room says how long it is.
use Rattle.std.proofs.Common.{rules, Err}
use native.Mathlib.Omega.{arith}
use mathlib.Core.Path.{◌≡◌, sym}
use Rattle.listing.proofs.LayLaws.{lay_refused, lay_enough}
use Rattle.listing.proofs.list.Goals as goal

pub returns-in_err-room_for : goal.returns-in_err-room_for
returns-in_err-room_for c =
    let e : c.from_residual.result ≡ Err c.in_err-room_for.field-0.0 = search rules in
    rw e (lay_refused _ _ c.put_at_start-need.ensures (omega arith) _ (sym c.in_err-room_for.ensures))

pub returns : goal.returns
returns c = lay_enough _ _ c.put_at_start-need.ensures (omega arith) (sym c.in_ok-room_for.ensures) c.put_at_start.ensures
