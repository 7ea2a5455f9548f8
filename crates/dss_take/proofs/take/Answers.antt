-- `dss_take::take` meets its contract: each return is one of the laws of what taking answers, by what measuring answered.
use Rattle.std.proofs.Common.{rules}
use Rattle.std.specs.Prelude.{Err}
use mathlib.Core.Path.{◌≡◌, sym}
use Rattle.dss_measure.proofs.Measures.{measures}
use Rattle.dss_take.proofs.TakeAnswers.{takes_refusal, takes_typed, takes_short, takes_fits, takes_size, takes_frame}
use Rattle.dss_take.proofs.take.Goals as goal

pub returns-then-room-need : goal.returns-then-room-need
returns-then-room-need c = rw c.no_room.ensures (takes_short (measures _ _ _ _ (sym c.in_ok-frame.ensures)) c.if-room-need.true)

pub copy_frame-requires : goal.copy_frame-requires
copy_frame-requires c =
    let m = measures _ _ _ _ (sym c.in_ok-frame.ensures) in
    (takes_fits m c.if-room-need.false, takes_typed m, takes_size m)

pub returns-in_err-frame : goal.returns-in_err-frame
returns-in_err-frame c =
    let r : c.from_residual.result ≡ Err c.in_err-frame.field-0.0 = search rules in
    rw r (takes_refusal _ _ _ _ _ (sym c.in_err-frame.ensures))

pub returns : goal.returns
returns c = takes_frame (measures _ _ _ _ (sym c.in_ok-frame.ensures)) c.if-room-need.false c.copy_frame.ensures
