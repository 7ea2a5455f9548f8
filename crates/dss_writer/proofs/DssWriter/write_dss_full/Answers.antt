-- `dss_writer::DssWriter::write_dss_full` meets its contract: the size counted is the written frame's, so the room that was
-- tested is the room that it needs, and what is laid into the tail stands in the room from the fill mark on.
use Prim.Native.Nat.{ℕ}
use native.Mathlib.Omega.{arith}
use mathlib.Core.Path.{◌≡◌, refl, sym, ap, ◌∙◌}
use Rattle.std.proofs.Common.{rules, Err}
use Rattle.wire.specs.Bytes.{splice}
use Rattle.wire.proofs.LentParts.{lent}
use Rattle.dss_frame.specs.Written.{head_of, written}
use Rattle.dss_writer.specs.Writer.{sent}
use Rattle.dss_writer.specs.inner.LaidUnder.{laid_under}
use Rattle.dss_writer.proofs.LayingLaws.{written_under, size_known, writes_done, writes_refused}
use Rattle.dss_writer.proofs.DssWriter.write_dss_full.Goals as goal

pub returns-in_err-room_for : goal.returns-in_err-room_for
returns-in_err-room_for c =
    let a = c.args in
    let f = sent a.self.correlation_id a.dss_type a.chained a.same_correlation a.payload.now in
    let size = size_known f c.frame_size-size.result (omega (arith, c)) c.frame_size-size.ensures in
    let e = writes_refused a.self f a.room.now _ size c.in_err-room_for.field-0.0 (sym c.in_err-room_for.ensures) in
    let r : c.from_residual.result ≡ Err c.in_err-room_for.field-0.0 = search rules in
    rw r e

pub returns : goal.returns
returns c =
    let a = c.args in
    let f = sent a.self.correlation_id a.dss_type a.chained a.same_correlation a.payload.now in
    let size = size_known f c.frame_size-size.result (omega (arith, c)) c.frame_size-size.ensures in
    let under : laid_under (head_of f c.raw_length.result) a.payload.now ≡ written f =
    ap (λ (n : ℕ). laid_under (head_of f n) a.payload.now) c.raw_length.ensures ∙ written_under f in
    let room = lent a.room.now a.self.fill c.lay_frame.new.room (laid_under (head_of f c.raw_length.result) a.payload.now) c.lay_frame.ensures ∙ ap (splice a.room.now a.self.fill) under in
    writes_done a.self f a.room.now _ size _ _ refl (sym c.in_ok-room_for.ensures) room
