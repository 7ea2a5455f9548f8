-- `gateway_frames::take_frames` meets its contract: one is left, so that one is taken, and its record is laid behind those before it.
use Prim.Native.Nat.{ℕ, ◌+◌, ◌*◌, ◌-◌, ◌<◌}
use native.Mathlib.Omega.{arith}
use mathlib.Core.Path.{ap, ◌∙◌}
use Rattle.wire.specs.Bytes.{laid}
use Rattle.dss_frame.specs.declared.DssFrame.{DssFrame}
use Rattle.gateway_row.specs.RowWords.{record_words, record_len}
use Rattle.gateway_row.proofs.LaidWords.{part_of}
use Rattle.gateway_frames.proofs.RecordLaws.{taking_starts, taking_ends, taking_stays, taking_one, taking_at}
use mathlib.Core.Path.{refl}
use Rattle.gateway_frames.proofs.take_frames.Goals as goal

pub loop-i-init : goal.loop-i-init
loop-i-init c = taking_at _ _ _ _ (omega arith) (omega arith) (taking_starts _ _ _ _ _ c.requires)

pub returns-in_default : goal.returns-in_default
returns-in_default c = absurd (taking_stays c.loop-i.invariant (omega arith) _ _ _ c.in_default.ensures refl)

pub loop-i-preserved : goal.loop-i-preserved
loop-i-preserved c =
    let l = c.loop-i in
    let n : ℕ = l.i * record_len in
    let h : 0 < c.args.count - l.i = omega arith in
    taking_at (n + record_len) _ (c.args.count - l.i - 1) _ (omega arith) (omega arith)
    (taking_one l.invariant h _ _ _ c.in-Ok.ensures refl _
    (c.put_record.ensures ∙ ap (λ (d : DssFrame). laid (part_of l.row n (n + record_len)) 0 (record_words d)) c.record-record.ensures))

pub returns : goal.returns
returns c = let e = taking_ends c.loop-i.invariant (omega arith) in record { room_is = e.0; row_is = e.1 }
