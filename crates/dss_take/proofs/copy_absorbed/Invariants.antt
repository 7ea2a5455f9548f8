-- The loop's invariant: the frame is what is read on from segments that end at the present place and whose payload stands at the
-- room's start, and what is left of the payload, laid over the room as it is, gives the room at the end. The measure is what is
-- left of the run.
use Prim.Native.Nat.{◌-◌}
use lib.ListN.{length, drop}
use Rattle.wire.specs.Bytes.{splice}
use Rattle.dss_take.specs.Take.{payload_at}
use Rattle.dss_take.proofs.PayloadLaws.{LayingChunks}
use Rattle.dss_take.proofs.TakingLaws.{TakingFrame}
use Rattle.dss_take.proofs.copy_absorbed.Given as goal

abbrev pub invariant-loop-fill : goal.invariant-loop-fill
invariant-loop-fill l =
    let p = payload_at l.rules l.run l.at in
    TakingFrame l.rules l.run l.at l.first l.end l.fill
    × LayingChunks p (splice l.initial.room l.initial.fill (drop l.initial.fill p)) l.room l.fill

abbrev pub decreases-loop-fill : goal.decreases-loop-fill
decreases-loop-fill l = length l.run - l.end
