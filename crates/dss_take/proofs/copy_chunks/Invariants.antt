-- The loop's invariant: what is left of the payload is that of the walk from the present place on, and laid over the room as it is
-- it gives the room at the end. The measure is what is left of the run.
use Prim.Native.Nat.{◌-◌}
use lib.ListN.{length, drop}
use Rattle.wire.specs.Bytes.{splice}
use Rattle.dss_take.specs.Take.{payload_at}
use Rattle.dss_take.proofs.PayloadLaws.{LayingChunks}
use Rattle.dss_take.proofs.TakenChunks.{WalkingChunks}
use Rattle.dss_take.proofs.copy_chunks.Given as goal

abbrev pub invariant-loop-end : goal.invariant-loop-end
invariant-loop-end l =
    let p = payload_at l.rules l.run l.at in
    WalkingChunks l.rules l.run p l.from l.fill × LayingChunks p (splice l.initial.room l.initial.fill (drop l.initial.fill p)) l.room l.fill

abbrev pub decreases-loop-end : goal.decreases-loop-end
decreases-loop-end l = length l.run - l.from
