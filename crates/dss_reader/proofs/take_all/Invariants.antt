-- `dss_reader::take_all` meets its contract. The loop's invariant: the room with the payloads that are left laid down from the mark on
-- is the one that is to come. The measure is what is left of the run.
use Prim.Native.Nat.{◌-◌}
use lib.ListN.{length}
use Rattle.wire.specs.Bytes.{splice}
use Rattle.dss_frame.specs.Frames.{all_frames}
use Rattle.dss_reader.specs.inner.TakingAll.{all_payloads}
use Rattle.dss_reader.proofs.TakingFrames.{TakingAll}
use Rattle.dss_reader.proofs.take_all.Given as goal

abbrev pub invariant-loop-measure : goal.invariant-loop-measure
invariant-loop-measure l = TakingAll l.run (splice l.initial.room 0 (all_payloads l.run (all_frames l.run l.from))) l.room l.at l.mark

abbrev pub decreases-loop-measure : goal.decreases-loop-measure
decreases-loop-measure l = length l.run - l.at
