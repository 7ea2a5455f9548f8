-- `dss_salvage_call::lay_payloads` meets its contract. The loop's invariant: what is left of the payloads fits behind those that are
-- laid, and laid there gives the room at the end. The measure is what is left of the run.
use Prim.Native.Nat.{◌-◌}
use lib.ListN.{length}
use Rattle.wire.specs.Bytes.{splice}
use Rattle.dss_salvage_call.specs.inner.SalvageGathered.{bytes_in}
use Rattle.dss_salvage_call.proofs.LayingEntries.{LayingEntry}
use Rattle.dss_salvage_call.proofs.lay_payloads.Given as goal

abbrev pub invariant-loop-measure : goal.invariant-loop-measure
invariant-loop-measure l = LayingEntry l.run (splice l.initial.room 0 (bytes_in l.run)) l.room l.at l.filled

abbrev pub decreases-loop-measure : goal.decreases-loop-measure
decreases-loop-measure l = length l.run - l.at
