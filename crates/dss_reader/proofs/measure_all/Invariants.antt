-- `dss_reader::measure_all` meets its contract. The loop's invariant: the frames from the first place come to those from the present
-- one, behind the frames and the payload so far. The measure is what is left of the run.
use Prim.Native.Nat.{◌-◌, ◌≤◌}
use mathlib.Core.Path.{◌≡◌}
use lib.ListN.{length}
use Rattle.dss_reader.specs.inner.MeasuredAll.{measured_frames}
use Rattle.dss_reader.proofs.MeasuredFrames.{adds_all}
use Rattle.dss_reader.proofs.measure_all.Given as goal

abbrev pub invariant-loop-extent : goal.invariant-loop-extent
invariant-loop-extent l = (l.count ≤ l.end) × (l.bytes ≤ l.end) × (measured_frames l.run l.from ≡ adds_all l.count l.bytes (measured_frames l.run l.end))

abbrev pub decreases-loop-extent : goal.decreases-loop-extent
decreases-loop-extent l = length l.run - l.end
