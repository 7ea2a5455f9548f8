-- The loop's invariant: the walk from its first place comes to what the walk from the present one comes to, behind the segments and
-- the payload so far. The measure is what is left of the run.
use Prim.Native.Nat.{◌-◌, ◌≤◌}
use mathlib.Core.Path.{◌≡◌}
use lib.ListN.{length}
use Rattle.dss_measure.proofs.WalkLaws.{walked_on}
use Rattle.dss_measure.proofs.walk_on.Given as goal

abbrev pub invariant-loop-rules : goal.invariant-loop-rules
invariant-loop-rules l =
    (l.end ≤ length l.run) × (l.segments ≤ l.end) × (l.payload_len ≤ l.end)
    × (walked_on l.rules l.run l.at l.fn.before.end l.fn.before.segments l.fn.before.payload_len ≡ walked_on l.rules l.run l.at l.end l.segments l.payload_len)

abbrev pub decreases-loop-rules : goal.decreases-loop-rules
decreases-loop-rules l = length l.run - l.end
