-- The loop's invariant: the reading comes to what is read on from the state, whose count, end and payload so far are those of some
-- segments. The measure is what is left of the run.
use Prim.Native.Nat.{◌-◌, ◌≤◌}
use mathlib.Core.List.{[], ◌∷◌}
use lib.ListN.{length}
use Rattle.dss_frame.specs.Segments.{first}
use Rattle.dss_frame.specs.Reading.{absorb}
use Rattle.dss_measure.proofs.Absorbing.{Absorbing}
use Rattle.dss_measure.proofs.absorb.Given as goal

abbrev pub invariant-loop-absorbed : goal.invariant-loop-absorbed
invariant-loop-absorbed l =
    (l.end ≤ length l.run) × (l.segments ≤ l.end) × (l.sofar.len ≤ l.end)
    × Absorbing l.rules l.run l.at (absorb l.rules l.run l.at l.fn.head (first l.at l.seg_len ∷ [])) l.header l.segments l.end l.sofar

abbrev pub decreases-loop-absorbed : goal.decreases-loop-absorbed
decreases-loop-absorbed l = length l.run - l.end
