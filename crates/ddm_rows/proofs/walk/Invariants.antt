-- `ddm_rows::walk` meets its contract. The invariant: what was met so far, and where the walk stands.
use Prim.Native.Nat.{◌-◌}
use lib.ListN.{length}
use Rattle.ddm_rows.proofs.ObjectLists.{WalkingParams}
use Rattle.ddm_rows.proofs.walk.Given as goal

abbrev pub invariant-loop-o : goal.invariant-loop-o
invariant-loop-o l = WalkingParams l.data l.at l.count l.work

abbrev pub decreases-loop-o : goal.decreases-loop-o
decreases-loop-o l = length l.data - l.at
