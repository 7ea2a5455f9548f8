-- `ddm_object::find_place` meets its contract. The invariant: the parameters passed so far have other code points.
use Prim.Native.Nat.{◌-◌}
use lib.ListN.{length}
use Rattle.ddm_object.proofs.FindingParams.{Looking}
use Rattle.ddm_object.proofs.find_place.Given as goal

abbrev pub invariant-loop-o : goal.invariant-loop-o
invariant-loop-o l = Looking l.data l.code_point l.at

abbrev pub decreases-loop-o : goal.decreases-loop-o
decreases-loop-o l = length l.data - l.at
