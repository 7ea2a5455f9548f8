-- `ddm_rows::rows::take_works` meets its contract. The invariant: nothing passed so far goes through the work area.
use Prim.Native.Nat.{◌-◌}
use mathlib.Core.Path.{◌≡◌}
use lib.ListN.{length}
use Rattle.ddm_rows.proofs.ObjectWorks.{Seeking}
use Rattle.ddm_rows.proofs.rows.take_works.Given as goal

abbrev pub invariant-loop-o : goal.invariant-loop-o
invariant-loop-o l = Seeking l.data l.at × (l.work ≡ l.initial.work)

abbrev pub decreases-loop-o : goal.decreases-loop-o
decreases-loop-o l = length l.data - l.at
