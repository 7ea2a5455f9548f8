-- `ddm_change::search::search` meets its contract. The invariant: no fault so far, and the first with the code point if it was met.
use Prim.Native.Nat.{◌-◌}
use lib.ListN.{drop}
use Rattle.ddm_change.proofs.SearchLaws.{Searching}
use Rattle.ddm_change.proofs.search.search.Given as goal

abbrev pub invariant-loop-at : goal.invariant-loop-at
invariant-loop-at g l = Searching (drop l.first (g.P.Payload.bytes l.payload)) l.wanted l.at l.met

abbrev pub decreases-loop-at : goal.decreases-loop-at
decreases-loop-at g l = l.end - l.at
