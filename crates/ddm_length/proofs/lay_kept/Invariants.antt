-- `ddm_length::lay_kept` meets its contract. The invariant: so many bytes are kept so far, so much is left of the data, and the
-- work area holds what is kept.
use mathlib.Core.Path.{◌≡◌}
use lib.ListN.{length, take}
use Rattle.wire.specs.Bytes.{splice}
use Rattle.ddm_length.specs.Markers.{unmarked}
use Rattle.ddm_length.proofs.MarkerPieces.{Keeping}
use Rattle.ddm_length.proofs.lay_kept.Given as goal

abbrev pub invariant-loop-left : goal.invariant-loop-left
invariant-loop-left l = Keeping l.data l.left l.fill × (l.work ≡ splice l.fn.work 0 (take l.fill (unmarked l.data)))

abbrev pub decreases-loop-left : goal.decreases-loop-left
decreases-loop-left l = length l.left
