-- `ddm_length::unmarked_len` meets its contract. The invariant: so many bytes are kept so far, and so much is left of the data.
use lib.ListN.{length}
use Rattle.ddm_length.proofs.MarkerPieces.{Keeping}
use Rattle.ddm_length.proofs.unmarked_len.Given as goal

abbrev pub invariant-loop-left : goal.invariant-loop-left
invariant-loop-left l = Keeping l.data l.left l.len

abbrev pub decreases-loop-left : goal.decreases-loop-left
decreases-loop-left l = length l.left
