-- `ddm_length::next_part` meets its contract: the law of the walk's step.
use Rattle.ddm_length.proofs.MarkerPieces.{kept_part}
use Rattle.ddm_length.proofs.next_part.Goals as goal

pub returns : goal.returns
returns c =
    rw (c.split_at.ensures.front, c.split_at.ensures.back)
    (kept_part c.args.«data».now c.past_marker-left.result.now _ c.requires c.past_marker-left.ensures c.min.ensures)
