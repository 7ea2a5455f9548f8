-- `wire::copy_at` meets its contract: bytes laid down at the start of the part from a place on stand in the room from there on.
use Rattle.std.proofs.Common.{◌∙◌, arith}
use Rattle.wire.proofs.Splicing.{laid_fits}
use Rattle.wire.proofs.LentParts.{tail, tail_length, lent}
use Rattle.wire.proofs.copy_at.Goals as goal

pub returns : goal.returns
returns c =
    let a = c.args in
    let n = tail_length a.room.now a.at in
    lent a.room.now a.at _ a.bytes.now (c.copy.ensures ∙ laid_fits (tail a.room.now a.at) 0 a.bytes.now (omega (arith, n)))
