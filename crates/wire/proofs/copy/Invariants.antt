-- `wire::copy`: the bytes from the next one on, laid over the room from there on, make the room that is wanted.
use Rattle.std.proofs.Common.{◌≡◌, drop}
use Rattle.wire.specs.Bytes.{splice}
use Rattle.wire.proofs.copy.Given as goal

abbrev pub invariant-loop-i : goal.invariant-loop-i
invariant-loop-i l = splice l.room l.i (drop l.i l.bytes) ≡ splice l.initial.room 0 l.bytes
