-- `ddm_length::number_in` meets its contract. The invariant: n is what the bytes so far spell.
use Prim.Native.Nat.{◌^◌, ◌<◌}
use mathlib.Core.Path.{◌≡◌}
use lib.ListN.{take, drop}
use Rattle.wire.specs.Bytes.{spelled}
use Rattle.ddm_length.proofs.number_in.Given as goal

abbrev pub invariant-loop-i : goal.invariant-loop-i
invariant-loop-i g l =
    (l.n ≡ spelled 0 (take l.i (take l.len (drop l.from (g.P.Payload.bytes l.payload))))) × (l.n < 2 ^ 64)
