-- `wire::u16_at` meets its contract: beyond the run both bytes are 0.
use Prim.Native.Nat.{◌+◌}
use native.Mathlib.Omega.{arith}
use lib.ListN.{get_or-eq_default}
use Rattle.wire.proofs.u16_at.Goals as goal

pub returns-then-s-at : goal.returns-then-s-at
returns-then-s-at c =
    let s = c.args.s.now in
    let at = c.args.at in
    omega (arith, get_or-eq_default s 0 {n = at} c.if-s-at.true, get_or-eq_default s 0 {n = at + 1} (omega arith))
