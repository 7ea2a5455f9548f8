-- `answer::Refused::no_room` meets its contract: a need that fits a number is given as it is.
use Prim.Native.Nat.{◌^◌}
use native.Mathlib.Omega.{arith}
use borrow.Author.Tests.{lt-ltb}
use Rattle.answer.proofs.Refused.no_room.Goals as goal

pub returns : goal.returns
returns c = rw c.at.ensures (simp (lt-ltb c.args.bytes (2 ^ 64) (omega arith), lt-ltb c.args.records (2 ^ 64) (omega arith)))
