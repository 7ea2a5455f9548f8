-- The length of `ddm_change::carried::Carried` is its payload's.
use native.Mathlib.Omega.{arith}
use Rattle.ddm_change.proofs.CarriedLaws.{carried_length}
use Rattle.ddm_change.proofs.carried.CarriedPayload.len.Goals as goal

pub returns : goal.returns
returns c = let p = c.args.self.now in omega (arith, carried_length p.by p.run.now p.sound)
