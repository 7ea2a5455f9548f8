-- `ddm_change::carried::Carried::place_of` meets its contract.
use native.Mathlib.Omega.{arith}
use Rattle.ddm_change.proofs.CarriedLaws.{carried_length, place_is, passed_is}
use Rattle.ddm_change.proofs.carried.Carried.place_of.Goals as goal

pub overflow_add-result : goal.overflow_add-result
overflow_add-result c =
    let p = c.args.self.now in omega (arith, c.requires, carried_length p.by p.run.now p.sound)

pub overflow_mul-result : goal.overflow_mul-result
overflow_mul-result c =
    let p = c.args.self.now in
    omega (arith, c.requires, c.passed_by.ensures, carried_length p.by p.run.now p.sound, (passed_is p.by.continuations c.args.i).0)

pub overflow_add-result-2 : goal.overflow_add-result-2
overflow_add-result-2 c =
    let p = c.args.self.now in
    omega (arith, c.requires, c.passed_by.ensures, carried_length p.by p.run.now p.sound, (passed_is p.by.continuations c.args.i).0)

pub returns : goal.returns
returns c = omega (arith, place_is c.args.self.now.by c.args.i, c.passed_by.ensures)
