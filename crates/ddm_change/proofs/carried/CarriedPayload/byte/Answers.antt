-- A byte of `ddm_change::carried::Carried` is its payload's.
use Prim.Native.Nat.{ℕ}
use native.Mathlib.Omega.{arith}
use mathlib.Core.Path.{sym, ◌∙◌, ap}
use lib.ListN.{get_or}
use Rattle.ddm_change.proofs.CarriedLaws.{place_inside, carried_byte}
use Rattle.ddm_change.proofs.carried.CarriedPayload.byte.Goals as goal

pub bounds-self-place_of : goal.bounds-self-place_of
bounds-self-place_of c =
    let p = c.args.self.now in
    omega (arith, c.place_of.ensures, place_inside p.by p.run.now p.sound c.args.at (omega (arith, c.len.ensures)))

pub returns-then-at-len : goal.returns-then-at-len
returns-then-at-len c =
    let p = c.args.self.now in
    ap (λ (j : ℕ). get_or p.run.now j 0) c.place_of.ensures
    ∙ sym (carried_byte p.by p.run.now p.sound c.args.at (omega (arith, c.len.ensures)))
