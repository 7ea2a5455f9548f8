-- `ddm_change::carried::Carried::piece` meets its contract: nothing cuts what stands in one piece.
use Prim.Native.Nat.{ℕ, ◌+◌, ◌-◌}
use native.Mathlib.Omega.{arith}
use mathlib.Core.Path.{◌≡◌, sym, ap, ◌∙◌}
use lib.ListN.{take, drop}
use Rattle.ddm_change.specs.inner.Carried.{piece_of}
use Rattle.ddm_change.proofs.CarriedLaws.{carried_piece, piece_most}
use Rattle.ddm_change.proofs.carried.Carried.piece.Goals as goal

pub overflow_add-end : goal.overflow_add-end
overflow_add-end c =
    let a = c.args in
    let p = a.self.now in
    let n = piece_of p.by.continuations a.i a.most in
    let there = carried_piece p.by p.run.now p.sound a.i n a.most (omega arith) (omega (arith, piece_most p.by.continuations a.i a.most, c.requires)) in
    omega (arith, there.1, c.place_of-place.ensures, c.piece_of.ensures)

pub slice_bounds-result-end : goal.slice_bounds-result-end
slice_bounds-result-end c =
    let a = c.args in
    let p = a.self.now in
    let n = piece_of p.by.continuations a.i a.most in
    let there = carried_piece p.by p.run.now p.sound a.i n a.most (omega arith) (omega (arith, piece_most p.by.continuations a.i a.most, c.requires)) in
    omega (arith, there.1, c.place_of-place.ensures, c.piece_of.ensures)

pub returns : goal.returns
returns c =
    let a = c.args in
    let p = a.self.now in
    let n = piece_of p.by.continuations a.i a.most in
    let there = carried_piece p.by p.run.now p.sound a.i n a.most (omega arith) (omega (arith, piece_most p.by.continuations a.i a.most, c.requires)) in
    let at = c.place_of-place.result in
    let k : at + c.piece_of.result - at ≡ n = omega (arith, c.piece_of.ensures) in
    ap (λ (m : ℕ). take m (drop at p.run.now)) k ∙ ap (λ (m : ℕ). take n (drop m p.run.now)) c.place_of-place.ensures ∙ sym there.0
