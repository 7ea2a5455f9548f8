-- `ddm_length::number_in` meets its contract. The invariant: n is what the bytes so far spell. Where a step stops, the number
-- would pass 2^64 - 1, and it only grows with its bytes.
use Prim.Native.Nat.{ℕ, ◌+◌, ◌≤◌, ◌<◌}
use native.Mathlib.Omega.{arith}
use mathlib.Core.Path.{◌≡◌, refl, sym, ◌∙◌}
use mathlib.Core.List.{List}
use lib.ListN.{length, get_or, take, drop, length-drop}
use lib.Seq.{length-take-le, get_or-take, get_or-drop}
use Rattle.wire.specs.Bytes.{spelled}
use Rattle.ddm_length.proofs.NumberSums.{number_stops, number_goes_on, number_ends}
use Rattle.ddm_length.proofs.number_in.Goals as goal

module _ (v : List ℕ) (from len : ℕ) (inside : from + len ≤ length v) where
  abbrev bytes : List ℕ
  bytes = take len (drop from v)

  many : length bytes ≡ len
  many = length-take-le len (drop from v) (omega (arith, length-drop from v))

  next : (i : ℕ) → i < len → get_or bytes i 0 ≡ get_or v (from + i) 0
  next i h = get_or-take len (drop from v) i 0 h ∙ get_or-drop from v i 0

pub loop-i-init : goal.loop-i-init
unfolding spelled
loop-i-init g c = (refl, omega arith)

pub returns-in_err-checked_mul : goal.returns-in_err-checked_mul
returns-in_err-checked_mul g c =
    let a = c.args in
    let l = c.loop-i in
    let v : List ℕ = g.P.Payload.bytes a.payload.now in
    c.from_residual.ensures
    ∙ sym (number_stops (bytes v a.from a.len c.requires.inside) l.i l.n (omega (arith, many v a.from a.len c.requires.inside, c.loop-i-test.true)) l.invariant.0
    (omega (arith, c.in_err-checked_mul.ensures)))

pub returns-in_err-n : goal.returns-in_err-n
returns-in_err-n g c =
    let a = c.args in
    let l = c.loop-i in
    let v : List ℕ = g.P.Payload.bytes a.payload.now in
    c.from_residual-in_err-n.ensures
    ∙ sym (number_stops (bytes v a.from a.len c.requires.inside) l.i l.n (omega (arith, many v a.from a.len c.requires.inside, c.loop-i-test.true)) l.invariant.0
    (omega (arith, c.in_ok-checked_mul.ensures, c.in_err-n.ensures, c.from.ensures, c.byte-byte.ensures, next v a.from a.len c.requires.inside l.i c.loop-i-test.true)))

pub loop-i-preserved : goal.loop-i-preserved
loop-i-preserved g c =
    let a = c.args in
    let l = c.loop-i in
    let v : List ℕ = g.P.Payload.bytes a.payload.now in (
      number_goes_on (bytes v a.from a.len c.requires.inside) l.i l.n _ (omega (arith, many v a.from a.len c.requires.inside, c.loop-i-test.true)) l.invariant.0
          (omega (arith, c.in_ok-checked_mul.ensures, c.in_ok-n.ensures, c.from.ensures, c.byte-byte.ensures, next v a.from a.len c.requires.inside l.i c.loop-i-test.true)),
      omega (arith, c.in_ok-n.ensures),
    )

pub returns : goal.returns
returns g c =
    let a = c.args in
    let l = c.loop-i in
    let v : List ℕ = g.P.Payload.bytes a.payload.now in
    number_ends (bytes v a.from a.len c.requires.inside) l.i l.n (omega (arith, many v a.from a.len c.requires.inside, c.loop-i-test.false)) l.invariant.0 l.invariant.1
