-- `ddm_change::laying::Laying::part` meets its contract. The loop's invariant: the bytes passed are laid down. A step is a piece that
-- nothing cuts, where it stands and where it goes.
use Rattle.std.proofs.Common.{min, rules}
use Prim.Native.Nat.{ℕ, ◌+◌, ◌-◌, ◌≤◌, ◌<◌}
use native.Mathlib.Omega.{arith}
use mathlib.Core.Path.{◌≡◌, sym, ap, ◌∙◌}
use mathlib.Core.List.{List}
use lib.ListN.{length, take, drop, length-drop}
use lib.Seq.{length-take-le}
use Rattle.wire.specs.Bytes.{splice}
use Rattle.wire.proofs.WireLaws.{part_length}
use Rattle.dss_frame.specs.Written.{frame_size}
use Rattle.ddm_change.specs.inner.Carried.{carried, uncut, piece_of}
use Rattle.ddm_change.specs.inner.Outlay.{outlaid}
use Rattle.ddm_change.proofs.CarriedLaws.{uncut_some, piece_some, piece_most}
use Rattle.ddm_change.proofs.Lying.{lying_none, lying_more, lying_all}
use Rattle.ddm_change.proofs.laying.Laying.part.Goals as goal

-- a piece b of the payload v from its byte i on, as long as may be up to `to` and up to the next cut where it goes
module _ (v : List ℕ) (k i to at most : ℕ) (b : List ℕ) (m : most ≡ min (uncut at) (to - i)) (h : i < to) (l : to ≤ length v)
    (is : b ≡ take (piece_of k i most) (drop i v)) where
  long : length b ≡ piece_of k i most
  long = ap length is ∙ length-take-le (piece_of k i most) (drop i v) (omega (arith, piece_most k i most, length-drop i v))

  stepped : (0 < length b) × (length b ≤ uncut at) × (i + length b ≤ to)
  stepped = (
    omega (arith, long, piece_some k i most (omega (arith, uncut_some at))),
    omega (arith, long, piece_most k i most),
    omega (arith, long, piece_most k i most),
  )

  of_payload : b ≡ take (length b) (drop i v)
  of_payload = is ∙ ap (λ (n : ℕ). take n (drop i v)) (sym long)

pub loop-i-init : goal.loop-i-init
loop-i-init c =
    let a = c.args in
    let s = a.self.now in
    record {
      lying = lying_none (carried a.payload.now.by a.payload.now.run.now) a.from a.to s.len s.at s.room.now c.requires.ordered;
      same_len = search rules;
      same_room = search rules;
    }

pub piece-requires-clause-some : goal.piece-requires-clause-some
piece-requires-clause-some c =
    let a = c.args in
    let p = a.payload.now in
    (stepped (carried p.by p.run.now) p.by.continuations c.loop-i.i a.to c.loop-i.self.at _ _
    (omega (arith, c.min-most.ensures, c.uncut_from.ensures)) c.loop-i-test.true c.requires.there c.piece-piece.ensures).0

pub piece-requires-clause-whole : goal.piece-requires-clause-whole
piece-requires-clause-whole c =
    let a = c.args in
    let p = a.payload.now in
    (stepped (carried p.by p.run.now) p.by.continuations c.loop-i.i a.to c.loop-i.self.at _ _
    (omega (arith, c.min-most.ensures, c.uncut_from.ensures)) c.loop-i-test.true c.requires.there c.piece-piece.ensures).1

pub piece-requires-clause-inside : goal.piece-requires-clause-inside
piece-requires-clause-inside c =
    let a = c.args in
    let p = a.payload.now in
    let z = stepped (carried p.by p.run.now) p.by.continuations c.loop-i.i a.to c.loop-i.self.at _ _
    (omega (arith, c.min-most.ensures, c.uncut_from.ensures)) c.loop-i-test.true c.requires.there c.piece-piece.ensures in
    omega (arith, z, c.loop-i.invariant.lying.count, c.loop-i.invariant.lying.low, c.loop-i.invariant.same_len, c.requires.inside)

pub overflow_add-i : goal.overflow_add-i
overflow_add-i c =
    let a = c.args in
    let p = a.payload.now in
    let z = stepped (carried p.by p.run.now) p.by.continuations c.loop-i.i a.to c.loop-i.self.at _ _
    (omega (arith, c.min-most.ensures, c.uncut_from.ensures)) c.loop-i-test.true c.requires.there c.piece-piece.ensures in
    omega (arith, z)

pub loop-i-smaller : goal.loop-i-smaller
loop-i-smaller c =
    let a = c.args in
    let p = a.payload.now in
    let z = stepped (carried p.by p.run.now) p.by.continuations c.loop-i.i a.to c.loop-i.self.at _ _
    (omega (arith, c.min-most.ensures, c.uncut_from.ensures)) c.loop-i-test.true c.requires.there c.piece-piece.ensures in
    omega (arith, z)

pub loop-i-preserved : goal.loop-i-preserved
loop-i-preserved c =
    let a = c.args in
    let s = a.self.now in
    let p = a.payload.now in
    let v : List ℕ = carried p.by p.run.now in
    let l = c.loop-i in
    let b : List ℕ = c.piece-piece.result.now in
    let m : c.min-most.result ≡ min (uncut l.self.at) (a.to - l.i) = omega (arith, c.min-most.ensures, c.uncut_from.ensures) in
    let z = stepped v p.by.continuations l.i a.to l.self.at _ b m c.loop-i-test.true c.requires.there c.piece-piece.ensures in
    let w = of_payload v p.by.continuations l.i a.to l.self.at _ b m c.loop-i-test.true c.requires.there c.piece-piece.ensures in
    record {
      lying =
          rw c.piece.ensures.next
          (lying_more v a.from a.to s.len s.at s.room.now c.requires.there c.requires.inside s.fits _ l.i l.self.at (length b) b _ l.invariant.lying
          (omega (arith, z)) w
          (c.piece.ensures.room_is ∙ ap (λ (n : ℕ). splice l.self.room.now (frame_size l.self.at) (outlaid n l.self.at b)) l.invariant.same_len));
      same_len = c.piece.ensures.same_len ∙ l.invariant.same_len;
      same_room = c.piece.ensures.same_room ∙ l.invariant.same_room;
    }

pub returns : goal.returns
returns c =
    let a = c.args in
    let s = a.self.now in
    let p = a.payload.now in
    let v : List ℕ = carried p.by p.run.now in
    let l = c.loop-i in
    record {
      room_is =
          lying_all v a.from a.to s.len s.at s.room.now c.requires.there c.requires.inside s.fits _ l.i l.self.at l.invariant.lying c.loop-i-test.false;
      next = omega (arith, l.invariant.lying.count, l.invariant.lying.high, c.loop-i-test.false, part_length v a.from a.to c.requires.there);
      same_len = l.invariant.same_len;
      same_room = l.invariant.same_room;
    }
