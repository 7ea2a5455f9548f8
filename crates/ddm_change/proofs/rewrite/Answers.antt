-- `ddm_change::rewrite` meets its contract: three parts one behind the other, where all of them fit.
use Prim.Native.Nat.{ℕ, ◌+◌, ◌-◌, ◌≤◌}
use native.Mathlib.Omega.{arith}
use mathlib.Core.Path.{◌≡◌, ◌∙◌, ap}
use mathlib.Core.List.{List, ◌++◌, append_assoc}
use lib.ListN.{length, take, drop, length-append}
use lib.Seq.{length-take-le}
use Rattle.wire.specs.Bytes.{laid}
use Rattle.wire.proofs.LentParts.{tail, back, tail_drop, tail_length}
use Rattle.ddm_length.proofs.LentData.{laid_next, lent_next}
use Rattle.ddm_builder.specs.Built.{length_bytes, built, built_size}
use Rattle.ddm_builder.proofs.BuiltForms.{length_built}
use Rattle.ddm_change.proofs.ChangeLaws.{capped_exact, capped_fits, built_size_lem, rewritten_length, lays_none, lays_some}
use Rattle.ddm_change.proofs.rewrite.Goals as goal

module _ (d new room : List ℕ) (from to cp : ℕ) (ordered : from ≤ to) (inside : to ≤ length d) where
  -- the data after
  abbrev after : List ℕ
  after = take from d ++ (built cp new ++ drop to d)

  abbrev size : ℕ
  size = from + (length d - to) + built_size (length new)

  module _ (roomy : size ≤ length room) where
    parts : (from + (4 + length_bytes (length new) + length new) + (length d - to) ≤ length room)
        × (length (built cp new) ≡ 4 + length_bytes (length new) + length new) × (from ≤ length d)
    parts = (omega (arith, roomy, built_size_lem (length new)), length_built cp new, omega arith)

    -- all three parts stand there
    whole : (h : ℕ) (r s t : List ℕ) → h ≡ 4 + length_bytes (length new) → r ≡ laid room 0 (take from d)
        → s ≡ laid (tail r from) 0 (built cp new) → t ≡ laid (back r from s) (from + h + length new) (tail d to) → t ≡ laid room 0 after
    whole h r s t e f g k =
        let b = built cp new in
        let x = take from d in
        let lx = length-take-le from d (omega arith) in
        let two = lent_next room r x from s b f lx (omega (arith, parts)) g in
        k
        ∙ ap (λ (u : List ℕ). laid u (from + h + length new) (tail d to)) two
        ∙ laid_next room 0 (x ++ b) (tail d to) _ (omega (arith, length-append x b, lx, parts, e)) (omega (arith, parts, e, tail_length d to))
        ∙ ap (λ (u : List ℕ). laid room 0 ((x ++ b) ++ u)) (tail_drop d to)
        ∙ ap (laid room 0) (append_assoc x b (drop to d))

pub returns-then-room-need : goal.returns-then-room-need
returns-then-room-need c =
    let a = c.args in
    rw (c.no_room.ensures, c.changed_len-need.ensures)
    (lays_none _ _ _ (rewritten_length a.«data».now a.spot.from a.spot.to a.code_point a.new.now c.requires.0 c.requires.1)
    (omega (arith, c.if-room-need.true, c.changed_len-need.ensures)))

pub overflow_add-behind : goal.overflow_add-behind
overflow_add-behind c =
    let a = c.args in
    let roomy : size a.«data».now a.new.now a.room.now a.spot.from a.spot.to a.code_point c.requires.0 c.requires.1 ≤ length a.room.now =
    capped_fits _ _ (omega (arith, c.changed_len-need.ensures)) (omega arith) in
    omega (arith, parts a.«data».now a.new.now a.room.now a.spot.from a.spot.to a.code_point c.requires.0 c.requires.1 roomy, c.serialized_header_len.ensures)

pub overflow_add-behind-2 : goal.overflow_add-behind-2
overflow_add-behind-2 c =
    let a = c.args in
    let roomy : size a.«data».now a.new.now a.room.now a.spot.from a.spot.to a.code_point c.requires.0 c.requires.1 ≤ length a.room.now =
    capped_fits _ _ (omega (arith, c.changed_len-need.ensures)) (omega arith) in
    omega (arith, parts a.«data».now a.new.now a.room.now a.spot.from a.spot.to a.code_point c.requires.0 c.requires.1 roomy, c.serialized_header_len.ensures)

pub returns : goal.returns
returns c =
    let a = c.args in
    let n = c.changed_len-need in
    let roomy : size a.«data».now a.new.now a.room.now a.spot.from a.spot.to a.code_point c.requires.0 c.requires.1 ≤ length a.room.now =
    capped_fits _ _ (omega (arith, n.ensures)) (omega arith) in
    rw (capped_exact (size a.«data».now a.new.now a.room.now a.spot.from a.spot.to a.code_point c.requires.0 c.requires.1) n.result n.ensures (omega (arith, roomy)))
    (lays_some _ _ _ (rewritten_length a.«data».now a.spot.from a.spot.to a.code_point a.new.now c.requires.0 c.requires.1) _ (omega (arith, roomy))
    (whole a.«data».now a.new.now a.room.now a.spot.from a.spot.to a.code_point c.requires.0 c.requires.1 roomy _ _ _ _
    c.serialized_header_len.ensures c.lay_at.ensures c.build_param.ensures.room_is c.lay_at-2.ensures))
