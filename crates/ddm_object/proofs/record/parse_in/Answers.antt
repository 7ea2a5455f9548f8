-- `ddm_object::record::parse_in` meets its contract: the laws of what is answered, by the record that was found.
use Rattle.std.specs.Prelude.{not, Ok}
use Prim.Native.Nat.{ℕ, ◌<◌}
use native.Mathlib.Omega.{arith}
use mathlib.Core.Path.{◌≡◌, refl, sym, ◌∙◌, ap}
use mathlib.Core.Bool.{Bool, true, false}
use mathlib.Core.List.{List}
use lib.ListN.{length}
use Rattle.wire.specs.Bytes.{laid}
use Rattle.ddm_length.specs.Markers.{unmarked}
use Rattle.wire.proofs.LentParts.{tail_drop}
use Rattle.ddm_object.proofs.ObjectRecords.{in_long, record_of, rec_in, need_is, gives_plain, gives_work, gives_short}
use Rattle.ddm_object.specs.declared.DdmObject.{DdmObject}
use Rattle.ddm_object.specs.inner.RecordsGiven.{record_found}
use Rattle.ddm_object.proofs.record.parse_in.Goals as goal

-- what a test the other way round says
not_yes : (b : Bool) → not b ≡ true → b ≡ false
not_yes true e = sym e
not_yes false e = refl

not_no : (b : Bool) → not b ≡ false → b ≡ true
not_no true e = refl
not_no false e = sym e

-- an object whose data go through the work area is long
four_there : (b : List ℕ) (place position : ℕ) (work : List ℕ) (rec : DdmObject) → record_found b place ≡ Ok rec → not rec.in_work ≡ false → 32763 < length b
four_there b place position work rec e i =
    in_long b (sym (rec_in b place position work rec (record_of b place rec e)) ∙ not_no rec.in_work i)

pub slice_bounds-strip_extended_ddm_continuation_markers-count : goal.slice_bounds-strip_extended_ddm_continuation_markers-count
slice_bounds-strip_extended_ddm_continuation_markers-count c =
    let s = c.args in omega (arith, four_there s.bytes.now s.place s.position s.work.now c.in_ok-o.o (sym c.in_ok-o.ensures) c.if-not-o.false)

pub slice_bounds-strip_extended_ddm_continuation_markers-start : goal.slice_bounds-strip_extended_ddm_continuation_markers-start
slice_bounds-strip_extended_ddm_continuation_markers-start c =
    let s = c.args in omega (arith, four_there s.bytes.now s.place s.position s.work.now c.in_ok-o.o (sym c.in_ok-o.ensures) c.if-not-o.false)

pub returns-then-not-o : goal.returns-then-not-o
returns-then-not-o c =
    let s = c.args in
    gives_plain s.bytes.now s.place s.position s.work.now _ (record_of s.bytes.now s.place _ (sym c.in_ok-o.ensures)) (not_yes _ c.if-not-o.true)

pub returns-then-work-o : goal.returns-then-work-o
returns-then-work-o c =
    let s = c.args in
    let f = record_of s.bytes.now s.place _ (sym c.in_ok-o.ensures) in
    let i = not_no _ c.if-not-o.false in
    rw c.no_room.ensures (gives_short s.bytes.now s.place s.position s.work.now _ f i _ (sym (need_is s.bytes.now s.place s.position s.work.now _ f i)) c.if-work-o.true)

pub returns : goal.returns
returns c =
    let s = c.args in
    let f = record_of s.bytes.now s.place _ (sym c.in_ok-o.ensures) in
    let i = not_no _ c.if-not-o.false in
    gives_work s.bytes.now s.place s.position s.work.now _ f i _
    (omega (arith, c.if-work-o.false, need_is s.bytes.now s.place s.position s.work.now _ f i))
    (c.strip_extended_ddm_continuation_markers.ensures.room_is ∙ ap (λ x. laid s.work.now 0 (unmarked x)) (tail_drop s.bytes.now 4))
