-- `ddm_object::object_data` meets its contract: the laws of which part the data are, by the record that was found or its refusal.
use Rattle.std.specs.Prelude.{Ok}
use Prim.Native.Nat.{ℕ, ◌+◌, ◌-◌, ◌≤◌}
use native.Mathlib.Omega.{arith}
use mathlib.Core.Path.{◌≡◌, refl, sym, ap}
use mathlib.Core.Bool.{false}
use mathlib.Core.List.{List, []}
use lib.ListN.{length, take, drop}
use denote.Ref.{Bor}
use Rattle.wire.specs.Parts.{start_at}
use Rattle.ddm_object.proofs.ObjectRecords.{record_of, refused_of}
use Rattle.ddm_object.proofs.DataLaws.{given_run, run_room}
use Rattle.ddm_object.proofs.PartLaws.{data_beyond, data_refused, data_short, data_work, data_run}
use Rattle.ddm_object.specs.declared.DdmObject.{DdmObject}
use Rattle.ddm_object.specs.inner.RecordsGiven.{record_found}
use Rattle.ddm_object.proofs.object_data.Goals as goal

-- the empty part from a place on
none : (l : List ℕ) (a : ℕ) → take (a - a) (drop a l) ≡ []
none l a = let z : a - a ≡ 0 = omega arith in ap (λ (n : ℕ). take n (drop a l)) z

front : (work : Bor (List ℕ)) → work.ref_ptr ≡ start_at work 0
front work = let z : work.ref_ptr.1 ≡ 0 + work.ref_ptr.1 = omega arith in ap (λ (k : ℕ). (work.ref_ptr.0, k)) z

back : (l : List ℕ) (a n : ℕ) → take ((a + n) - a) (drop a l) ≡ take n (drop a l)
back l a n = let z : (a + n) - a ≡ n = omega arith in ap (λ (k : ℕ). take k (drop a l)) z

-- data in the run end within it
in_run : (run work : List ℕ) (at : ℕ) (rec : DdmObject) → at ≤ length run → record_found (drop at run) at ≡ Ok rec → rec.in_work ≡ false
    → rec.data_at + rec.data_len ≤ length run
in_run run work at rec h e i = run_room run at work rec (given_run run at (length work) rec h (record_of _ _ _ e) i) i

pub returns-then-run-at : goal.returns-then-run-at
returns-then-run-at c =
    let s = c.args in
    data_beyond s.run s.at s.work _ c.if-run-at.true (none s.run.now (length s.run.now)) refl

pub returns-in_default : goal.returns-in_default
returns-in_default c =
    let s = c.args in
    data_refused s.run s.at s.work _ _ c.if-run-at.false (refused_of _ _ _ (sym c.in_default.ensures)) (none s.run.now s.at) refl

pub returns-then-work-o : goal.returns-then-work-o
returns-then-work-o c =
    let s = c.args in
    data_short s.run s.at s.work _ _ (record_of _ _ _ (sym c.in-Ok.ensures)) c.if-o.true c.if-work-o.true (none s.run.now s.at) refl

pub returns-then-o : goal.returns-then-o
returns-then-o c =
    let s = c.args in
    data_work s.run s.at s.work _ _ (record_of _ _ _ (sym c.in-Ok.ensures)) c.if-o.true c.if-work-o.false refl (front s.work)

pub overflow_add-result : goal.overflow_add-result
overflow_add-result c = omega (arith, in_run c.args.run.now c.args.work.now c.args.at c.in-Ok.o c.if-run-at.false (sym c.in-Ok.ensures) c.if-o.false)

pub slice_bounds-result-end-2 : goal.slice_bounds-result-end-2
slice_bounds-result-end-2 c = in_run c.args.run.now c.args.work.now c.args.at c.in-Ok.o c.if-run-at.false (sym c.in-Ok.ensures) c.if-o.false

pub returns : goal.returns
returns c =
    let s = c.args in
    let o = c.in-Ok.o in
    data_run s.run s.at s.work _ o (record_of _ _ _ (sym c.in-Ok.ensures)) c.if-o.false c.if-run-at.false (back s.run.now o.data_at o.data_len) refl
