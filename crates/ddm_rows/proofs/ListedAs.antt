-- What the work area and the row then hold, of all objects of a run and of all parameters of an object's data alike: as the part
-- that lays into the work area answers, and with so many records filled in.
use Rattle.std.specs.Prelude.{Result}
use Prim.Native.Nat.{ℕ}
use mathlib.Core.Path.{◌≡◌, refl, sym, ◌∙◌, ap}
use mathlib.Core.Bool.{Bool, true, false}
use mathlib.Core.List.{List, ◌++◌}
use lib.ListN.{length, drop}
use Rattle.wire.specs.Bytes.{landed}
use Rattle.wire.proofs.WireLaws.{by, pick_yes, pick_no}
use Rattle.answer.specs.declared.Refused.{Refused}
use Rattle.ddm_object.specs.Objects.{Object, AllParsed, objects, refused_all, all_objects, parameters}
use Rattle.ddm_object.specs.declared.DdmObject.{DdmObject}
use Rattle.ddm_rows.specs.ListCalls.{object_records, objects_fit, given_list, listed, Lists}
use Rattle.ddm_rows.specs.ObjectRows.{TakesWork}
use Rattle.ddm_rows.specs.inner.RowsFilled.{count_of, recs_from, RowFilled}
use Rattle.ddm_rows.specs.declared.ObjectsFound.{ObjectsFound}
use Rattle.ddm_rows.proofs.ObjectLists.{objects_parameters}
use Rattle.ddm_rows.proofs.ObjectRowLaws.{recs_records, from_start, none_landed}

-- which list it is: all objects, or all parameters
abbrev pub walked_as : Bool → List ℕ → AllParsed
walked_as true s = all_objects s
walked_as false s = objects (parameters s)

pub walked_parameters : (whole : Bool) (s : List ℕ) (os : List Object) → walked_as whole s ≡ objects os → parameters s ≡ os
walked_parameters true s os e = objects_parameters s os e
walked_parameters false s os e = cc

as_it_was : (s : List ℕ) (ys : List DdmObject) → recs_from 0 s 0 ++ drop (length (recs_from 0 s 0)) ys ≡ ys
unfolding recs_from
as_it_was s ys = refl

module _ (whole : Bool) (s : List ℕ) (work : List ℕ) (ys : List DdmObject) (r : Result ObjectsFound Refused) (zw : List ℕ) (t : TakesWork s (walked_as whole s) work (length ys) r zw) where
  row_landed : (x : AllParsed) → walked_as whole s ≡ x → (zr : List DdmObject) → r ≡ given_list s (length work) (length ys) x
      → zr ≡ recs_from (count_of r) s 0 ++ drop (length (recs_from (count_of r) s 0)) ys
      → zr ≡ landed (objects_fit s (listed x) (length work) (length ys)) ys (object_records s 0 (listed x))
  row_landed (objects os) w zr a f =
      by (objects_fit s os (length work) (length ys))
      (λ k. let c : count_of r ≡ length os = ap count_of (a ∙ pick_yes _ _ k) in
      let e : recs_from (count_of r) s 0 ≡ object_records s 0 os = ap (λ (n : ℕ). recs_from n s 0) c ∙ recs_records s os 0 (walked_parameters whole s os w) in
      f ∙ ap (λ (l : List DdmObject). l ++ drop (length l) ys) e ∙ sym (pick_yes _ _ k ∙ from_start ys (object_records s 0 os)))
      (λ k. let c : count_of r ≡ 0 = ap count_of (a ∙ pick_no _ _ k) in
      f ∙ ap (λ (n : ℕ). recs_from n s 0 ++ drop (length (recs_from n s 0)) ys) c ∙ as_it_was s ys ∙ sym (pick_no _ _ k))
  row_landed (refused_all y) w zr a f =
      let c : count_of r ≡ 0 = ap count_of a in
      f ∙ ap (λ (n : ℕ). recs_from n s 0 ++ drop (length (recs_from n s 0)) ys) c ∙ as_it_was s ys ∙ sym (none_landed s (length work) ys)

  pub lists_as : (zr : List DdmObject) → RowFilled s (count_of r) ys zr
      → Lists s (listed (walked_as whole s)) (λ size rows. given_list s size rows (walked_as whole s)) work ys r zw zr
  lists_as zr f =
      record {
        answers = t.answers;
        work_is = t.work_is;
        row_is = row_landed (walked_as whole s) refl zr t.answers f.row_is;
      }
