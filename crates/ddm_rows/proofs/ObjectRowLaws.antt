-- Lists of objects or parameters into a lent work area and a lent row: what the part that lays into the work area does, and the
-- records that a loop fills in.
use Rattle.std.specs.Prelude.{Result, Ok, Err}
use Prim.Native.Nat.{ℕ, ◌+◌, ◌≤◌, ◌<◌}
use native.Mathlib.Omega.{arith}
use mathlib.Core.Path.{◌≡◌, refl, sym, ◌∙◌, ap, ap₂, subst}
use mathlib.Core.Bool.{Bool, true, false}
use mathlib.Core.List.{List, [], ◌∷◌, ◌++◌}
use borrow.Author.Tests.{le-leb, lt-leb}
use lib.Dec.{leb}
use lib.ListN.{length, drop}
use Rattle.wire.specs.Bytes.{and, splice, laid, landed}
use Rattle.wire.proofs.WireLaws.{picked, and_both, and_no, pick_yes, pick_no}
use Rattle.wire.proofs.Splicing.{laid_fits, splice_none}
use Rattle.answer.specs.Rooms.{no_room}
use Rattle.answer.specs.declared.Refused.{Refused}
use Rattle.ddm_object.specs.Objects.{Object, Parsed, object, refused, AllParsed, objects, refused_all, parsed, all_objects, parameters}
use Rattle.ddm_object.specs.ObjectCalls.{object_record}
use Rattle.ddm_object.proofs.FindingParams.{step_is, params_here}
use Rattle.ddm_object.proofs.ParamWalks.{parameters_stop}
use Rattle.ddm_object.specs.declared.DdmObject.{DdmObject}
use Rattle.ddm_rows.specs.ListCalls.{works_of, object_records, objects_fit, given_list, listed, Lists, ParsesObjects, ListsParameters, measured_objects}
use Rattle.ddm_rows.proofs.ObjectLists.{objects_parameters}
use Rattle.ddm_rows.specs.ObjectRows.{TakesWork}
use Rattle.ddm_rows.specs.inner.RowsFilled.{one_more_object, recs_from, RowFilled}
use Rattle.ddm_rows.specs.declared.ObjectsFound.{ObjectsFound}
use Rattle.ddm_rows.proofs.ObjectLists.{objects_found}

-- ---- the work area

length_zero : (l : List ℕ) → length l ≡ 0 → l ≡ []
length_zero [] e = refl
length_zero (x ∷ l) e = absurd (omega arith)

none_needed : (work : List ℕ) → landed true work [] ≡ work
none_needed work = splice_none work 0

pub takes_refused : (s : List ℕ) (x : AllParsed) (work : List ℕ) (rows : ℕ) (r : Refused) → measured_objects s x ≡ Err r → TakesWork s x work rows (Err r) work
unfolding works_of
takes_refused s (objects os) work rows r e = absurd (let z : ◌≡◌ {A = ℕ} 0 1 = cc in omega arith)
takes_refused s (refused_all y) work rows r e =
    record {
      answers = sym e;
      work_is = sym (pick_yes _ _ (and_both (leb 0 (length work)) (leb 0 rows) (le-leb 0 (length work) (omega arith)) (le-leb 0 rows (omega arith))) ∙ none_needed work);
    }

-- where something was measured of all objects, they are the parameters
pub measured_all : (s : List ℕ) (f : ObjectsFound) → measured_objects s (all_objects s) ≡ Ok f → all_objects s ≡ objects (parameters s)
measured_all s f e = go (all_objects s) refl e
  where
    go : (x : AllParsed) → all_objects s ≡ x → measured_objects s x ≡ Ok f → all_objects s ≡ objects (parameters s)
    go (objects os) q r = q ∙ ap objects (sym (objects_parameters s os q))
    go (refused_all y) q r = absurd (let z : ◌≡◌ {A = ℕ} 0 1 = cc in omega arith)

-- what was measured of the parameters
pub measured_count : (s : List ℕ) (f : ObjectsFound) → Ok f ≡ measured_objects s (objects (parameters s)) → (f.count ≡ length (parameters s)) × (f.work ≡ length (works_of s 0 (parameters s)))
measured_count s f e = (cc, cc)

-- n records and m bytes, by the two tests
module _ (s : List ℕ) (os : List Object) (work : List ℕ) (rows n m : ℕ) (en : n ≡ length os) (em : m ≡ length (works_of s 0 os)) where
  pub takes_both : m ≤ length work → n ≤ rows → (after : List ℕ) → after ≡ laid work 0 (works_of s 0 os) → TakesWork s (objects os) work rows (Ok (objects_found n m)) after
  takes_both h k after a =
      let t : objects_fit s os (length work) rows ≡ true =
      and_both (leb (length (works_of s 0 os)) (length work)) (leb (length os) rows) (le-leb (length (works_of s 0 os)) (length work) (omega arith)) (le-leb (length os) rows (omega arith)) in
      record {
        answers = ap₂ (λ (x y : ℕ). Ok (objects_found x y)) en em ∙ sym (pick_yes _ _ t);
        work_is = a ∙ laid_fits work 0 (works_of s 0 os) (omega arith) ∙ sym (pick_yes _ _ t);
      }

  -- nothing is laid down where nothing is needed
  pub takes_none : m ≤ 0 → n ≤ rows → TakesWork s (objects os) work rows (Ok (objects_found n m)) work
  takes_none h k =
      takes_both (omega arith) k work
      (sym (ap (laid work 0) (length_zero (works_of s 0 os) (omega arith)) ∙ laid_fits work 0 [] (omega arith) ∙ splice_none work 0))

  short : objects_fit s os (length work) rows ≡ false → TakesWork s (objects os) work rows (Err (no_room 0 m n)) work
  short t = record { answers = sym (pick_no _ _ t ∙ ap₂ (λ (x y : ℕ). Err (no_room 0 x y)) (sym em) (sym en)); work_is = sym (pick_no _ _ t) }

  pub takes_no_bytes : length work < m → TakesWork s (objects os) work rows (Err (no_room 0 m n)) work
  takes_no_bytes l = short (ap (λ (t : Bool). and t (leb (length os) rows)) (lt-leb (length (works_of s 0 os)) (length work) (omega arith)))

  pub takes_no_rows : rows < n → TakesWork s (objects os) work rows (Err (no_room 0 m n)) work
  takes_no_rows l =
      short (ap (and (leb (length (works_of s 0 os)) (length work))) (lt-leb (length os) rows (omega arith)) ∙ and_no (leb (length (works_of s 0 os)) (length work)))

-- ---- the row

-- the loop's records are those of the parameters
pub recs_records : (s : List ℕ) (os : List Object) (at : ℕ) → parameters (drop at s) ≡ os → recs_from (length os) s at ≡ object_records s at os
unfolding recs_from object_records
recs_records s [] at e = refl
recs_records s (o ∷ os) at e = go (parsed (drop at s) at) refl (λ next h. recs_records s os next h)
  where
    go : (p : Parsed) → parsed (drop at s) at ≡ p → ((next : ℕ) → parameters (drop next s) ≡ os → recs_from (length os) s next ≡ object_records s next os)
        → recs_from (length (o ∷ os)) s at ≡ object_records s at (o ∷ os)
    go (object x) q ih =
        let h : x ∷ parameters (drop (at + x.consumed) s) ≡ o ∷ os = sym (params_here s at x q) ∙ e in
        let i : x ≡ o = cc in
        let t : parameters (drop (at + x.consumed) s) ≡ os = cc in
        ap (λ (z : Result (DdmObject × ℕ) Refused). one_more_object z (λ r next. r ∷ recs_from (length os) s next)) (step_is s at x q)
        ∙ ap (λ (l : List DdmObject). object_record s at x ∷ l) (ih (at + x.consumed) t)
        ∙ ap (λ (y : Object). object_record s at y ∷ object_records s (at + y.consumed) os) i
    go (refused z) q ih =
        let h : [] ≡ o ∷ os = sym (parameters_stop (drop at s) at z q) ∙ e in
        absurd (let w : ◌≡◌ {A = ℕ} 0 1 = cc in omega arith)

-- records laid down at a row's start, and none
pub from_start : (ys l : List DdmObject) → splice ys 0 l ≡ l ++ drop (length l) ys
unfolding splice
from_start ys l = let z : 0 + length l ≡ length l = omega arith in ap (λ (n : ℕ). l ++ drop n ys) z

pub none_landed : (s : List ℕ) (size : ℕ) (ys : List DdmObject) → landed (objects_fit s [] size (length ys)) ys (object_records s 0 []) ≡ ys
unfolding works_of object_records
none_landed s size ys =
    pick_yes _ _ (and_both (leb 0 size) (leb 0 (length ys)) (le-leb 0 size (omega arith)) (le-leb 0 (length ys) (omega arith))) ∙ from_start ys []

-- ---- work area and row together

module _ (s work : List ℕ) (ys : List DdmObject) where
  abbrev fit : Bool
  fit = objects_fit s (parameters s) (length work) (length ys)

  -- what was measured fits, and the row is filled
  pub lists_found : (f g : ObjectsFound) (zw : List ℕ) (zr : List DdmObject) → Ok f ≡ measured_objects s (objects (parameters s))
      → TakesWork s (objects (parameters s)) work (length ys) (Ok g) zw → RowFilled s f.count ys zr → ListsParameters s work ys (Ok f) zw zr
  lists_found f g zw zr e t k =
      let c : f.count ≡ length (parameters s) = (measured_count s f e).0 in
      let r : recs_from f.count s 0 ≡ object_records s 0 (parameters s) = ap (λ (n : ℕ). recs_from n s 0) c ∙ recs_records s (parameters s) 0 refl in
      picked fit (sym t.answers)
      (λ b q. record {
        answers = e ∙ sym (pick_yes _ _ b);
        work_is = t.work_is;
        row_is = k.row_is ∙ ap (λ (l : List DdmObject). l ++ drop (length l) ys) r ∙ sym (pick_yes _ _ b ∙ from_start ys (object_records s 0 (parameters s)));
      })
      (λ b q. absurd (let z : ◌≡◌ {A = ℕ} 0 1 = cc in omega arith))

  -- all objects of a run are refused whole
  pub lists_refused : (r : Refused) → measured_objects s (all_objects s) ≡ Err r → ParsesObjects s work ys (Err r) work ys
  lists_refused r e = go (all_objects s) e
    where
      go : (x : AllParsed) → measured_objects s x ≡ Err r → Lists s (listed x) (λ size rows. given_list s size rows x) work ys (Err r) work ys
      go (objects os) q = absurd (let z : ◌≡◌ {A = ℕ} 0 1 = cc in omega arith)
      go (refused_all y) q =
          let t = takes_refused s (refused_all y) work (length ys) r q in
          record { answers = t.answers; work_is = t.work_is; row_is = sym (none_landed s (length work) ys) }

-- and otherwise they are listed as the parameters are
pub lists_all : (s work : List ℕ) (ys : List DdmObject) (r : Result ObjectsFound Refused) (zw : List ℕ) (zr : List DdmObject) (f : ObjectsFound)
    → measured_objects s (all_objects s) ≡ Ok f → ListsParameters s work ys r zw zr → ParsesObjects s work ys r zw zr
lists_all s work ys r zw zr f e k =
    subst (λ (x : AllParsed). Lists s (listed x) (λ size rows. given_list s size rows x) work ys r zw zr) (sym (measured_all s f e)) k
