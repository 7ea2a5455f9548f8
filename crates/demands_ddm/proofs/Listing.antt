-- Objects built one behind the other: `parameters` and `parse_ddm_objects` list just those, and `find_param` gives the first with a
-- code point.
use Rattle.std.specs.Prelude.{Result, Ok}
use Prim.Native.Nat.{ℕ, suc, ◌+◌, ◌≤◌}
use native.Mathlib.Omega.{arith}
use mathlib.Core.Path.{◌≡◌, refl, ap, ap₂, ◌∙◌}
use mathlib.Core.Bool.{true}
use mathlib.Core.List.{List, [], ◌∷◌, ◌++◌}
use borrow.Author.Tests.{le-leb}
use lib.ListN.{length, drop}
use Rattle.wire.specs.Bytes.{splice, landed}
use Rattle.wire.proofs.WireLaws.{pick_yes, and_both}
use Rattle.wire.proofs.Places.{here_next}
use Rattle.wire.proofs.Splicing.{splice_none}
use Rattle.ddm_builder.specs.Built.{built, built_all, Fit}
use Rattle.ddm_object.specs.Objects.{Object, parameters, all_objects}
use Rattle.ddm_rows.specs.ListCalls.{works_of, object_records, objects_fit, given_objects, given_list, listed, ParsesObjects, ListsParameters}
use Rattle.ddm_object.specs.declared.DdmObject.{DdmObject}
use Rattle.ddm_laws.proofs.BuiltLists.{objects_of, parameters_joined, objects_joined}
use Rattle.demands_ddm.specs.ReadingBack.{records_built, AllSay, ListsAs}
use Rattle.demands_ddm.proofs.LayoutRead.{built_no_work, built_record}
use Rattle.ddm_rows.specs.declared.ObjectsFound.{ObjectsFound}
use Rattle.answer.specs.declared.Refused.{Refused}
use Rattle.ddm_rows.proofs.ObjectLists.{objects_found}

count : (l : List (ℕ × List ℕ)) → length (objects_of l) ≡ length l
count [] = refl
count (x ∷ l) = ap suc (count l)

-- from a place on: the records, no bytes of the work area, and what the records say
pub record Rest (s : List ℕ) (place : ℕ) (l : List (ℕ × List ℕ)) : Type 0 where
  pub records : object_records s place (objects_of l) ≡ records_built place l
  pub works : works_of s place (objects_of l) ≡ []
  pub say : AllSay s l (records_built place l)

pub rest_of : (l : List (ℕ × List ℕ)) → Fit l → (s : List ℕ) (place : ℕ) → drop place s ≡ built_all l → Rest s place l
unfolding object_records records_built works_of AllSay
rest_of [] g s place e = record { records = refl; works = refl; say = tt }
rest_of (x ∷ l) g s place e =
    let n : ℕ = length (built x.0 x.1) in
    let b = built_record x.0 x.1 g.0 g.1 s (built_all l) place e in
    let r : Rest s (place + n) l = rest_of l g.2 s (place + n) (here_next s (built x.0 x.1) (built_all l) place (place + n) e refl) in
    record {
      records = ap₂ (λ (o : DdmObject) (os : List DdmObject). o ∷ os) b.0 r.records;
      works = ap₂ (λ (v w : List ℕ). v ++ w) (built_no_work x.0 x.1 g.0 g.1 s (built_all l) place e) r.works;
      say = (refl, b.1, r.say);
    }

-- they fit any work area, and a row with as many records
module _ (l : List (ℕ × List ℕ)) (g : Fit l) (size rows : ℕ) (h : length l ≤ rows) where
  works_none : works_of (built_all l) 0 (objects_of l) ≡ []
  works_none = (rest_of l g (built_all l) 0 refl).works

  pub fit_listed : objects_fit (built_all l) (objects_of l) size rows ≡ true
  fit_listed =
      and_both _ _ (le-leb (length (works_of (built_all l) 0 (objects_of l))) size (omega (arith, ap length works_none)))
      (le-leb (length (objects_of l)) rows (omega (arith, count l)))

  pub given_listed : given_objects (built_all l) size rows (objects_of l) ≡ Ok (objects_found (length l) 0)
  given_listed = pick_yes _ _ fit_listed ∙ ap₂ (λ (n m : ℕ). Ok (objects_found n m)) (count l) (ap length works_none)

-- whatever call lists them
module _ (l : List (ℕ × List ℕ)) (g : Fit l) (work : List ℕ) (row : List DdmObject) (h : length l ≤ length row) (r : Result ObjectsFound Refused) (workAfter : List ℕ) (rowAfter : List DdmObject) where
  abbrev s : List ℕ
  s = built_all l

  all : Rest s 0 l
  all = rest_of l g s 0 refl

  fit : objects_fit s (objects_of l) (length work) (length row) ≡ true
  fit = fit_listed l g (length work) (length row) h

  given : given_objects s (length work) (length row) (objects_of l) ≡ Ok (objects_found (length l) 0)
  given = given_listed l g (length work) (length row) h

  lists_as : (os : List Object) → os ≡ objects_of l → r ≡ Ok (objects_found (length l) 0)
      → workAfter ≡ landed (objects_fit s os (length work) (length row)) work (works_of s 0 os)
      → rowAfter ≡ landed (objects_fit s os (length work) (length row)) row (object_records s 0 os)
      → ListsAs l s work row r workAfter rowAfter
  lists_as os e is w k =
      record {
        is = is;
        row_is =
            k
            ∙ ap (λ (x : List Object). landed (objects_fit s x (length work) (length row)) row (object_records s 0 x)) e
            ∙ pick_yes _ _ fit
            ∙ ap (splice row 0) all.records;
        say = all.say;
        work_is =
            w
            ∙ ap (λ (x : List Object). landed (objects_fit s x (length work) (length row)) work (works_of s 0 x)) e
            ∙ pick_yes _ _ fit
            ∙ ap (splice work 0) all.works
            ∙ splice_none work 0;
      }

  -- `parameters`, of an object's data
  pub parameters_listed : ListsParameters (built_all l) work row r workAfter rowAfter → ListsAs l (built_all l) work row r workAfter rowAfter
  parameters_listed p =
      lists_as (parameters s) (parameters_joined l g)
      (p.answers ∙ ap (given_objects s (length work) (length row)) (parameters_joined l g) ∙ given) p.work_is p.row_is

  -- `parse_ddm_objects`, of a run
  pub objects_listed : ParsesObjects (built_all l) work row r workAfter rowAfter → ListsAs l (built_all l) work row r workAfter rowAfter
  objects_listed p =
      lists_as (listed (all_objects s)) (ap listed (objects_joined l g))
      (p.answers ∙ ap (given_list s (length work) (length row)) (objects_joined l g) ∙ given) p.work_is p.row_is
