-- The walk over parameters, as a loop makes it: what it has met, how much of the work area that needs, and where it stands. All
-- objects of a run are what the same walk meets, unless it stops at a refusal.
use Rattle.std.specs.Prelude.{Ok, Err}
use Prim.Native.Nat.{ℕ, zero, suc, ◌+◌, ◌≤◌, ◌<◌}
use native.Mathlib.Omega.{arith}
use mathlib.Core.Path.{◌≡◌, refl, sym, ◌∙◌, ap, ap₂}
use mathlib.Core.List.{List, [], ◌∷◌, ◌++◌, append_assoc, append-nil}
use borrow.Author.Tests.{ltb-true}
use lib.Dec.{ltb}
use lib.ListN.{length, drop, length-append, length-drop}
use lib.Seq.{drop-drop}
use Rattle.wire.proofs.WireLaws.{by, pick_yes, pick_no}
use Rattle.answer.specs.declared.Refused.{Refused}
use Rattle.ddm_length.specs.Lengths.{measured}
use Rattle.ddm_length.proofs.MarkerLaws.{unmarked_length}
use Rattle.ddm_object.specs.Objects.{Object, Parsed, object, refused, object_of, AllParsed, objects, refused_all, and_more, with_rest, parsed, all_fuel, all_objects, parameters}
use Rattle.ddm_object.specs.ObjectCalls.{lies_in_work, work_of, param_step_at}
use Rattle.ddm_object.proofs.ParamWalks.{Found, found, left, takes_all, refuses, parameters_stop, parameters_step}
use Rattle.ddm_object.specs.inner.Walked.{all_from}
use Rattle.ddm_object.proofs.AllWalks.{all_from_lem, all_short, all_refused, all_step}
use Rattle.ddm_object.proofs.ObjectRecords.{in_all, work_content, short_refused}
use Rattle.ddm_object.proofs.FindingParams.{StepOf, no_step}
use Rattle.ddm_object.specs.declared.DdmObject.{DdmObject}
use Rattle.ddm_rows.specs.ListCalls.{works_of, measured_objects}
use Rattle.ddm_rows.specs.declared.Extent.{Extent}
use Rattle.ddm_rows.specs.inner.WalkedList.{and_all, work_len, WalkedParams}
use Rattle.ddm_length.specs.Lengths.{takes}
use Rattle.ddm_rows.specs.declared.ObjectsFound.{ObjectsFound}

-- so many objects, and so much of the work area
abbrev pub objects_found : ℕ → ℕ → ObjectsFound
objects_found count work = record { count = count; work = work }

-- the place behind objects one behind the other
unfoldable pub end_of_objects : ℕ → List Object → ℕ
end_of_objects place [] = place
end_of_objects place (o ∷ os) = end_of_objects (place + o.consumed) os

-- ---- laws of what stands one behind the other

end_more : (place : ℕ) (os : List Object) (o : Object) → end_of_objects place (os ++ (o ∷ [])) ≡ end_of_objects place os + o.consumed
unfolding end_of_objects
end_more place [] o = refl
end_more place (x ∷ os) o = end_more (place + x.consumed) os o

works_more : (s : List ℕ) (place : ℕ) (os : List Object) (o : Object) → works_of s place (os ++ (o ∷ [])) ≡ works_of s place os ++ work_of s (end_of_objects place os) o
unfolding works_of end_of_objects
works_more s place [] o = append-nil (work_of s place o)
works_more s place (x ∷ os) o =
    ap (λ (l : List ℕ). work_of s place x ++ l) (works_more s (place + x.consumed) os o)
    ∙ sym (append_assoc (work_of s place x) (works_of s (place + x.consumed) os) (work_of s (end_of_objects (place + x.consumed) os) o))

and_more_lem : (os : List Object) (o : Object) (x : AllParsed) → and_all (os ++ (o ∷ [])) x ≡ and_all os (and_more o x)
and_more_lem [] o x = refl
and_more_lem (y ∷ os) o x = ap (and_more y) (and_more_lem os o x)

pub and_none : (os : List Object) → and_all os (objects []) ≡ objects os
and_none [] = refl
and_none (o ∷ os) = ap (and_more o) (and_none os)

pub and_refused : (os : List Object) (r : Refused) → and_all os (refused_all r) ≡ refused_all r
and_refused [] r = refl
and_refused (o ∷ os) r = ap (and_more o) (and_refused os r)

-- an object's data in the work area are no more than its bytes
work_few : (s : List ℕ) (place : ℕ) (o : Object) → parsed (drop place s) place ≡ object o → length (work_of s place o) ≤ o.consumed
work_few s place o e =
    by (lies_in_work (drop place s))
    (λ i. let w : work_of s place o ≡ o.content = pick_yes o.content [] i in
    let f : Found (drop place s) o = found (drop place s) place o e in
    omega (arith, ap length (w ∙ work_content (drop place s) place o e i), unmarked_length (drop 4 (drop place s)), length-drop 4 (drop place s), takes_all f (in_all (drop place s) i)))
    (λ i. omega (arith, ap length (pick_no o.content [] i)))

-- ---- the loop's state

-- the step of a loop that has met `before` and stands at a place
pub walk_on : (d : List ℕ) (before : List Object) (at place : ℕ) (o : Object) → parameters d ≡ before ++ parameters (drop at d) → parsed (drop at d) place ≡ object o
    → parameters d ≡ (before ++ (o ∷ [])) ++ parameters (drop (at + o.consumed) d)
walk_on d before at place o e q =
    e ∙ ap (λ l. before ++ l) (parameters_step (drop at d) place o q ∙ ap (λ l. o ∷ parameters l) (drop-drop o.consumed at d))
    ∙ sym (append_assoc before (o ∷ []) (parameters (drop (at + o.consumed) d)))

pub record WalkingParams (s : List ℕ) (at count work : ℕ) : Type 0 where
  pub met : List Object
  pub within : at ≤ length s
  pub end_is : at ≡ end_of_objects 0 met
  pub count_is : count ≡ length met
  pub work_is : work ≡ length (works_of s 0 met)
  pub few : count ≤ at
  pub small : work ≤ at
  pub rest : parameters s ≡ met ++ parameters (drop at s)
  pub alls : all_objects s ≡ and_all met (all_from (drop at s) at)

pub walking_start : (s : List ℕ) → WalkingParams s 0 0 0
unfolding end_of_objects works_of
walking_start s =
    record {
      met = [];
      within = omega arith;
      end_is = refl;
      count_is = refl;
      work_is = refl;
      few = omega arith;
      small = omega arith;
      rest = refl;
      alls = all_from_lem s;
    }

module _ (s : List ℕ) (at count work : ℕ) (w : WalkingParams s at count work) (rec : DdmObject) (next : ℕ) (f : StepOf s at rec next) where
  abbrev o : Object
  o = f.of

  work_len_lem : work_len rec ≡ length (work_of s at o)
  work_len_lem =
      sym (ap work_len f.is)
      ∙ by (lies_in_work (drop at s)) (λ i. pick_yes _ _ i ∙ sym (ap length (pick_yes o.content [] i))) (λ i. pick_no _ _ i ∙ sym (ap length (pick_no o.content [] i)))

  pub walking_step : WalkingParams s next (count + 1) (work + work_len rec)
  walking_step =
      let n : next ≡ at + o.consumed = f.next_is in
      let e : at ≡ end_of_objects 0 w.met = w.end_is in
      record {
        met = w.met ++ (o ∷ []);
        within = f.within;
        end_is = n ∙ ap (λ (k : ℕ). k + o.consumed) e ∙ sym (end_more 0 w.met o);
        count_is = ap (λ (k : ℕ). k + 1) w.count_is ∙ sym (length-append w.met (o ∷ []));
        work_is = ap₂ (λ (x y : ℕ). x + y) w.work_is (work_len_lem ∙ ap (λ (k : ℕ). length (work_of s k o)) e)
            ∙ sym (ap length (works_more s 0 w.met o) ∙ length-append (works_of s 0 w.met) (work_of s (end_of_objects 0 w.met) o));
        few = omega (arith, w.few, f.on);
        small = omega (arith, w.small, work_len_lem, work_few s at o f.read);
        rest = walk_on s w.met at at o w.rest f.read ∙ ap (λ (k : ℕ). (w.met ++ (o ∷ [])) ++ parameters (drop k s)) (sym n);
        alls = w.alls ∙ ap (and_all w.met) (all_step (drop at s) at o f.read) ∙ sym (and_more_lem w.met o (all_from (drop o.consumed (drop at s)) (at + o.consumed)))
            ∙ ap (λ (l : List ℕ). and_all (w.met ++ (o ∷ [])) (all_from l (at + o.consumed))) (drop-drop o.consumed at s)
            ∙ ap (λ (k : ℕ). and_all (w.met ++ (o ∷ [])) (all_from (drop k s) k)) (sym n);
      }

-- ---- what the walk comes to

pub walking_end : (s : List ℕ) (at count work : ℕ) (r : Refused) → WalkingParams s at count work → param_step_at s at ≡ Err r
    → WalkedParams s (record { found = objects_found count work; end = at })
walking_end s at count work r w e =
    let z : (x : Refused) × (parsed (drop at s) at ≡ refused x) = no_step s at r w.within e in
    let m : parameters s ≡ w.met = w.rest ∙ ap (λ (l : List Object). w.met ++ l) (parameters_stop (drop at s) at z.0 z.1) ∙ append-nil w.met in
    record {
      count_is = w.count_is ∙ ap length (sym m);
      work_is = w.work_is ∙ ap (λ (l : List Object). length (works_of s 0 l)) (sym m);
      within = w.within;
      stops = refuses (drop at s) at z.0 z.1;
      alls = w.alls ∙ ap (λ (l : List Object). and_all l (all_from (drop at s) at)) (sym m);
    }

-- all objects, by where the walk stopped
module _ (s : List ℕ) (w : Extent) (k : WalkedParams s w) where
  pub all_listed : length s < w.end + 4 → all_objects s ≡ objects (parameters s)
  all_listed h = k.alls ∙ ap (and_all (parameters s)) (all_short (drop w.end s) w.end (omega (arith, length-drop w.end s, k.within))) ∙ and_none (parameters s)

  pub all_broken : (r : Refused) → w.end + 4 ≤ length s → parsed (drop w.end s) w.end ≡ refused r → all_objects s ≡ refused_all r
  all_broken r h e =
      k.alls ∙ ap (and_all (parameters s)) (all_refused (drop w.end s) w.end r (omega (arith, length-drop w.end s)) e) ∙ and_refused (parameters s) r

-- all objects, where none is refused, are the parameters
objects_fuel : (f : ℕ) (b : List ℕ) (place : ℕ) (os : List Object) → length b < f → all_fuel f b place ≡ objects os → parameters b ≡ os
unfolding all_fuel
objects_fuel zero b place os h e = absurd (omega arith)
objects_fuel (suc f) b place os h e =
    by (ltb (length b) 4)
    (λ c. parameters_stop b place _ (short_refused b place (ltb-true (length b) 4 c)) ∙ none (sym (pick_yes _ _ c) ∙ e))
    (λ c. go (parsed b place) refl (sym (pick_no _ _ c) ∙ e) (λ n l rs q. objects_fuel f (drop n b) (place + n) rs (omega arith) q))
  where
    none : objects [] ≡ objects os → [] ≡ os
    none q = cc

    go : (p : Parsed) → parsed b place ≡ p → with_rest p (λ n. all_fuel f (drop n b) (place + n)) ≡ objects os
        → ((n : ℕ) → length (drop n b) < length b → (rs : List Object) → all_fuel f (drop n b) (place + n) ≡ objects rs → parameters (drop n b) ≡ rs) → parameters b ≡ os
    go (object o) q r ih = more (all_fuel f (drop o.consumed b) (place + o.consumed)) refl r
      where
        more : (x : AllParsed) → all_fuel f (drop o.consumed b) (place + o.consumed) ≡ x → and_more o x ≡ objects os → parameters b ≡ os
        more (objects rs) y k = parameters_step b place o q ∙ ap (λ (l : List Object). o ∷ l) (ih o.consumed (left (found b place o q)) rs y) ∙ (cc)
        more (refused_all z) y k = absurd (let w : ◌≡◌ {A = ℕ} 0 1 = cc in omega arith)
    go (refused z) q r ih = absurd (let w : ◌≡◌ {A = ℕ} 0 1 = cc in omega arith)

pub objects_parameters : (s : List ℕ) (os : List Object) → all_objects s ≡ objects os → parameters s ≡ os
unfolding all_objects
objects_parameters s os e = objects_fuel (suc (length s)) s 0 os (omega arith) e

-- what is measured, by where the walk stopped
module _ (s : List ℕ) (w : Extent) (k : WalkedParams s w) where
  pub measured_listed : length s < w.end + 4 → measured_objects s (all_objects s) ≡ Ok w.found
  measured_listed h = ap (measured_objects s) (all_listed s w k h) ∙ ap₂ (λ (x y : ℕ). Ok (objects_found x y)) (sym k.count_is) (sym k.work_is)

  pub measured_broken : (r : Refused) → w.end + 4 ≤ length s → measured (drop w.end s) w.end ≡ Err r → measured_objects s (all_objects s) ≡ Err r
  unfolding parsed
  measured_broken r h e = ap (measured_objects s) (all_broken s w k r h (ap (object_of (drop w.end s)) e))

  -- the walk stops where nothing can be read
  pub stopped : (t h : ℕ) → measured (drop w.end s) w.end ≡ Ok (takes t h) → ⊥
  unfolding parsed
  stopped t h e =
      let q : (x : Refused) × (parsed (drop w.end s) w.end ≡ refused x) = k.stops w.end in
      let o : parsed (drop w.end s) w.end ≡ object_of (drop w.end s) (Ok (takes t h)) = ap (object_of (drop w.end s)) e in
      let z : ◌≡◌ {A = ℕ} 0 1 = cc in omega arith
