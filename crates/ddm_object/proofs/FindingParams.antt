-- One step of the walk over parameters, as a walker makes it; and the loop that looks for the first with a code point.
use Rattle.std.specs.Prelude.{Result, Ok, Err, Some, None}
use Prim.Native.Nat.{ℕ, ◌+◌, ◌≤◌, ◌<◌}
use native.Mathlib.Omega.{arith}
use mathlib.Core.Path.{◌≡◌, refl, sym, ◌∙◌, ap}
use mathlib.Core.Bool.{true, false}
use mathlib.Core.List.{List, ◌∷◌}
use borrow.Author.Tests.{eq-eqb, ne_eqb, le-leb, lt-leb}
use lib.Dec.{leb, eqb}
use lib.ListN.{length, drop, length-drop}
use lib.Seq.{drop-drop}
use Rattle.wire.proofs.WireLaws.{picked, pick_yes, pick_no}
use Rattle.answer.specs.Rooms.{out_of_bounds}
use Rattle.answer.specs.declared.Refused.{Refused}
use Rattle.ddm_object.specs.Objects.{Object, Parsed, object, refused, parsed, parameters}
use Rattle.ddm_object.specs.ObjectCalls.{object_record, find_from, work_found, end_at, step_parsed, param_step_at}
use Rattle.ddm_object.proofs.ParamWalks.{found, sized, parameters_stop, parameters_step}
use Rattle.ddm_object.proofs.ObjectRecords.{RecordOf}
use Rattle.ddm_object.specs.inner.RecordsGiven.{given_in, work_given}
use Rattle.ddm_object.specs.declared.DdmObject.{DdmObject}
use Rattle.ddm_object.specs.inner.Walked.{PlaceIs}

-- ---- one step

within : (s : List ℕ) (at : ℕ) (x : Parsed) → parsed (drop at s) at ≡ x → at ≤ length s → param_step_at s at ≡ step_parsed s at x
unfolding param_step_at
within s at x e h = pick_yes _ _ (le-leb at (length s) h) ∙ ap (step_parsed s at) e

-- an object stands within the data
inside : (s : List ℕ) (at : ℕ) (o : Object) → parsed (drop at s) at ≡ object o → at ≤ length s
inside s at o e = omega (arith, sized (found (drop at s) at o e), length-drop at s)

pub step_is : (s : List ℕ) (at : ℕ) (o : Object) → parsed (drop at s) at ≡ object o → param_step_at s at ≡ Ok (object_record s at o, at + o.consumed)
step_is s at o e = within s at (object o) e (inside s at o e)

pub step_object : (s : List ℕ) (at : ℕ) (rec : DdmObject) → RecordOf (drop at s) at rec → param_step_at s at ≡ Ok (rec, at + rec.consumed)
step_object s at rec f = step_is s at f.of f.read ∙ ap (λ (x : DdmObject). Ok (x, at + x.consumed)) f.is

pub step_end : (s : List ℕ) (at : ℕ) (r : Refused) → at ≤ length s → parsed (drop at s) at ≡ refused r → param_step_at s at ≡ Err (end_at at)
step_end s at r h e = within s at (refused r) e h

pub step_beyond : (s : List ℕ) (at : ℕ) → length s < at → param_step_at s at ≡ Err (out_of_bounds at (length s))
unfolding param_step_at
step_beyond s at h = pick_no _ _ (lt-leb at (length s) h)

-- what a step was made of
pub record StepOf (s : List ℕ) (at : ℕ) (rec : DdmObject) (next : ℕ) : Type 0 where
  pub of : Object
  pub read : parsed (drop at s) at ≡ object of
  pub is : object_record s at of ≡ rec
  pub next_is : next ≡ at + of.consumed
  pub on : at + 4 ≤ next
  pub within : next ≤ length s

abbrev Step : Type 0
Step = Result (DdmObject × ℕ) Refused

never : {P : Type 0} {x : DdmObject × ℕ} {r : Refused} → ◌≡◌ {A = Step} (Ok x) (Err r) → P
never e = absurd (let z : ◌≡◌ {A = ℕ} 0 1 = cc in omega arith)

same : {x y : DdmObject × ℕ} → ◌≡◌ {A = Step} (Ok x) (Ok y) → x ≡ y
same e = cc

pub step_of : (s : List ℕ) (at : ℕ) (rec : DdmObject) (next : ℕ) → param_step_at s at ≡ Ok (rec, next) → StepOf s at rec next
unfolding param_step_at
step_of s at rec next e = picked (leb at (length s)) e (λ c r. go (parsed (drop at s) at) refl r) (λ c r. never (sym r))
  where
    go : (p : Parsed) → parsed (drop at s) at ≡ p → step_parsed s at p ≡ Ok (rec, next) → StepOf s at rec next
    go (object o) q r =
        let p : ◌≡◌ {A = DdmObject × ℕ} (object_record s at o, at + o.consumed) (rec, next) = same r in
        let n : next ≡ at + o.consumed = sym (ap (λ (x : DdmObject × ℕ). x.1) p) in
        let z : (4 ≤ o.consumed) × (o.consumed ≤ length (drop at s)) = sized (found (drop at s) at o q) in
        record { of = o; read = q; is = ap (λ (x : DdmObject × ℕ). x.0) p; next_is = n; on = omega arith; within = omega (arith, length-drop at s) }
    go (refused x) q r = never (sym r)

-- where there is none, within the data, nothing can be read
pub no_step : (s : List ℕ) (at : ℕ) (r : Refused) → at ≤ length s → param_step_at s at ≡ Err r → (x : Refused) × (parsed (drop at s) at ≡ refused x)
no_step s at r h e = go (parsed (drop at s) at) refl
  where
    go : (p : Parsed) → parsed (drop at s) at ≡ p → (x : Refused) × (parsed (drop at s) at ≡ refused x)
    go (object o) q = never (sym (step_is s at o q) ∙ e)
    go (refused x) q = (x, q)

-- ---- the parameters from a place on, by the record that stands there

pub params_here : (s : List ℕ) (at : ℕ) (o : Object) → parsed (drop at s) at ≡ object o → parameters (drop at s) ≡ o ∷ parameters (drop (at + o.consumed) s)
params_here s at o e = parameters_step (drop at s) at o e ∙ ap (λ (l : List ℕ). o ∷ parameters l) (drop-drop o.consumed at s)

consumed_is : (b : List ℕ) (at : ℕ) (rec : DdmObject) (f : RecordOf b at rec) → rec.consumed ≡ f.of.consumed
consumed_is b at rec f = sym (ap (λ (x : DdmObject). x.consumed) f.is)

-- ---- the first parameter with a code point

pub record Looking (s : List ℕ) (cp at : ℕ) : Type 0 where
  pub within : at ≤ length s
  pub finds : (size : ℕ) → find_from s 0 cp size (parameters s) ≡ find_from s at cp size (parameters (drop at s))
  pub works : (work : List ℕ) → work_found s 0 cp work (parameters s) ≡ work_found s at cp work (parameters (drop at s))

pub looking_start : (s : List ℕ) (cp : ℕ) → Looking s cp 0
looking_start s cp = record { within = omega arith; finds = λ size. refl; works = λ work. refl }

pub looking_end : (s : List ℕ) (cp at : ℕ) (r : Refused) → Looking s cp at → parsed (drop at s) at ≡ refused r → PlaceIs s cp None
unfolding find_from work_found
looking_end s cp at r k e = (
  λ size. k.finds size ∙ ap (find_from s at cp size) (parameters_stop (drop at s) at r e),
  λ work. k.works work ∙ ap (work_found s at cp work) (parameters_stop (drop at s) at r e),
)

module _ (s : List ℕ) (cp at : ℕ) (k : Looking s cp at) (rec : DdmObject) (f : RecordOf (drop at s) at rec) where
  code_is : rec.code_point ≡ f.of.code_point
  code_is = sym (ap (λ (x : DdmObject). x.code_point) f.is)

  pub looking_step : ¬ (rec.code_point ≡ cp) → at + rec.consumed ≤ length s → Looking s cp (at + rec.consumed)
  unfolding find_from work_found
  looking_step n h =
      let t : eqb f.of.code_point cp ≡ false = ne_eqb f.of.code_point cp (λ e. n (code_is ∙ e)) in
      let c : rec.consumed ≡ f.of.consumed = consumed_is (drop at s) at rec f in
      record {
        within = h;
        finds = λ size. k.finds size ∙ ap (find_from s at cp size) (params_here s at f.of f.read) ∙ pick_no _ _ t
            ∙ ap (λ (m : ℕ). find_from s (at + m) cp size (parameters (drop (at + m) s))) (sym c);
        works = λ work. k.works work ∙ ap (work_found s at cp work) (params_here s at f.of f.read) ∙ pick_no _ _ t
            ∙ ap (λ (m : ℕ). work_found s (at + m) cp work (parameters (drop (at + m) s))) (sym c);
      }

  pub looking_found : rec.code_point ≡ cp → PlaceIs s cp (Some at)
  unfolding find_from work_found
  looking_found e =
      let t : eqb f.of.code_point cp ≡ true = eq-eqb f.of.code_point cp (sym code_is ∙ e) in (
        k.within,
        λ size. k.finds size ∙ ap (find_from s at cp size) (params_here s at f.of f.read) ∙ pick_yes _ _ t ∙ sym (ap (given_in (drop at s) at 0 size) f.read),
        λ work. k.works work ∙ ap (work_found s at cp work) (params_here s at f.of f.read) ∙ pick_yes _ _ t ∙ sym (ap (work_given (drop at s) work) f.read),
      )
