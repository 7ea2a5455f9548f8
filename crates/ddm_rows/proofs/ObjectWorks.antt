-- The loop that looks for the parameter whose data go through the work area.
use Rattle.std.specs.Prelude.{Err}
use Prim.Native.Nat.{ℕ, ◌+◌, ◌≤◌}
use native.Mathlib.Omega.{arith}
use mathlib.Core.Path.{◌≡◌, refl, sym, ◌∙◌, ap}
use mathlib.Core.Bool.{true, false}
use mathlib.Core.List.{List, [], ◌++◌, append-nil}
use lib.ListN.{length, drop, length-drop, drop_of_length-le}
use lib.Seq.{drop-drop}
use Rattle.wire.specs.Bytes.{laid}
use Rattle.wire.proofs.WireLaws.{pick_yes, pick_no}
use Rattle.wire.proofs.Splicing.{laid_fits, splice_none}
use Rattle.answer.specs.declared.Refused.{Refused}
use Rattle.ddm_length.specs.Markers.{unmarked}
use Rattle.ddm_object.specs.Objects.{Object, refused, parsed, parameters}
use Rattle.ddm_object.specs.ObjectCalls.{lies_in_work, work_of, param_step_at}
use Rattle.ddm_object.proofs.ParamWalks.{found, takes_all, parameters_stop}
use Rattle.ddm_object.proofs.ObjectRecords.{in_all, work_content, short_refused}
use Rattle.ddm_object.proofs.FindingParams.{StepOf, no_step, params_here}
use Rattle.ddm_object.specs.declared.DdmObject.{DdmObject}
use Rattle.ddm_rows.specs.ListCalls.{works_of}

pub record Seeking (s : List ℕ) (at : ℕ) : Type 0 where
  pub within : at ≤ length s
  pub none : works_of s 0 (parameters s) ≡ works_of s at (parameters (drop at s))

pub seeking_start : (s : List ℕ) → Seeking s 0
seeking_start s = record { within = omega arith; none = refl }

pub seeking_end : (s : List ℕ) (at : ℕ) (r : Refused) (work : List ℕ) → Seeking s at → param_step_at s at ≡ Err r → work ≡ laid work 0 (works_of s 0 (parameters s))
unfolding works_of
seeking_end s at r work k e =
    let z : (x : Refused) × (parsed (drop at s) at ≡ refused x) = no_step s at r k.within e in
    sym (ap (laid work 0) (k.none ∙ ap (works_of s at) (parameters_stop (drop at s) at z.0 z.1)) ∙ laid_fits work 0 [] (omega arith) ∙ splice_none work 0)

module _ (s : List ℕ) (at : ℕ) (k : Seeking s at) (rec : DdmObject) (next : ℕ) (f : StepOf s at rec next) where
  in_is : rec.in_work ≡ lies_in_work (drop at s)
  in_is = sym (ap (λ (x : DdmObject). x.in_work) f.is)

  here : works_of s 0 (parameters s) ≡ work_of s at f.of ++ works_of s (at + f.of.consumed) (parameters (drop (at + f.of.consumed) s))
  unfolding works_of
  here = k.none ∙ ap (works_of s at) (params_here s at f.of f.read)

  pub seeking_step : rec.in_work ≡ false → Seeking s next
  seeking_step i =
      record {
        within = f.within;
        none = here ∙ ap (λ (l : List ℕ). l ++ works_of s (at + f.of.consumed) (parameters (drop (at + f.of.consumed) s))) (pick_no _ _ (sym in_is ∙ i))
            ∙ ap (λ (n : ℕ). works_of s n (parameters (drop n s))) (sym f.next_is);
      }

  -- it takes all bytes that are left, so it is the last
  pub seeking_found : rec.in_work ≡ true → works_of s 0 (parameters s) ≡ unmarked (drop (at + 4) s)
  unfolding works_of
  seeking_found i =
      let j : lies_in_work (drop at s) ≡ true = sym in_is ∙ i in
      let z : f.of.consumed ≡ length (drop at s) = takes_all (found (drop at s) at f.of f.read) (in_all (drop at s) j) in
      let e : drop (at + f.of.consumed) s ≡ [] = drop_of_length-le s {i = at + f.of.consumed} (omega (arith, length-drop at s)) in
      here ∙ ap (λ (l : List ℕ). work_of s at f.of ++ works_of s (at + f.of.consumed) (parameters l)) e
      ∙ ap (λ (l : List Object). work_of s at f.of ++ works_of s (at + f.of.consumed) l) (parameters_stop [] 0 _ (short_refused [] 0 (omega arith)))
      ∙ append-nil (work_of s at f.of)
      ∙ pick_yes _ _ j ∙ work_content (drop at s) at f.of f.read j ∙ ap unmarked (drop-drop 4 at s)
