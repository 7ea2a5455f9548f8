-- W-213, two lists, two byte strings: "for any list of code points with data, built one behind the other, the parameter walk gives
-- back that list and ends at the last byte; so different lists never build to equal bytes. Empty lists and empty data are included.
-- Data long enough for each extended form is covered, where the room exists."
-- As a statement about any builder of lists and any walk. `Fit` has code points of sixteen bits and data of fewer than 2^63 bytes.
use Rattle.std.specs.Prelude.{ℕ, ◌≡◌, false, List, [], ◌∷◌, map, length, Result, Ok, Err}
use Rattle.ddm_builder.specs.Built.{Fit}
use Rattle.ddm_object.specs.Objects.{Object}
use Rattle.ddm_object.specs.ObjectCalls.{end_at}
use Rattle.ddm_object.specs.declared.DdmObject.{DdmObject}
use Rattle.demands_ddm.specs.ReadingBack.{data_of}
use Rattle.answer.specs.declared.Refused.{Refused}

-- A step's answer is a parameter with that code point and those data, which lie in the bytes walked over, and the next place.
pub record StepGives (s : List ℕ) (cp : ℕ) (d : List ℕ) (next : ℕ) (r : Result (DdmObject × ℕ) Refused) : Type 0 where
  pub of : DdmObject
  pub is : r ≡ Ok (of, next)
  pub code_point : of.code_point ≡ cp
  pub in_run : of.in_work ≡ false
  pub data_is : data_of s of ≡ d

-- A walk from a place on gives a list, and ends at a place: where `gives at cp d next` holds, the step at a place gives that code
-- point, those data and the next place, and where `ends at` holds, it says that there are no more.
pub data WalkGives {ℓ} (gives : ℕ → ℕ → List ℕ → ℕ → Type ℓ) (ends : ℕ → Type ℓ) : ℕ → List (ℕ × List ℕ) → ℕ → Type ℓ where
  ended : {at : ℕ} → ends at → WalkGives gives ends at [] at
  given : {at cp next to : ℕ} {d : List ℕ} {l : List (ℕ × List ℕ)} → gives at cp d next → WalkGives gives ends next l to → WalkGives gives ends at ((cp, d) ∷ l) to

pub record TwoLists (build : List (ℕ × List ℕ) → List ℕ) (list : List ℕ → List Object) (step : List ℕ → ℕ → Result (DdmObject × ℕ) Refused) : Type 0 where
  -- "the parameter walk gives back that list": all at once
  pub gives_back : (l : List (ℕ × List ℕ)) → Fit l → map (λ (o : Object). (o.code_point, o.content)) (list (build l)) ≡ l
  -- "and ends at the last byte": step by step, from the first byte on
  pub ends_there : (l : List (ℕ × List ℕ)) → Fit l
      → WalkGives (λ at cp d next. StepGives (build l) cp d next (step (build l) at)) (λ at. step (build l) at ≡ Err (end_at at)) 0 l (length (build l))
  -- "so different lists never build to equal bytes": equal bytes are of equal lists
  pub same_list : (l m : List (ℕ × List ℕ)) → Fit l → Fit m → build l ≡ build m → l ≡ m
