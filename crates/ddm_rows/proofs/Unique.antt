-- Any two outcomes that a contract of this crate allows are equal. Each statement names the contract, and doesn't write it again.
-- Of a function over a row, or over a walker, its own clause is named, and shown to be a fact that leaves no choice.
use Rattle.std.specs.Prelude.{Result, Ok}
use Prim.Native.Nat.{ℕ}
use mathlib.Core.Path.{◌≡◌, refl, sym, ◌∙◌}
use mathlib.Core.List.{List}
use seplogic.Ra.Ura.{Ura}
use base.Logic.{SProp}
use prog.Memory.{Memory}
use prog.Routine.{Routine}
use types.Logic.{Logic}
use contract.Lifetimes.{Lfts}
use contract.Monad.{Fun, fact}
use denote.Ref.{Bor, MutBor, at_last}
use Rattle.ddm_object.specs.Objects.{Object}
use Rattle.ddm_rows.specs.ListCalls.{Lists, ParsesObjects, ListsParameters}
use Rattle.ddm_object.specs.ObjectCalls.{param_step_at}
use Rattle.wire.specs.Parts.{RestAt}
use Rattle.ddm_object.specs.declared.DdmObject.{DdmObject}
use Rattle.ddm_rows.specs.declared.Walker.{Walker}
use Rattle.ddm_rows.proofs.measure_objects.Reads as measure_objects
use Rattle.ddm_rows.proofs.measure_parameters.Reads as measure_parameters
use Rattle.ddm_rows.proofs.take_objects.Reads as take_objects
use Rattle.ddm_rows.proofs.take_parameters.Reads as take_parameters
use Rattle.ddm_rows.proofs.rest_at.Reads as rest_at
use Rattle.ddm_rows.specs.contracts.parse_ddm_objects as parse_ddm_objects
use Rattle.ddm_rows.specs.contracts.parameters as parameters
use Rattle.ddm_rows.specs.contracts.Walker.new as new
use Rattle.ddm_rows.specs.contracts.Walker.step as step
use Rattle.ddm_rows.specs.contracts.Walker.moved as moved
use Rattle.ddm_rows.specs.contracts.Walker.rest as rest
use Rattle.ddm_rows.specs.declared.ObjectsFound.{ObjectsFound}
use Rattle.answer.specs.declared.Refused.{Refused}

-- ---- lists, measured

pub measure_objects_one : (κs : Lfts 1) (d : Bor (List ℕ)) (r r' : Result ObjectsFound Refused) → measure_objects.Post κs (d, tt) r (d, tt) → measure_objects.Post κs (d, tt) r' (d, tt) → r ≡ r'
measure_objects_one κs d r r' p q = p ∙ sym q

pub measure_parameters_one : (κs : Lfts 1) (d : Bor (List ℕ)) (r r' : ObjectsFound) → measure_parameters.Post κs (d, tt) r (d, tt) → measure_parameters.Post κs (d, tt) r' (d, tt) → r ≡ r'
measure_parameters_one κs d r r' p q = let e : ◌≡◌ {A = Result ObjectsFound Refused} (Ok r) (Ok r') = p ∙ sym q in cc

-- ---- lists, with a work area and a row

pub lists_one : (s : List ℕ) (os : List Object) (answer : ℕ → ℕ → Result ObjectsFound Refused) (work : List ℕ) (row : List DdmObject) (r r' : Result ObjectsFound Refused) (w w' : List ℕ) (l l' : List DdmObject)
    → Lists s os answer work row r w l → Lists s os answer work row r' w' l' → (r ≡ r') × (w ≡ w') × (l ≡ l')
lists_one s os answer work row r r' w w' l l' p q = (p.answers ∙ sym q.answers, p.work_is ∙ sym q.work_is, p.row_is ∙ sym q.row_is)

module _ {M : Type 1} {𝓤 : Ura M} (𝓛 : Logic 𝓤) (mem : Memory → SProp 𝓤) (run : Routine → Fun 𝓤) where
  pub parse_ddm_objects_says : (κs : Lfts 3) (s : Bor (List ℕ)) (work : MutBor (List ℕ)) (row : MutBor (List DdmObject)) (r : Result ObjectsFound Refused) (w : List ℕ) (l : List DdmObject)
      → (parse_ddm_objects.clauses 𝓛 mem run κs (s, (work, (row, tt)))).ensures tt r (s, (at_last work w, (at_last row l, tt))) ≡ fact 𝓤 (ParsesObjects s.now work.now row.now r w l)
  parse_ddm_objects_says κs s work row r w l = refl

  pub parameters_says : (κs : Lfts 3) (s : Bor (List ℕ)) (work : MutBor (List ℕ)) (row : MutBor (List DdmObject)) (r : Result ObjectsFound Refused) (w : List ℕ) (l : List DdmObject)
      → (parameters.clauses 𝓛 mem run κs (s, (work, (row, tt)))).ensures tt r (s, (at_last work w, (at_last row l, tt))) ≡ fact 𝓤 (ListsParameters s.now work.now row.now r w l)
  parameters_says κs s work row r w l = refl

-- ---- the walk over parameters

pub rest_one : (d : Bor (List ℕ)) (at : ℕ) (r r' : Bor (List ℕ)) → RestAt d at r → RestAt d at r' → (r.now ≡ r'.now) × (r.ref_ptr ≡ r'.ref_ptr)
rest_one d at r r' p q = (p.bytes_are ∙ sym q.bytes_are, p.starts ∙ sym q.starts)

pub rest_at_one : (κs : Lfts 1) (d : Bor (List ℕ)) (at : ℕ) (r r' : Bor (List ℕ)) → rest_at.Post κs (d, (at, tt)) r (d, (at, tt)) → rest_at.Post κs (d, (at, tt)) r' (d, (at, tt)) → (r.now ≡ r'.now) × (r.ref_ptr ≡ r'.ref_ptr)
rest_at_one κs d at r r' p q = rest_one d at r r' p q

-- a walker is its data and its place
pub walker_one : (d : Bor (List ℕ)) (at : ℕ) (w w' : Walker) → (w.«data» ≡ d) × (w.at ≡ at) → (w'.«data» ≡ d) × (w'.at ≡ at) → w ≡ w'
walker_one d at w w' p q = λ i. record { «data» = (p.0 ∙ sym q.0) i; at = (p.1 ∙ sym q.1) i }

module _ {M : Type 1} {𝓤 : Ura M} (𝓛 : Logic 𝓤) (mem : Memory → SProp 𝓤) (run : Routine → Fun 𝓤) where
  pub new_says : (κs : Lfts 1) (d : Bor (List ℕ)) (w : Walker) → (new.clauses 𝓛 mem run κs (d, tt)).ensures tt w (d, tt) ≡ fact 𝓤 ((w.«data» ≡ d) × (w.at ≡ 0))
  new_says κs d w = refl

  pub step_says : (κs : Lfts 1) (w : Walker) (r : Result (DdmObject × ℕ) Refused) → (step.clauses 𝓛 mem run κs (w, tt)).ensures tt r (w, tt) ≡ fact 𝓤 (r ≡ param_step_at w.«data».now w.at)
  step_says κs w r = refl

  pub moved_says : (κs : Lfts 1) (w : Walker) (at : ℕ) (r : Walker) → (moved.clauses 𝓛 mem run κs (w, (at, tt))).ensures tt r (w, (at, tt)) ≡ fact 𝓤 ((r.«data» ≡ w.«data») × (r.at ≡ at))
  moved_says κs w at r = refl

  pub rest_says : (κs : Lfts 1) (w : Walker) (r : Bor (List ℕ)) → (rest.clauses 𝓛 mem run κs (w, tt)).ensures tt r (w, tt) ≡ fact 𝓤 (RestAt w.«data» w.at r)
  rest_says κs w r = refl

-- ---- all but the row

module _ (κs : Lfts 2) (s : Bor (List ℕ)) (work : MutBor (List ℕ)) (rows : ℕ) (r r' : Result ObjectsFound Refused) (l l' : List ℕ) where
  pub take_objects_one : take_objects.Post κs (s, (work, (rows, tt))) r (s, (at_last work l, (rows, tt)))
      → take_objects.Post κs (s, (work, (rows, tt))) r' (s, (at_last work l', (rows, tt)))
      → (r ≡ r') × (l ≡ l')
  take_objects_one p q = (p.answers ∙ sym q.answers, p.work_is ∙ sym q.work_is)

  pub take_parameters_one : take_parameters.Post κs (s, (work, (rows, tt))) r (s, (at_last work l, (rows, tt)))
      → take_parameters.Post κs (s, (work, (rows, tt))) r' (s, (at_last work l', (rows, tt)))
      → (r ≡ r') × (l ≡ l')
  take_parameters_one p q = (p.answers ∙ sym q.answers, p.work_is ∙ sym q.work_is)
