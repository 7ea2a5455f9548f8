-- What the calls on lists of objects or parameters answer, and what lent work areas and rows hold after each: document 01, "DDM".
-- `s` is the run, or an object's data, and `place` where the first of them stands in it.
use Rattle.std.specs.Prelude.{ℕ, ◌+◌, ◌≡◌, Bool, List, [], ◌∷◌, ◌++◌, length, Result, Ok, Err}
use Rattle.wire.specs.Bytes.{pick, landed}
use Rattle.answer.specs.Rooms.{no_room, both_fit}
use Rattle.ddm_object.specs.Objects.{Object, AllParsed, objects, refused_all, all_objects, parameters}
use Rattle.ddm_object.specs.ObjectCalls.{work_of, object_record}
use Rattle.ddm_object.specs.declared.DdmObject.{DdmObject}
use Rattle.ddm_rows.specs.declared.ObjectsFound.{ObjectsFound}
use Rattle.answer.specs.declared.Refused.{Refused}

unfoldable pub works_of : List ℕ → ℕ → List Object → List ℕ
works_of s place [] = []
works_of s place (o ∷ os) = work_of s place o ++ works_of s (place + o.consumed) os

unfoldable pub object_records : List ℕ → ℕ → List Object → List DdmObject
object_records s place [] = []
object_records s place (o ∷ os) = object_record s place o ∷ object_records s (place + o.consumed) os

abbrev pub objects_fit : List ℕ → List Object → ℕ → ℕ → Bool
objects_fit s os size rows = both_fit (length (works_of s 0 os)) size (length os) rows

abbrev pub given_objects : List ℕ → ℕ → ℕ → List Object → Result ObjectsFound Refused
given_objects s size rows os = pick (objects_fit s os size rows) (Ok (record { count = length os; work = length (works_of s 0 os) })) (Err (no_room 0 (length (works_of s 0 os)) (length os)))

-- "`parse_ddm_objects` ... refuses whole on any refusal"; "anything unfit ... ends the list silently" for parameters
abbrev pub given_list : List ℕ → ℕ → ℕ → AllParsed → Result ObjectsFound Refused
given_list s size rows (objects os) = given_objects s size rows os
given_list s size rows (refused_all r) = Err r

abbrev pub listed : AllParsed → List Object
listed (objects os) = os
listed (refused_all r) = []

-- "`parameters` and `parse_ddm_objects` fill a lent row, one record each"
pub record Lists (s : List ℕ) (os : List Object) (answer : ℕ → ℕ → Result ObjectsFound Refused) (work : List ℕ) (row : List DdmObject) (r : Result ObjectsFound Refused) (workAfter : List ℕ) (rowAfter : List DdmObject) : Type 0 where
  pub answers : r ≡ answer (length work) (length row)
  pub work_is : workAfter ≡ landed (objects_fit s os (length work) (length row)) work (works_of s 0 os)
  pub row_is : rowAfter ≡ landed (objects_fit s os (length work) (length row)) row (object_records s 0 os)

abbrev pub ParsesObjects : List ℕ → List ℕ → List DdmObject → Result ObjectsFound Refused → List ℕ → List DdmObject → Type 0
ParsesObjects s = Lists s (listed (all_objects s)) (λ size rows. given_list s size rows (all_objects s))

abbrev pub ListsParameters : List ℕ → List ℕ → List DdmObject → Result ObjectsFound Refused → List ℕ → List DdmObject → Type 0
ListsParameters s = Lists s (parameters s) (λ size rows. given_objects s size rows (parameters s))

-- what is measured of all objects
abbrev pub measured_objects : List ℕ → AllParsed → Result ObjectsFound Refused
measured_objects s (objects os) = Ok (record { count = length os; work = length (works_of s 0 os) })
measured_objects s (refused_all r) = Err r
