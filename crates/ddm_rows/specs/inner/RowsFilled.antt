-- What the loop that fills a row of records leaves in it.
use Rattle.std.specs.Prelude.{ℕ, zero, suc, ◌≡◌, List, [], ◌∷◌, ◌++◌, length, drop, Result, Ok, Err}
use Rattle.ddm_object.specs.ObjectCalls.{param_step_at}
use Rattle.ddm_object.specs.declared.DdmObject.{DdmObject}
use Rattle.answer.specs.declared.Refused.{Refused}
use Rattle.ddm_rows.specs.declared.ObjectsFound.{ObjectsFound}

abbrev pub one_more_object : Result (DdmObject × ℕ) Refused → (DdmObject → ℕ → List DdmObject) → List DdmObject
one_more_object (Ok (o, next)) more = more o next
one_more_object (Err r) more = []

-- the records from a place on, at most n of them
unfoldable pub recs_from : ℕ → List ℕ → ℕ → List DdmObject
recs_from zero s at = []
recs_from (suc n) s at = one_more_object (param_step_at s at) (λ o next. o ∷ recs_from n s next)

-- what a row holds after it was filled: the records, then what stood there
pub record RowFilled (s : List ℕ) (n : ℕ) (ys row : List DdmObject) : Type 0 where
  pub row_is : row ≡ recs_from n s 0 ++ drop (length (recs_from n s 0)) ys

-- how many records an answer has
abbrev pub count_of : Result ObjectsFound Refused → ℕ
count_of (Ok f) = f.count
count_of (Err r) = 0
