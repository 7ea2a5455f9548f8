-- Records of objects, one behind the other, in a lent row, and the work area behind them.
use Rattle.std.specs.Prelude.{ℕ, ◌≡◌, List, length, Result}
use Rattle.wire.specs.Bytes.{landed}
use Rattle.ddm_object.specs.Objects.{AllParsed}
use Rattle.ddm_rows.specs.ListCalls.{works_of, objects_fit, given_list, listed}
use Rattle.ddm_rows.specs.declared.ObjectsFound.{ObjectsFound}
use Rattle.answer.specs.declared.Refused.{Refused}

pub record TakesWork (s : List ℕ) (x : AllParsed) (work : List ℕ) (rows : ℕ) (r : Result ObjectsFound Refused) (after : List ℕ) : Type 0 where
  pub answers : r ≡ given_list s (length work) rows x
  pub work_is : after ≡ landed (objects_fit s (listed x) (length work) rows) work (works_of s 0 (listed x))
