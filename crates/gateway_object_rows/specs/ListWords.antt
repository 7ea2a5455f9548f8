-- Lists of objects and parameters for a caller in C or Rust: a row of words, eight a record; what the calls answer, and what the
-- lent work area, row and words then hold.
use Rattle.std.specs.Prelude.{ℕ, ◌/◌, List, [], ◌∷◌, ◌++◌, length, Result, Ok, Err}
use Rattle.wire.specs.Bytes.{landed}
use Rattle.ddm_object.specs.Objects.{Object, all_objects, parameters}
use Rattle.ddm_rows.specs.ListCalls.{works_of, object_records, objects_fit, given_objects, given_list, listed}
use Rattle.ddm_object.specs.declared.DdmObject.{DdmObject}
use Rattle.gateway_words.specs.AnswerWords.{answer_len, refusal_words, done_words, LeavesRow}
use Rattle.gateway_object.specs.ObjectWords.{object_words}
use Rattle.ddm_rows.specs.declared.ObjectsFound.{ObjectsFound}
use Rattle.answer.specs.declared.Refused.{Refused}

-- how many records stand in the row, and how many bytes of the work area are filled
abbrev pub list_words : Result ObjectsFound Refused → List ℕ
list_words (Ok f) = done_words f.count f.work 0 0
list_words (Err r) = refusal_words r

-- the words of records, one behind the other
unfoldable pub list_row : List DdmObject → List ℕ
list_row [] = []
list_row (o ∷ os) = object_words o ++ list_row os

-- how many words a row's record has: as many as an answer; and how many records a row of words has room for
abbrev pub object_len : ℕ
object_len = answer_len

abbrev pub records : List ℕ → ℕ
records row = length row / object_len

-- "`parameters` and `parse_ddm_objects` fill a lent row, one record each": `Lists` of ddm_rows, in words
abbrev pub ListsWords : List ℕ → List Object → (ℕ → ℕ → Result ObjectsFound Refused) → List ℕ → List ℕ → List ℕ → ℕ → List ℕ → List ℕ → List ℕ → Type 0
ListsWords s os answer work row =
    LeavesRow (list_words (answer (length work) (records row)))
    (landed (objects_fit s os (length work) (records row)) work (works_of s 0 os))
    (landed (objects_fit s os (length work) (records row)) row (list_row (object_records s 0 os)))

abbrev pub ObjectsWords : List ℕ → List ℕ → List ℕ → List ℕ → ℕ → List ℕ → List ℕ → List ℕ → Type 0
ObjectsWords s = ListsWords s (listed (all_objects s)) (λ size rows. given_list s size rows (all_objects s))

abbrev pub ParametersWords : List ℕ → List ℕ → List ℕ → List ℕ → ℕ → List ℕ → List ℕ → List ℕ → Type 0
ParametersWords s = ListsWords s (parameters s) (λ size rows. given_objects s size rows (parameters s))
