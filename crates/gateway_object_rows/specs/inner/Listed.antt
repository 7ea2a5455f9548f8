-- What is left in words and row once it is known what was found.
use Rattle.std.specs.Prelude.{ℕ, ◌≡◌, List, Result}
use Rattle.wire.specs.Bytes.{splice}
use Rattle.answer.specs.declared.Refused.{Refused}
use Rattle.ddm_rows.specs.declared.ObjectsFound.{ObjectsFound}
use Rattle.ddm_rows.specs.inner.RowsFilled.{count_of}
use Rattle.ddm_rows.specs.inner.RowsFilled.{recs_from}
use Rattle.gateway_words.specs.AnswerWords.{Answered}
use Rattle.gateway_object_rows.specs.ListWords.{list_words, list_row}

pub record ListedWords (s : List ℕ) (found : Result ObjectsFound Refused) (row words : List ℕ) (r : ℕ) (rowAfter wordsAfter : List ℕ) : Type 0 where
  pub answers : Answered (list_words found) words r wordsAfter
  pub row_is : rowAfter ≡ splice row 0 (list_row (recs_from (count_of found) s 0))
