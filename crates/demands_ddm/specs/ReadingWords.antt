-- What the words say that the exported functions lay down for a caller in C or Rust, where objects were built and are read: the
-- words of the theorems, as the caller looks them up.
use Rattle.std.specs.Prelude.{ℕ, ◌*◌, ◌≡◌, List, [], ◌∷◌, length, get_or, take, drop}
use Rattle.gateway_object_rows.specs.ListWords.{object_len}
use Rattle.gateway_words.specs.AnswerWords.{answer_len}
use Rattle.ddm_builder.specs.Built.{built}

-- Eight words for an object: its code point; 0, for its data lie in the run; the data themselves, taken from the run by where the
-- words say that they start and how many they are; and how many bytes the object takes.
pub record SaysInWords (cp : ℕ) (d run : List ℕ) (takes : ℕ) (words : List ℕ) : Type 0 where
  pub number : get_or words 0 0 ≡ 0
  pub code_point : get_or words 2 0 ≡ cp
  pub in_run : get_or words 3 0 ≡ 0
  pub data_is : take (get_or words 5 0) (drop (get_or words 4 0) run) ≡ d
  pub data_length : get_or words 5 0 ≡ length d
  pub takes_so_many : get_or words 6 0 ≡ takes

-- A call whose result is one number answers 0 and that number: how many bytes were laid down, or what was read from data.
pub record AnswersNumber (n : ℕ) (words : List ℕ) (r : ℕ) (after : List ℕ) : Type 0 where
  pub done : r ≡ 0
  pub number : get_or after 0 0 ≡ 0
  pub result : get_or after 2 0 ≡ n
  pub behind : drop answer_len after ≡ drop answer_len words

-- A call that reads an object answers 0, and what was built; the work area stays.
pub record AnswersObject (cp : ℕ) (d run : List ℕ) (takes : ℕ) (work words : List ℕ) (r : ℕ) (workAfter after : List ℕ) : Type 0 where
  pub done : r ≡ 0
  pub says : SaysInWords cp d run takes after
  pub behind : drop answer_len after ≡ drop answer_len words
  pub work_is : workAfter ≡ work

-- A row has eight words for each of a list of code points with their data, in order.
unfoldable pub RowSays : List ℕ → List (ℕ × List ℕ) → List ℕ → Type 0
RowSays run [] row = Unit {0}
RowSays run (x ∷ l) row = SaysInWords x.0 x.1 run (length (built x.0 x.1)) row × RowSays run l (drop object_len row)

-- A call that lists objects or parameters answers 0 and how many, no byte of the work area; all of them stand in the row, and all
-- else is as it was.
pub record AnswersList (l : List (ℕ × List ℕ)) (run work row words : List ℕ) (r : ℕ) (workAfter rowAfter after : List ℕ) : Type 0 where
  pub done : r ≡ 0
  pub number : get_or after 0 0 ≡ 0
  pub count : get_or after 2 0 ≡ length l
  pub no_work : get_or after 3 0 ≡ 0
  pub behind : drop answer_len after ≡ drop answer_len words
  pub row_says : RowSays run l rowAfter
  pub row_behind : drop (length l * object_len) rowAfter ≡ drop (length l * object_len) row
  pub work_is : workAfter ≡ work

-- A call that finds none answers 11.
pub record AnswersNone (work words : List ℕ) (r : ℕ) (workAfter after : List ℕ) : Type 0 where
  pub none : r ≡ 11
  pub number : get_or after 0 0 ≡ 11
  pub behind : drop answer_len after ≡ drop answer_len words
  pub work_is : workAfter ≡ work
