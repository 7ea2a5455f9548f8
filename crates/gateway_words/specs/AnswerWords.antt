-- How an answer goes to a caller in C or Rust: eight words, document 01's number, the place, then a refusal's values or the
-- result.
use Rattle.std.specs.Prelude.{ℕ, ◌≡◌, List, [], ◌∷◌, length, get_or, Result, Ok, Err}
use Rattle.wire.specs.Bytes.{laid}
use Rattle.answer.specs.Numbers.{number_of, values_of}
use Rattle.answer.specs.Rooms.{laid_at_start}
use Rattle.answer.specs.declared.Refused.{Refused}

-- how many words an answer has
abbrev pub answer_len : ℕ
answer_len = 8

-- a refusal: its number, its place, its three values, 0 where it has fewer
abbrev pub refusal_words : Refused → List ℕ
refusal_words r =
    number_of r.why
    ∷ r.place
    ∷ get_or (values_of r.why) 0 0
    ∷ get_or (values_of r.why) 1 0
    ∷ get_or (values_of r.why) 2 0
    ∷ 0
    ∷ 0
    ∷ 0
    ∷ []

-- done: number 0, place 0, and the result's numbers
abbrev pub done_words : ℕ → ℕ → ℕ → ℕ → List ℕ
done_words a b c d = 0 ∷ 0 ∷ a ∷ b ∷ c ∷ d ∷ 0 ∷ 0 ∷ []

-- bytes laid down: how many
abbrev pub laid_words : Result ℕ Refused → List ℕ
laid_words (Ok n) = done_words n 0 0 0
laid_words (Err r) = refusal_words r

-- What a call answers, and what the lent words then hold: the answer's words laid down at their start where there are eight,
-- else what they held.
pub record Answered (answer words : List ℕ) (r : ℕ) (after : List ℕ) : Type 0 where
  pub number_is : r ≡ get_or answer 0 0
  pub words_are : after ≡ laid words 0 answer

-- The same of a call that is lent a room, or a work area, too: what that then holds.
pub record Leaves (answer room words : List ℕ) (r : ℕ) (room_after words-after : List ℕ) : Type 0 where
  pub answers : Answered answer words r words-after
  pub room_is : room_after ≡ room

-- And of a call that is lent a row as well.
pub record LeavesRow (answer area row words : List ℕ) (r : ℕ) (room_after row_after words-after : List ℕ) : Type 0 where
  pub answers : Answered answer words r words-after
  pub room_is : room_after ≡ area
  pub row_is : row_after ≡ row

-- bytes at the room's first byte: how many, or 9
abbrev pub LaysInWords : List ℕ → List ℕ → List ℕ → ℕ → List ℕ → List ℕ → Type 0
LaysInWords bytes room = Leaves (laid_words (laid_at_start 0 (length room) (length bytes))) (laid room 0 bytes)
