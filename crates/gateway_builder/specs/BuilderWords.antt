-- Module 4's building for a caller in C or Rust: a builder, of numbers, and what each of its calls answers in words and leaves
-- in the lent room.
use Rattle.std.specs.Prelude.{ℕ, List, leb, length, Result, Ok, Err}
use Rattle.wire.specs.Bytes.{pick, laid}
use Rattle.answer.specs.Rooms.{out_of_bounds, laid_at_start}
use Rattle.ddm_builder.specs.Builder.{added, builder_object}
use Rattle.ddm_builder.specs.declared.DdmBuilder.{DdmBuilder}
use Rattle.gateway_words.specs.AnswerWords.{refusal_words, done_words, laid_words, Leaves}
use Rattle.answer.specs.declared.Refused.{Refused}

-- ---- what a call is given

-- a builder, of its object's code point and its fill mark
abbrev pub builder_of : ℕ → ℕ → DdmBuilder
builder_of cp fill = record { code_point = cp; fill = fill }

-- one that is only added to, or measured: no matter which code point
abbrev pub adding : ℕ → DdmBuilder
adding fill = builder_of 0 fill

-- ---- adding: document 01, "laid into the lent room from the fill mark onward"; 10, 9

-- added: the fill mark behind it
abbrev pub added_words : Result DdmBuilder Refused → List ℕ
added_words (Ok b) = done_words b.fill 0 0 0
added_words (Err r) = refusal_words r

-- what a call answers, and what the lent words and the lent room then hold
abbrev pub Appends : DdmBuilder → List ℕ → List ℕ → List ℕ → ℕ → List ℕ → List ℕ → Type 0
Appends b bytes room = Leaves (added_words (added b (length room) (length bytes))) (laid room b.fill bytes)

-- ---- a builder's object: 10 where the fill mark is beyond the data's room, then 9, both at the fill mark

abbrev pub made_laid : DdmBuilder → List ℕ → ℕ → Result ℕ Refused
made_laid b content size =
    pick (leb b.fill (length content)) (laid_at_start b.fill size (length (builder_object b content))) (Err (out_of_bounds b.fill (length content)))

abbrev pub made_room : DdmBuilder → List ℕ → List ℕ → List ℕ
made_room b content room = pick (leb b.fill (length content)) (laid room 0 (builder_object b content)) room

abbrev pub Makes : DdmBuilder → List ℕ → List ℕ → List ℕ → ℕ → List ℕ → List ℕ → Type 0
Makes b content room = Leaves (laid_words (made_laid b content (length room))) (made_room b content room)
