-- Module 2 for a caller in C or Rust: a frame to be written, of numbers and bytes, and what its writing answers in words and
-- leaves in the lent room.
use Rattle.std.specs.Prelude.{ℕ, Bool, List, ltb, leb, length, Result, Ok, Err}
use Rattle.wire.specs.Bytes.{pick, laid}
use Rattle.answer.specs.Rooms.{out_of_bounds}
use Rattle.answer.specs.declared.Refused.{Refused}
use Rattle.dss_head.specs.declared.DssType.{DssType}
use Rattle.dss_frame.specs.Written.{Sent, written}
use Rattle.dss_writer.specs.Writer.{sent, wrote}
use Rattle.dss_writer.specs.declared.DssWriter.{DssWriter}
use Rattle.gateway_words.specs.AnswerWords.{refusal_words, done_words, Leaves}

-- ---- what a call is given

-- a writer, of its correlation and its fill mark
abbrev pub writer_of : ℕ → ℕ → DssWriter
writer_of correlation fill = record { correlation_id = correlation; fill = fill }

-- a frame, but for its type
abbrev pub frame_of : ℕ → Bool → Bool → List ℕ → DssType → Sent
frame_of correlation chained same payload t = sent correlation t chained same payload

-- yes or no as a byte: 0 is no
abbrev pub yes : ℕ → Bool
yes b = ltb 0 b

-- ---- a frame from the fill mark on

-- written: the correlation, and the fill mark behind the frame
abbrev pub wrote_words : Result DssWriter Refused → List ℕ
wrote_words (Ok w) = done_words w.correlation_id w.fill 0 0
wrote_words (Err r) = refusal_words r

-- "10 comes first wherever there is a position or mark"
abbrev pub mark_first : ℕ → ℕ → Refused → Refused
mark_first mark size r = pick (leb mark size) r (out_of_bounds mark size)

-- of a type that is given as a byte: 10, then the type's refusal, then 9
abbrev pub wrote_typed : Result DssType Refused → DssWriter → (DssType → Sent) → ℕ → Result DssWriter Refused
wrote_typed (Ok t) w f size = wrote w size (length (written (f t)))
wrote_typed (Err r) w f size = Err (mark_first w.fill size r)

-- and what the room then holds
abbrev pub room_typed : Result DssType Refused → DssWriter → (DssType → Sent) → List ℕ → List ℕ
room_typed (Ok t) w f room = laid room w.fill (written (f t))
room_typed (Err r) w f room = room

-- what a call answers, and what the lent words and the lent room then hold
abbrev pub Sends : Result DssType Refused → DssWriter → (DssType → Sent) → List ℕ → List ℕ → ℕ → List ℕ → List ℕ → Type 0
Sends found w f room = Leaves (wrote_words (wrote_typed found w f (length room))) (room_typed found w f room)
