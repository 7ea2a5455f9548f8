-- Module 3 for a caller in C or Rust: what the reader's functions answer in words, and what the lent room then holds.
use Rattle.std.specs.Prelude.{ℕ, List, length, Result, Ok, Err}
use Rattle.dss_frame.specs.Reading.{read_at}
use Rattle.dss_frame.specs.declared.Rules.TheVariants.{Reader}
use Rattle.dss_take.specs.Take.{room_read}
use Rattle.dss_reader.specs.Reader.{given_frame}
use Rattle.gateway_words.specs.AnswerWords.{refusal_words, laid_words, Leaves}
use Rattle.gateway_row.specs.RowWords.{frame_at}
use Rattle.dss_frame.specs.declared.DssFrame.{DssFrame}
use Rattle.dss_reader.specs.declared.DssReader.{DssReader}
use Rattle.answer.specs.declared.Refused.{Refused}

-- a frame's end: the byte after its last
abbrev pub end_words : Result ℕ Refused → List ℕ
end_words = laid_words

-- a frame: 0, the position behind it, length, the format byte, correlation, the payload's length, segments, and W-201, its first
-- byte. A refusal's place is the position that it leaves, but 16's: the position stays
abbrev pub frame_words : Result DssFrame Refused × DssReader → List ℕ
frame_words (Ok f, reader) = frame_at reader.position f.at f
frame_words (Err r, reader) = refusal_words r

-- what reading the frame at p answers, and what the lent words and the lent room then hold
abbrev pub ReadsFrame : List ℕ → ℕ → List ℕ → List ℕ → ℕ → List ℕ → List ℕ → Type 0
ReadsFrame s p room = Leaves (frame_words (given_frame s p (length room) (read_at Reader s p))) (room_read s room (read_at Reader s p))
