-- All frames at once for a caller in C or Rust: what is answered in words, and what the lent room and the lent row then hold.
use Rattle.std.specs.Prelude.{ℕ, List, [], ◌∷◌, length, Result, Ok, Err}
use Rattle.wire.specs.Bytes.{landed, joined}
use Rattle.dss_frame.specs.Frames.{AllRead, frames, refused_all, all_frames}
use Rattle.dss_frame.specs.FrameRecords.{frame_records}
use Rattle.dss_reader.specs.Reader.{frames_fit, given_frames, room_all}
use Rattle.gateway_words.specs.AnswerWords.{refusal_words, LeavesRow}
use Rattle.gateway_row.specs.RowWords.{record_words, places}
use Rattle.dss_reader.specs.declared.DssReader.{DssReader}
use Rattle.dss_reader.specs.declared.FramesRead.{FramesRead}
use Rattle.answer.specs.declared.Refused.{Refused}

-- frames: 0, the position behind them, how many they are, how many bytes their payloads have. A refusal's place is the position
-- that it leaves
abbrev pub frames_words : Result FramesRead Refused × DssReader → List ℕ
frames_words (Ok m, reader) = 0 ∷ reader.position ∷ m.count ∷ m.bytes ∷ 0 ∷ 0 ∷ 0 ∷ 0 ∷ []
frames_words (Err r, reader) = refusal_words r

-- "Frames land in a lent row of frame records": the records' words at the row's start where all that the call lays down fits
abbrev pub frames_row : List ℕ → ℕ → ℕ → List ℕ → AllRead → List ℕ
frames_row s p size row (refused_all r) = row
frames_row s p size row (frames fs q) = landed (frames_fit s fs size (places row)) row (joined record_words (frame_records s p 0 fs))

-- what reading all frames from p on answers, and what the lent words, room and row then hold
abbrev pub ReadsAllFrames : List ℕ → ℕ → List ℕ → List ℕ → List ℕ → ℕ → List ℕ → List ℕ → List ℕ → Type 0
ReadsAllFrames s p room row =
    LeavesRow (frames_words (given_frames s p (length room) (places row) (all_frames s p))) (room_all s room (places row) (all_frames s p)) (frames_row s p (length room) row (all_frames s p))
