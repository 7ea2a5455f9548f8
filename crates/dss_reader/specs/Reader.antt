-- The reader's state, its calls' answers, and what lent rooms and rows hold after each: document 01, "Reading".
use Rattle.std.specs.Prelude.{ℕ, ◌≡◌, Bool, true, false, List, leb, length, Result, Ok, Err}
use Rattle.wire.specs.Bytes.{pick, landed}
use Rattle.answer.specs.Rooms.{no_room, out_of_bounds, both_fit}
use Rattle.answer.specs.declared.Refused.{Refused}
use Rattle.dss_frame.specs.Segments.{Walk, payload_of, end_of, frame_walk}
use Rattle.dss_frame.specs.Reading.{Frame, Read, frame, refused, read_at, if_whole, position_left}
use Rattle.dss_frame.specs.Frames.{AllRead, frames, refused_all, all_frames}
use Rattle.dss_frame.specs.FrameRecords.{frame_record, frame_records, payloads_of}
use Rattle.dss_frame.specs.declared.DssFrame.{DssFrame}
use Rattle.dss_frame.specs.declared.Rules.TheVariants.{Reader}
use Rattle.dss_measure.specs.Measure.{measured_record}
use Rattle.dss_take.specs.Take.{room_read}
use Rattle.dss_reader.specs.declared.DssReader.{DssReader}
use Rattle.dss_measure.specs.declared.FrameMeasure.{FrameMeasure}
use Rattle.dss_reader.specs.declared.FramesRead.{FramesRead}

abbrev pub stands_at : ℕ → DssReader
stands_at p = record { position = p }

-- a refusal leaves the position "at the refused head" for 2, 3 and 7, and "where it was" for 1, 9, 10 and 16
abbrev pub left_at : ℕ → Refused → DssReader
left_at p r = stands_at (position_left p r)

-- ---- the frame's end

-- "The walk over continuations yields the end offset or "not whole""
abbrev pub end_found : ℕ → Walk → Result ℕ Refused
end_found p = if_whole p Err (λ gs. Ok (end_of p gs))

-- `complete_frame_len`; `first_complete_frame_len` is that at 0
unfoldable pub frame_end : List ℕ → ℕ → Result ℕ Refused
unfolding end_of frame_walk
frame_end s p = pick (leb p (length s)) (end_found p (frame_walk Reader s p)) (Err (out_of_bounds p (length s)))

-- `has_complete_frame`
abbrev pub is_end : Result ℕ Refused → Bool
is_end (Ok e) = true
is_end (Err r) = false

-- ---- one frame

-- "Last comes 9, position unmoved"; "`next_frame` hands its one record back by value and needs no row"
abbrev pub given_frame : List ℕ → ℕ → ℕ → Read → Result DssFrame Refused × DssReader
given_frame s p size (refused r) = (Err r, left_at p r)
given_frame s p size (frame f) =
    pick (leb (length (payload_of s f.segments)) size) (Ok (frame_record s p 0 f), stands_at (end_of p f.segments))
    (Err (no_room p (length (payload_of s f.segments)) 0), stands_at p)

pub record NextFrame (s : List ℕ) (p : ℕ) (room : List ℕ) (r : Result DssFrame Refused × DssReader) (after : List ℕ) : Type 0 where
  pub answers : r ≡ given_frame s p (length room) (read_at Reader s p)
  pub room_is : after ≡ room_read s room (read_at Reader s p)

-- W-208: the reader's answer, of what taking the frame at p answered. That is `next_frame`'s, of what was taken under the reader's rules
abbrev pub read_of : ℕ → Result FrameMeasure Refused → Result DssFrame Refused × DssReader
read_of p (Ok m) = (Ok (measured_record p 0 m), stands_at m.end)
read_of p (Err r) = (Err r, left_at p r)

-- ---- all frames

-- whether the payloads fit the room and the records the row
abbrev pub frames_fit : List ℕ → List Frame → ℕ → ℕ → Bool
frames_fit s fs size rows = both_fit (length (payloads_of s fs)) size (length fs) rows

abbrev pub frames_read : ℕ → ℕ → FramesRead
frames_read count bytes = record { count = count; bytes = bytes }

-- "At 2, 3, 7 the position stands at the refused head; at 9 and 10 where it was"
abbrev pub given_frames : List ℕ → ℕ → ℕ → ℕ → AllRead → Result FramesRead Refused × DssReader
given_frames s p size rows (refused_all r) = (Err r, left_at p r)
given_frames s p size rows (frames fs q) =
    pick (frames_fit s fs size rows) (Ok (frames_read (length fs) (length (payloads_of s fs))), stands_at q)
    (Err (no_room p (length (payloads_of s fs)) (length fs)), stands_at p)

-- what the room and the row then hold
abbrev pub room_all : List ℕ → List ℕ → ℕ → AllRead → List ℕ
room_all s room rows (refused_all r) = room
room_all s room rows (frames fs q) = landed (frames_fit s fs (length room) rows) room (payloads_of s fs)

abbrev pub row_all : List ℕ → ℕ → ℕ → List DssFrame → AllRead → List DssFrame
row_all s p size row (refused_all r) = row
row_all s p size row (frames fs q) = landed (frames_fit s fs size (length row)) row (frame_records s p 0 fs)

pub record ReadAllFrames (s : List ℕ) (p : ℕ) (room : List ℕ) (row : List DssFrame) (r : Result FramesRead Refused × DssReader) (roomAfter : List ℕ) (rowAfter : List DssFrame) : Type 0 where
  pub answers : r ≡ given_frames s p (length room) (length row) (all_frames s p)
  pub room_is : roomAfter ≡ room_all s room (length row) (all_frames s p)
  pub row_is : rowAfter ≡ row_all s p (length room) row (all_frames s p)

-- the answer for a row of so many records, and what the room then holds
pub record GathersFrames (s : List ℕ) (p : ℕ) (room : List ℕ) (rows : ℕ) (r : Result FramesRead Refused × DssReader) (after : List ℕ) : Type 0 where
  pub answers : r ≡ given_frames s p (length room) rows (all_frames s p)
  pub room_is : after ≡ room_all s room rows (all_frames s p)

-- how many records an answer has
abbrev pub records_in : Result FramesRead Refused × DssReader → ℕ
records_in (Ok m, reader) = m.count
records_in (Err r, reader) = 0
