-- What taking a frame answers, and what the lent room then holds: document 01, "Reading", "Last comes 9, position unmoved".
use Rattle.std.specs.Prelude.{ℕ, ◌≡◌, List, leb, length, Result, Ok, Err}
use Rattle.wire.specs.Bytes.{pick, laid}
use Rattle.answer.specs.Rooms.{no_room}
use Rattle.dss_frame.specs.Segments.{payload_of}
use Rattle.dss_frame.specs.Reading.{Read, frame, refused, read_at}
use Rattle.dss_frame.specs.declared.Rules.{Rules}
use Rattle.dss_measure.specs.Measure.{measure_of}
use Rattle.dss_frame.specs.FrameRecords.{read_bytes}
use Rattle.dss_measure.specs.declared.FrameMeasure.{FrameMeasure}
use Rattle.answer.specs.declared.Refused.{Refused}

-- a frame's measure where its payload fits, else 9
abbrev pub taken_of : List ℕ → ℕ → ℕ → Read → Result FrameMeasure Refused
taken_of s p size (refused r) = Err r
taken_of s p size (frame f) =
    pick (leb (length (payload_of s f.segments)) size) (Ok (measure_of s p f)) (Err (no_room p (length (payload_of s f.segments)) 0))

-- what the room then holds
abbrev pub room_read : List ℕ → List ℕ → Read → List ℕ
room_read s room (frame f) = laid room 0 (payload_of s f.segments)
room_read s room (refused r) = room

-- under whose rules, of what run, from what place on
unfoldable pub payload_at : Rules → List ℕ → ℕ → List ℕ
unfolding payload_of read_at
payload_at rules s p = read_bytes s (read_at rules s p)

pub record Takes (rules : Rules) (s : List ℕ) (p : ℕ) (room : List ℕ) (r : Result FrameMeasure Refused) (after : List ℕ) : Type 0 where
  pub answers : r ≡ taken_of s p (length room) (read_at rules s p)
  pub room_is : after ≡ room_read s room (read_at rules s p)
