-- The records of a run's frames, from a place on: document 01, "Reading", "Frames land in a lent row of frame records, payloads end
-- to end in a lent room".
use Rattle.std.specs.Prelude.{ℕ, ◌+◌, ◌-◌, List, eqb, length, Option, Some, None}
use Rattle.wire.specs.Bytes.{pick}
use Rattle.dss_frame.specs.Segments.{payload_of, end_of}
use Rattle.dss_frame.specs.Reading.{Read, frame, refused, read_at}
use Rattle.dss_frame.specs.FrameRecords.{frame_record}
use Rattle.dss_frame.specs.declared.DssFrame.{DssFrame}
use Rattle.dss_frame.specs.declared.Rules.TheVariants.{Reader}
use Rattle.dss_frame.specs.declared.RowPlace.{RowPlace}
use Rattle.dss_row.specs.inner.RowRecords.{laid_from}

-- a frame's record, and where the next one is
abbrev pub found_of : List ℕ → RowPlace → Read → Option (DssFrame × RowPlace)
found_of s x (frame f) =
    Some (frame_record s x.at x.payload_at f, record { at = end_of x.at f.segments; payload_at = x.payload_at + length (payload_of s f.segments); left = x.left - 1 })
found_of s x (refused r) = None

-- none where no more are to come
unfoldable pub record_at : List ℕ → RowPlace → Option (DssFrame × RowPlace)
unfolding payload_of end_of read_at
record_at s x = pick (eqb x.left 0) None (found_of s x (read_at Reader s x.at))

-- the records from a place on, at most n of them
unfoldable pub records_from : ℕ → List ℕ → RowPlace → List DssFrame
unfolding record_at laid_from
records_from n s x = laid_from (record_at s) n x
