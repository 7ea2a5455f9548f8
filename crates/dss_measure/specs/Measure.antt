-- What measuring a frame answers, computed from the segments of the definition's reading: document 01, "Reading".
use Rattle.std.specs.Prelude.{ℕ, List, length, Result, Ok, Err}
use Rattle.dss_frame.specs.Segments.{payload_of, end_of}
use Rattle.dss_frame.specs.Reading.{Frame, Read, frame, refused, read_at}
use Rattle.dss_frame.specs.declared.DssFrame.{DssFrame}
use Rattle.dss_frame.specs.declared.Rules.{Rules}
use Rattle.dss_measure.specs.declared.FrameMeasure.{FrameMeasure}
use Rattle.dss_measure.specs.declared.Extent.{Extent}
use Rattle.answer.specs.declared.Refused.{Refused}

-- ---- the frame

abbrev pub measure_of : List ℕ → ℕ → Frame → FrameMeasure
measure_of s p f =
    record { header = f.head; payload_len = length (payload_of s f.segments); segments = length f.segments; end = end_of p f.segments }

abbrev pub measured_of : List ℕ → ℕ → Read → Result FrameMeasure Refused
measured_of s p (frame f) = Ok (measure_of s p f)
measured_of s p (refused r) = Err r

-- under whose rules, of what run, from what place on
unfoldable pub measured_at : Rules → List ℕ → ℕ → Result FrameMeasure Refused
unfolding payload_of end_of read_at
measured_at rules s p = measured_of s p (read_at rules s p)

-- the record of a measured frame that stands at p, its payload at a of the room
abbrev pub measured_record : ℕ → ℕ → FrameMeasure → DssFrame
measured_record p a m =
    record { header = m.header; payload_at = a; payload_len = m.payload_len; segments = m.segments; at = p; end = m.end }

-- ---- the frame's extent

abbrev pub extent : ℕ → ℕ → Extent
extent payload_len end = record { payload_len = payload_len; end = end }

-- a measure's payload length and end alone
abbrev pub extent_of : Result FrameMeasure Refused → Result Extent Refused
extent_of (Ok m) = Ok (extent m.payload_len m.end)
extent_of (Err r) = Err r
