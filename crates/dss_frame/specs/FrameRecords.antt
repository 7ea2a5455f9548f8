-- A frame's record beside its payload's place, and payloads end to end: document 01, "What must change shape" and "Reading".
use Rattle.std.specs.Prelude.{ℕ, ◌+◌, List, [], ◌∷◌, ◌++◌, length}
use Rattle.dss_frame.specs.declared.DssFrame.{DssFrame}
use Rattle.dss_frame.specs.Segments.{payload_of, end_of}
use Rattle.dss_frame.specs.Reading.{Frame, Read, frame, refused}

-- "The answer counts segments: one, plus each continuation or absorbed segment": the segments of the definition's list
-- W-201: and where the frame read at p stood, "the first byte and the byte after the last one in the run, absorbed segments included"
abbrev pub frame_record : List ℕ → ℕ → ℕ → Frame → DssFrame
frame_record s p a f =
    record { header = f.head; payload_at = a; payload_len = length (payload_of s f.segments); segments = length f.segments; at = p; end = end_of p f.segments }

-- "payloads end to end in a lent room"
unfoldable pub payloads_of : List ℕ → List Frame → List ℕ
unfolding payload_of
payloads_of s [] = []
payloads_of s (f ∷ fs) = payload_of s f.segments ++ payloads_of s fs

-- "Frames land in a lent row of frame records": the first one stands at p, and its payload lies at a
unfoldable pub frame_records : List ℕ → ℕ → ℕ → List Frame → List DssFrame
unfolding payload_of end_of
frame_records s p a [] = []
frame_records s p a (f ∷ fs) = frame_record s p a f ∷ frame_records s (end_of p f.segments) (a + length (payload_of s f.segments)) fs

-- the payload of what is read, none of a refusal
abbrev pub read_bytes : List ℕ → Read → List ℕ
read_bytes s (frame f) = payload_of s f.segments
read_bytes s (refused r) = []
