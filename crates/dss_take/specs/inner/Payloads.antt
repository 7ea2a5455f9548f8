-- That a room has place for a payload, and that a measure is that of a frame of the run.
use Rattle.std.specs.Prelude.{ℕ, ◌≤◌, ◌≡◌, List, length}
use Rattle.dss_head.specs.declared.DssType.{DssType}
use Rattle.dss_frame.specs.declared.Rules.{Rules}
use Rattle.dss_frame.specs.Segments.{payload_of}
use Rattle.dss_frame.specs.Reading.{Frame, frame, read_at}

-- a frame is read, and its payload fits the room
pub record FitsRoom (rules : Rules) (s : List ℕ) (p : ℕ) (room : List ℕ) : Type 0 where
  pub read : Frame
  pub is : read_at rules s p ≡ frame read
  pub fits : length (payload_of s read.segments) ≤ length room

-- the frame that is read, if one is, has a head of this type
abbrev pub Typed : Rules → List ℕ → ℕ → DssType → Type 0
Typed rules s p t = (f : Frame) → read_at rules s p ≡ frame f → f.head.dss_type ≡ t
