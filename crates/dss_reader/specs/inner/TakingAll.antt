-- The payloads of all frames, end to end, and that a room has place for them.
use Rattle.std.specs.Prelude.{ℕ, ◌≤◌, ◌≡◌, List, [], length}
use Rattle.dss_frame.specs.Reading.{Frame}
use Rattle.dss_frame.specs.Frames.{AllRead, frames, refused_all, all_frames}
use Rattle.dss_frame.specs.FrameRecords.{payloads_of}

-- the payloads of a reading end to end, nothing for one that is refused
abbrev pub all_payloads : List ℕ → AllRead → List ℕ
all_payloads s (frames fs q) = payloads_of s fs
all_payloads s (refused_all r) = []

-- the reading isn't refused, and its payloads fit
pub record FitsAll (s : List ℕ) (p : ℕ) (room : List ℕ) : Type 0 where
  pub read : List Frame
  pub end : ℕ
  pub is : all_frames s p ≡ frames read end
  pub fits : length (payloads_of s read) ≤ length room
