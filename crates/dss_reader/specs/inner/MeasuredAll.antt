-- All frames of a run, measured: how many, how many bytes, or the refusal.
use Rattle.std.specs.Prelude.{ℕ, List, length, Result, Ok, Err}
use Rattle.dss_frame.specs.Frames.{AllRead, frames, refused_all, all_frames}
use Rattle.dss_frame.specs.FrameRecords.{payloads_of}
use Rattle.dss_reader.specs.declared.AllMeasured.{AllMeasured}
use Rattle.wire.specs.Bytes.{pick}
use Rattle.answer.specs.Rooms.{no_room, both_fit}
use Rattle.answer.specs.declared.Refused.{Refused}

-- how many frames, how long their payloads end to end, and where the reading ended
abbrev pub all_measured : ℕ → ℕ → ℕ → AllMeasured
all_measured count bytes end = record { count = count; bytes = bytes; end = end }

abbrev pub all_measured_of : List ℕ → AllRead → Result AllMeasured Refused
all_measured_of s (frames fs q) = Ok (all_measured (length fs) (length (payloads_of s fs)) q)
all_measured_of s (refused_all r) = Err r

-- those from a place on
unfoldable pub measured_frames : List ℕ → ℕ → Result AllMeasured Refused
unfolding payloads_of all_frames
measured_frames s p = all_measured_of s (all_frames s p)

-- those, with 9 where they don't fit a room of so many bytes or a row of so many records
abbrev pub fitting_of : ℕ → ℕ → ℕ → Result AllMeasured Refused → Result AllMeasured Refused
fitting_of p size rows (Ok m) = pick (both_fit m.bytes size m.count rows) (Ok m) (Err (no_room p m.bytes m.count))
fitting_of p size rows (Err r) = Err r

abbrev pub fitting_frames : List ℕ → ℕ → ℕ → ℕ → Result AllMeasured Refused
fitting_frames s p size rows = fitting_of p size rows (measured_frames s p)
