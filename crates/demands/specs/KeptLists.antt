-- All frames of a run, and all items of a damaged one, come back: what the calls in Rattle that list them then answer and leave.
use Rattle.std.specs.Prelude.{ℕ, ◌≡◌, List, [], ◌∷◌, ◌++◌, length, Result, Ok}
use Rattle.wire.specs.Bytes.{splice, joined}
use Rattle.dss_frame.specs.Reading.{Frame}
use Rattle.dss_frame.specs.FrameRecords.{frame_records}
use Rattle.dss_frame.specs.Written.{Sent, written}
use Rattle.dss_frame.specs.declared.DssFrame.{DssFrame}
use Rattle.dss_reader.specs.Reader.{stands_at}
use Rattle.demands.specs.Demands.{Item, good, spoilt, run, AllDue}
use Rattle.demands.specs.AllFrames.{AllGive}
use Rattle.dss_frame.specs.Salvage.{Entry}
use Rattle.dss_salvage.specs.SalvageEntries.{salvaged_row}
use Rattle.dss_salvage.specs.declared.SalvageEntry.{SalvageEntry}
use Rattle.dss_reader.specs.declared.DssReader.{DssReader}
use Rattle.dss_reader.specs.declared.FramesRead.{FramesRead}
use Rattle.answer.specs.declared.Refused.{Refused}
use Rattle.dss_salvage.specs.declared.Salvaging.{Salvaging}
use Rattle.dss_reader.specs.Reader.{frames_read}

-- the payloads that were sent, end to end
unfoldable pub payloads : List Sent → List ℕ
payloads [] = []
payloads (f ∷ fs) = f.payload ++ payloads fs

-- every frame comes back, in order: records in the row, payloads end to end at the room's start, all else as it was
pub record AllBack (fs : List Sent) (room : List ℕ) (row : List DssFrame) (r : Result FramesRead Refused × DssReader) (roomAfter : List ℕ) (rowAfter : List DssFrame) : Type 0 where
  pub read : List Frame
  pub is : r ≡ (Ok (frames_read (length fs) (length (payloads fs))), stands_at (length (joined written fs)))
  pub gives : AllGive (joined written fs) fs read
  pub room_is : roomAfter ≡ splice room 0 (payloads fs)
  pub row_is : rowAfter ≡ splice row 0 (frame_records (joined written fs) 0 0 read)

-- the payload that is due of an item: a good frame's, and of a spoilt one none
abbrev pub due_bytes : Item written → List ℕ
due_bytes (good f _ _) = f.payload
due_bytes (spoilt f _ _ b _) = []

-- of all, end to end
unfoldable pub all_bytes : List (Item written) → List ℕ
all_bytes [] = []
all_bytes (i ∷ is) = due_bytes i ++ all_bytes is

-- the call answers 0 with one entry for each item, exactly as is due, the payloads of the good ones end to end at the room's
-- start, the tail at the run's end, and all else as it was
pub record Recovered (items : List (Item written)) (room : List ℕ) (row : List SalvageEntry) (r : Result Salvaging Refused) (roomAfter : List ℕ) (rowAfter : List SalvageEntry) : Type 0 where
  pub entries : List Entry
  pub due : AllDue (run items) 0 items entries
  pub is : r ≡ Ok (record { count = length items; bytes = length (all_bytes items); tail = length (run items) })
  pub room_is : roomAfter ≡ splice room 0 (all_bytes items)
  pub row_is : rowAfter ≡ splice row 0 (salvaged_row (run items) 0 entries)
