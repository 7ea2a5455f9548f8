-- The loop that lays records of frames down as words: where it stands, and what the row then holds.
use Rattle.std.specs.Prelude.{ℕ, ◌*◌, ◌≤◌, ◌≡◌, List, length}
use Rattle.wire.specs.Bytes.{splice, joined}
use Rattle.dss_frame.specs.Frames.{all_frames}
use Rattle.dss_frame.specs.declared.RowPlace.{RowPlace}
use Rattle.dss_row.specs.inner.FrameRows.{records_from}
use Rattle.dss_reader.specs.inner.TakingAll.{all_payloads, FitsAll}
use Rattle.gateway_row.specs.RowWords.{record_words, record_len}

abbrev pub row_placed : ℕ → ℕ → ℕ → RowPlace
row_placed p a k = record { at = p; payload_at = a; left = k }

-- the words of the k records from p on, the first one's payload at a
abbrev pub words_from : List ℕ → ℕ → ℕ → ℕ → List ℕ
words_from s p a k = joined record_words (records_from k s (row_placed p a k))

-- what taking frames asks: these are all that there are, and they fit
pub record Asks (s : List ℕ) (p count : ℕ) (room row : List ℕ) : Type 0 where
  pub payloads : FitsAll s p room
  pub counted : length payloads.read ≡ count
  pub records : record_len * count ≤ length row

-- the room and the row then
pub record TakenRecord (s : List ℕ) (p count : ℕ) (room row room_after row_after : List ℕ) : Type 0 where
  pub room_is : room_after ≡ splice room 0 (all_payloads s (all_frames s p))
  pub row_is : row_after ≡ splice row 0 (words_from s p 0 count)
