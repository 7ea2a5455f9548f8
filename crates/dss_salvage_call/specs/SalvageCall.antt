-- What the call of the salvage reading answers, and what the lent room and row hold after it: document 01, "Salvage reading".
use Rattle.std.specs.Prelude.{ℕ, ◌≡◌, Bool, List, length, Result, Ok, Err}
use Rattle.wire.specs.Bytes.{pick, landed}
use Rattle.answer.specs.Rooms.{no_room, both_fit}
use Rattle.dss_frame.specs.Salvage.{salvaged}
use Rattle.dss_frame.specs.Salvage as reading
use Rattle.dss_salvage.specs.declared.SalvageEntry.{SalvageEntry}
use Rattle.dss_salvage.specs.SalvageEntries.{salvaged_bytes, salvaged_row}
use Rattle.answer.specs.declared.Refused.{Refused}
use Rattle.dss_salvage.specs.declared.Salvaging.{Salvaging}

-- whether the payloads fit the room and the records the row
abbrev pub entries_fit : List ℕ → List reading.Entry → ℕ → ℕ → Bool
entries_fit s es size rows = both_fit (length (salvaged_bytes s es)) size (length es) rows

-- "the one refusal of the call is 9"
abbrev pub given_entries : List ℕ → ℕ → ℕ → reading.Salvaged → Result Salvaging Refused
given_entries s size rows x =
    pick (entries_fit s x.entries size rows) (Ok (record { count = length x.entries; bytes = length (salvaged_bytes s x.entries); tail = x.tail }))
    (Err (no_room 0 (length (salvaged_bytes s x.entries)) (length x.entries)))

pub record SalvagesRun (s room : List ℕ) (row : List SalvageEntry) (r : Result Salvaging Refused) (roomAfter : List ℕ) (rowAfter : List SalvageEntry) : Type 0 where
  pub answers : r ≡ given_entries s (length room) (length row) (salvaged s)
  pub room_is : roomAfter ≡ landed (entries_fit s (salvaged s).entries (length room) (length row)) room (salvaged_bytes s (salvaged s).entries)
  pub row_is : rowAfter ≡ landed (entries_fit s (salvaged s).entries (length room) (length row)) row (salvaged_row s 0 (salvaged s).entries)

-- how many entries an answer has
abbrev pub entries_in : Result Salvaging Refused → ℕ
entries_in (Ok m) = m.count
entries_in (Err r) = 0

-- the call without the row, which has so many places
pub record GathersEntries (s room : List ℕ) (rows : ℕ) (r : Result Salvaging Refused) (after : List ℕ) : Type 0 where
  pub answers : r ≡ given_entries s (length room) rows (salvaged s)
  pub room_is : after ≡ landed (entries_fit s (salvaged s).entries (length room) rows) room (salvaged_bytes s (salvaged s).entries)
