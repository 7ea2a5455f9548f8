-- Where filling a row starts.
use Rattle.std.specs.Prelude.{ℕ}
use Rattle.dss_frame.specs.declared.RowPlace.{RowPlace}

-- so many, of the frames or entries from p on; the first one's payload is the room's first
abbrev pub starts_at : ℕ → ℕ → RowPlace
starts_at p count = record { at = p; payload_at = 0; left = count }
