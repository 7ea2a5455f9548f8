-- The entries of a salvage reading, document 01, "Salvage reading": their records, their payloads end to end, where each stood.
use Rattle.std.specs.Prelude.{ℕ, ◌+◌, List, [], ◌∷◌, ◌++◌, length}
use Rattle.dss_frame.specs.Segments.{payload_of}
use Rattle.dss_frame.specs.Reading.{Read, frame, refused}
use Rattle.dss_frame.specs.FrameRecords.{frame_record, read_bytes}
use Rattle.dss_frame.specs.Salvage as reading
use Rattle.dss_salvage.specs.declared.SalvageEntry.{SalvageEntry}
use Rattle.dss_salvage.specs.declared.Entry.{Entry}
use Rattle.dss_salvage.specs.declared.Entry.TheVariants.{Frame, Refused as Refuses}

-- "Entries are listed in order, one record each, a refusal's without payload"
-- W-201: with where each stood
abbrev pub entry_at : List ℕ → ℕ → ℕ → ℕ → Read → SalvageEntry
entry_at s a p e (frame f) = record { entry = Frame (frame_record s p a f) }
entry_at s a p e (refused r) = record { entry = Refuses r p e }

abbrev pub entry_of : List ℕ → ℕ → reading.Entry → SalvageEntry
entry_of s a e = entry_at s a e.at e.end e.read

-- an entry's first byte, and the byte after its last
abbrev pub starts_in : Entry → ℕ
starts_in (Frame d) = d.at
starts_in (Refuses r p e) = p

abbrev pub ends_in : Entry → ℕ
ends_in (Frame d) = d.end
ends_in (Refuses r p e) = e

-- payloads end to end
unfoldable pub salvaged_bytes : List ℕ → List reading.Entry → List ℕ
unfolding payload_of
salvaged_bytes s [] = []
salvaged_bytes s (e ∷ es) = read_bytes s e.read ++ salvaged_bytes s es

-- records in order, the first payload at `at`
unfoldable pub salvaged_row : List ℕ → ℕ → List reading.Entry → List SalvageEntry
unfolding payload_of
salvaged_row s at [] = []
salvaged_row s at (e ∷ es) = entry_of s at e ∷ salvaged_row s (at + length (read_bytes s e.read)) es
