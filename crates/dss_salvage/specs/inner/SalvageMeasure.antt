-- A salvage reading before anything is taken: how many entries, how many bytes, the tail's place.
use Rattle.std.specs.Prelude.{ℕ, List, length}
use Rattle.dss_frame.specs.Salvage.{Salvaged}
use Rattle.dss_salvage.specs.declared.Salvaging.{Salvaging}
use Rattle.dss_salvage.specs.SalvageEntries.{salvaged_bytes}

abbrev pub counted : ℕ → ℕ → ℕ → Salvaging
counted k n t = record { count = k; bytes = n; tail = t }

-- how many entries, how long their payloads end to end, and the tail's place
abbrev pub salvaging_of : List ℕ → Salvaged → Salvaging
salvaging_of s x = counted (length x.entries) (length (salvaged_bytes s x.entries)) x.tail
