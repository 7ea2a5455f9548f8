-- What gathering lays down.
use Rattle.std.specs.Prelude.{ℕ, List}
use Rattle.dss_frame.specs.Salvage.{salvaged}
use Rattle.dss_salvage.specs.SalvageEntries.{salvaged_bytes}

-- the payloads of all frames of a run, end to end
unfoldable pub bytes_in : List ℕ → List ℕ
unfolding salvaged salvaged_bytes
bytes_in s = salvaged_bytes s (salvaged s).entries
