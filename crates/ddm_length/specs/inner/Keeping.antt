-- What the walk over data with markers keeps of them.
use Rattle.std.specs.Prelude.{ℕ, ◌<◌, ◌≡◌, List, ◌++◌, length}
use Rattle.ddm_length.specs.Markers.{kept_fuel}

-- "then, until the end, a marker at hand is dropped and up to 32,764 bytes are kept"
unfoldable pub kept : List ℕ → List ℕ
unfolding kept_fuel
kept d = kept_fuel (length d) d

-- the next part that is kept of data, and what stands behind it
pub record KeptPart (d p behind : List ℕ) : Type 0 where
  pub keeps : kept d ≡ p ++ kept behind
  pub on : length behind < length d
