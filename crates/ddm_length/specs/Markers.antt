-- The removal of continuation markers: document 01, "DDM", "Markers".
use Rattle.std.specs.Prelude.{ℕ, zero, suc, ◌≤◌, ◌<◌, Bool, List, [], ◌∷◌, ◌++◌, ltb, length, take, drop, ◌≡◌}
use Rattle.wire.specs.Bytes.{pick, and, be16, marker, two}

abbrev pub marker_first : List ℕ → Bool
marker_first d = marker (be16 d 0)

abbrev pub past_marker : List ℕ → List ℕ
past_marker d = pick (marker_first d) (drop 2 d) d

-- "then, until the end, a marker at hand is dropped and up to 32,764 bytes are kept", at most `fuel` times
unfoldable pub kept_fuel : ℕ → List ℕ → List ℕ
kept_fuel zero d = []
kept_fuel (suc fuel) [] = []
kept_fuel (suc fuel) (x ∷ d) = take 32764 (past_marker (x ∷ d)) ++ kept_fuel fuel (drop 32764 (past_marker (x ∷ d)))

-- whether markers are looked for at all
abbrev pub has_markers : List ℕ → Bool
has_markers d = and (ltb 32759 (length d)) (marker_first (drop 32757 d))

-- "data up to 32,759 bytes, or without 7FFE or 7FFF at offset 32,757, are unchanged. Else 32,757 bytes are kept"
unfoldable pub unmarked : List ℕ → List ℕ
unfolding kept_fuel
unmarked d = pick (has_markers d) (take 32757 d ++ kept_fuel (length d) (drop 32757 d)) d

-- the two markers
pub data Marker : ℕ → Type 0 where
  fe : Marker 0x7FFE
  ff : Marker 0x7FFF

-- Data with its markers: each stands before at most 32,764 bytes, and before exactly as many unless it is the last.
pub data Marked : List ℕ → List ℕ → Type 0 where
  ends : {n : ℕ} → Marker n → (c : List ℕ) → 0 < length c → length c ≤ 32764 → Marked (two n ++ c) c
  goes_on : {n : ℕ} → Marker n → (c rest more : List ℕ) → length c ≡ 32764 → Marked rest more → Marked (two n ++ (c ++ rest)) (c ++ more)
