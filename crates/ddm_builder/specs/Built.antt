-- Building: document 01, "DDM", "Building".
use Rattle.std.specs.Prelude.{ℕ, zero, suc, ◌+◌, ◌^◌, ◌<◌, List, ◌++◌, [], ◌∷◌, leb, length}
use Rattle.wire.specs.Bytes.{pick, two, last}

-- "data up to 32,763 inline; to 2,147,483,643 ... four length bytes; to 140,737,488,355,323 ... six; above ... eight"
unfoldable pub length_bytes : ℕ → ℕ
length_bytes n = pick (leb n 32763) 0 (pick (leb n 2147483643) 4 (pick (leb n 140737488355323) 6 8))

-- "raw 0x8008 with four length bytes", "0x800A with six", "0x800C with eight": the header's length behind the high bit
abbrev pub built_with : ℕ → ℕ → List ℕ → List ℕ
built_with zero cp content = two (length content + 4) ++ (two cp ++ content)
built_with (suc k) cp content = two (0x8004 + suc k) ++ (two cp ++ (last (suc k) (length content) ++ content))

unfoldable pub built : ℕ → List ℕ → List ℕ
unfolding last length_bytes
built cp content = built_with (length_bytes (length content)) cp content

-- how many bytes it is
unfoldable pub built_size : ℕ → ℕ
unfolding length_bytes
built_size n = 4 + length_bytes n + n

-- code points with their data, built one behind the other
abbrev pub built_all : List (ℕ × List ℕ) → List ℕ
built_all [] = []
built_all (x ∷ l) = built x.0 x.1 ++ built_all l

-- each with a code point of two bytes, and no more data than a length of eight can say
abbrev pub Fit : List (ℕ × List ℕ) → Type 0
Fit [] = Unit {0}
Fit (x ∷ l) = (x.0 < 65536) × (length x.1 < 2 ^ 63) × Fit l
