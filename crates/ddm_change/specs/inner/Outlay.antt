-- A payload's bytes as the writer lays them down, a byte at a time: what stands before each, so that parts can be laid down one behind
-- the other.
use Rattle.std.specs.Prelude.{ℕ, ◌+◌, ◌-◌, ◌%◌, Bool, List, [], ◌∷◌, ◌++◌, leb, eqb}
use Rattle.wire.specs.Bytes.{pick, and, two}

-- the length in the first segment, of n payload bytes
abbrev pub raw_first : ℕ → ℕ
raw_first n = pick (leb n 32761) (n + 6) 0xFFFF

-- whether a continuation starts at payload byte i
abbrev pub starts : ℕ → Bool
starts i = and (leb 32761 i) (eqb ((i - 32761) % 32765) 0)

-- the length that it has, in a payload of n bytes: "0xFFFF when more than 32,765 bytes remain before it, else bytes + 2"
abbrev pub raw_at : ℕ → ℕ → ℕ
raw_at n i = pick (leb (n - i) 32765) (n - i + 2) 0xFFFF

-- bytes from i on of a payload of n bytes
unfoldable pub outlaid : ℕ → ℕ → List ℕ → List ℕ
outlaid n i [] = []
outlaid n i (b ∷ bs) = pick (starts i) (two (raw_at n i)) [] ++ (b ∷ outlaid n (i + 1) bs)
