-- DRDA volume 3's layout of a DDM object or parameter, as a predicate on bytes: written from the volume's rules and from
-- nothing of the port.
use Rattle.std.specs.Prelude.{ℕ, ◌+◌, ◌≤◌, ◌<◌, ◌≡◌, List, ◌++◌, length}
use Rattle.wire.specs.Bytes.{be16, two, spelled}

-- how many length bytes an extended header may have: 0x8008, 0x800A, 0x800C
pub data Width : ℕ → Type 0 where
  four : Width 4
  six : Width 6
  eight : Width 8

-- the raw lengths of the volume: up to 0x7FFF; 0x8008, 0x800A, 0x800C; 0x8004
pub data Documented : ℕ → Type 0 where
  short : {raw : ℕ} → raw < 0x8000 → Documented raw
  long : {raw k : ℕ} → Width k → raw ≡ 0x8004 + k → Documented raw
  to_end : {raw : ℕ} → raw ≡ 0x8004 → Documented raw

-- Length, code point, data. A whole length up to 0x7FFF stands in the two bytes. Else these hold the high bit and the
-- header's length, 4 + k, and the k bytes behind the code point hold the length of the data. With no length bytes, 0x8004,
-- the data goes on to the end of what carries it: such an object has no end of its own, it ends where its carrier ends, and
-- the bytes laid out are all that the carrier has left.
pub data Ddm (cp : ℕ) (d : List ℕ) : List ℕ → Type 0 where
  inline : length d + 4 ≤ 0x7FFF → Ddm cp d (two (length d + 4) ++ (two cp ++ d))
  extended : (k : ℕ) (ls : List ℕ) → Width k → length ls ≡ k → spelled 0 ls ≡ length d → Ddm cp d (two (0x8004 + k) ++ (two cp ++ (ls ++ d)))
  streamed : Ddm cp d (two 0x8004 ++ (two cp ++ d))

-- bytes laid out that have no end of their own
abbrev pub Streamed : List ℕ → Type 0
Streamed p = be16 p 0 ≡ 0x8004
