-- DRDA volume 3's layout of a data stream structure (DSS), as a predicate on bytes: written from the volume's rules and from
-- nothing of the port.
use Rattle.std.specs.Prelude.{ℕ, ◌+◌, ◌≤◌, ◌<◌, ◌≡◌, Bool, true, ◌⊎◌, List, ◌∷◌, ◌++◌, length, get_or}
use Rattle.wire.specs.Bytes.{pick, two}

-- What a data stream structure says: its type's number; whether another follows in its chain; whether the chain goes on after
-- an error; whether the next of the chain has the same correlation; the correlation; the payload.
pub record Structure : Type 0 where
  pub type : ℕ
  pub chained : Bool
  pub on_error : Bool
  pub same : Bool
  pub correlation : ℕ
  pub payload : List ℕ

-- a request, 1 RQSDSS or 5 NORPYDSS, and not 2 RPYDSS, 3 OBJDSS or 4 CMNDSS
abbrev pub Request : ℕ → Type 0
Request type = (type ≡ 1) ⊎ (type ≡ 5)

-- the volume's rules: a type of 1 to 5, a correlation of two bytes, a payload of bytes; continue on error only in a chained
-- request; same correlation only when chained
pub record Allowed (w : Structure) : Type 0 where
  pub type : (1 ≤ w.type) × (w.type ≤ 5)
  pub correlation : w.correlation < 65536
  pub payload : (k : ℕ) → get_or w.payload k 0 < 256
  pub on_error_is : w.on_error ≡ true → (w.chained ≡ true) × Request w.type
  pub same : w.same ≡ true → w.chained ≡ true

-- the format byte: 0x80 reserved and 0, 0x40 chained, 0x20 continue on error, 0x10 same correlation, the low four bits the type
abbrev pub format : Structure → ℕ
format w = pick w.chained 0x40 0 + pick w.on_error 0x20 0 + pick w.same 0x10 0 + w.type

-- what stands behind the first length: 0xD0, the format byte, the correlation
abbrev pub rest : Structure → List ℕ
rest w = 0xD0 ∷ format w ∷ two w.correlation

-- A continuation is a length and bytes. The length's high bit says that another follows, and such a one is full;
-- the others are the last, and may be full too.
pub data Continued : List ℕ → List ℕ → Type 0 where
  ends : (b : List ℕ) → length b + 2 ≤ 0x7FFF → Continued (two (length b + 2) ++ b) b
  goes_on : (b rest more : List ℕ) → length b + 2 ≡ 0x7FFF → Continued rest more → Continued (two 0xFFFF ++ (b ++ rest)) (b ++ more)

-- A data stream structure that the rules allow: LL, D0, format, correlation, then the payload, in one segment or more.
pub data Dss (w : Structure) : List ℕ → Type 0 where
  one : Allowed w → length w.payload + 6 ≤ 0x7FFF → Dss w (two (length w.payload + 6) ++ (rest w ++ w.payload))
  several : Allowed w → (b more bytes : List ℕ) → w.payload ≡ b ++ more → length b + 6 ≡ 0x7FFF → Continued bytes more → Dss w (two 0xFFFF ++ (rest w ++ (b ++ bytes)))

-- whether the last chunk of a structure in several segments is full: 0x7FFF
unfoldable pub EndsFull : {s m : List ℕ} → Continued s m → Type 0
EndsFull (ends b h) = length b + 2 ≡ 0x7FFF
EndsFull (goes_on b r m h c) = EndsFull c

unfoldable pub FullLast : {w : Structure} {s : List ℕ} → Dss w s → Type 0
unfolding EndsFull
FullLast (one a h) = ⊥
FullLast (several a b more bytes e h c) = EndsFull c
