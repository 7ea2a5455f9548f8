-- Document 01, "Both sides of each edge", computed at their real sizes, and the same under salvage's rules, which W-205 changes at one.
use Prim.Native.Nat.{ℕ, ◌-◌, ◌^◌}
use mathlib.Core.Path.{◌≡◌, refl}
use mathlib.Core.Bool.{false}
use mathlib.Core.List.{List, [], ◌∷◌}
use lib.ListN.{length, replicate, take}
use Rattle.wire.specs.Bytes.{be16, last}
use Rattle.answer.specs.Numbers.{number_of}
use Rattle.answer.specs.Rooms.{capped}
use Rattle.dss_head.specs.declared.DssType.TheVariants.{Object}
use Rattle.dss_frame.specs.Segments.{payload_of, end_of, frame_walk, continuations, walk_fuel}
use Rattle.dss_frame.specs.Reading.{Read, frame, refused, read_at, absorb, absorb_fuel, look}
use Rattle.dss_frame.specs.Written.{Sent, written, chunks, chunks_fuel, frame_size}
use Rattle.dss_frame.specs.declared.Rules.TheVariants.{Reader, Salvage}
use Rattle.ddm_builder.specs.Built.{built, length_bytes}

-- an object frame of so many bytes of payload
unfoldable pub full : ℕ → Sent
full n = record { type = Object; chained = false; same = false; correlation = 1; payload = replicate n 0xC1 }

-- what a reading comes to: 0, the payload's length and the position; or the refusal's number
unfoldable pub answer : List ℕ → Read → List ℕ
answer s (frame f) = 0 ∷ length (payload_of s f.segments) ∷ end_of 0 f.segments ∷ []
answer s (refused r) = number_of r.why ∷ []

-- how long a written frame is and what its room is said to be, its first length, its continuations' lengths where there are
-- any (0 beyond the frame), and what reading it alone comes to, for the reader and under salvage's rules
pub record Edge : Type 0 where
  pub size : ℕ
  pub room : ℕ
  pub first : ℕ
  pub second : ℕ
  pub third : ℕ
  pub read : List ℕ
  pub salvage : List ℕ

unfoldable pub edge_of : List ℕ → ℕ → Edge
unfolding answer
edge_of w n = record { size = length w; room = frame_size n; first = be16 w 0; second = be16 w 32767; third = be16 w 65534; read = answer w (read_at Reader w 0); salvage = answer w (read_at Salvage w 0) }

unfoldable pub edge : ℕ → Edge
unfolding full edge_of
edge n = edge_of (written (full n)) n

-- "Payload 32,761: 32,767 bytes, length 7FFF"
pub edge_32761 : edge 32761 ≡ record { size = 32767; room = 32767; first = 0x7FFF; second = 0; third = 0; read = 0 ∷ 32761 ∷ 32767 ∷ []; salvage = 0 ∷ 32761 ∷ 32767 ∷ [] }
unfolding edge edge_of answer full frame_size written chunks chunks_fuel read_at absorb absorb_fuel look payload_of end_of frame_walk continuations walk_fuel
edge_32761 = refl

-- "32,762: 32,770 bytes, continuation 0003"
pub edge_32762 : edge 32762 ≡ record { size = 32770; room = 32770; first = 0xFFFF; second = 0x0003; third = 0; read = 0 ∷ 32762 ∷ 32770 ∷ []; salvage = 0 ∷ 32762 ∷ 32770 ∷ [] }
unfolding edge edge_of answer full frame_size written chunks chunks_fuel read_at absorb absorb_fuel look payload_of end_of frame_walk continuations walk_fuel
edge_32762 = refl

-- "65,525: 65,533 bytes, 7FFE, reads back"
pub edge_65525 : edge 65525 ≡ record { size = 65533; room = 65533; first = 0xFFFF; second = 0x7FFE; third = 0; read = 0 ∷ 65525 ∷ 65533 ∷ []; salvage = 0 ∷ 65525 ∷ 65533 ∷ [] }
unfolding edge edge_of answer full frame_size written chunks chunks_fuel read_at absorb absorb_fuel look payload_of end_of frame_walk continuations walk_fuel
edge_65525 = refl

-- "65,526: 65,534 bytes, 7FFF, not whole alone"; W-205: "In salvage 0x7FFF becomes a last continuation"
pub edge_65526 : edge 65526 ≡ record { size = 65534; room = 65534; first = 0xFFFF; second = 0x7FFF; third = 0; read = 1 ∷ []; salvage = 0 ∷ 65526 ∷ 65534 ∷ [] }
unfolding edge edge_of answer full frame_size written chunks chunks_fuel read_at absorb absorb_fuel look payload_of end_of frame_walk continuations walk_fuel
edge_65526 = refl

-- "65,527: 65,537 bytes, FFFF then 0003"
pub edge_65527 : edge 65527 ≡ record { size = 65537; room = 65537; first = 0xFFFF; second = 0xFFFF; third = 0x0003; read = 0 ∷ 65527 ∷ 65537 ∷ []; salvage = 0 ∷ 65527 ∷ 65537 ∷ [] }
unfolding edge edge_of answer full frame_size written chunks chunks_fuel read_at absorb absorb_fuel look payload_of end_of frame_walk continuations walk_fuel
edge_65527 = refl

-- "a need above 2^64 - 1 is given as that": around the longest payload whose frame has a size below 2^64 (W-206); of one byte more
-- the size is 2^64, and is given as 2^64 - 1
pub edge_capped : (capped (frame_size 18445618139441922008) ≡ 2 ^ 64 - 2) × (capped (frame_size 18445618139441922009) ≡ 2 ^ 64 - 1)
    × (frame_size 18445618139441922010 ≡ 2 ^ 64) × (capped (frame_size 18445618139441922010) ≡ 2 ^ 64 - 1)
unfolding frame_size
edge_capped = (refl, refl, refl, refl)

-- "Data 32,764: 80 08, code point, 00 00 7F FC, 32,772 bytes"; and one byte less, inline
pub edge_32764 : (take 8 (built 0x2412 (replicate 32764 0xC1)) ≡ 0x80 ∷ 0x08 ∷ 0x24 ∷ 0x12 ∷ 0x00 ∷ 0x00 ∷ 0x7F ∷ 0xFC ∷ []) × (length (built 0x2412 (replicate 32764 0xC1)) ≡ 32772)
unfolding built length_bytes last
edge_32764 = (refl, refl)

pub edge_32763 : (take 5 (built 0x2412 (replicate 32763 0xC1)) ≡ 0x7F ∷ 0xFF ∷ 0x24 ∷ 0x12 ∷ 0xC1 ∷ []) × (length (built 0x2412 (replicate 32763 0xC1)) ≡ 32767)
unfolding built length_bytes last
edge_32763 = (refl, refl)
