-- The raw length field of each form, and what the functions that lay a header down leave in the room.
use Rattle.std.specs.Prelude.{ℕ, zero, suc, ◌+◌, ◌≡◌, List, length, Result}
use Rattle.wire.specs.Bytes.{laid}
use Rattle.answer.specs.Rooms.{laid_at_start}
use Rattle.answer.specs.declared.Refused.{Refused}

-- the raw length, whatever the number of length bytes
abbrev pub raw_length : ℕ → ℕ → ℕ
raw_length zero n = n + 4
raw_length (suc k) n = 0x8004 + suc k

-- laying bytes down at a room's first byte, with the place that a refusal has
pub record LaysAt (place : ℕ) (bytes room : List ℕ) (r : Result ℕ Refused) (after : List ℕ) : Type 0 where
  pub answers : r ≡ laid_at_start place (length room) (length bytes)
  pub room_is : after ≡ laid room 0 bytes
