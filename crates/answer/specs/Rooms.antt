-- What a result needs of the room that is lent for it: document 01, "Answer numbers", the paragraph below the table.
use Rattle.std.specs.Prelude.{ℕ, ◌-◌, ◌^◌, ◌≡◌, Bool, List, ltb, leb, length, Result, Ok, Err}
use Rattle.wire.specs.Bytes.{pick, and, laid}
use Rattle.answer.specs.declared.Refusal.{Refusal}
use Rattle.answer.specs.declared.Refusal.TheVariants.{NoRoom, OutOfBounds}
use Rattle.answer.specs.declared.Refused.{Refused}

-- "a need above 2^64 - 1 is given as that"
abbrev pub capped : ℕ → ℕ
capped n = pick (ltb n (2 ^ 64)) n (2 ^ 64 - 1)

-- a refusal, with the place that document 01 gives it
abbrev pub refused_at : Refusal → ℕ → Refused
refused_at why place = record { why = why; place = place }

-- 9, with what is needed
abbrev pub no_room : ℕ → ℕ → ℕ → Refused
no_room place bytes records = refused_at (NoRoom (capped bytes) (capped records)) place

-- "more bytes than the room ... or more records than the row"
abbrev pub both_fit : ℕ → ℕ → ℕ → ℕ → Bool
both_fit bytes size records rows = and (leb bytes size) (leb records rows)

-- 10, with the mark or position and the length of what it is beyond
abbrev pub out_of_bounds : ℕ → ℕ → Refused
out_of_bounds mark size = refused_at (OutOfBounds mark size) mark

-- "9 is given exactly when nothing earlier refuses and the result needs more bytes than the room, counted from the fill
-- mark"; "10 comes first wherever there is a position or mark"; "a call without a record row needs 0 records"
abbrev pub room_for : ℕ → ℕ → ℕ → Result (Unit {0}) Refused
room_for mark size need =
    pick (leb mark size) (pick (leb need (size - mark)) (Ok tt) (Err (no_room mark need 0))) (Err (out_of_bounds mark size))

-- "other results start at their room's first byte": n bytes there, and the place that a refusal has
abbrev pub laid_at_start : ℕ → ℕ → ℕ → Result ℕ Refused
laid_at_start place size n = pick (leb n size) (Ok n) (Err (no_room place n 0))

-- what laying bytes down at a room's first byte answers, and what the room then holds
pub record Lays (bytes room : List ℕ) (r : Result ℕ Refused) (after : List ℕ) : Type 0 where
  pub answers : r ≡ laid_at_start 0 (length room) (length bytes)
  pub room_is : after ≡ laid room 0 bytes
