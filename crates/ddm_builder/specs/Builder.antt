-- The builder's state, its calls' answers, and what lent rooms hold after each: document 01, "DDM", "Building".
use Rattle.std.specs.Prelude.{ℕ, ◌+◌, ◌≡◌, List, leb, length, take, Result, Ok, Err}
use Rattle.wire.specs.Bytes.{pick, two, last, laid}
use Rattle.answer.specs.Rooms.{capped, room_for, out_of_bounds, laid_at_start}
use Rattle.ddm_builder.specs.Built.{built, built_size}
use Rattle.ddm_builder.specs.declared.DdmBuilder.{DdmBuilder}
use Rattle.answer.specs.declared.Refused.{Refused}

-- ---- the state

abbrev pub fresh_builder : ℕ → DdmBuilder
fresh_builder cp = record { code_point = cp; fill = 0 }

-- ---- adding to the data: into the lent room from the fill mark onward; 10, 9

abbrev pub added_by : DdmBuilder → ℕ → Result (Unit {0}) Refused → Result DdmBuilder Refused
added_by b n (Ok tt) = Ok (record { code_point = b.code_point; fill = b.fill + n })
added_by b n (Err r) = Err r

abbrev pub added : DdmBuilder → ℕ → ℕ → Result DdmBuilder Refused
added b size n = added_by b n (room_for b.fill size n)

pub record Adds (b : DdmBuilder) (bytes room : List ℕ) (r : Result DdmBuilder Refused) (after : List ℕ) : Type 0 where
  pub answers : r ≡ added b (length room) (length bytes)
  pub room_is : after ≡ laid room b.fill bytes

-- `add_code_point`, `add_u16`, `add_u32`: a parameter as the builder writes it; `add_raw` adds bytes as they are
abbrev pub parameter16 : ℕ → ℕ → List ℕ
parameter16 cp n = built cp (two n)

unfoldable pub parameter32 : ℕ → ℕ → List ℕ
unfolding last
parameter32 cp n = built cp (last 4 n)

-- ---- the object

-- what a builder with so much data in a room makes
abbrev pub builder_object : DdmBuilder → List ℕ → List ℕ
builder_object b content = built b.code_point (take b.fill content)

-- `build_param`, `build_param_u16` and `build_ddm_object` are `Lays` of what is built.
-- `build`: the data are the filled part of one room, and the object is laid at another's first byte; 10, 9, at the fill mark
pub record Builds (b : DdmBuilder) (content room : List ℕ) (r : Result ℕ Refused) (after : List ℕ) : Type 0 where
  pub answers : r
      ≡ pick (leb b.fill (length content)) (laid_at_start b.fill (length room) (length (builder_object b content))) (Err (out_of_bounds b.fill (length content)))
  pub room_is : after ≡ pick (leb b.fill (length content)) (laid room 0 (builder_object b content)) room

-- ---- `total_length`

abbrev pub builder_total : DdmBuilder → ℕ
builder_total b = capped (built_size b.fill)
