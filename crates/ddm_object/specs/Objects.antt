-- Objects and parameters: document 01, "DDM".
use Rattle.std.specs.Prelude.{ℕ, zero, suc, ◌+◌, ◌-◌, List, [], ◌∷◌, ltb, eqb, length, take, drop, Result, Ok, Err}
use Rattle.wire.specs.Bytes.{pick, be16}
use Rattle.answer.specs.declared.Refused.{Refused}
use Rattle.ddm_length.specs.Lengths.{measured}
use Rattle.ddm_length.specs.Markers.{unmarked}
use Rattle.ddm_length.specs.declared.Marshaled.{Marshaled}

-- an object or parameter as read
pub record Object : Type 0 where
  pub code_point : ℕ
  pub content : List ℕ
  pub consumed : ℕ

pub data Parsed : Type 0 where
  object : Object → Parsed
  refused : Refused → Parsed

-- "raw 0x8004 takes all remaining bytes as data, markers removed"
abbrev pub content_of : List ℕ → ℕ → ℕ → List ℕ
content_of b total header = pick (eqb (be16 b 0) 0x8004) (unmarked (drop 4 b)) (take (total - header) (drop header b))

abbrev pub object_of : List ℕ → Result Marshaled Refused → Parsed
object_of b (Ok m) = object (record { code_point = be16 b 2; content = content_of b m.total m.header; consumed = m.total })
object_of b (Err r) = refused r

-- the object at the front of b, which stands at `place`
unfoldable pub parsed : List ℕ → ℕ → Parsed
unfolding measured unmarked
parsed b place = object_of b (measured b place)

-- ---- objects one behind the other

-- "`parse_ddm_objects` ignores 1 to 3 last bytes and refuses whole on any refusal"
pub data AllParsed : Type 0 where
  objects : List Object → AllParsed
  refused_all : Refused → AllParsed

abbrev pub and_more : Object → AllParsed → AllParsed
and_more o (objects os) = objects (o ∷ os)
and_more o (refused_all r) = refused_all r

abbrev pub with_rest : Parsed → (ℕ → AllParsed) → AllParsed
with_rest (object o) more = and_more o (more o.consumed)
with_rest (refused r) more = refused_all r

unfoldable pub all_fuel : ℕ → List ℕ → ℕ → AllParsed
unfolding parsed
all_fuel zero b place = objects []
all_fuel (suc fuel) b place = pick (ltb (length b) 4) (objects []) (with_rest (parsed b place) (λ n. all_fuel fuel (drop n b) (place + n)))

-- each takes four bytes at least
unfoldable pub all_objects : List ℕ → AllParsed
unfolding all_fuel
all_objects b = all_fuel (suc (length b)) b 0

-- ---- parameters

-- "Parameters: the same lengths over the data; anything unfit (5, 6, 8, 4) ends the list silently"
abbrev pub up_to : Parsed → (ℕ → List Object) → List Object
up_to (object o) more = o ∷ more o.consumed
up_to (refused r) more = []

unfoldable pub parameters_fuel : ℕ → List ℕ → ℕ → List Object
unfolding parsed
parameters_fuel zero b place = []
parameters_fuel (suc fuel) b place = up_to (parsed b place) (λ n. parameters_fuel fuel (drop n b) (place + n))

unfoldable pub parameters : List ℕ → List Object
unfolding parameters_fuel
parameters b = parameters_fuel (suc (length b)) b 0
