-- Changing one parameter: document 02, W-204. `d` is an object's data, `cp` the code point, `new` the new bytes.
use Rattle.std.specs.Prelude.{ℕ, ◌+◌, ◌-◌, ◌≡◌, List, [], ◌∷◌, ◌++◌, eqb, length, take, drop, Result, Ok, Err, Option, Some, None}
use Rattle.wire.specs.Bytes.{pick, be16, laid}
use Rattle.answer.specs.Rooms.{capped, laid_at_start}
use Rattle.answer.specs.declared.Refusal.TheVariants.{NotFound, UnsoundData}
use Rattle.answer.specs.declared.Refused.{Refused}
use Rattle.ddm_builder.specs.Built.{built, built_size}
use Rattle.ddm_object.specs.Objects.{Object, parameters}
use Rattle.ddm_change.specs.declared.Spot.{Spot}

-- ---- which parameter, and whether all is sound

-- "17 when the parameters don't reach the data's end or one has raw length 0x8004": the first byte of the parameter at fault, which is
-- the one with that raw length, or what stands where the walk stopped short of the end. None: all is sound.
unfoldable pub fault_from : List ℕ → ℕ → List Object → Option ℕ
fault_from d place [] = pick (eqb place (length d)) None (Some place)
fault_from d place (o ∷ os) = pick (eqb (be16 d place) 0x8004) (Some place) (fault_from d (place + o.consumed) os)

-- "the first such parameter": from its first byte up to the byte after its last, or nowhere
unfoldable pub first_from : ℕ → ℕ → List Object → Option Spot
first_from cp place [] = None
first_from cp place (o ∷ os) = pick (eqb o.code_point cp) (Some (record { from = place; to = place + o.consumed })) (first_from cp (place + o.consumed) os)

-- ---- the data with that parameter rewritten

-- what changing comes to: the data after it, or 17 at a place, or 11
pub data Change : Type 0 where
  changed : List ℕ → Change
  faulty : ℕ → Change
  lacking : Change

-- "the same data with the first such parameter rewritten as the builder would write it. All bytes before and after that parameter
-- are copied as they are"
abbrev pub rewritten_at : List ℕ → ℕ → List ℕ → Option Spot → Change
rewritten_at d cp new None = lacking
rewritten_at d cp new (Some x) = changed (take x.from d ++ (built cp new ++ drop x.to d))

abbrev pub unless_faulty : Option ℕ → Change → Change
unless_faulty None c = c
unless_faulty (Some place) c = faulty place

-- "17 ..., then 11"
unfoldable pub change_of : List ℕ → ℕ → List ℕ → Change
unfolding fault_from first_from
change_of d cp new = unless_faulty (fault_from d 0 (parameters d)) (rewritten_at d cp new (first_from cp 0 (parameters d)))

-- ---- the calls

abbrev pub unsound : ℕ → Refused
unsound place = record { why = UnsoundData; place = place }

-- 11, in a call that has no position
abbrev pub no_such : Refused
no_such = record { why = NotFound; place = 0 }

-- "then 9", with the bytes needed, at 0
abbrev pub change_answer : Change → ℕ → Result ℕ Refused
change_answer (changed b) size = laid_at_start 0 size (length b)
change_answer (faulty place) size = Err (unsound place)
change_answer lacking size = Err no_such

-- "lay into a second room"; "No answer but 0 alters a lent buffer. With 0, bytes outside the result stay"
abbrev pub change_room : Change → List ℕ → List ℕ
change_room (changed b) room = laid room 0 b
change_room (faulty place) room = room
change_room lacking room = room

-- `change_param`
pub record Changes (d : List ℕ) (cp : ℕ) (new room : List ℕ) (r : Result ℕ Refused) (after : List ℕ) : Type 0 where
  pub answers : r ≡ change_answer (change_of d cp new) (length room)
  pub room_is : after ≡ change_room (change_of d cp new) room

-- the bytes that the data after has, of so many new bytes; "a need above 2^64 - 1 is given as that"
abbrev pub needed_at : List ℕ → ℕ → Option Spot → Result ℕ Refused
needed_at d n None = Err no_such
needed_at d n (Some x) = Ok (capped (x.from + built_size n + (length d - x.to)))

abbrev pub needed_unless : Option ℕ → Result ℕ Refused → Result ℕ Refused
needed_unless None r = r
needed_unless (Some place) r = Err (unsound place)

-- `change_param_len`: the same answers without 9
unfoldable pub needed_of : List ℕ → ℕ → ℕ → Result ℕ Refused
unfolding fault_from first_from built_size
needed_of d cp n = needed_unless (fault_from d 0 (parameters d)) (needed_at d n (first_from cp 0 (parameters d)))
