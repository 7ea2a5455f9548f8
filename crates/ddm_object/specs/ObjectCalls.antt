-- What the calls on one object or parameter answer, and what a lent work area holds after each: document 01, "DDM".
-- `s` is the run, or an object's data, and `place` where an object or parameter stands in it.
use Rattle.std.specs.Prelude.{ℕ, ◌+◌, ◌-◌, ◌^◌, ℤ, pos, ◌-ℤ◌, ◌≡◌, Bool, List, [], ◌∷◌, ltb, leb, eqb, length, take, drop, Result, Ok, Err}
use Rattle.wire.specs.Bytes.{pick, and, be16, spelled, laid}
use Rattle.answer.specs.Rooms.{capped, no_room, out_of_bounds}
use Rattle.answer.specs.declared.Refusal.TheVariants.{NotFound}
use Rattle.answer.specs.declared.Refused.{Refused}
use Rattle.ddm_length.specs.Markers.{has_markers}
use Rattle.ddm_builder.specs.Built.{built_size}
use Rattle.ddm_object.specs.Objects.{Object, Parsed, object, refused, parsed, parameters}
use Rattle.ddm_object.specs.declared.DdmObject.{DdmObject}

-- ---- where the data lies

-- "a part of its own bytes, or of the work area once markers came out": only raw 0x8004 has markers removed
abbrev pub lies_in_work : List ℕ → Bool
lies_in_work b = and (eqb (be16 b 0) 0x8004) (has_markers (drop 4 b))

-- what an object lays into the work area: "Without markers no work area is needed"
abbrev pub work_of : List ℕ → ℕ → Object → List ℕ
work_of s place o = pick (lies_in_work (drop place s)) o.content []

-- in the run an object's data are its last bytes; in the work area they are its first
abbrev pub object_record : List ℕ → ℕ → Object → DdmObject
object_record s place o = record {
  code_point = o.code_point;
  in_work = lies_in_work (drop place s);
  data_at = pick (lies_in_work (drop place s)) 0 (place + (o.consumed - length o.content));
  data_len = length o.content;
  consumed = o.consumed;
}

-- ---- one object

-- 9 last, with the bytes of work area that are needed, at the position that the call has
abbrev pub given_object : List ℕ → ℕ → ℕ → ℕ → Object → Result DdmObject Refused
given_object s place position size o =
    pick (leb (length (work_of s place o)) size) (Ok (object_record s place o)) (Err (no_room position (length (work_of s place o)) 0))

abbrev pub given_parsed : List ℕ → ℕ → ℕ → Parsed → Result DdmObject Refused
given_parsed s place size (object o) = given_object s place place size o
given_parsed s place size (refused r) = Err r

-- "The object is read from the run's bytes starting at its place"; 10 first. `DdmObject::parse` is that at 0
unfoldable pub object_at : List ℕ → ℕ → ℕ → Result DdmObject Refused
unfolding parsed
object_at s place size =
    pick (leb place (length s)) (given_parsed s place size (parsed (drop place s) place)) (Err (out_of_bounds place (length s)))

abbrev pub work_parsed : List ℕ → ℕ → List ℕ → Parsed → List ℕ
work_parsed s place work (object o) = laid work 0 (work_of s place o)
work_parsed s place work (refused r) = work

pub record ObjectAt (s : List ℕ) (place : ℕ) (work : List ℕ) (r : Result DdmObject Refused) (after : List ℕ) : Type 0 where
  pub answers : r ≡ object_at s place (length work)
  pub work_is : after ≡ work_parsed s place work (parsed (drop place s) place)

-- ---- finding one

-- 11, in a call that has no position
abbrev pub not_found : Refused
not_found = record { why = NotFound; place = 0 }

-- "`find_param` gives the first": 11 where there is none, then 9
unfoldable pub find_from : List ℕ → ℕ → ℕ → ℕ → List Object → Result DdmObject Refused
find_from s place cp size [] = Err not_found
find_from s place cp size (o ∷ os) = pick (eqb o.code_point cp) (given_object s place 0 size o) (find_from s (place + o.consumed) cp size os)

unfoldable pub work_found : List ℕ → ℕ → ℕ → List ℕ → List Object → List ℕ
work_found s place cp work [] = work
work_found s place cp work (o ∷ os) = pick (eqb o.code_point cp) (laid work 0 (work_of s place o)) (work_found s (place + o.consumed) cp work os)

pub record FindsParam (s : List ℕ) (cp : ℕ) (work : List ℕ) (r : Result DdmObject Refused) (after : List ℕ) : Type 0 where
  pub answers : r ≡ find_from s 0 cp (length work) (parameters s)
  pub work_is : after ≡ work_found s 0 cp work (parameters s)

-- ---- numbers read from data

-- "`as_u16`, `as_u32`, `as_i32` read the first bytes, big-endian"; 11: "too few bytes for the number asked"
abbrev pub u16_of : List ℕ → Result ℕ Refused
u16_of d = pick (leb 2 (length d)) (Ok (be16 d 0)) (Err not_found)

unfoldable pub u32_of : List ℕ → Result ℕ Refused
unfolding spelled
u32_of d = pick (leb 4 (length d)) (Ok (spelled 0 (take 4 d))) (Err not_found)

-- a number of 32 bits as two's complement
abbrev pub signed32 : ℕ → ℤ
signed32 n = pick (ltb n (2 ^ 31)) (pos n) (pos n -ℤ pos (2 ^ 32))

unfoldable pub i32_of : List ℕ → Result ℤ Refused
unfolding spelled
i32_of d = pick (leb 4 (length d)) (Ok (signed32 (spelled 0 (take 4 d)))) (Err not_found)

-- ---- `total_length`

-- how many bytes the builder would make of the object's data; a record says any number of 64 bits
abbrev pub object_total : DdmObject → ℕ
object_total o = capped (built_size o.data_len)

-- 11 at the end of the list: "A refusal's place ... for 1, 9, 10 and 11 it is the position or fill mark as given"
abbrev pub end_at : ℕ → Refused
end_at at = record { why = NotFound; place = at }

-- the parameter at a place with the next place, or the end: "anything unfit ... ends the list silently"
abbrev pub step_parsed : List ℕ → ℕ → Parsed → Result (DdmObject × ℕ) Refused
step_parsed s at (object o) = Ok (object_record s at o, at + o.consumed)
step_parsed s at (refused r) = Err (end_at at)

-- "10 comes first wherever there is a position or mark"
unfoldable pub param_step_at : List ℕ → ℕ → Result (DdmObject × ℕ) Refused
unfolding parsed
param_step_at s at = pick (leb at (length s)) (step_parsed s at (parsed (drop at s) at)) (Err (out_of_bounds at (length s)))
