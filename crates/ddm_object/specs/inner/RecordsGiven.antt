-- An object's record as the functions that read one give it, and how much of the work area it takes.
use Rattle.std.specs.Prelude.{ℕ, ◌+◌, ◌-◌, ◌≡◌, List, [], leb, length, Result, Ok, Err}
use Rattle.wire.specs.Bytes.{pick, laid}
use Rattle.answer.specs.Rooms.{no_room}
use Rattle.ddm_object.specs.Objects.{Object, Parsed, object, refused, parsed}
use Rattle.ddm_object.specs.ObjectCalls.{lies_in_work}
use Rattle.ddm_object.specs.declared.DdmObject.{DdmObject}
use Rattle.answer.specs.declared.Refused.{Refused}

abbrev pub work_in : List ℕ → Object → List ℕ
work_in b o = pick (lies_in_work b) o.content []

abbrev pub record_in : List ℕ → ℕ → Object → DdmObject
record_in b place o = record {
  code_point = o.code_point;
  in_work = lies_in_work b;
  data_at = pick (lies_in_work b) 0 (place + (o.consumed - length o.content));
  data_len = length o.content;
  consumed = o.consumed;
}

abbrev pub record_parsed : List ℕ → ℕ → Parsed → Result DdmObject Refused
record_parsed b place (object o) = Ok (record_in b place o)
record_parsed b place (refused r) = Err r

unfoldable pub record_found : List ℕ → ℕ → Result DdmObject Refused
unfolding parsed
record_found b place = record_parsed b place (parsed b place)

abbrev pub given_in : List ℕ → ℕ → ℕ → ℕ → Parsed → Result DdmObject Refused
given_in b place position size (object o) =
    pick (leb (length (work_in b o)) size) (Ok (record_in b place o)) (Err (no_room position (length (work_in b o)) 0))
given_in b place position size (refused r) = Err r

abbrev pub work_given : List ℕ → List ℕ → Parsed → List ℕ
work_given b work (object o) = laid work 0 (work_in b o)
work_given b work (refused r) = work

pub record GivesIn (b : List ℕ) (place position : ℕ) (work : List ℕ) (r : Result DdmObject Refused) (after : List ℕ) : Type 0 where
  pub answers : r ≡ given_in b place position (length work) (parsed b place)
  pub work_is : after ≡ work_given b work (parsed b place)
