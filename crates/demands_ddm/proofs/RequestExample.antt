-- An object built of two parameters and read back, and data with a marker: the premises of the theorems are met, by computation.
use Rattle.std.specs.Prelude.{Result, Ok}
use Prim.Native.Nat.{ℕ, ◌≤◌}
use native.Mathlib.Omega.{arith}
use mathlib.Core.Path.{◌≡◌, refl}
use mathlib.Core.List.{List, [], ◌∷◌, ◌++◌}
use lib.ListN.{length, replicate, length-append}
use Rattle.wire.specs.Bytes.{last, splice, laid}
use Rattle.answer.specs.Rooms.{Lays}
use Rattle.ddm_length.specs.Lengths.{measured, marshaled}
use Rattle.ddm_length.specs.Markers.{unmarked, ends, fe}
use Rattle.ddm_builder.specs.Built.{built, length_bytes, built_all, Fit}
use Rattle.ddm_builder.specs.Builder.{Builds}
use Rattle.ddm_builder.specs.declared.DdmBuilder.{DdmBuilder}
use Rattle.ddm_object.specs.Objects.{parsed}
use Rattle.ddm_object.specs.ObjectCalls.{object_at, ObjectAt}
use Rattle.ddm_rows.specs.ListCalls.{ListsParameters}
use Rattle.ddm_object.specs.declared.DdmObject.{DdmObject}
use Rattle.demands_ddm.specs.ReadingBack.{LaidFirst, plain, data_of, ListsAs, Added, none, more}
use Rattle.demands_ddm.proofs.Requests.{added_filled}
use Rattle.demands_ddm.proofs.RequestBack.{request_list}
use Rattle.demands_ddm.proofs.Stripping.{strips_marked}
use Rattle.ddm_rows.specs.declared.ObjectsFound.{ObjectsFound}
use Rattle.answer.specs.declared.Refused.{Refused}

-- ---- a request

pub two_params : List (ℕ × List ℕ)
two_params = (0x2110, 0xC1 ∷ []) ∷ (0x112F, []) ∷ []

-- the filled part of a room of twelve
content : List ℕ
content = 0 ∷ 5 ∷ 0x21 ∷ 0x10 ∷ 0xC1 ∷ 0 ∷ 4 ∷ 0x11 ∷ 0x2F ∷ 9 ∷ 9 ∷ 9 ∷ []

builder : DdmBuilder
builder = record { code_point = 0x1041; fill = 9 }

-- two additions that are answered 0
two_added : Added 0x1041 (replicate 12 9) two_params builder content
unfolding two_params content builder built length_bytes last laid splice
two_added =
    more (more none 0x2110 (0xC1 ∷ []) (record { code_point = 0x1041; fill = 5 }) (0 ∷ 5 ∷ 0x21 ∷ 0x10 ∷ 0xC1 ∷ 9 ∷ 9 ∷ 9 ∷ 9 ∷ 9 ∷ 9 ∷ 9 ∷ []) (record { answers = refl; room_is = refl }))
    0x112F [] (record { code_point = 0x1041; fill = 9 }) (0 ∷ 5 ∷ 0x21 ∷ 0x10 ∷ 0xC1 ∷ 0 ∷ 4 ∷ 0x11 ∷ 0x2F ∷ 9 ∷ 9 ∷ 9 ∷ []) (record { answers = refl; room_is = refl })

-- the object, in a room of sixteen
pub request : List ℕ
request = 0 ∷ 13 ∷ 0x10 ∷ 0x41 ∷ 0 ∷ 5 ∷ 0x21 ∷ 0x10 ∷ 0xC1 ∷ 0 ∷ 4 ∷ 0x11 ∷ 0x2F ∷ 9 ∷ 9 ∷ 9 ∷ []

request_built : Builds builder content (replicate 16 9) (Ok 13) request
unfolding builder content request built length_bytes last laid splice
request_built = record { answers = refl; room_is = refl }

request_parsed : ObjectAt request 0 [] (Ok (plain 0 0x1041 4 9)) []
unfolding request object_at parsed measured marshaled laid
request_parsed = record { answers = refl; work_is = refl }

two_fit : Fit two_params × (length (built_all two_params) ≡ 9) × (length (built 0x1041 (built_all two_params)) ≡ 13)
unfolding two_params built length_bytes last
two_fit = ((omega arith, omega arith, (omega arith, omega arith, tt)), refl, refl)

-- whatever the contract of `parameters` allows of its data, with a row of two, is those two
pub request_lists : (work : List ℕ) (row : List DdmObject) → 2 ≤ length row → (r : Result ObjectsFound Refused) (workAfter : List ℕ) (rowAfter : List DdmObject)
    → ListsParameters (data_of request (plain 0 0x1041 4 9)) work row r workAfter rowAfter
    → ListsAs two_params (data_of request (plain 0 0x1041 4 9)) work row r workAfter rowAfter
unfolding two_params
request_lists work row h r workAfter rowAfter p =
    request_list 0x1041 two_params (omega arith, omega (arith, two_fit.1)) two_fit.0 builder content (added_filled two_added) (replicate 16 9) request (omega (arith, two_fit.2)) request 0 refl (Ok 13) request_built
    [] (plain 0 0x1041 4 9) [] request_parsed work row h r workAfter rowAfter p

-- ---- a marker

-- 32,757 bytes, a marker and a byte: the marker goes
pub marker_stripped : (a work : List ℕ) → length a ≡ 32757 → 32758 ≤ length work → (r : Result ℕ Refused) (after : List ℕ) → Lays (unmarked (a ++ (0x7F ∷ 0xFE ∷ 1 ∷ []))) work r after
    → LaidFirst (a ++ (1 ∷ [])) work r after
marker_stripped a work l h r after p =
    strips_marked a (0x7F ∷ 0xFE ∷ 1 ∷ []) (1 ∷ []) work r after l (ends fe (1 ∷ []) (omega arith) (omega arith)) (omega (arith, length-append a (1 ∷ []))) p
