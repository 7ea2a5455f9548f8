-- One pass over the parameters: what each is, and what has been met behind it.
use Rattle.std.specs.Prelude.{ℕ, ◌+◌, List, eqb, Result, Ok, Err, Option, Some, None}
use Rattle.wire.specs.Bytes.{pick, be16}
use Rattle.ddm_object.specs.Objects.{Parsed, object, refused, parsed, parameters}
use Rattle.answer.specs.declared.Refused.{Refused}
use Rattle.ddm_change.specs.Change.{fault_from, first_from, unsound, no_such}
use Rattle.ddm_change.specs.declared.Param.{Param}
use Rattle.ddm_change.specs.declared.Spot.{Spot}

-- ---- one parameter

abbrev pub param : ℕ → ℕ → Param
param code_point total = record { code_point = code_point; total = total }

abbrev pub taken : Parsed → Option Param
taken (object o) = Some (param o.code_point o.consumed)
taken (refused r) = None

-- the parameter at the front of b
unfoldable pub param_of : List ℕ → Option Param
unfolding parsed
param_of b = pick (eqb (be16 b 0) 0x8004) None (taken (parsed b 0))

-- ---- what has been met behind a parameter of `total` bytes at `at`

abbrev pub spot : ℕ → ℕ → Spot
spot from to = record { from = from; to = to }

abbrev pub or_else : Option Spot → Option Spot → Option Spot
or_else None x = x
or_else (Some y) x = Some y

abbrev pub meets : Option Spot → ℕ → ℕ → ℕ → ℕ → Option Spot
meets met wanted cp at total = or_else met (pick (eqb cp wanted) (Some (spot at (at + total))) None)

-- ---- all of them

abbrev pub searched_as : Option ℕ → Option Spot → Result (Option Spot) ℕ
searched_as None x = Ok x
searched_as (Some place) x = Err place

unfoldable pub searched : List ℕ → ℕ → Result (Option Spot) ℕ
unfolding fault_from first_from parameters
searched d cp = searched_as (fault_from d 0 (parameters d)) (first_from cp 0 (parameters d))

-- 17 at the place of the one at fault, then 11
abbrev pub found_as : Result (Option Spot) ℕ → Result Spot Refused
found_as (Ok (Some x)) = Ok x
found_as (Ok None) = Err no_such
found_as (Err place) = Err (unsound place)
