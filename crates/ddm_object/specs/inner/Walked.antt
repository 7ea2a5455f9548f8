-- What finding a parameter comes to, and where a walk over objects stops.
use Rattle.std.specs.Prelude.{ℕ, suc, ◌≤◌, ◌≡◌, List, length, drop, Err, Option, Some, None}
use Rattle.answer.specs.declared.Refused.{Refused}
use Rattle.ddm_object.specs.Objects.{refused, AllParsed, parsed, all_fuel, parameters}
use Rattle.ddm_object.specs.ObjectCalls.{not_found, find_from, work_found}
use Rattle.ddm_object.specs.inner.RecordsGiven.{given_in, work_given}

-- all objects of b, which stands at a place
unfoldable pub all_from : List ℕ → ℕ → AllParsed
unfolding all_fuel
all_from b place = all_fuel (suc (length b)) b place

-- where it stands, and so what finding it comes to, with any work area
abbrev pub PlaceIs : List ℕ → ℕ → Option ℕ → Type 0
PlaceIs s cp (Some p) =
    (p ≤ length s)
    × ((size : ℕ) → find_from s 0 cp size (parameters s) ≡ given_in (drop p s) p 0 size (parsed (drop p s) p))
    × ((work : List ℕ) → work_found s 0 cp work (parameters s) ≡ work_given (drop p s) work (parsed (drop p s) p))
PlaceIs s cp None =
    ((size : ℕ) → find_from s 0 cp size (parameters s) ≡ Err not_found) × ((work : List ℕ) → work_found s 0 cp work (parameters s) ≡ work)

abbrev pub Refuses : List ℕ → Type 0
Refuses b = (place : ℕ) → (r : Refused) × (parsed b place ≡ refused r)
