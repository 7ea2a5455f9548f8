-- What the lists answer in words, and the words that stand in the row, in cases of document 01: the definitions that the
-- contracts cite aren't empty.
use Prim.Native.Nat.{ℕ}
use mathlib.Core.Path.{◌≡◌, refl}
use mathlib.Core.List.{List, [], ◌∷◌}
use lib.ListN.{replicate}
use Rattle.wire.specs.Bytes.{spelled, splice, landed}
use Rattle.ddm_length.specs.Lengths.{marshaled, measured}
use Rattle.ddm_length.specs.Markers.{unmarked}
use Rattle.ddm_object.specs.Objects.{parsed, all_fuel, all_objects, parameters_fuel, parameters}
use Rattle.ddm_rows.specs.ListCalls.{works_of, object_records, objects_fit, given_list, given_objects, listed}
use Rattle.gateway_object_rows.specs.ListWords.{list_words, list_row, records}

-- P13, and P14 behind it
abbrev two : List ℕ
two = 0x00 ∷ 0x04 ∷ 0x20 ∷ 0x0D ∷ 0x80 ∷ 0x05 ∷ 0x24 ∷ 0x12 ∷ 0x01 ∷ 0xC1 ∷ []

-- P13, and P16 behind it
abbrev unfit : List ℕ
unfit = 0x00 ∷ 0x04 ∷ 0x20 ∷ 0x0D ∷ 0x00 ∷ 0x03 ∷ 0x24 ∷ 0x12 ∷ []

-- both records in a row of seventeen words, of which the last stays; of fifteen words, which are one record, 9 with 2 records
both : (list_words (given_list two 0 2 (all_objects two)) ≡ 0 ∷ 0 ∷ 2 ∷ 0 ∷ 0 ∷ 0 ∷ 0 ∷ 0 ∷ [])
    × (landed (objects_fit two (listed (all_objects two)) 0 (records (replicate 17 7))) (replicate 17 7) (list_row (object_records two 0 (listed (all_objects two))))
    ≡ 0 ∷ 0 ∷ 0x200D ∷ 0 ∷ 4 ∷ 0 ∷ 4 ∷ 0 ∷ 0 ∷ 0 ∷ 0x2412 ∷ 0 ∷ 9 ∷ 1 ∷ 6 ∷ 0 ∷ 7 ∷ [])
    × (list_words (given_list two 0 (records (replicate 15 7)) (all_objects two)) ≡ 9 ∷ 0 ∷ 0 ∷ 2 ∷ 0 ∷ 0 ∷ 0 ∷ 0 ∷ [])
unfolding all_objects all_fuel parsed measured marshaled unmarked spelled works_of object_records list_row splice
both = (refl, refl, refl)

-- one that is unfit: as objects all are refused, 5 at its place; as parameters it ends the list
one : (list_words (given_list unfit 0 2 (all_objects unfit)) ≡ 5 ∷ 4 ∷ 3 ∷ 4 ∷ 0x2412 ∷ 0 ∷ 0 ∷ 0 ∷ [])
    × (list_words (given_objects unfit 0 2 (parameters unfit)) ≡ 0 ∷ 0 ∷ 1 ∷ 0 ∷ 0 ∷ 0 ∷ 0 ∷ 0 ∷ [])
    × (list_row (object_records unfit 0 (parameters unfit)) ≡ 0 ∷ 0 ∷ 0x200D ∷ 0 ∷ 4 ∷ 0 ∷ 4 ∷ 0 ∷ [])
unfolding all_objects all_fuel parameters parameters_fuel parsed measured marshaled unmarked works_of object_records list_row
one = (refl, refl, refl)
