-- Objects, lists and runs that meet the theorems' premises, and what the definitions come to there, by computation.
use Rattle.std.specs.Prelude.{Ok, Err}
use Prim.Native.Nat.{ℕ}
use native.Mathlib.Omega.{arith}
use mathlib.Core.Path.{◌≡◌, refl, sym, ap, ◌∙◌}
use mathlib.Core.List.{List, [], ◌∷◌, ◌++◌, append-nil}
use lib.ListN.{length, drop, replicate, length-replicate}
use Rattle.wire.specs.Bytes.{last, spelled, splice, laid}
use Rattle.wire.proofs.OctetLaws.{octets_tested}
use Rattle.answer.specs.Numbers.{number_of}
use Rattle.layouts.specs.DdmLayout.{short, Ddm}
use Rattle.ddm_length.specs.Lengths.{measured, marshaled}
use Rattle.ddm_length.specs.Markers.{unmarked, kept_fuel}
use Rattle.ddm_builder.specs.Built.{built, length_bytes, built_all, Fit}
use Rattle.ddm_object.specs.Objects.{parsed, parameters, parameters_fuel, all_objects, all_fuel}
use Rattle.ddm_object.specs.ObjectCalls.{object_at, work_parsed, ObjectAt, not_found, find_from}
use Rattle.ddm_rows.specs.ListCalls.{object_records, works_of, given_objects, given_list}
use Rattle.demands_ddm.specs.ReadingBack.{LaidFirst, plain, records_built, Lacks}
use Rattle.demands_ddm.proofs.LayoutRead.{six_read, eight_read}
use Rattle.demands_ddm.proofs.Building.{lays_first, read_layout}
use Rattle.ddm_rows.proofs.ObjectLists.{objects_found}

-- ---- one object

-- document 01's P14 as the builder writes it: inline, into a room of eight
pub inline_laid : LaidFirst (built 0x2412 (0xC1 ∷ [])) (replicate 8 9) (Ok 5) (0x00 ∷ 0x05 ∷ 0x24 ∷ 0x12 ∷ 0xC1 ∷ 9 ∷ 9 ∷ 9 ∷ [])
unfolding built length_bytes last laid splice
inline_laid = lays_first (built 0x2412 (0xC1 ∷ [])) (replicate 8 9) (Ok 5) (0x00 ∷ 0x05 ∷ 0x24 ∷ 0x12 ∷ 0xC1 ∷ 9 ∷ 9 ∷ 9 ∷ []) (omega arith) (record { answers = refl; room_is = refl })

pub inline_parsed : object_at (0x00 ∷ 0x05 ∷ 0x24 ∷ 0x12 ∷ 0xC1 ∷ 9 ∷ 9 ∷ 9 ∷ []) 0 0 ≡ Ok (plain 0 0x2412 4 1)
unfolding object_at parsed measured marshaled
inline_parsed = refl

-- what it says has the layout
pub inline_layout : Ddm 0x2412 (0xC1 ∷ []) (0x00 ∷ 0x05 ∷ 0x24 ∷ 0x12 ∷ 0xC1 ∷ [])
unfolding object_at parsed measured marshaled laid
inline_layout =
    (read_layout (0x00 ∷ 0x05 ∷ 0x24 ∷ 0x12 ∷ 0xC1 ∷ []) 0 [] (plain 0 0x2412 4 1) [] (short (omega arith)) (λ e. absurd (omega arith)) (octets_tested (0x00 ∷ 0x05 ∷ 0x24 ∷ 0x12 ∷ 0xC1 ∷ []) refl)
    (record { answers = refl; work_is = refl })
    ).1

-- so many bytes, all alike
pub filled : ℕ → List ℕ
filled n = replicate n 0xC1

pub filled_length : (n : ℕ) → length (filled n) ≡ n
unfolding filled
filled_length n = length-replicate {A = ℕ} n 0xC1

-- what the contract of `parse` allows of an object alone
alone : (s : List ℕ) → ObjectAt s 0 [] (object_at s 0 0) (work_parsed s 0 [] (parsed (drop 0 s) 0))
alone s = record { answers = refl; work_is = refl }

-- four length bytes, computed: data of 32,764
pub four_computed : object_at (built 0x2412 (replicate 32764 0xC1)) 0 0 ≡ Ok (plain 0 0x2412 8 32764)
unfolding object_at parsed measured marshaled built length_bytes last spelled
four_computed = refl

-- six and eight, by the theorems: data of 2^31 and of 2^48 bytes
abbrev object : ℕ → List ℕ
object n = built 0x2412 (filled n)

pub six_met : object_at (object 2147483648) 0 0 ≡ Ok (plain 0 0x2412 10 2147483648)
six_met =
    let l : length (filled 2147483648) ≡ 2147483648 = filled_length 2147483648 in
    (six_read 0x2412 (filled 2147483648) (omega arith) (omega arith) (object 2147483648) [] 0 (sym (append-nil (object 2147483648))) [] _ _ (alone (object 2147483648)) (omega arith) (omega arith)).is
    ∙ ap (λ (n : ℕ). Ok (plain 0 0x2412 10 n)) l

pub eight_met : object_at (object 281474976710656) 0 0 ≡ Ok (plain 0 0x2412 12 281474976710656)
eight_met =
    let l : length (filled 281474976710656) ≡ 281474976710656 = filled_length 281474976710656 in
    (eight_read 0x2412 (filled 281474976710656) (omega arith) (omega arith) (object 281474976710656) [] 0 (sym (append-nil (object 281474976710656))) [] _ _ (alone (object 281474976710656)) (omega arith)).is
    ∙ ap (λ (n : ℕ). Ok (plain 0 0x2412 12 n)) l

-- ---- three parameters, of which the first and the last have one code point

pub params : List (ℕ × List ℕ)
params = (0x2110, 0xC1 ∷ []) ∷ (0x112F, []) ∷ (0x2110, 7 ∷ 8 ∷ []) ∷ []

pub params_fit : Fit params
unfolding params
params_fit = (omega arith, omega arith, (omega arith, omega arith, (omega arith, omega arith, tt)))

pub params_bytes : built_all params ≡ 0 ∷ 5 ∷ 0x21 ∷ 0x10 ∷ 0xC1 ∷ 0 ∷ 4 ∷ 0x11 ∷ 0x2F ∷ 0 ∷ 6 ∷ 0x21 ∷ 0x10 ∷ 7 ∷ 8 ∷ []
unfolding params built length_bytes last
params_bytes = refl

-- listed in a row of three and no work area, both ways; the first is found, at 0; another behind it, at 5; a third isn't there
pub params_read :
    (given_objects (built_all params) 0 3 (parameters (built_all params)) ≡ Ok (objects_found 3 0))
    × (given_list (built_all params) 0 3 (all_objects (built_all params)) ≡ Ok (objects_found 3 0))
    × (object_records (built_all params) 0 (parameters (built_all params)) ≡ plain 0 0x2110 4 1 ∷ plain 5 0x112F 4 0 ∷ plain 9 0x2110 4 2 ∷ [])
    × (records_built 0 params ≡ plain 0 0x2110 4 1 ∷ plain 5 0x112F 4 0 ∷ plain 9 0x2110 4 2 ∷ [])
    × (find_from (built_all params) 0 0x2110 0 (parameters (built_all params)) ≡ Ok (plain 0 0x2110 4 1))
    × (find_from (built_all params) 0 0x112F 0 (parameters (built_all params)) ≡ Ok (plain 5 0x112F 4 0))
    × (find_from (built_all params) 0 0x2111 0 (parameters (built_all params)) ≡ Err not_found)
unfolding params built length_bytes last parsed measured marshaled parameters parameters_fuel all_objects all_fuel object_records works_of records_built find_from
params_read = (refl, refl, refl, refl, refl, refl, refl)

-- that is 11
pub not_found_number : (number_of not_found.why ≡ 11) × (not_found.place ≡ 0)
not_found_number = (refl, refl)

-- two lack the code points that are looked for behind them
pub params_lack : Lacks 0x112F ((0x2110, 0xC1 ∷ []) ∷ []) × Lacks 0x2111 params
unfolding Lacks params
params_lack = (((λ e. omega arith), tt), ((λ e. omega arith), ((λ e. omega arith), ((λ e. omega arith), tt))))

-- ---- a marker behind 32,757 bytes, and what is left

pub marker_computed : unmarked (replicate 32757 0xC1 ++ (0x7F ∷ 0xFE ∷ 1 ∷ [])) ≡ replicate 32757 0xC1 ++ (1 ∷ [])
unfolding unmarked kept_fuel
marker_computed = refl
