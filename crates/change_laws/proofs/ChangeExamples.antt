-- Some values, computed: each refusal with its place, and both sides of 32,763 at their real sizes.
use Rattle.std.specs.Prelude.{Err}
use Prim.Native.Nat.{ℕ}
use mathlib.Core.Path.{◌≡◌, refl}
use mathlib.Core.Bool.{Bool, true, false}
use mathlib.Core.List.{List, [], ◌∷◌, ◌++◌}
use lib.Dec.{eqb}
use lib.ListN.{length, replicate}
use Rattle.wire.specs.Bytes.{and, spelled, last}
use Rattle.ddm_length.specs.Lengths.{marshaled, measured}
use Rattle.ddm_length.specs.Markers.{unmarked}
use Rattle.ddm_builder.specs.Built.{built, length_bytes}
use Rattle.ddm_object.specs.Objects.{parsed, parameters, parameters_fuel}
use Rattle.answer.specs.Rooms.{no_room}
use Rattle.ddm_change.specs.Change.{fault_from, first_from, Change, changed, faulty, lacking, change_of, change_answer}

-- the first of two is rewritten, in the builder's form, and all else is copied
one_example : change_of (0 ∷ 5 ∷ 0 ∷ 1 ∷ 7 ∷ 0x80 ∷ 5 ∷ 0 ∷ 2 ∷ 1 ∷ 9 ∷ 0 ∷ 4 ∷ 0 ∷ 2 ∷ []) 2 (6 ∷ 5 ∷ [])
    ≡ changed (0 ∷ 5 ∷ 0 ∷ 1 ∷ 7 ∷ 0 ∷ 6 ∷ 0 ∷ 2 ∷ 6 ∷ 5 ∷ 0 ∷ 4 ∷ 0 ∷ 2 ∷ [])
unfolding change_of fault_from first_from parameters parameters_fuel parsed measured marshaled spelled unmarked built length_bytes last
one_example = refl

-- 17: what stands at 4 is no parameter; a raw length 0x8004 at 4, behind the one to be changed; both come before 11
short_example : change_of (0 ∷ 4 ∷ 0 ∷ 2 ∷ 0 ∷ 9 ∷ 0 ∷ 2 ∷ []) 2 [] ≡ faulty 4
unfolding change_of fault_from first_from parameters parameters_fuel parsed measured marshaled spelled unmarked built length_bytes last
short_example = refl

raw_example : change_of (0 ∷ 4 ∷ 0 ∷ 2 ∷ 0x80 ∷ 4 ∷ 0 ∷ 3 ∷ 1 ∷ []) 2 [] ≡ faulty 4
unfolding change_of fault_from first_from parameters parameters_fuel parsed measured marshaled spelled unmarked built length_bytes last
raw_example = refl

first_example : change_of (0 ∷ 4 ∷ 0 ∷ 2 ∷ 0 ∷ []) 9 [] ≡ faulty 4
unfolding change_of fault_from first_from parameters parameters_fuel parsed measured marshaled spelled unmarked built length_bytes last
first_example = refl

-- 11: no parameters at all are sound
none_example : change_of [] 2 [] ≡ lacking
unfolding change_of fault_from first_from parameters parameters_fuel parsed measured marshaled spelled unmarked built length_bytes last
none_example = refl

-- 9: one byte too few
room_example : change_answer (change_of (0 ∷ 4 ∷ 0 ∷ 2 ∷ []) 2 (1 ∷ 2 ∷ [])) 5 ≡ Err (no_room 0 6 0)
unfolding change_of fault_from first_from parameters parameters_fuel parsed measured marshaled spelled unmarked built length_bytes last
room_example = refl

-- ---- the header grows above 32,763 bytes, and shrinks again

-- one parameter before, one behind, n bytes between them
around : ℕ → List ℕ
unfolding built length_bytes last
around n = built 1 (7 ∷ []) ++ (built 2 (replicate n 5) ++ built 3 (9 ∷ []))

abbrev same : List ℕ → List ℕ → Bool
same [] [] = true
same [] (y ∷ ys) = false
same (x ∷ xs) [] = false
same (x ∷ xs) (y ∷ ys) = and (eqb x y) (same xs ys)

-- from n bytes to m bytes
goes : ℕ → ℕ → Change → Bool
unfolding around
goes n m (changed b) = same b (around m)
goes n m (faulty place) = false
goes n m lacking = false

inline_full : goes 1 32763 (change_of (around 1) 2 (replicate 32763 5)) ≡ true
unfolding goes around change_of fault_from first_from parameters parameters_fuel parsed measured marshaled spelled unmarked built length_bytes last
inline_full = refl

grows : goes 32763 32764 (change_of (around 32763) 2 (replicate 32764 5)) ≡ true
unfolding goes around change_of fault_from first_from parameters parameters_fuel parsed measured marshaled spelled unmarked built length_bytes last
grows = refl

shrinks : goes 32764 32763 (change_of (around 32764) 2 (replicate 32763 5)) ≡ true
unfolding goes around change_of fault_from first_from parameters parameters_fuel parsed measured marshaled spelled unmarked built length_bytes last
shrinks = refl

-- what they need: 32,777 bytes and 32,782
sizes : and (eqb (length (around 32763)) 32777) (eqb (length (around 32764)) 32782) ≡ true
unfolding around built length_bytes last
sizes = refl
