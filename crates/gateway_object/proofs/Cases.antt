-- What the calls answer in words in cases of document 01: the definitions that the contracts cite aren't empty.
use Prim.Native.Nat.{ℕ}
use mathlib.Core.Path.{◌≡◌, refl}
use mathlib.Core.List.{List, [], ◌∷◌, ◌++◌}
use lib.ListN.{length}
use Rattle.wire.specs.Bytes.{spelled, splice, laid}
use Rattle.answer.specs.Rooms.{laid_at_start}
use Rattle.ddm_length.specs.Lengths.{marshaled, measured}
use Rattle.ddm_length.specs.Markers.{unmarked}
use Rattle.ddm_object.specs.Objects.{parsed, parameters_fuel, parameters}
use Rattle.ddm_object.specs.ObjectCalls.{object_at, find_from, u16_of, u32_of, i32_of, param_step_at}
use Rattle.gateway_words.specs.AnswerWords.{laid_words}
use Rattle.gateway_object.specs.ObjectWords.{length_words, found_words, step_words, u16_words, u32_words, i32_words}

abbrev p13 : List ℕ
p13 = 0x00 ∷ 0x04 ∷ 0x20 ∷ 0x0D ∷ []

abbrev p14 : List ℕ
p14 = 0x80 ∷ 0x05 ∷ 0x24 ∷ 0x12 ∷ 0x01 ∷ 0xC1 ∷ []

abbrev p15 : List ℕ
p15 = 0x80 ∷ 0x03 ∷ 0x24 ∷ 0x12 ∷ []

abbrev p16 : List ℕ
p16 = 0x00 ∷ 0x03 ∷ 0x24 ∷ 0x12 ∷ []

-- what a length field says: six bytes, of which five are the header; 6 with 3; a length of 3 as it is
lengths : (length_words (marshaled p14 0) ≡ 0 ∷ 0 ∷ 6 ∷ 5 ∷ 0 ∷ 0 ∷ 0 ∷ 0 ∷ [])
    × (length_words (marshaled p15 0) ≡ 6 ∷ 0 ∷ 3 ∷ 0 ∷ 0 ∷ 0 ∷ 0 ∷ 0 ∷ [])
    × (length_words (marshaled p16 0) ≡ 0 ∷ 0 ∷ 3 ∷ 4 ∷ 0 ∷ 0 ∷ 0 ∷ 0 ∷ [])
unfolding marshaled
lengths = (refl, refl, refl)

-- data without markers, into a room of three bytes and into one of one
strips : (laid_words (laid_at_start 0 3 (length (unmarked (1 ∷ 2 ∷ [])))) ≡ 0 ∷ 0 ∷ 2 ∷ 0 ∷ 0 ∷ 0 ∷ 0 ∷ 0 ∷ [])
    × (laid (7 ∷ 8 ∷ 9 ∷ []) 0 (unmarked (1 ∷ 2 ∷ [])) ≡ 1 ∷ 2 ∷ 9 ∷ [])
    × (laid_words (laid_at_start 0 1 (length (unmarked (1 ∷ 2 ∷ [])))) ≡ 9 ∷ 0 ∷ 2 ∷ 0 ∷ 0 ∷ 0 ∷ 0 ∷ 0 ∷ [])
unfolding unmarked laid splice
strips = (refl, refl, refl)

-- P14 behind P13: its data is the byte at 9; P16 there: 5 with 3, 4 and the code point; a place beyond the run: 10
objects : (found_words (object_at (p13 ++ p14) 4 0) ≡ 0 ∷ 0 ∷ 0x2412 ∷ 0 ∷ 9 ∷ 1 ∷ 6 ∷ 0 ∷ [])
    × (found_words (object_at (p13 ++ p16) 4 0) ≡ 5 ∷ 4 ∷ 3 ∷ 4 ∷ 0x2412 ∷ 0 ∷ 0 ∷ 0 ∷ [])
    × (found_words (object_at p13 5 0) ≡ 10 ∷ 5 ∷ 5 ∷ 4 ∷ 0 ∷ 0 ∷ 0 ∷ 0 ∷ [])
unfolding object_at parsed measured marshaled unmarked
objects = (refl, refl, refl)

-- the first parameter with a code point, and 11 where there is none
finding : (found_words (find_from (p13 ++ p14) 0 0x2412 0 (parameters (p13 ++ p14))) ≡ 0 ∷ 0 ∷ 0x2412 ∷ 0 ∷ 9 ∷ 1 ∷ 6 ∷ 0 ∷ [])
    × (found_words (find_from p13 0 0x2412 0 (parameters p13)) ≡ 11 ∷ 0 ∷ 0 ∷ 0 ∷ 0 ∷ 0 ∷ 0 ∷ 0 ∷ [])
unfolding find_from parameters parameters_fuel parsed measured marshaled unmarked
finding = (refl, refl)

-- a step gives the next place; at the end, and at what is unfit, 11 with the place; beyond the data 10 with the place, and with
-- it and the data's length
steps : (step_words (param_step_at (p13 ++ p14) 4) ≡ 0 ∷ 10 ∷ 0x2412 ∷ 0 ∷ 9 ∷ 1 ∷ 6 ∷ 0 ∷ [])
    × (step_words (param_step_at (p13 ++ p14) 10) ≡ 11 ∷ 10 ∷ 0 ∷ 0 ∷ 0 ∷ 0 ∷ 0 ∷ 0 ∷ [])
    × (step_words (param_step_at (p13 ++ p16) 4) ≡ 11 ∷ 4 ∷ 0 ∷ 0 ∷ 0 ∷ 0 ∷ 0 ∷ 0 ∷ [])
    × (step_words (param_step_at (p13 ++ p14) 11) ≡ 10 ∷ 11 ∷ 11 ∷ 10 ∷ 0 ∷ 0 ∷ 0 ∷ 0 ∷ [])
    × (step_words (param_step_at [] 1) ≡ 10 ∷ 1 ∷ 1 ∷ 0 ∷ 0 ∷ 0 ∷ 0 ∷ 0 ∷ [])
    × (step_words (param_step_at [] 0) ≡ 11 ∷ 0 ∷ 0 ∷ 0 ∷ 0 ∷ 0 ∷ 0 ∷ 0 ∷ [])
unfolding param_step_at parsed measured marshaled unmarked
steps = (refl, refl, refl, refl, refl, refl)

-- numbers read from data: -2 as two's complement of 64 bits; 11 where there are too few bytes
numbers : (u16_words (u16_of p14) ≡ 0 ∷ 0 ∷ 0x8005 ∷ 0 ∷ 0 ∷ 0 ∷ 0 ∷ 0 ∷ [])
    × (u32_words (u32_of (0xFF ∷ 0xFF ∷ 0xFF ∷ 0xFE ∷ [])) ≡ 0 ∷ 0 ∷ 0xFFFFFFFE ∷ 0 ∷ 0 ∷ 0 ∷ 0 ∷ 0 ∷ [])
    × (i32_words (i32_of (0xFF ∷ 0xFF ∷ 0xFF ∷ 0xFE ∷ [])) ≡ 0 ∷ 0 ∷ 0xFFFFFFFFFFFFFFFE ∷ 0 ∷ 0 ∷ 0 ∷ 0 ∷ 0 ∷ [])
    × (i32_words (i32_of (0x7F ∷ 0xFF ∷ [])) ≡ 11 ∷ 0 ∷ 0 ∷ 0 ∷ 0 ∷ 0 ∷ 0 ∷ 0 ∷ [])
unfolding u32_of i32_of spelled
numbers = (refl, refl, refl, refl)
