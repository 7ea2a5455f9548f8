-- Calls of the builder with what they answer and leave: the contracts aren't empty. Each is the contract's record at numbers.
use mathlib.Core.Path.{refl}
use mathlib.Core.List.{[], ◌∷◌, ◌++◌}
use lib.ListN.{replicate}
use Rattle.wire.specs.Bytes.{last, splice, laid}
use Rattle.ddm_builder.specs.Built.{length_bytes, built}
use Rattle.ddm_builder.specs.Builder.{parameter16, parameter32}
use Rattle.gateway_words.specs.AnswerWords.{LaysInWords}
use Rattle.gateway_builder.specs.BuilderWords.{builder_of, adding, Appends, Makes}

-- ---- adding

-- a number of two bytes behind the fill mark, in a room with a byte more, and a word more
adds : Appends (adding 1) (parameter16 0x2401 0x0102) (replicate 8 9) (replicate 9 7) 0
    (9 ∷ 0 ∷ 6 ∷ 0x24 ∷ 0x01 ∷ 1 ∷ 2 ∷ 9 ∷ []) (0 ∷ 0 ∷ 7 ∷ 0 ∷ 0 ∷ 0 ∷ 0 ∷ 0 ∷ 7 ∷ [])
unfolding length_bytes built splice laid
adds = record { answers = record { number_is = refl; words_are = refl }; room_is = refl }

-- one of four bytes, in a room with a byte less: 9 with the bytes, at the fill mark
no_room : Appends (adding 1) (parameter32 0x2401 0x01020304) (replicate 8 9) (replicate 8 7) 9 (replicate 8 9) (9 ∷ 1 ∷ 8 ∷ 0 ∷ 0 ∷ 0 ∷ 0 ∷ 0 ∷ [])
unfolding last length_bytes built parameter32 splice laid
no_room = record { answers = record { number_is = refl; words_are = refl }; room_is = refl }

-- nothing, at the room's end and beyond it; too few words stay as they are
at_end : Appends (adding 3) [] (replicate 3 9) (replicate 8 7) 0 (replicate 3 9) (0 ∷ 0 ∷ 3 ∷ 0 ∷ 0 ∷ 0 ∷ 0 ∷ 0 ∷ [])
unfolding splice laid
at_end = record { answers = record { number_is = refl; words_are = refl }; room_is = refl }

beyond : Appends (adding 4) [] (replicate 3 9) (replicate 7 7) 10 (replicate 3 9) (replicate 7 7)
unfolding splice laid
beyond = record { answers = record { number_is = refl; words_are = refl }; room_is = refl }

-- ---- an object

-- of the filled part of its data
makes : Makes (builder_of 0x2412 2) (0xC1 ∷ 0xC2 ∷ 0xC3 ∷ []) (replicate 7 9) (replicate 8 7) 0
    (0 ∷ 6 ∷ 0x24 ∷ 0x12 ∷ 0xC1 ∷ 0xC2 ∷ 9 ∷ []) (0 ∷ 0 ∷ 6 ∷ 0 ∷ 0 ∷ 0 ∷ 0 ∷ 0 ∷ [])
unfolding length_bytes built splice laid
makes = record { answers = record { number_is = refl; words_are = refl }; room_is = refl }

-- 10 with the mark and its data's length comes before 9; 9 is at the mark
makes_beyond : Makes (builder_of 0x2412 4) (0xC1 ∷ 0xC2 ∷ 0xC3 ∷ []) [] (replicate 8 7) 10 [] (10 ∷ 4 ∷ 4 ∷ 3 ∷ 0 ∷ 0 ∷ 0 ∷ 0 ∷ [])
unfolding length_bytes built splice laid
makes_beyond = record { answers = record { number_is = refl; words_are = refl }; room_is = refl }

makes_none : Makes (builder_of 0x2412 3) (0xC1 ∷ 0xC2 ∷ 0xC3 ∷ []) (replicate 6 9) (replicate 8 7) 9 (replicate 6 9) (9 ∷ 3 ∷ 7 ∷ 0 ∷ 0 ∷ 0 ∷ 0 ∷ 0 ∷ [])
unfolding length_bytes built splice laid
makes_none = record { answers = record { number_is = refl; words_are = refl }; room_is = refl }

-- document 01, "Both sides of each edge": "Data 32,764: 80 08, code point, 00 00 7F FC, 32,772 bytes"
edge : LaysInWords (built 0x2412 (replicate 32764 0xC1)) (replicate 32773 9) (replicate 8 7) 0
    ((0x80 ∷ 0x08 ∷ 0x24 ∷ 0x12 ∷ 0x00 ∷ 0x00 ∷ 0x7F ∷ 0xFC ∷ []) ++ (replicate 32764 0xC1 ++ (9 ∷ []))) (0 ∷ 0 ∷ 32772 ∷ 0 ∷ 0 ∷ 0 ∷ 0 ∷ 0 ∷ [])
unfolding last length_bytes built splice laid
edge = record { answers = record { number_is = refl; words_are = refl }; room_is = refl }
