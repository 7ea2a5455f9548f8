-- Calls of the writer with what they answer and leave, above all the order of their refusals, 10, 3, 9: the contracts aren't
-- empty. Each is the contract's record at numbers.
use Prim.Native.Nat.{ℕ}
use mathlib.Core.Path.{refl}
use mathlib.Core.Bool.{true, false}
use mathlib.Core.List.{List, [], ◌∷◌}
use lib.ListN.{replicate}
use Rattle.wire.specs.Bytes.{splice, laid}
use Rattle.dss_head.specs.Heads.{type_at}
use Rattle.dss_frame.specs.Written.{written}
use Rattle.gateway_writer.specs.WriterWords.{writer_of, frame_of, Sends}

-- a type given as a byte, at a fill mark of a room of three bytes, and what eight words then hold
Answers : ℕ → ℕ → ℕ → List ℕ → Type 0
Answers type fill number words =
    Sends (type_at type 0) (writer_of 7 fill) (frame_of 7 true false (0xAA ∷ [])) (replicate 3 9) (replicate 8 5) number (replicate 3 9) words

-- no such type and a mark beyond the room: 10 with the mark and the room's length, at the mark
beyond : Answers 0xF6 4 10 (10 ∷ 4 ∷ 4 ∷ 3 ∷ 0 ∷ 0 ∷ 0 ∷ 0 ∷ [])
unfolding Answers splice laid
beyond = record { answers = record { number_is = refl; words_are = refl }; room_is = refl }

-- the same of a type that there is
beyond_typed : Answers 0xF3 4 10 (10 ∷ 4 ∷ 4 ∷ 3 ∷ 0 ∷ 0 ∷ 0 ∷ 0 ∷ [])
unfolding Answers written splice laid
beyond_typed = record { answers = record { number_is = refl; words_are = refl }; room_is = refl }

-- no such type and a mark at the room's end: 3 with the low four bits, at 0, before 9
no_type : Answers 0xF6 3 3 (3 ∷ 0 ∷ 6 ∷ 0 ∷ 0 ∷ 0 ∷ 0 ∷ 0 ∷ [])
unfolding Answers splice laid
no_type = record { answers = record { number_is = refl; words_are = refl }; room_is = refl }

-- last comes 9, with the bytes of the frame, at the mark
no_room : Answers 0xF3 3 9 (9 ∷ 3 ∷ 7 ∷ 0 ∷ 0 ∷ 0 ∷ 0 ∷ 0 ∷ [])
unfolding Answers written splice laid
no_room = record { answers = record { number_is = refl; words_are = refl }; room_is = refl }

-- an object behind the mark, in a room with a byte more
sends : Sends (type_at 3 0) (writer_of 7 1) (frame_of 7 true false (0xAA ∷ [])) (replicate 9 9) (replicate 8 5) 0
    (9 ∷ 0x00 ∷ 0x07 ∷ 0xD0 ∷ 0x43 ∷ 0x00 ∷ 0x07 ∷ 0xAA ∷ 9 ∷ []) (0 ∷ 0 ∷ 7 ∷ 8 ∷ 0 ∷ 0 ∷ 0 ∷ 0 ∷ [])
unfolding written splice laid
sends = record { answers = record { number_is = refl; words_are = refl }; room_is = refl }

-- a request that wants no reply, by its byte, whose high four bits are nothing to a type
sends_no_reply : Sends (type_at 0xF5 0) (writer_of 7 1) (frame_of 7 true false (0xAA ∷ [])) (replicate 9 9) (replicate 8 5) 0
    (9 ∷ 0x00 ∷ 0x07 ∷ 0xD0 ∷ 0x45 ∷ 0x00 ∷ 0x07 ∷ 0xAA ∷ 9 ∷ []) (0 ∷ 0 ∷ 7 ∷ 8 ∷ 0 ∷ 0 ∷ 0 ∷ 0 ∷ [])
unfolding written splice laid
sends_no_reply = record { answers = record { number_is = refl; words_are = refl }; room_is = refl }
