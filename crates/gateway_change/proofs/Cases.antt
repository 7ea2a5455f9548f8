-- Calls with what they answer and leave: the contracts aren't empty. Each is the contract's record at numbers.
use mathlib.Core.Path.{refl}
use mathlib.Core.List.{[], ◌∷◌}
use lib.ListN.{replicate}
use Rattle.wire.specs.Bytes.{spelled, last, splice, laid}
use Rattle.dss_frame.specs.Segments.{walk_fuel, continuations, frame_walk, payload_of, end_of}
use Rattle.dss_frame.specs.Written.{chunks_fuel, chunks, written}
use Rattle.ddm_length.specs.Lengths.{marshaled, measured}
use Rattle.ddm_length.specs.Markers.{unmarked}
use Rattle.ddm_builder.specs.Built.{length_bytes, built, built_size}
use Rattle.ddm_object.specs.Objects.{parsed, parameters_fuel, parameters}
use Rattle.ddm_change.specs.Change.{fault_from, first_from, change_of, needed_of}
use Rattle.ddm_change.specs.Alone.{alone_at}
use Rattle.ddm_change.specs.Request.{place_in, reframed, request_of}
use Rattle.gateway_words.specs.AnswerWords.{laid_words, Answered}
use Rattle.gateway_change.specs.ChangeWords.{ChangesParam, ChangesFrame}

-- a parameter grows, in a room with a byte more
grows : ChangesParam (0 ∷ 4 ∷ 0 ∷ 1 ∷ 0 ∷ 5 ∷ 0 ∷ 2 ∷ 7 ∷ []) 2 (0xF0 ∷ 0xF4 ∷ []) (replicate 11 9) (replicate 8 7) 0
    (0 ∷ 4 ∷ 0 ∷ 1 ∷ 0 ∷ 6 ∷ 0 ∷ 2 ∷ 0xF0 ∷ 0xF4 ∷ 9 ∷ []) (0 ∷ 0 ∷ 10 ∷ 0 ∷ 0 ∷ 0 ∷ 0 ∷ 0 ∷ [])
unfolding change_of fault_from first_from parameters parameters_fuel parsed measured marshaled spelled unmarked built length_bytes last splice laid
grows = record { answers = record { number_is = refl; words_are = refl }; room_is = refl }

-- 17 at the byte that is left over comes before 11 and 9
unsound : ChangesParam (0 ∷ 4 ∷ 0 ∷ 1 ∷ 0 ∷ []) 2 [] [] (replicate 8 7) 17 [] (17 ∷ 4 ∷ 0 ∷ 0 ∷ 0 ∷ 0 ∷ 0 ∷ 0 ∷ [])
unfolding change_of fault_from first_from parameters parameters_fuel parsed measured marshaled spelled unmarked built length_bytes last splice laid
unsound = record { answers = record { number_is = refl; words_are = refl }; room_is = refl }

-- 9 with the bytes; the need without a room
short : ChangesParam (0 ∷ 4 ∷ 0 ∷ 2 ∷ []) 2 (1 ∷ []) (replicate 4 9) (replicate 8 7) 9 (replicate 4 9) (9 ∷ 0 ∷ 5 ∷ 0 ∷ 0 ∷ 0 ∷ 0 ∷ 0 ∷ [])
unfolding change_of fault_from first_from parameters parameters_fuel parsed measured marshaled spelled unmarked built length_bytes last splice laid
short = record { answers = record { number_is = refl; words_are = refl }; room_is = refl }

needs : Answered (laid_words (needed_of (0 ∷ 4 ∷ 0 ∷ 2 ∷ []) 2 32764)) (replicate 8 7) 0 (0 ∷ 0 ∷ 32772 ∷ 0 ∷ 0 ∷ 0 ∷ 0 ∷ 0 ∷ [])
unfolding needed_of fault_from first_from parameters parameters_fuel parsed measured marshaled spelled unmarked built_size length_bytes last splice laid
needs = record { number_is = refl; words_are = refl }

-- a request whose format byte has 0x80 and continue on error set: both stay
kept : ChangesFrame (0 ∷ 15 ∷ 0xD0 ∷ 0xA1 ∷ 0 ∷ 3 ∷ 0 ∷ 9 ∷ 0x20 ∷ 0x0D ∷ 0 ∷ 5 ∷ 0x21 ∷ 0x10 ∷ 7 ∷ []) 0x2110 (8 ∷ 9 ∷ []) (replicate 17 5) (replicate 8 7) 0
    (0 ∷ 16 ∷ 0xD0 ∷ 0xA1 ∷ 0 ∷ 3 ∷ 0 ∷ 10 ∷ 0x20 ∷ 0x0D ∷ 0 ∷ 6 ∷ 0x21 ∷ 0x10 ∷ 8 ∷ 9 ∷ 5 ∷ []) (0 ∷ 0 ∷ 16 ∷ 0 ∷ 0 ∷ 0 ∷ 0 ∷ 0 ∷ [])
unfolding request_of place_in reframed written chunks chunks_fuel payload_of end_of alone_at frame_walk continuations walk_fuel change_of fault_from first_from parameters parameters_fuel parsed measured marshaled spelled unmarked built length_bytes last splice laid
kept = record { answers = record { number_is = refl; words_are = refl }; room_is = refl }

-- 17 at the byte behind the frame
behind : ChangesFrame (0 ∷ 14 ∷ 0xD0 ∷ 1 ∷ 0 ∷ 3 ∷ 0 ∷ 8 ∷ 0x20 ∷ 0x0D ∷ 0 ∷ 4 ∷ 0x21 ∷ 0x10 ∷ 0 ∷ []) 0x2110 [] [] (replicate 7 7) 17 [] (replicate 7 7)
unfolding request_of place_in reframed written chunks chunks_fuel payload_of end_of alone_at frame_walk continuations walk_fuel change_of fault_from first_from parameters parameters_fuel parsed measured marshaled spelled unmarked built length_bytes last splice laid
behind = record { answers = record { number_is = refl; words_are = refl }; room_is = refl }
