-- What `dead_again`, `exported_dead_again` and `exported_taken_by_end` ask is met: a first continuation length of 1, with nothing
-- behind it, and with three bytes more, into another room; and a reply before it.
use Rattle.std.specs.Prelude.{Result, Err}
use Prim.Native.Nat.{ℕ}
use native.Mathlib.Omega.{arith}
use mathlib.Core.Path.{◌≡◌, refl}
use mathlib.Core.Logic.{inr}
use mathlib.Core.List.{List, [], ◌∷◌, ◌++◌}
use lib.ListN.{replicate, take}
use contract.Lifetimes.{Lfts}
use Rattle.answer.specs.declared.Refusal.TheVariants.{DeadContinuation}
use Rattle.answer.specs.declared.Refused.{Refused}
use Rattle.wire.specs.Bytes.{splice, laid}
use Rattle.dss_frame.specs.Segments.{payload_of, end_of, frame_walk, continuations, walk_fuel}
use Rattle.dss_frame.specs.Reading.{read_at, absorb, absorb_fuel, look}
use Rattle.dss_reader.specs.Reader.{stands_at, frame_end}
use Rattle.demands.proofs.DeadEdges.{fulls, several, behind_reply}
use Rattle.demands.proofs.Kept.{read_refused, dead_again, exported_dead_again, exported_taken_by_end}
use Rattle.demands.proofs.KeptExamples.{lending, lending_room}
use Rattle.dss_frame.specs.declared.DssFrame.{DssFrame}
use Rattle.dss_reader.specs.declared.DssReader.{DssReader}

abbrev at_length : Refused
at_length = record { why = DeadContinuation; place = 32767 }

abbrev more : List ℕ
more = 0xC1 ∷ 0xC1 ∷ 0xC1 ∷ []

-- the reader stays at 0, not at the refusal's place
pub stays_there : (κs : Lfts 2) → (◌≡◌ {A = List ℕ} (9 ∷ []) (9 ∷ [])) × (stands_at 0 ≡ stands_at 0)
unfolding several fulls splice laid read_at frame_walk continuations walk_fuel
stays_there κs = read_refused κs (lending_room (9 ∷ [])) at_length (9 ∷ []) (stands_at 0) (stands_at 0) (lending (several 0xD0 0 (0 ∷ 1 ∷ []))) (record { answers = refl; room_is = refl })

pub dead_twice : (κs κs' : Lfts 2)
    → (stands_at 0 ≡ stands_at 0) × (◌≡◌ {A = Result DssFrame Refused × DssReader} (Err at_length, stands_at 0) (Err at_length, stands_at 0)) × (◌≡◌ {A = List ℕ} (8 ∷ 8 ∷ []) (8 ∷ 8 ∷ []))
unfolding several fulls splice laid read_at frame_walk continuations walk_fuel
dead_twice κs κs' =
    dead_again κs κs' (stands_at 0) (stands_at 0) (lending (several 0xD0 0 (0 ∷ 1 ∷ []))) (lending (several 0xD0 0 (0 ∷ 1 ∷ []) ++ more)) (lending_room (9 ∷ [])) (lending_room (8 ∷ 8 ∷ [])) more
    at_length (Err at_length, stands_at 0) (9 ∷ []) (8 ∷ 8 ∷ []) refl refl (record { answers = refl; room_is = refl }) (record { answers = refl; room_is = refl })

-- its words: 16, and the place of the length
abbrev dead_words : List ℕ
dead_words = 16 ∷ 32767 ∷ replicate 6 0

pub dead_twice_in_words : (κs κs' : Lfts 3) → (◌≡◌ {A = ℕ} 16 16) × (take 8 dead_words ≡ take 8 dead_words) × (◌≡◌ {A = List ℕ} (8 ∷ 8 ∷ []) (8 ∷ 8 ∷ []))
unfolding several fulls splice laid read_at frame_walk continuations walk_fuel
dead_twice_in_words κs κs' =
    exported_dead_again κs κs' 0 (lending (several 0xD0 0 (0 ∷ 1 ∷ []))) (lending (several 0xD0 0 (0 ∷ 1 ∷ []) ++ more)) (lending_room (9 ∷ [])) (lending_room (8 ∷ 8 ∷ [])) (lending_room (replicate 8 9)) (lending_room (replicate 8 9)) more
    (9 ∷ []) dead_words 16 (8 ∷ 8 ∷ []) dead_words refl (omega arith) (omega arith)
    (record { answers = record { number_is = refl; words_are = refl }; room_is = refl }) (record { answers = record { number_is = refl; words_are = refl }; room_is = refl })

-- ---- before a frame that is never whole: P2 may be taken

abbrev reply_words : List ℕ
reply_words = 0 ∷ 6 ∷ 6 ∷ 0x02 ∷ 7 ∷ 0 ∷ 1 ∷ 0 ∷ []

-- `frame_end` behind it answers 16, here with no words lent
pub taken_before_dead : (κs κs' : Lfts 3) (κs'' : Lfts 2) → (◌≡◌ {A = ℕ} 0 0) × (take 8 reply_words ≡ take 8 reply_words) × (◌≡◌ {A = List ℕ} (9 ∷ []) (9 ∷ []))
unfolding behind_reply several fulls splice laid frame_end read_at absorb absorb_fuel look payload_of end_of frame_walk continuations walk_fuel
taken_before_dead κs κs' κs'' =
    exported_taken_by_end κs κs' κs'' 0 (lending behind_reply) (lending (behind_reply ++ more)) (lending_room (9 ∷ [])) (lending_room (9 ∷ [])) (lending_room (replicate 8 9)) (lending_room (replicate 8 9)) (lending_room []) more
    (9 ∷ []) reply_words [] 16 0 (9 ∷ []) reply_words refl refl (omega arith) (omega arith)
    (record { answers = record { number_is = refl; words_are = refl }; room_is = refl }) (record { number_is = refl; words_are = refl }) (inr refl)
    (record { answers = record { number_is = refl; words_are = refl }; room_is = refl })
