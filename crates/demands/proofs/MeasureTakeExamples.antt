-- W-208: cases of document 01 that meet what Kept's lines ask, computed over the contracts; and what `MeasuresThenTakes` rules out.
use Rattle.std.specs.Prelude.{Result, Ok, Err}
use Prim.Native.Nat.{ℕ}
use native.Mathlib.Omega.{arith}
use mathlib.Core.Path.{◌≡◌, refl, sym, ap, ◌∙◌}
use mathlib.Core.Bool.{true, false}
use mathlib.Core.List.{List, [], ◌∷◌}
use lib.ListN.{get_or, replicate, take}
use contract.Lifetimes.{Lfts}
use Rattle.wire.specs.Bytes.{splice, laid}
use Rattle.answer.specs.Rooms.{no_room}
use Rattle.answer.specs.declared.Refusal.TheVariants.{InvalidMagic}
use Rattle.answer.specs.declared.Refused.{Refused}
use Rattle.dss_head.specs.declared.DssType.TheVariants.{Object}
use Rattle.dss_frame.specs.declared.Rules.{Rules}
use Rattle.dss_frame.specs.declared.Rules.TheVariants.{Reader, Salvage}
use Rattle.dss_frame.specs.Segments.{payload_of, end_of, frame_walk, continuations, walk_fuel}
use Rattle.dss_frame.specs.Reading.{read_at, absorb, absorb_fuel, look, position_left}
use Rattle.dss_measure.specs.Measure.{measured_at}
use Rattle.dss_measure.specs.declared.FrameMeasure.{FrameMeasure}
use Rattle.dss_take.specs.Take.{payload_at}
use Rattle.dss_reader.specs.Reader.{stands_at, read_of}
use Rattle.gateway_measure.specs.MeasureWords.{rules_of}
use Rattle.demands.proofs.Table.{p8}
use Rattle.demands.specs.MeasureTake.{TakenAs, MeasuresThenTakes, ByRunAlone, TakenInWords, ByRunAloneInWords}
use Rattle.demands.proofs.MeasureTake.{gives_refuses, gives_same, by_run_alone}
use Rattle.demands.proofs.Kept.{take_refused, exported_take_refused}
use Rattle.demands.proofs.KeptRequests.{taken_as_measured, taken_by_run_alone, extent_as_measured, salvage_measure_stays, next_frame_as_taken, exported_taken_as_measured, exported_taken_by_run_alone, exported_salvage_measure_stays, exported_next_frame_as_taken}
use Rattle.demands.specs.KeptMeaning.{RefusedInWords}
use Rattle.demands.proofs.KeptExamples.{lending, lending_room}
use Rattle.demands.proofs.StretchExamples.{p9}
use Rattle.dss_measure.specs.declared.Extent.{Extent}
use Rattle.dss_measure.specs.Measure.{extent}

-- of P9, whose second segment the first absorbs: two segments, position 14; so much is said to be its payload's length
abbrev measured : ℕ → FrameMeasure
measured len = record {
  header = record { length = 7; dss_type = Object; flags = record { chained = true; continue_on_error = false; same_correlation = false }; correlation_id = 1 };
  payload_len = len;
  segments = 2;
  end = 14;
}

abbrev magic : Refused
magic = record { why = InvalidMagic 0; place = 6 }

-- ---- in Rattle

-- measured, then taken into a room of just that length; of one byte less; and P8, which the reader's rules refuse
pub exactly : (κs : Lfts 1) (κs' : Lfts 2) → TakenAs (Ok (measured 2)) (payload_at Reader p9 0) 0 (9 ∷ 9 ∷ []) (Ok (measured 2)) (0xAA ∷ 0xBB ∷ [])
unfolding measured_at splice laid read_at absorb absorb_fuel look payload_of end_of frame_walk continuations walk_fuel
exactly κs κs' = taken_as_measured Reader (lending p9) 0 κs κs' (Ok (measured 2)) (lending_room (9 ∷ 9 ∷ [])) (Ok (measured 2)) (0xAA ∷ 0xBB ∷ []) refl (record { answers = refl; room_is = refl })

pub one_less : (κs : Lfts 1) (κs' : Lfts 2) → TakenAs (Ok (measured 2)) (payload_at Reader p9 0) 0 (9 ∷ []) (Err (no_room 0 2 0)) (9 ∷ [])
unfolding measured_at splice laid read_at absorb absorb_fuel look payload_of end_of frame_walk continuations walk_fuel
one_less κs κs' = taken_as_measured Reader (lending p9) 0 κs κs' (Ok (measured 2)) (lending_room (9 ∷ [])) (Err (no_room 0 2 0)) (9 ∷ []) refl (record { answers = refl; room_is = refl })

pub refused_alike : (κs : Lfts 1) (κs' : Lfts 2) → TakenAs (Err magic) (payload_at Reader p8 0) 0 (9 ∷ []) (Err magic) (9 ∷ [])
unfolding measured_at splice laid read_at absorb absorb_fuel look payload_of end_of frame_walk continuations walk_fuel
refused_alike κs κs' = taken_as_measured Reader (lending p8) 0 κs κs' (Err magic) (lending_room (9 ∷ [])) (Err magic) (9 ∷ []) refl (record { answers = refl; room_is = refl })

pub not_taken : (κs : Lfts 2) → ◌≡◌ {A = List ℕ} (9 ∷ []) (9 ∷ [])
unfolding splice laid read_at absorb absorb_fuel look payload_of end_of frame_walk continuations walk_fuel
not_taken κs = take_refused κs (lending_room (9 ∷ [])) (no_room 0 2 0) (9 ∷ []) Reader (lending p9) 0 (record { answers = refl; room_is = refl })

-- into two rooms, of which one is longer and holds other bytes; one that is too short beside it; and two that are too short
pub two_rooms : (κs κs' : Lfts 2) → ByRunAlone 0 (Ok (measured 2)) (0xAA ∷ 0xBB ∷ []) (Ok (measured 2)) (0xAA ∷ 0xBB ∷ 8 ∷ [])
unfolding splice laid read_at absorb absorb_fuel look payload_of end_of frame_walk continuations walk_fuel
two_rooms κs κs' =
    taken_by_run_alone Reader (lending p9) 0 κs κs' (lending_room (9 ∷ 9 ∷ [])) (lending_room (8 ∷ 8 ∷ 8 ∷ [])) (Ok (measured 2)) (Ok (measured 2)) (0xAA ∷ 0xBB ∷ []) (0xAA ∷ 0xBB ∷ 8 ∷ [])
    (record { answers = refl; room_is = refl }) (record { answers = refl; room_is = refl })

pub one_too_short : (κs κs' : Lfts 2) → ByRunAlone 0 (Err (no_room 0 2 0)) (9 ∷ []) (Ok (measured 2)) (0xAA ∷ 0xBB ∷ [])
unfolding splice laid read_at absorb absorb_fuel look payload_of end_of frame_walk continuations walk_fuel
one_too_short κs κs' =
    taken_by_run_alone Reader (lending p9) 0 κs κs' (lending_room (9 ∷ [])) (lending_room (9 ∷ 9 ∷ [])) (Err (no_room 0 2 0)) (Ok (measured 2)) (9 ∷ []) (0xAA ∷ 0xBB ∷ [])
    (record { answers = refl; room_is = refl }) (record { answers = refl; room_is = refl })

pub both_too_short : (κs κs' : Lfts 2) → ByRunAlone 0 (Err (no_room 0 2 0)) (9 ∷ []) (Err (no_room 0 2 0)) []
unfolding splice laid read_at absorb absorb_fuel look payload_of end_of frame_walk continuations walk_fuel
both_too_short κs κs' =
    taken_by_run_alone Reader (lending p9) 0 κs κs' (lending_room (9 ∷ [])) (lending_room []) (Err (no_room 0 2 0)) (Err (no_room 0 2 0)) (9 ∷ []) []
    (record { answers = refl; room_is = refl }) (record { answers = refl; room_is = refl })

pub spans : (κs κs' : Lfts 1) → ◌≡◌ {A = Result Extent Refused} (Ok (extent 2 14)) (Ok (extent 2 14))
unfolding measured_at read_at absorb absorb_fuel look payload_of end_of frame_walk continuations walk_fuel
spans κs κs' = extent_as_measured Reader (lending p9) 0 κs κs' (Ok (measured 2)) (Ok (extent 2 14)) refl refl

pub next_taken : (κs κs' : Lfts 2) → (read_of 0 (Ok (measured 2)) ≡ read_of 0 (Ok (measured 2))) × (◌≡◌ {A = List ℕ} (0xAA ∷ 0xBB ∷ []) (0xAA ∷ 0xBB ∷ []))
unfolding splice laid read_at absorb absorb_fuel look payload_of end_of frame_walk continuations walk_fuel
next_taken κs κs' =
    next_frame_as_taken κs κs' (stands_at 0) (lending p9) (lending_room (9 ∷ 9 ∷ [])) (read_of 0 (Ok (measured 2))) (0xAA ∷ 0xBB ∷ []) (Ok (measured 2)) (0xAA ∷ 0xBB ∷ [])
    (record { answers = refl; room_is = refl }) (record { answers = refl; room_is = refl })

-- `0006D1020007`: 2 at its own first byte
abbrev own : List ℕ
own = 0x00 ∷ 0x06 ∷ 0xD1 ∷ 0x02 ∷ 0x00 ∷ 0x07 ∷ []

pub own_refused : (κs : Lfts 1) → position_left 0 (record { why = InvalidMagic 209; place = 0 }) ≡ 0
unfolding measured_at read_at absorb absorb_fuel look payload_of end_of frame_walk continuations walk_fuel
own_refused κs = salvage_measure_stays κs (lending own) 0 (record { why = InvalidMagic 209; place = 0 }) refl

-- ---- in words

abbrev p9_words : List ℕ
p9_words = 0 ∷ 14 ∷ 7 ∷ 0x43 ∷ 1 ∷ 2 ∷ 2 ∷ 0 ∷ []

abbrev needs_two : List ℕ
needs_two = 9 ∷ 0 ∷ 2 ∷ replicate 5 0

-- 0 is the reader's rules, 1 and 255 are salvage's: P8 is refused, or a frame of no bytes up to byte 6
abbrev p8_words : List ℕ
p8_words = 0 ∷ 6 ∷ 6 ∷ 0x02 ∷ 7 ∷ 0 ∷ 1 ∷ 0 ∷ []

pub exactly_in_words : (κs : Lfts 2) (κs' : Lfts 3) → TakenInWords (payload_at Reader p9 0) 0 0 p9_words (9 ∷ 9 ∷ []) 0 p9_words (0xAA ∷ 0xBB ∷ [])
unfolding measured_at splice laid read_at absorb absorb_fuel look payload_of end_of frame_walk continuations walk_fuel
exactly_in_words κs κs' =
    exported_taken_as_measured 0 (lending p9) 0 κs κs' (lending_room (replicate 8 9)) (lending_room (replicate 8 8)) (lending_room (9 ∷ 9 ∷ [])) 0 p9_words 0 (0xAA ∷ 0xBB ∷ []) p9_words (omega arith) (omega arith)
    (record { number_is = refl; words_are = refl }) (record { answers = record { number_is = refl; words_are = refl }; room_is = refl })

pub refused_in_words : (κs : Lfts 2) (κs' : Lfts 3) → TakenInWords (payload_at Reader p8 0) 0 2 (2 ∷ 6 ∷ replicate 6 0) [] 2 (2 ∷ 6 ∷ replicate 6 0) []
unfolding measured_at splice laid read_at absorb absorb_fuel look payload_of end_of frame_walk continuations walk_fuel
refused_in_words κs κs' =
    exported_taken_as_measured 0 (lending p8) 0 κs κs' (lending_room (replicate 8 9)) (lending_room (replicate 8 8)) (lending_room []) 2 (2 ∷ 6 ∷ replicate 6 0) 2 [] (2 ∷ 6 ∷ replicate 6 0) (omega arith) (omega arith)
    (record { number_is = refl; words_are = refl }) (record { answers = record { number_is = refl; words_are = refl }; room_is = refl })

pub salvaged_in_words : (κs : Lfts 2) (κs' : Lfts 3)
    → TakenInWords (payload_at (rules_of 1) p8 0) 0 0 p8_words [] 0 p8_words [] × TakenInWords (payload_at (rules_of 255) p8 0) 0 0 p8_words [] 0 p8_words []
unfolding measured_at splice laid read_at absorb absorb_fuel look payload_of end_of frame_walk continuations walk_fuel
salvaged_in_words κs κs' = (
  exported_taken_as_measured 1 (lending p8) 0 κs κs' (lending_room (replicate 8 9)) (lending_room (replicate 8 8)) (lending_room []) 0 p8_words 0 [] p8_words (omega arith) (omega arith)
      (record { number_is = refl; words_are = refl }) (record { answers = record { number_is = refl; words_are = refl }; room_is = refl }),
  exported_taken_as_measured 255 (lending p8) 0 κs κs' (lending_room (replicate 8 9)) (lending_room (replicate 8 8)) (lending_room []) 0 p8_words 0 [] p8_words (omega arith) (omega arith)
      (record { number_is = refl; words_are = refl }) (record { answers = record { number_is = refl; words_are = refl }; room_is = refl }),
)

pub own_refused_in_words : (κs : Lfts 2) → ◌≡◌ {A = ℕ} 0 0
unfolding measured_at splice laid read_at absorb absorb_fuel look payload_of end_of frame_walk continuations walk_fuel
own_refused_in_words κs =
    exported_salvage_measure_stays 7 (lending own) 0 (λ e. omega arith) κs (lending_room (replicate 8 9)) 2 (2 ∷ 0 ∷ 209 ∷ replicate 5 0) (omega arith) (record { number_is = refl; words_are = refl }) (λ e. omega arith) (λ e. omega arith)

pub two_rooms_in_words : (κs κs' : Lfts 3) → ByRunAloneInWords 0 9 needs_two (9 ∷ []) 0 p9_words (0xAA ∷ 0xBB ∷ 8 ∷ [])
unfolding splice laid read_at absorb absorb_fuel look payload_of end_of frame_walk continuations walk_fuel
two_rooms_in_words κs κs' =
    exported_taken_by_run_alone 0 (lending p9) 0 κs κs' (lending_room (replicate 8 9)) (lending_room (replicate 8 8)) (lending_room (9 ∷ [])) (lending_room (8 ∷ 8 ∷ 8 ∷ [])) 9 (9 ∷ []) needs_two 0 (0xAA ∷ 0xBB ∷ 8 ∷ []) p9_words
    (omega arith) (omega arith) (record { answers = record { number_is = refl; words_are = refl }; room_is = refl })
    (record { answers = record { number_is = refl; words_are = refl }; room_is = refl })

pub not_taken_in_words : (κs : Lfts 3) → RefusedInWords (replicate 8 9) 9 needs_two × (◌≡◌ {A = List ℕ} (9 ∷ []) (9 ∷ []))
unfolding splice laid read_at absorb absorb_fuel look payload_of end_of frame_walk continuations walk_fuel
not_taken_in_words κs =
    exported_take_refused (lending_room (replicate 8 9)) 9 needs_two (λ e. omega arith) (lending_room (9 ∷ [])) (9 ∷ []) κs 7 (lending p9) 0
    (record { answers = record { number_is = refl; words_are = refl }; room_is = refl })

pub next_taken_in_words : (κs κs' : Lfts 3) → (◌≡◌ {A = ℕ} 0 0) × (p9_words ≡ p9_words) × (◌≡◌ {A = List ℕ} (0xAA ∷ 0xBB ∷ []) (0xAA ∷ 0xBB ∷ []))
unfolding splice laid read_at absorb absorb_fuel look payload_of end_of frame_walk continuations walk_fuel
next_taken_in_words κs κs' =
    exported_next_frame_as_taken κs κs' (lending p9) 0 (lending_room (9 ∷ 9 ∷ [])) (lending_room (replicate 8 9)) 0 (0xAA ∷ 0xBB ∷ []) p9_words 0 (0xAA ∷ 0xBB ∷ []) p9_words
    (record { answers = record { number_is = refl; words_are = refl }; room_is = refl }) (record { answers = record { number_is = refl; words_are = refl }; room_is = refl })

-- ---- what is ruled out, of any measuring and taking

module _ (measure : Rules → List ℕ → ℕ → Result FrameMeasure Refused) (answer : Rules → List ℕ → ℕ → List ℕ → Result FrameMeasure Refused) (after : Rules → List ℕ → ℕ → List ℕ → List ℕ) (w : MeasuresThenTakes measure answer after) where
  -- measuring asks for a byte too many
  pub no_spare : measure Reader p9 0 ≡ Ok (measured 3) → answer Reader p9 0 (9 ∷ 9 ∷ 9 ∷ []) ≡ Ok (measured 2) → ⊥
  no_spare e k =
      let t = (w.takes Reader p9 0 (9 ∷ 9 ∷ 9 ∷ [])).enough (measured 3) e (omega arith) in
      let z : ◌≡◌ {A = ℕ} 3 2 = ap (λ (m : FrameMeasure). m.payload_len) (gives_same (measured 3) (measured 2) (sym t.0 ∙ k)) in
      omega arith

  -- taking fills what room there is, and calls it done
  pub no_cut : (m : FrameMeasure) → measure Reader p9 0 ≡ Ok (measured 2) → answer Reader p9 0 (9 ∷ []) ≡ Ok m → ⊥
  no_cut m e k = gives_refuses m (no_room 0 2 0) (sym k ∙ ((w.takes Reader p9 0 (9 ∷ [])).short (measured 2) e (omega arith)).0)

  -- taking says 9 to a room of the measured length
  pub no_more : (why : Refused) → measure Reader p9 0 ≡ Ok (measured 2) → answer Reader p9 0 (9 ∷ 9 ∷ []) ≡ Err why → ⊥
  no_more why e k = gives_refuses (measured 2) why (sym ((w.takes Reader p9 0 (9 ∷ 9 ∷ [])).enough (measured 2) e (omega arith)).0 ∙ k)

  -- taking lays nothing down, or what it lays down depends on what the room held
  pub no_idle : measure Reader p9 0 ≡ Ok (measured 2) → after Reader p9 0 (9 ∷ 9 ∷ []) ≡ 9 ∷ 9 ∷ [] → after Reader p9 0 (8 ∷ 8 ∷ []) ≡ 8 ∷ 8 ∷ [] → ⊥
  no_idle e i j =
      let t = w.takes Reader p9 0 (9 ∷ 9 ∷ []) in
      let u = w.takes Reader p9 0 (8 ∷ 8 ∷ []) in
      let d = ((by_run_alone t u).done (measured 2) (measured 2) (t.enough (measured 2) e (omega arith)).0 (u.enough (measured 2) e (omega arith)).0).1 in
      let z : ◌≡◌ {A = ℕ} 9 8 = ap (λ (l : List ℕ). get_or l 0 0) (sym (ap (take 2) i) ∙ d ∙ ap (take 2) j) in
      omega arith

  -- measuring by salvage's rules refuses the head behind the frame, as the reader's do
  pub no_other : measure Salvage p8 0 ≡ Err magic → ⊥
  no_other e = let z : ◌≡◌ {A = ℕ} 6 0 = w.own_head p8 0 magic e in omega arith

  -- measuring says 9
  pub no_nine : measure Reader p9 0 ≡ Err (no_room 0 2 0) → ⊥
  no_nine e = w.all_but_9 Reader p9 0 (no_room 0 2 0) e refl
