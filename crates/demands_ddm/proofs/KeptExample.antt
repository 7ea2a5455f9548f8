-- One request, through all calls: the premises of Kept's theorems are met, by computation. Two parameters are added, the object is
-- built, read back at place 2 of a run, its parameters are listed, and one is found; first in words, then in records.
use Rattle.std.specs.Prelude.{Result, Ok}
use Rattle.answer.specs.declared.Refused.{Refused}
use Prim.Native.Nat.{ℕ, ◌≤◌}
use native.Mathlib.Omega.{arith}
use mathlib.Core.Path.{◌≡◌, refl}
use mathlib.Core.List.{List, [], ◌∷◌, ◌++◌}
use lib.ListN.{length, drop, replicate, length-append}
use contract.Lifetimes.{Lfts}
use Rattle.wire.specs.Bytes.{last, splice, laid}
use Rattle.layouts.specs.DdmLayout.{streamed}
use Rattle.ddm_length.specs.Lengths.{measured, marshaled}
use Rattle.ddm_length.specs.Markers.{unmarked, ends, fe}
use Rattle.ddm_builder.specs.Built.{built, length_bytes, built_all, Fit}
use Rattle.ddm_builder.specs.declared.DdmBuilder.{DdmBuilder}
use Rattle.ddm_object.specs.Objects.{parsed, parameters, parameters_fuel}
use Rattle.ddm_object.specs.ObjectCalls.{object_at, find_from, work_found}
use Rattle.ddm_rows.specs.ListCalls.{object_records, works_of}
use Rattle.gateway_object.proofs.lattrugone_strip_markers.Reads as lattrugone_strip_markers
use Rattle.gateway_object_rows.specs.ListWords.{list_row}
use Rattle.demands_ddm.specs.ReadingBack.{plain, InRoom, ReadsAs, built_header, Lacks}
use Rattle.demands_ddm.specs.ReadingWords.{AnswersNumber, AnswersObject, AnswersList}
use Rattle.demands_ddm.specs.Adding.{ByCalls, no_call, call, ByWords, no_word, word}
use Rattle.demands_ddm.proofs.ListsAdded.{lent, lent_room, zeros}
use Rattle.demands_ddm.proofs.KeptDdm.{layout_read_in_words, built_and_read_in_words, u16_comes_back_in_words, markers_come_out_in_words, request_is_read, request_is_read_in_words, request_is_listed_in_words, first_is_found_in_words}

pub params : List (ℕ × List ℕ)
params = (0x2110, 0xC1 ∷ []) ∷ (0x112F, []) ∷ []

-- the room of the data, after each addition
one : List ℕ
one = 0 ∷ 5 ∷ 0x21 ∷ 0x10 ∷ 0xC1 ∷ 9 ∷ 9 ∷ 9 ∷ 9 ∷ 9 ∷ []

both : List ℕ
both = 0 ∷ 5 ∷ 0x21 ∷ 0x10 ∷ 0xC1 ∷ 0 ∷ 4 ∷ 0x11 ∷ 0x2F ∷ 9 ∷ []

-- the room of the object, and a run with two bytes before it
pub object : List ℕ
object = 0 ∷ 13 ∷ 0x10 ∷ 0x41 ∷ 0 ∷ 5 ∷ 0x21 ∷ 0x10 ∷ 0xC1 ∷ 0 ∷ 4 ∷ 0x11 ∷ 0x2F ∷ 9 ∷ []

pub run : List ℕ
run = 1 ∷ 1 ∷ 0 ∷ 13 ∷ 0x10 ∷ 0x41 ∷ 0 ∷ 5 ∷ 0x21 ∷ 0x10 ∷ 0xC1 ∷ 0 ∷ 4 ∷ 0x11 ∷ 0x2F ∷ 9 ∷ []

pub small_object : List ℕ
small_object = 0x00 ∷ 0x05 ∷ 0x24 ∷ 0x12 ∷ 0xC1 ∷ 9 ∷ 9 ∷ 9 ∷ []

pub content : List ℕ
content = 0 ∷ 5 ∷ 0x21 ∷ 0x10 ∷ 0xC1 ∷ 0 ∷ 4 ∷ 0x11 ∷ 0x2F ∷ []

params_fit : Fit params × (built_all params ≡ content) × (length (built_all params) ≡ 9) × (length (built 0x1041 (built_all params)) ≡ 13)
unfolding params content built length_bytes last
params_fit = ((omega arith, omega arith, (omega arith, omega arith, tt)), refl, refl, refl)

-- ---- in words

module _ (κ₂ : Lfts 2) (κ₃ : Lfts 3) (κ₄ : Lfts 4) where
  added_in_words : ByWords (replicate 10 9) params 9 both
  unfolding lent lent_room zeros params one both built length_bytes last laid splice
  added_in_words =
      word
      (word no_word κ₃ 0x2110 (lent (0xC1 ∷ [])) (lent_room (replicate 10 9)) (lent_room zeros) one (0 ∷ 0 ∷ 5 ∷ 0 ∷ 0 ∷ 0 ∷ 0 ∷ 0 ∷ []) refl (omega arith)
      (record { answers = record { number_is = refl; words_are = refl }; room_is = refl }))
      κ₃ 0x112F (lent []) (lent_room one) (lent_room zeros) both (0 ∷ 0 ∷ 9 ∷ 0 ∷ 0 ∷ 0 ∷ 0 ∷ 0 ∷ []) refl (omega arith)
      (record { answers = record { number_is = refl; words_are = refl }; room_is = refl })

  -- built, and read at place 2
  pub read_in_words : AnswersNumber 13 zeros 0 (0 ∷ 0 ∷ 13 ∷ 0 ∷ 0 ∷ 0 ∷ 0 ∷ 0 ∷ []) × InRoom 0x1041 (built_all params) (replicate 14 9) object
      × AnswersObject 0x1041 (built_all params) run 13 [] zeros 0 [] (0 ∷ 0 ∷ 0x1041 ∷ 0 ∷ 6 ∷ 9 ∷ 13 ∷ 0 ∷ [])
  unfolding lent lent_room zeros params both object run built length_bytes last laid splice object_at parsed measured marshaled
  read_in_words =
      request_is_read_in_words 0x1041 params (omega arith, omega (arith, params_fit.2)) params_fit.0 (replicate 10 9) (lent both) (lent_room (replicate 14 9)) object (omega (arith, params_fit.3)) (lent run) 2 refl (lent_room []) [] 9
      added_in_words κ₃ κ₃ (lent_room zeros) (lent_room zeros) 0 0 (0 ∷ 0 ∷ 13 ∷ 0 ∷ 0 ∷ 0 ∷ 0 ∷ 0 ∷ []) (0 ∷ 0 ∷ 0x1041 ∷ 0 ∷ 6 ∷ 9 ∷ 13 ∷ 0 ∷ []) (omega arith) (omega arith)
      (record { answers = record { number_is = refl; words_are = refl }; room_is = refl }) (record { answers = record { number_is = refl; words_are = refl }; room_is = refl })

  -- its parameters, from the nine bytes at place 6 that the words name
  pub listed_in_words : AnswersList params content [] (replicate 17 0) zeros 0 []
      (0 ∷ 0 ∷ 0x2110 ∷ 0 ∷ 4 ∷ 1 ∷ 5 ∷ 0 ∷ 0 ∷ 0 ∷ 0x112F ∷ 0 ∷ 9 ∷ 0 ∷ 4 ∷ 0 ∷ 0 ∷ []) (0 ∷ 0 ∷ 2 ∷ 0 ∷ 0 ∷ 0 ∷ 0 ∷ 0 ∷ [])
  unfolding lent lent_room zeros params both object run content built length_bytes last laid splice object_at parsed measured marshaled parameters parameters_fuel object_records works_of list_row
  listed_in_words =
      request_is_listed_in_words 0x1041 params (omega arith, omega (arith, params_fit.2)) params_fit.0 (replicate 10 9) (lent both) (lent_room (replicate 14 9)) object (omega (arith, params_fit.3)) (lent run) 2 refl (lent_room []) [] 9
      added_in_words κ₃ κ₃ (lent_room zeros) (lent_room zeros) 0 0 (0 ∷ 0 ∷ 13 ∷ 0 ∷ 0 ∷ 0 ∷ 0 ∷ 0 ∷ []) (0 ∷ 0 ∷ 0x1041 ∷ 0 ∷ 6 ∷ 9 ∷ 13 ∷ 0 ∷ []) (omega arith) (omega arith)
      (record { answers = record { number_is = refl; words_are = refl }; room_is = refl }) (record { answers = record { number_is = refl; words_are = refl }; room_is = refl })
      κ₄ (lent content) (lent_room []) (lent_room (replicate 17 0)) (lent_room zeros) 0 [] _ (0 ∷ 0 ∷ 2 ∷ 0 ∷ 0 ∷ 0 ∷ 0 ∷ 0 ∷ []) refl (omega arith) (omega arith)
      (record { answers = record { number_is = refl; words_are = refl }; room_is = refl; row_is = refl })

  -- the second of them, found
  pub found_in_words : AnswersObject 0x112F [] (built_all params) 4 [] zeros 0 [] (0 ∷ 0 ∷ 0x112F ∷ 0 ∷ 9 ∷ 0 ∷ 4 ∷ 0 ∷ [])
  unfolding lent lent_room zeros params content built length_bytes last laid splice parsed measured marshaled parameters parameters_fuel find_from work_found Lacks
  found_in_words =
      first_is_found_in_words 0x112F (lent content) (lent_room []) [] κ₃ (lent_room zeros) (0 ∷ 0 ∷ 0x112F ∷ 0 ∷ 9 ∷ 0 ∷ 4 ∷ 0 ∷ []) (omega arith) 0
      (record { answers = record { number_is = refl; words_are = refl }; room_is = refl }) [] ((0x2110, 0xC1 ∷ []) ∷ []) [] params_fit.0 ((λ e. omega arith), tt) refl

  -- raw 0x8004, laid out to the end of the run
  pub streamed_in_words : AnswersObject 0x2412 (0xC1 ∷ 9 ∷ []) (0x80 ∷ 0x04 ∷ 0x24 ∷ 0x12 ∷ 0xC1 ∷ 9 ∷ []) 6 [] zeros 0 [] (0 ∷ 0 ∷ 0x2412 ∷ 0 ∷ 4 ∷ 2 ∷ 6 ∷ 0 ∷ [])
  unfolding lent lent_room zeros object_at parsed measured marshaled unmarked laid splice
  streamed_in_words =
      layout_read_in_words 0x2412 (0xC1 ∷ 9 ∷ []) (0x80 ∷ 0x04 ∷ 0x24 ∷ 0x12 ∷ 0xC1 ∷ 9 ∷ []) [] (omega arith, omega arith) streamed (λ e. refl) (λ e. refl)
      (lent (0x80 ∷ 0x04 ∷ 0x24 ∷ 0x12 ∷ 0xC1 ∷ 9 ∷ [])) 0 refl (lent_room []) [] κ₃ (lent_room zeros) 0 (0 ∷ 0 ∷ 0x2412 ∷ 0 ∷ 4 ∷ 2 ∷ 6 ∷ 0 ∷ []) (omega arith)
      (record { answers = record { number_is = refl; words_are = refl }; room_is = refl })

  -- an object of one byte, built into a room of eight and read from it
  pub built_in_words : AnswersNumber 5 zeros 0 (0 ∷ 0 ∷ 5 ∷ 0 ∷ 0 ∷ 0 ∷ 0 ∷ 0 ∷ []) × InRoom 0x2412 (0xC1 ∷ []) (replicate 8 9) small_object
      × AnswersObject 0x2412 (0xC1 ∷ []) small_object 5 [] zeros 0 [] (0 ∷ 0 ∷ 0x2412 ∷ 0 ∷ 4 ∷ 1 ∷ 5 ∷ 0 ∷ [])
  unfolding lent lent_room zeros small_object built length_bytes last laid splice object_at parsed measured marshaled
  built_in_words =
      built_and_read_in_words 0x2412 (lent (0xC1 ∷ [])) (lent_room (replicate 8 9)) small_object (omega arith, omega arith) (omega arith) (lent small_object) 0 refl (lent_room []) []
      κ₃ κ₃ (lent_room zeros) (lent_room zeros) 0 0 (0 ∷ 0 ∷ 5 ∷ 0 ∷ 0 ∷ 0 ∷ 0 ∷ 0 ∷ []) (0 ∷ 0 ∷ 0x2412 ∷ 0 ∷ 4 ∷ 1 ∷ 5 ∷ 0 ∷ []) (omega arith) (omega arith)
      (record { answers = record { number_is = refl; words_are = refl }; room_is = refl }) (record { answers = record { number_is = refl; words_are = refl }; room_is = refl })

  -- 412 as two bytes
  pub number_in_words : AnswersNumber 412 zeros 0 (0 ∷ 0 ∷ 412 ∷ 0 ∷ 0 ∷ 0 ∷ 0 ∷ 0 ∷ [])
  unfolding lent lent_room zeros laid splice
  number_in_words =
      u16_comes_back_in_words 412 (lent (0x01 ∷ 0x9C ∷ [])) κ₂ (lent_room zeros) 0 (0 ∷ 0 ∷ 412 ∷ 0 ∷ 0 ∷ 0 ∷ 0 ∷ 0 ∷ []) (omega arith) (omega arith) refl
      (record { number_is = refl; words_are = refl })

  -- a marker behind 32,757 bytes, and whatever the contract allows
  pub marker_in_words : (a room : List ℕ) → length a ≡ 32757 → 32758 ≤ length room → (r : ℕ) (after said : List ℕ)
      → lattrugone_strip_markers.Post κ₃ (lent (a ++ (0x7F ∷ 0xFE ∷ 1 ∷ [])), (lent_room room, (lent_room zeros, tt))) r (lent (a ++ (0x7F ∷ 0xFE ∷ 1 ∷ [])), (lent_room after, (lent_room said, tt)))
      → AnswersNumber (length (a ++ (1 ∷ []))) zeros r said × (after ≡ (a ++ (1 ∷ [])) ++ drop (length (a ++ (1 ∷ []))) room)
  unfolding lent lent_room zeros
  marker_in_words a room l h r after said q =
      markers_come_out_in_words a (0x7F ∷ 0xFE ∷ 1 ∷ []) (1 ∷ []) l (ends fe (1 ∷ []) (omega arith) (omega arith)) (lent (a ++ (0x7F ∷ 0xFE ∷ 1 ∷ []))) (lent_room room) refl (omega (arith, length-append a (1 ∷ []))) after κ₃ (lent_room zeros) r said (omega arith) q

  -- ---- in records

  abbrev builder : ℕ → DdmBuilder
  builder n = record { code_point = 0x1041; fill = n }

  added_by_calls : ByCalls 0x1041 (replicate 10 9) params (builder 9) both
  unfolding lent lent_room params one both built length_bytes last laid splice
  added_by_calls =
      call (call no_call κ₂ 0x2110 (lent (0xC1 ∷ [])) (lent_room (replicate 10 9)) (builder 5) one refl (record { answers = refl; room_is = refl }))
      κ₂ 0x112F (lent []) (lent_room one) (builder 9) both refl (record { answers = refl; room_is = refl })

  pub read_by_calls : (◌≡◌ {A = Result ℕ Refused} (Ok 13) (Ok (length (built 0x1041 (built_all params))))) × InRoom 0x1041 (built_all params) (replicate 14 9) object
      × ReadsAs 0x1041 (built_all params) run 2 (built_header (built_all params)) [] (Ok (plain 2 0x1041 4 9)) []
  unfolding lent lent_room params both object run built length_bytes last laid splice object_at parsed measured marshaled
  read_by_calls =
      request_is_read 0x1041 params (omega arith, omega (arith, params_fit.2)) params_fit.0 (replicate 10 9) (lent both) (lent_room (replicate 14 9)) object (omega (arith, params_fit.3)) (lent run) 2 refl (lent_room []) [] (builder 9)
      added_by_calls κ₂ κ₂ (Ok 13) (Ok (plain 2 0x1041 4 9)) (record { answers = refl; room_is = refl }) (record { answers = refl; work_is = refl })
