-- Lists that meet the premises of W-213's theorems, computed: empty ones, empty data, a list added in two ways, the longest data inline and
-- the shortest with four length bytes (TwoListsForms has six and eight); and three of which the statement doesn't hold.
use Rattle.std.specs.Prelude.{Result, Ok, Err}
use Prim.Native.Nat.{ℕ}
use native.Mathlib.Omega.{arith}
use mathlib.Core.Path.{◌≡◌, refl, ap}
use mathlib.Core.List.{List, [], ◌∷◌, ◌++◌}
use lib.ListN.{length, replicate}
use contract.Lifetimes.{Lfts}
use Rattle.wire.specs.Bytes.{two, last, spelled, splice, laid}
use Rattle.ddm_length.specs.Lengths.{measured, marshaled}
use Rattle.ddm_builder.specs.Built.{length_bytes, built, built_all, Fit}
use Rattle.ddm_object.specs.Objects.{Object, parsed, parameters, parameters_fuel}
use Rattle.ddm_object.specs.ObjectCalls.{end_at, param_step_at}
use Rattle.ddm_laws.proofs.BuiltLists.{pairs_of}
use Rattle.gateway_builder.specs.BuilderWords.{builder_of}
use Rattle.demands_ddm.specs.DdmLayouts.{FitsWidth}
use Rattle.demands_ddm.specs.ReadingBack.{plain}
use Rattle.demands_ddm.specs.ReadingWords.{AnswersObject, AnswersNone}
use Rattle.demands_ddm.specs.Adding.{ByCalls, no_call, call, call_u16, ByWords, no_word, word, word_u16}
use Rattle.demands_ddm.specs.TwoLists.{StepGives, WalkGives, ended, given, TwoLists}
use Rattle.demands_ddm.proofs.ListsAdded.{lent, lent_room, zeros}
use Rattle.demands_ddm.proofs.KeptDdmRequests.{equal_data, equal_objects, equal_data_in_words, equal_objects_in_words, walk_gives_back_in_words}
use Rattle.ddm_object.specs.declared.DdmObject.{DdmObject}
use Rattle.answer.specs.declared.Refused.{Refused}

-- ---- "Empty lists and empty data are included"

pub none_built : (built_all [] ≡ []) × (param_step_at [] 0 ≡ Err (end_at 0))
unfolding param_step_at parsed measured
none_built = (refl, refl)

-- two of them, with no data
pub empty_built : (built_all ((0x2110, []) ∷ (0, []) ∷ []) ≡ 0 ∷ 4 ∷ 0x21 ∷ 0x10 ∷ 0 ∷ 4 ∷ 0 ∷ 0 ∷ []) × Fit ((0x2110, []) ∷ (0, []) ∷ [])
unfolding built length_bytes last
empty_built = (refl, (omega arith, omega arith, (omega arith, omega arith, tt)))

-- ---- a number of two bytes, and the same two bytes: what they leave in two rooms is equal, and so they are one list

abbrev seven : List (ℕ × List ℕ)
seven = (0x2110, two 7) ∷ []

abbrev two_bytes : List (ℕ × List ℕ)
two_bytes = (0x2110, 0 ∷ 7 ∷ []) ∷ []

-- their data, and the object of them
filled_part : List ℕ
filled_part = 0 ∷ 6 ∷ 0x21 ∷ 0x10 ∷ 0 ∷ 7 ∷ []

whole_object : List ℕ
whole_object = 0 ∷ 10 ∷ 0x10 ∷ 0x41 ∷ 0 ∷ 6 ∷ 0x21 ∷ 0x10 ∷ 0 ∷ 7 ∷ []

both_fit : Fit seven × Fit two_bytes × FitsWidth 0x1041 (built_all seven) × FitsWidth 0x1041 (built_all two_bytes)
unfolding built length_bytes last
both_fit = ((omega arith, omega arith, tt), (omega arith, omega arith, tt), (omega arith, omega arith), (omega arith, omega arith))

module _ (κ₁ : Lfts 1) (κ₂ : Lfts 2) (κ₃ : Lfts 3) where
  by_u16 : (cp : ℕ) → ByCalls cp (replicate 6 9) seven (builder_of cp 6) filled_part
  unfolding lent lent_room filled_part built length_bytes last laid splice
  by_u16 cp = call_u16 no_call κ₁ 0x2110 7 (lent_room (replicate 6 9)) (builder_of cp 6) filled_part refl (record { answers = refl; room_is = refl })

  by_bytes : (cp : ℕ) → ByCalls cp (replicate 8 1) two_bytes (builder_of cp 6) (filled_part ++ (1 ∷ 1 ∷ []))
  unfolding lent lent_room filled_part built length_bytes last laid splice
  by_bytes cp = call no_call κ₂ 0x2110 (lent (0 ∷ 7 ∷ [])) (lent_room (replicate 8 1)) (builder_of cp 6) (filled_part ++ (1 ∷ 1 ∷ [])) refl (record { answers = refl; room_is = refl })

  -- in builders of any two code points
  pub one_list : (cp cp' : ℕ) → seven ≡ two_bytes
  unfolding lent lent_room filled_part
  one_list cp cp' =
      (equal_data seven two_bytes both_fit.0 both_fit.1 cp cp' (replicate 6 9) (replicate 8 1) (lent filled_part) (lent (filled_part ++ (1 ∷ 1 ∷ [])))
      (builder_of cp 6) (builder_of cp' 6) (by_u16 cp) (by_bytes cp')).0 refl

  pub one_object : (◌≡◌ {A = ℕ} 0x1041 0x1041) × (seven ≡ two_bytes)
  unfolding lent lent_room filled_part whole_object built length_bytes last laid splice
  one_object =
      (equal_objects seven two_bytes both_fit.0 both_fit.1 0x1041 0x1041 (replicate 6 9) (replicate 8 1) (lent filled_part) (lent (filled_part ++ (1 ∷ 1 ∷ [])))
      (builder_of 0x1041 6) (builder_of 0x1041 6) (by_u16 0x1041) (by_bytes 0x1041) κ₂ κ₂ (lent_room (replicate 10 9)) (lent_room (replicate 11 1)) 10 10 whole_object (whole_object ++ (1 ∷ []))
      both_fit.2 both_fit.3 (record { answers = refl; room_is = refl }) (record { answers = refl; room_is = refl })).0 refl

  -- the same by the calls exported
  word_of : ℕ → List ℕ
  word_of n = 0 ∷ 0 ∷ n ∷ 0 ∷ 0 ∷ 0 ∷ 0 ∷ 0 ∷ []

  u16_in_words : ByWords (replicate 6 9) seven 6 filled_part
  unfolding lent lent_room zeros word_of filled_part built length_bytes last laid splice
  u16_in_words =
      word_u16 no_word κ₂ 0x2110 7 (lent_room (replicate 6 9)) (lent_room zeros) filled_part (word_of 6) refl (omega arith)
      (record { answers = record { number_is = refl; words_are = refl }; room_is = refl })

  bytes_in_words : ByWords (replicate 8 1) two_bytes 6 (filled_part ++ (1 ∷ 1 ∷ []))
  unfolding lent lent_room zeros word_of filled_part built length_bytes last laid splice
  bytes_in_words =
      word no_word κ₃ 0x2110 (lent (0 ∷ 7 ∷ [])) (lent_room (replicate 8 1)) (lent_room zeros) (filled_part ++ (1 ∷ 1 ∷ [])) (word_of 6) refl (omega arith)
      (record { answers = record { number_is = refl; words_are = refl }; room_is = refl })

  pub one_list_in_words : seven ≡ two_bytes
  unfolding lent lent_room filled_part
  one_list_in_words =
      (equal_data_in_words seven two_bytes both_fit.0 both_fit.1 0 0 (replicate 6 9) (replicate 8 1) (lent filled_part) (lent (filled_part ++ (1 ∷ 1 ∷ []))) 6 6 u16_in_words bytes_in_words).0 refl

  pub one_object_in_words : (◌≡◌ {A = ℕ} 0x1041 0x1041) × (seven ≡ two_bytes)
  unfolding lent lent_room zeros word_of filled_part whole_object built length_bytes last laid splice
  one_object_in_words =
      (equal_objects_in_words seven two_bytes both_fit.0 both_fit.1 0x1041 0x1041 (replicate 6 9) (replicate 8 1) (lent filled_part) (lent (filled_part ++ (1 ∷ 1 ∷ [])))
      6 6 u16_in_words bytes_in_words κ₃ κ₃ (lent_room (replicate 10 9)) (lent_room (replicate 11 1)) (lent_room zeros) (lent_room zeros) whole_object (whole_object ++ (1 ∷ [])) (word_of 10) (word_of 10)
      both_fit.2 both_fit.3 (omega arith) (omega arith)
      (record { answers = record { number_is = refl; words_are = refl }; room_is = refl }) (record { answers = record { number_is = refl; words_are = refl }; room_is = refl })).0 refl

  -- and walked over: the first step gives those two bytes and the next place, and there the walk ends, with 11
  first_step : {gives : ℕ → ℕ → List ℕ → ℕ → Type 0} {ends : ℕ → Type 0} {at cp to : ℕ} {d : List ℕ} {l : List (ℕ × List ℕ)} → WalkGives gives ends at ((cp, d) ∷ l) to
      → (next : ℕ) × gives at cp d next × WalkGives gives ends next l to
  first_step (given {next = next} g w) = (next, g, w)

  last_step : {gives : ℕ → ℕ → List ℕ → ℕ → Type 0} {ends : ℕ → Type 0} {at to : ℕ} → WalkGives gives ends at [] to → ends to
  last_step (ended x) = x

  abbrev said_first : List ℕ
  said_first = 0 ∷ 6 ∷ 0x2110 ∷ 0 ∷ 4 ∷ 2 ∷ 6 ∷ 0 ∷ []

  pub walked_in_words : AnswersObject 0x2110 (two 7) (built_all seven) 6 [] zeros 0 [] said_first × AnswersNone [] zeros 11 [] (11 ∷ 6 ∷ 0 ∷ 0 ∷ 0 ∷ 0 ∷ 0 ∷ 0 ∷ [])
  unfolding lent lent_room zeros filled_part built length_bytes last laid splice param_step_at parsed measured marshaled
  walked_in_words =
      let walk = walk_gives_back_in_words seven both_fit.0 κ₂ (lent filled_part) refl in
      let one = first_step walk in (
        (one.1 (lent_room zeros) 0 said_first (omega arith) (record { number_is = refl; words_are = refl })).0,
        (last_step one.2 (lent_room zeros) 11 (11 ∷ 6 ∷ 0 ∷ 0 ∷ 0 ∷ 0 ∷ 0 ∷ 0 ∷ []) (omega arith) (record { number_is = refl; words_are = refl })).0,
      )

-- ---- inline, and with four length bytes

module _ (κ₂ : Lfts 2) where
  -- the longest data inline, 32,763 bytes, and the shortest with four length bytes, 32,764: added, computed, and walked over
  pub longest_inline : ByCalls 0x2001 (replicate 32768 9) ((0x2414, replicate 32763 0xC1) ∷ []) (builder_of 0x2001 32767) (0x7F ∷ 0xFF ∷ 0x24 ∷ 0x14 ∷ (replicate 32763 0xC1 ++ (9 ∷ [])))
  unfolding lent lent_room built length_bytes last laid splice
  longest_inline =
      call no_call κ₂ 0x2414 (lent (replicate 32763 0xC1)) (lent_room (replicate 32768 9)) (builder_of 0x2001 32767) (0x7F ∷ 0xFF ∷ 0x24 ∷ 0x14 ∷ (replicate 32763 0xC1 ++ (9 ∷ []))) refl
      (record { answers = refl; room_is = refl })

  pub shortest_four : ByCalls 0x2001 (replicate 32773 9) ((0x2414, replicate 32764 0xC1) ∷ []) (builder_of 0x2001 32772)
      (0x80 ∷ 0x08 ∷ 0x24 ∷ 0x14 ∷ 0 ∷ 0 ∷ 0x7F ∷ 0xFC ∷ (replicate 32764 0xC1 ++ (9 ∷ [])))
  unfolding lent lent_room built length_bytes last laid splice
  shortest_four =
      call no_call κ₂ 0x2414 (lent (replicate 32764 0xC1)) (lent_room (replicate 32773 9)) (builder_of 0x2001 32772)
      (0x80 ∷ 0x08 ∷ 0x24 ∷ 0x14 ∷ 0 ∷ 0 ∷ 0x7F ∷ 0xFC ∷ (replicate 32764 0xC1 ++ (9 ∷ []))) refl (record { answers = refl; room_is = refl })

pub four : List ℕ
four = 0x80 ∷ 0x08 ∷ 0x24 ∷ 0x14 ∷ 0 ∷ 0 ∷ 0x7F ∷ 0xFC ∷ replicate 32764 0xC1

pub four_walked : (param_step_at four 0 ≡ Ok (plain 0 0x2414 8 32764, 32772)) × (param_step_at four 32772 ≡ Err (end_at 32772)) × (length four ≡ 32772)
unfolding four param_step_at parsed measured marshaled spelled
four_walked = (refl, refl, refl)

-- ---- what another tool wrote: the walk reads one list from two byte strings, of which the builder makes the first

pub two_forms : (pairs_of (parameters (0 ∷ 5 ∷ 0x21 ∷ 0x10 ∷ 0xC1 ∷ [])) ≡ (0x2110, 0xC1 ∷ []) ∷ [])
    × (pairs_of (parameters (0x80 ∷ 0x08 ∷ 0x21 ∷ 0x10 ∷ 0 ∷ 0 ∷ 0 ∷ 1 ∷ 0xC1 ∷ [])) ≡ (0x2110, 0xC1 ∷ []) ∷ [])
    × (built_all ((0x2110, 0xC1 ∷ []) ∷ []) ≡ 0 ∷ 5 ∷ 0x21 ∷ 0x10 ∷ 0xC1 ∷ [])
unfolding parameters parameters_fuel parsed measured marshaled spelled built length_bytes last
two_forms = (refl, refl, refl)

-- a code point of more than sixteen bits would be cut: no call can be passed one, and `Fit` leaves it out
pub code_point_cut : built_all ((0x12110, []) ∷ []) ≡ built_all ((0x2110, []) ∷ [])
unfolding built length_bytes last
code_point_cut = refl

-- ---- of these the statement doesn't hold

-- code point and data without a length: two lists, one byte string
abbrev bare : List (ℕ × List ℕ) → List ℕ
bare [] = []
bare (x ∷ l) = two x.0 ++ (x.1 ++ bare l)

pub bare_not : (list : List ℕ → List Object) (step : List ℕ → ℕ → Result (DdmObject × ℕ) Refused) → ¬ TwoLists bare list step
bare_not list step t =
    let e : ◌≡◌ {A = List (ℕ × List ℕ)} ((1, 0 ∷ 1 ∷ []) ∷ []) ((1, []) ∷ (1, []) ∷ []) =
    t.same_list ((1, 0 ∷ 1 ∷ []) ∷ []) ((1, []) ∷ (1, []) ∷ []) (omega arith, omega arith, tt) (omega arith, omega arith, (omega arith, omega arith, tt)) refl in
    let z : ◌≡◌ {A = ℕ} 1 2 = ap length e in
    omega arith

-- where a walk of nothing ends
stays : {gives : ℕ → ℕ → List ℕ → ℕ → Type 0} {ends : ℕ → Type 0} {at to : ℕ} → WalkGives gives ends at [] to → at ≡ to
stays (ended x) = refl

-- a stray byte behind the last: the walk doesn't end there
abbrev strayed : List (ℕ × List ℕ) → List ℕ
strayed l = built_all l ++ (0 ∷ [])

pub strayed_not : (list : List ℕ → List Object) (step : List ℕ → ℕ → Result (DdmObject × ℕ) Refused) → ¬ TwoLists strayed list step
strayed_not list step t = let z : ◌≡◌ {A = ℕ} 0 1 = stays (t.ends_there [] tt) in omega arith

-- a walk that ends where it starts
abbrev ends_at_once : List ℕ → ℕ → Result (DdmObject × ℕ) Refused
ends_at_once s at = Err (end_at at)

pub ends_at_once_not : ¬ TwoLists built_all parameters ends_at_once
ends_at_once_not t = go (t.ends_there ((0, []) ∷ []) (omega arith, omega arith, tt))
  where
    s : List ℕ
    s = built_all ((0, []) ∷ [])

    go : {at to : ℕ} {x : ℕ × List ℕ} {l : List (ℕ × List ℕ)} → WalkGives (λ at cp d next. StepGives s cp d next (Err (end_at at))) (λ at. ◌≡◌ {A = Result (DdmObject × ℕ) Refused} (Err (end_at at)) (Err (end_at at))) at (x ∷ l) to → ⊥
    go (given g w) = let e = g.is in let z : ◌≡◌ {A = ℕ} 0 1 = cc in omega arith
