-- Document 02, W-208, "Measure, then take": statements about any measuring and any taking of one frame, and about what two calls came to.
-- Taking is lent a room, answers, and leaves the room as `after` says.
use Rattle.std.specs.Prelude.{ℕ, ◌≤◌, ◌<◌, ◌≡◌, List, length, get_or, take, Result, Ok, Err}
use Rattle.wire.specs.Bytes.{splice}
use Rattle.answer.specs.Numbers.{number_of}
use Rattle.answer.specs.Rooms.{no_room}
use Rattle.answer.specs.declared.Refused.{Refused}
use Rattle.dss_frame.specs.Reading.{position_left}
use Rattle.dss_frame.specs.declared.Rules.{Rules}
use Rattle.dss_frame.specs.declared.Rules.TheVariants.{Salvage}
use Rattle.dss_measure.specs.declared.FrameMeasure.{FrameMeasure}
use Rattle.gateway_words.specs.AnswerWords.{refusal_words}

-- ---- in Rattle

-- What taking the frame at p comes to, of what measuring it came to, and of the payload that it has.
pub record TakenAs (measured : Result FrameMeasure Refused) (payload : List ℕ) (p : ℕ) (room : List ℕ) (answer : Result FrameMeasure Refused) (after : List ℕ) : Type 0 where
  -- "taking all, in the present order": what measuring refuses, taking refuses alike, and the room stays as it was
  pub refused : (why : Refused) → measured ≡ Err why → (answer ≡ Err why) × (after ≡ room)
  -- the measured length is the payload's
  pub counted : (m : FrameMeasure) → measured ≡ Ok m → length payload ≡ m.payload_len
  -- "The loader wants to know the room before it lends any": a room of the measured length, or a longer one, takes what was measured
  pub enough : (m : FrameMeasure) → measured ≡ Ok m → m.payload_len ≤ length room → (answer ≡ Ok m) × (after ≡ splice room 0 payload)
  -- and a shorter one never does: 9, with the measured length
  pub short : (m : FrameMeasure) → measured ≡ Ok m → length room < m.payload_len → (answer ≡ Err (no_room p m.payload_len 0)) × (after ≡ room)

-- W-208 of any measuring and any taking. "Both are told which rules hold."
pub record MeasuresThenTakes (measure : Rules → List ℕ → ℕ → Result FrameMeasure Refused) (answer : Rules → List ℕ → ℕ → List ℕ → Result FrameMeasure Refused) (after : Rules → List ℕ → ℕ → List ℕ → List ℕ) : Type 0 where
  -- "measuring gives all but 9"
  pub all_but_9 : (rules : Rules) (s : List ℕ) (p : ℕ) (why : Refused) → measure rules s p ≡ Err why → number_of why.why ≡ 9 → ⊥
  -- "or salvage's": by those a head behind the frame is never what is refused, and each refusal leaves the position where it was
  pub own_head : (s : List ℕ) (p : ℕ) (why : Refused) → measure Salvage s p ≡ Err why → position_left p why ≡ p
  -- "Taking works from the run and position again and trusts no measured number from its caller": the payload is the run's, before any
  -- room is lent, and the same for every room
  pub payload : Rules → List ℕ → ℕ → List ℕ
  pub takes : (rules : Rules) (s : List ℕ) (p : ℕ) (room : List ℕ) → TakenAs (measure rules s p) (payload rules s p) p room (answer rules s p room) (after rules s p room)

-- The frame at p was taken twice, into two rooms of any lengths and contents: what comes of it is the run's alone. Of a room only its
-- length counts, and that for 9.
pub record ByRunAlone (p : ℕ) (answer : Result FrameMeasure Refused) (after : List ℕ) (answer' : Result FrameMeasure Refused) (after' : List ℕ) : Type 0 where
  -- both are done: the same frame, and the same payload at the start of either room
  pub done : (m m' : FrameMeasure) → answer ≡ Ok m → answer' ≡ Ok m' → (m ≡ m') × (take m.payload_len after ≡ take m.payload_len after')
  -- both are refused: alike, also where it is 9
  pub refused : (why why' : Refused) → answer ≡ Err why → answer' ≡ Err why' → why ≡ why'
  -- one is refused where the other is done: it is 9, with the length of what the other took
  pub need : (why : Refused) (m : FrameMeasure) → answer ≡ Err why → answer' ≡ Ok m → why ≡ no_room p m.payload_len 0

-- ---- in words: the numbers returned, the eight words of each answer, the sixth of which is a measured length, and the rooms

pub record TakenInWords (payload : List ℕ) (p number : ℕ) (words room : List ℕ) (number' : ℕ) (words' after : List ℕ) : Type 0 where
  pub refused : (number ≡ 0 → ⊥) → (number' ≡ number) × (words' ≡ words) × (after ≡ room)
  pub counted : number ≡ 0 → length payload ≡ get_or words 5 0
  pub enough : number ≡ 0 → get_or words 5 0 ≤ length room → (number' ≡ 0) × (words' ≡ words) × (after ≡ splice room 0 payload)
  pub short : number ≡ 0 → length room < get_or words 5 0 → (number' ≡ 9) × (words' ≡ refusal_words (no_room p (get_or words 5 0) 0)) × (after ≡ room)

pub record ByRunAloneInWords (p number : ℕ) (words after : List ℕ) (number' : ℕ) (words' after' : List ℕ) : Type 0 where
  pub done : number ≡ 0 → number' ≡ 0 → (words ≡ words') × (take (get_or words 5 0) after ≡ take (get_or words 5 0) after')
  pub refused : (number ≡ 0 → ⊥) → (number' ≡ 0 → ⊥) → (number ≡ number') × (words ≡ words')
  pub need : (number ≡ 0 → ⊥) → number' ≡ 0 → (number ≡ 9) × (words ≡ refusal_words (no_room p (get_or words' 5 0) 0))
