-- The port has it, beyond the user's demands: what document 02's requests W-201 and W-208 say of reading, over the contracts of the
-- functions themselves, as in Kept. What the lines say holds stands in `demands/specs/Stretches` and `demands/specs/MeasureTake`;
-- examples that meet what they ask, in StretchExamples and MeasureTakeExamples.
use Rattle.std.specs.Prelude.{Result, Ok, Err}
use Prim.Native.Nat.{ℕ, ◌≤◌}
use mathlib.Core.Path.{◌≡◌, sym, ap, ◌∙◌}
use mathlib.Core.List.{List, [], ◌∷◌}
use lib.ListN.{length, get_or, take}
use seplogic.Ra.Ura.{Ura}
use base.Logic.{SProp, ent}
use prog.Memory.{Memory}
use prog.Routine.{Routine}
use types.Logic.{Logic}
use contract.Lifetimes.{Lfts}
use contract.Monad.{Fun, fact, fact_mono}
use denote.Ref.{Bor, MutBor, at_last}
use Rattle.gateway_words.specs.AnswerWords.{answer_len}
use Rattle.answer.specs.Numbers.{number_of}
use Rattle.answer.specs.declared.Refused.{Refused}
use Rattle.dss_frame.specs.Reading.{read_at, position_left}
use Rattle.dss_frame.specs.declared.DssFrame.{DssFrame}
use Rattle.dss_frame.specs.declared.Rules.{Rules}
use Rattle.dss_frame.specs.declared.Rules.TheVariants.{Reader, Salvage}
use Rattle.dss_measure.specs.Measure.{measured_at, extent_of}
use Rattle.dss_measure.specs.declared.FrameMeasure.{FrameMeasure}
use Rattle.dss_measure.proofs.measure_extent.Reads as measure_extent
use Rattle.dss_take.specs.Take.{taken_of, room_read, payload_at}
use Rattle.dss_take.proofs.measure.Reads as measure
use Rattle.dss_take.proofs.take.Reads as take_frame
use Rattle.dss_reader.specs.Reader.{read_of}
use Rattle.dss_reader.specs.declared.DssReader.{DssReader}
use Rattle.dss_reader.proofs.DssReader.next_frame.Reads as next_frame
use Rattle.dss_reader.specs.contracts.DssReader.read_all_frames as read_all_frames
use Rattle.dss_salvage.specs.declared.SalvageEntry.{SalvageEntry}
use Rattle.dss_salvage_call.specs.contracts.salvage as salvage
use Rattle.gateway_measure.specs.MeasureWords.{rules_of}
use Rattle.gateway_reader.proofs.lattrugone_next_frame.Reads as lattrugone_next_frame
use Rattle.gateway_measure.proofs.lattrugone_measure_frame.Reads as lattrugone_measure_frame
use Rattle.gateway_take.proofs.lattrugone_take_frame.Reads as lattrugone_take_frame
use Rattle.gateway_row.specs.RowWords.{record_len, cut}
use Rattle.gateway_frames.proofs.lattrugone_read_all_frames.Reads as lattrugone_read_all_frames
use Rattle.gateway_salvage.proofs.lattrugone_salvage.Reads as lattrugone_salvage
use Rattle.demands.specs.Stretches.{FramesStood, EntriesStood, WordsStood, AnswerStood}
use Rattle.demands.specs.MeasureTake.{TakenAs, MeasuresThenTakes, ByRunAlone, TakenInWords, ByRunAloneInWords}
use Rattle.demands.proofs.SalvageClauses.{lists}
use Rattle.demands.proofs.StretchCalls.{next_stood, answer_stood, all_stood, all_words_stood, salvage_words_stood}
use Rattle.demands.proofs.MeasureTake.{measures_then_takes, never_9, words_not_9, taken_as, not_refused, runs_alone, words_taken, words_alone, next_is_taken, next_words_taken, words_own}
use borrow.Author.Tests.{ne_eqb}
use Rattle.wire.proofs.WireLaws.{pick_no}
use Rattle.demands.proofs.OwnHead.{own_head}
use Rattle.dss_measure.specs.declared.Extent.{Extent}
use Rattle.dss_reader.specs.Reader.{frames_read}

-- ---- W-201, "Where each frame stood", of any run. The first `count` records of a row are those that were listed.

-- one frame, whose stretch is that between the two positions
pub next_read_stood : (κs : Lfts 2) (reader next : DssReader) (s : Bor (List ℕ)) (room : MutBor (List ℕ)) (d : DssFrame) (after : List ℕ)
    → next_frame.Post κs (reader, (s, (room, tt))) (Ok d, next) (reader, (s, (at_last room after, tt)))
    → FramesStood s.now after reader.position next.position (d ∷ [])
next_read_stood κs reader next s room d after p = next_stood s.now reader.position room.now d next after p

module _ {M : Type 1} {𝓤 : Ura M} (𝓛 : Logic 𝓤) (mem : Memory → SProp 𝓤) (routines : Routine → Fun 𝓤) (κs : Lfts 3) (s : Bor (List ℕ)) (room : MutBor (List ℕ)) (room_after : List ℕ) (count bytes : ℕ) where
  -- all frames, from the position to the one that is left
  pub all_read_stood : (row : MutBor (List DssFrame)) (reader left : DssReader) (row_after : List DssFrame)
      → ent 𝓤 ((read_all_frames.clauses 𝓛 mem routines κs (reader, (s, (room, (row, tt))))).ensures tt (Ok (frames_read count bytes), left) (reader, (s, (at_last room room_after, (at_last row row_after, tt)))))
      (fact 𝓤 (FramesStood s.now room_after reader.position left.position (take count row_after)))
  all_read_stood row reader left row_after = fact_mono 𝓤 _ _ (λ p. all_stood s.now reader.position room.now row.now count bytes left room_after row_after p)

  -- "In a salvage list these stretches follow each other without gap or overlap from 0 to the tail's place"
  pub salvage_stood : (row : MutBor (List SalvageEntry)) (tail : ℕ) (row_after : List SalvageEntry)
      → ent 𝓤 ((salvage.clauses 𝓛 mem routines κs (s, (room, (row, tt)))).ensures tt (Ok (record { count = count; bytes = bytes; tail = tail })) (s, (at_last room room_after, (at_last row row_after, tt))))
      (fact 𝓤 (EntriesStood s.now room_after 0 tail (take count row_after)))
  salvage_stood row tail row_after = fact_mono 𝓤 _ _ (λ p. (lists s.now room.now row.now count bytes tail room_after row_after p).stood)

-- The exported functions, lent eight words: an answer of 0 says in its second word, or its fifth, where the last one ends, and in its
-- third how many they are.
module _ (s : Bor (List ℕ)) (room words : MutBor (List ℕ)) (room_after answer : List ℕ) (eight : answer_len ≤ length words.now) where
  pub exported_next_read_stood : (κs : Lfts 3) (at : ℕ)
      → lattrugone_next_frame.Post κs (s, (at, (room, (words, tt)))) 0 (s, (at, (at_last room room_after, (at_last words answer, tt))))
      → AnswerStood s.now at room_after answer
  exported_next_read_stood κs at p = answer_stood s.now at room.now words.now room_after answer eight p

  module _ (κs : Lfts 4) (row : MutBor (List ℕ)) (row_after : List ℕ) where
    pub exported_all_read_stood : (at : ℕ)
        → lattrugone_read_all_frames.Post κs (s, (at, (room, (row, (words, tt))))) 0 (s, (at, (at_last room room_after, (at_last row row_after, (at_last words answer, tt)))))
        → WordsStood s.now room_after at (get_or answer 1 0) (cut record_len (get_or answer 2 0) row_after)
    exported_all_read_stood at p = all_words_stood s.now at room.now row.now words.now room_after row_after answer eight p

    pub exported_salvage_stood : lattrugone_salvage.Post κs (s, (room, (row, (words, tt)))) 0 (s, (at_last room room_after, (at_last row row_after, (at_last words answer, tt))))
        → WordsStood s.now room_after 0 (get_or answer 4 0) (cut record_len (get_or answer 2 0) row_after)
    exported_salvage_stood p = salvage_words_stood s.now room.now row.now words.now room_after row_after answer eight p

-- ---- W-208, "Measure, then take"

pub measured_then_taken : MeasuresThenTakes measured_at (λ rules s p room. taken_of s p (length room) (read_at rules s p)) (λ rules s p room. room_read s room (read_at rules s p))
measured_then_taken = measures_then_takes

-- so of the calls, made of the same run, at the same place and under the same rules
module _ (rules : Rules) (s : Bor (List ℕ)) (at : ℕ) where
  -- "measuring gives all but 9"
  pub measure_all_but_9 : (κs : Lfts 1) (why : Refused) → measure.Post κs (rules, (s, (at, tt))) (Err why) (rules, (s, (at, tt))) → number_of why.why ≡ 9 → ⊥
  measure_all_but_9 κs why p k = never_9 rules s.now at why (sym p) k

  -- measured, then taken into any room
  pub taken_as_measured : (κs : Lfts 1) (κs' : Lfts 2) (measured : Result FrameMeasure Refused) (room : MutBor (List ℕ)) (r : Result FrameMeasure Refused) (after : List ℕ)
      → measure.Post κs (rules, (s, (at, tt))) measured (rules, (s, (at, tt)))
      → take_frame.Post κs' (rules, (s, (at, (room, tt)))) r (rules, (s, (at, (at_last room after, tt))))
      → TakenAs measured (payload_at rules s.now at) at room.now r after
  taken_as_measured κs κs' measured room r after p q = taken_as rules s.now at room.now measured r after p q

  -- so a room of the measured length is never answered 9: it isn't refused at all
  pub measured_room_enough : (κs : Lfts 1) (κs' : Lfts 2) (m : FrameMeasure) (room : MutBor (List ℕ)) (why : Refused) (after : List ℕ)
      → length room.now ≡ m.payload_len
      → measure.Post κs (rules, (s, (at, tt))) (Ok m) (rules, (s, (at, tt)))
      → take_frame.Post κs' (rules, (s, (at, (room, tt)))) (Err why) (rules, (s, (at, (at_last room after, tt))))
      → ⊥
  measured_room_enough κs κs' m room why after e p q = not_refused rules s.now at room.now m why after e p q

  -- "trusts no measured number from its caller": taken twice, into any two rooms
  pub taken_by_run_alone : (κs κs' : Lfts 2) (room room' : MutBor (List ℕ)) (r r' : Result FrameMeasure Refused) (after after' : List ℕ)
      → take_frame.Post κs (rules, (s, (at, (room, tt)))) r (rules, (s, (at, (at_last room after, tt))))
      → take_frame.Post κs' (rules, (s, (at, (room', tt)))) r' (rules, (s, (at, (at_last room' after', tt))))
      → ByRunAlone at r after r' after'
  taken_by_run_alone κs κs' room room' r r' after after' p q = runs_alone rules s.now at room.now room'.now r r' after after' p q

  -- `measure_extent`, by which all frames are measured, is `measure` without the head: the same length and end, or the same refusal
  pub extent_as_measured : (κs κs' : Lfts 1) (measured : Result FrameMeasure Refused) (extent : Result Extent Refused)
      → measure.Post κs (rules, (s, (at, tt))) measured (rules, (s, (at, tt)))
      → measure_extent.Post κs' (rules, (s, (at, tt))) extent (rules, (s, (at, tt)))
      → extent ≡ extent_of measured
  extent_as_measured κs κs' measured extent p q = q ∙ ap extent_of (sym p)

-- by salvage's rules every refusal leaves the position where it was
pub salvage_measure_stays : (κs : Lfts 1) (s : Bor (List ℕ)) (at : ℕ) (why : Refused) → measure.Post κs (Salvage, (s, (at, tt))) (Err why) (Salvage, (s, (at, tt))) → position_left at why ≡ at
salvage_measure_stays κs s at why p = own_head s.now at why (sym p)

-- "Split `next_frame`": it is taking under the reader's rules, and leaves the room alike
pub next_frame_as_taken : (κs κs' : Lfts 2) (reader : DssReader) (s : Bor (List ℕ)) (room : MutBor (List ℕ)) (r : Result DssFrame Refused × DssReader) (after : List ℕ) (r' : Result FrameMeasure Refused) (after' : List ℕ)
    → next_frame.Post κs (reader, (s, (room, tt))) r (reader, (s, (at_last room after, tt)))
    → take_frame.Post κs' (Reader, (s, (reader.position, (room, tt)))) r' (Reader, (s, (reader.position, (at_last room after', tt))))
    → (r ≡ read_of reader.position r') × (after ≡ after')
next_frame_as_taken κs κs' reader s room r after r' after' p q = next_is_taken s.now reader.position room.now r after r' after' p q

-- and of the exported functions, lent eight words where the words are spoken of. The number of the rules is any.
module _ (rules : ℕ) (s : Bor (List ℕ)) (at : ℕ) where
  pub exported_measure_all_but_9 : (κs : Lfts 2) (words : MutBor (List ℕ)) (number : ℕ) (answer : List ℕ)
      → lattrugone_measure_frame.Post κs (rules, (s, (at, (words, tt)))) number (rules, (s, (at, (at_last words answer, tt))))
      → number ≡ 9 → ⊥
  exported_measure_all_but_9 κs words number answer p k = words_not_9 (rules_of rules) s.now at words.now number answer p k

  pub exported_taken_as_measured : (κs : Lfts 2) (κs' : Lfts 3) (words words' room : MutBor (List ℕ)) (number : ℕ) (answer : List ℕ) (number' : ℕ) (after answer' : List ℕ)
      → answer_len ≤ length words.now → answer_len ≤ length words'.now
      → lattrugone_measure_frame.Post κs (rules, (s, (at, (words, tt)))) number (rules, (s, (at, (at_last words answer, tt))))
      → lattrugone_take_frame.Post κs' (rules, (s, (at, (room, (words', tt))))) number' (rules, (s, (at, (at_last room after, (at_last words' answer', tt)))))
      → TakenInWords (payload_at (rules_of rules) s.now at) at number (take answer_len answer) room.now number' (take answer_len answer') after
  exported_taken_as_measured κs κs' words words' room number answer number' after answer' h h' p q =
      words_taken (rules_of rules) s.now at words.now words'.now room.now number answer number' after answer' h h' p q

  pub exported_taken_by_run_alone : (κs κs' : Lfts 3) (words words' room room' : MutBor (List ℕ)) (number : ℕ) (after answer : List ℕ) (number' : ℕ) (after' answer' : List ℕ)
      → answer_len ≤ length words.now → answer_len ≤ length words'.now
      → lattrugone_take_frame.Post κs (rules, (s, (at, (room, (words, tt))))) number (rules, (s, (at, (at_last room after, (at_last words answer, tt)))))
      → lattrugone_take_frame.Post κs' (rules, (s, (at, (room', (words', tt))))) number' (rules, (s, (at, (at_last room' after', (at_last words' answer', tt)))))
      → ByRunAloneInWords at number (take answer_len answer) after number' (take answer_len answer') after'
  exported_taken_by_run_alone κs κs' words words' room room' number after answer number' after' answer' h h' p q =
      words_alone (rules_of rules) s.now at words.now words'.now room.now room'.now number after answer number' after' answer' h h' p q

  -- by any number but 0 the rules are salvage's, and the place of every refusal but 16 is the position
  pub exported_salvage_measure_stays : (rules ≡ 0 → ⊥) → (κs : Lfts 2) (words : MutBor (List ℕ)) (number : ℕ) (answer : List ℕ) → answer_len ≤ length words.now
      → lattrugone_measure_frame.Post κs (rules, (s, (at, (words, tt)))) number (rules, (s, (at, (at_last words answer, tt))))
      → (number ≡ 0 → ⊥) → (number ≡ 16 → ⊥) → get_or (take answer_len answer) 1 0 ≡ at
  exported_salvage_measure_stays z κs words number answer h p i j = words_own (rules_of rules) s.now at (pick_no _ _ (ne_eqb rules 0 z)) words.now number answer h p i j

-- by the number 0 they are the reader's, and `next_frame`, lent the same, answers and leaves the same
pub exported_next_frame_as_taken : (κs κs' : Lfts 3) (s : Bor (List ℕ)) (at : ℕ) (room words : MutBor (List ℕ)) (number : ℕ) (after answer : List ℕ) (number' : ℕ) (after' answer' : List ℕ)
    → lattrugone_next_frame.Post κs (s, (at, (room, (words, tt)))) number (s, (at, (at_last room after, (at_last words answer, tt))))
    → lattrugone_take_frame.Post κs' (0, (s, (at, (room, (words, tt))))) number' (0, (s, (at, (at_last room after', (at_last words answer', tt)))))
    → (number ≡ number') × (answer ≡ answer') × (after ≡ after')
exported_next_frame_as_taken κs κs' s at room words number after answer number' after' answer' p q =
    next_words_taken s.now at room.now words.now number after answer number' after' answer' p q
