-- The port has it: the user's demands, over the contracts of the functions themselves, of the calls in Rattle and of those that are
-- exported to C and Rust. A contract is named, and not written again: `f.Post` is what f ensures of its arguments, its answer, and its
-- arguments as they then are; `at_last room l` is the room that then holds l. What the lines say holds stands in KeptMeaning, in
-- ReaderKeeps (`AllBack`) and in SalvageKeeps (`Recovered`); examples that meet what they ask, in KeptExamples and SeveralRun. Of the
-- calls that write, the widest is taken: the contracts of the writer's others are the same record, at a type and flags of their own.
-- What document 02's W-201 and W-208 say stands in KeptRequests.
use Rattle.std.specs.Prelude.{Result, Ok, Err}
use Prim.Native.Nat.{ℕ, ◌*◌, ◌%◌, ◌≤◌}
use mathlib.Core.Path.{◌≡◌, refl, subst}
use mathlib.Core.Logic.{◌⊎◌}
use mathlib.Core.Bool.{Bool, true}
use mathlib.Core.List.{List, ◌++◌}
use lib.ListN.{length, get_or, take}
use seplogic.Ra.Ura.{Ura}
use base.Logic.{SProp, ent}
use prog.Memory.{Memory}
use prog.Routine.{Routine}
use types.Logic.{Logic}
use contract.Lifetimes.{Lfts}
use contract.Monad.{Fun, fact, fact_mono}
use denote.Ref.{Bor, MutBor, at_last}
use Rattle.gateway_words.specs.AnswerWords.{answer_len}
use Rattle.wire.specs.Bytes.{part, joined}
use Rattle.answer.specs.Numbers.{number_of}
use Rattle.answer.specs.declared.Refused.{Refused}
use Rattle.dss_head.specs.Heads.{type_at, head_at, bit}
use Rattle.dss_head.specs.declared.DssType.{DssType}
use Rattle.dss_head.proofs.DssType.from_byte.Reads as from_byte
use Rattle.dss_head.proofs.DssHeader.parse.Reads as parse
use Rattle.dss_frame.specs.Written.{Sent, written}
use Rattle.dss_frame.specs.Reading.{Frame, refused, read_at, position_after}
use Rattle.dss_frame.specs.Frames.{frames, refused_all, all_frames}
use Rattle.dss_frame.specs.FrameRecords.{payloads_of}
use Rattle.dss_frame.specs.Salvage.{salvaged}
use Rattle.dss_frame.specs.declared.DssFrame.{DssFrame}
use Rattle.dss_frame.specs.declared.Rules.{Rules}
use Rattle.dss_frame.specs.declared.Rules.TheVariants.{Reader, Salvage}
use Rattle.dss_take.proofs.take.Reads as take_frame
use Rattle.dss_writer.specs.Writer.{sent}
use Rattle.dss_writer.specs.declared.DssWriter.{DssWriter}
use Rattle.dss_writer.proofs.DssWriter.write_dss_full.Reads as write_dss_full
use Rattle.dss_reader.specs.Reader.{stands_at, left_at, frame_end, is_end}
use Rattle.dss_reader.specs.declared.DssReader.{DssReader}
use Rattle.dss_reader.proofs.DssReader.has_complete_frame.Reads as has_complete_frame
use Rattle.dss_reader.proofs.DssReader.next_frame.Reads as next_frame
use Rattle.dss_reader.specs.contracts.DssReader.read_all_frames as read_all_frames
use Rattle.dss_salvage.specs.declared.SalvageEntry.{SalvageEntry}
use Rattle.dss_salvage_call.specs.contracts.salvage as salvage
use Rattle.gateway_writer.specs.WriterWords.{writer_of, frame_of}
use Rattle.gateway_writer.proofs.lattrugone_write_dss_full.Reads as lattrugone_write_dss_full
use Rattle.gateway_reader.specs.ReaderWords.{ReadsFrame}
use Rattle.gateway_measure.specs.MeasureWords.{rules_of}
use Rattle.gateway_reader.proofs.lattrugone_has_frame.Reads as lattrugone_has_frame
use Rattle.gateway_reader.proofs.lattrugone_frame_end.Reads as lattrugone_frame_end
use Rattle.gateway_reader.proofs.lattrugone_next_frame.Reads as lattrugone_next_frame
use Rattle.gateway_take.proofs.lattrugone_take_frame.Reads as lattrugone_take_frame
use Rattle.gateway_row.specs.RowWords.{record_len}
use Rattle.gateway_frames.specs.FramesWords.{ReadsAllFrames}
use Rattle.gateway_frames.proofs.lattrugone_read_all_frames.Reads as lattrugone_read_all_frames
use Rattle.gateway_salvage.specs.SalvageWords.{SalvagesInWords}
use Rattle.gateway_salvage.proofs.lattrugone_salvage.Reads as lattrugone_salvage
use Rattle.layouts.specs.DssLayout.{Structure, Allowed, Dss, FullLast}
use Rattle.demands.specs.Demands.{Unreadable, ReadsEverySize, Item, run}
use Rattle.demands.specs.AllFrames.{AllAlone}
use Rattle.demands.specs.FourTypes.{four_types, four_heads, read_by, all_by, TypesAsFour, FiveRefused, SameOrFive, HeadsAsFour, ReadsAsFour, AllAsFour}
use Rattle.demands.specs.NoReply.{RefusesSpoilt}
use Rattle.demands.specs.AsRead.{NoneFull, SalvagesAsRead, TellsWhy}
use Rattle.demands.specs.DssLayouts.{structure_of, WritesLayout, ReadsDssLayout, ReadsFullLast, WaitsBehindFull, LayoutFixes}
use Rattle.demands.specs.Longer.{TakenStay, WaitingLosesNothing}
use Rattle.demands.specs.Mending.{StopsWaiting, decided}
use Rattle.demands.proofs.WrittenLayout.{writes_layout}
use Rattle.demands.proofs.LayoutReads.{reads_layout, reads_full_last, waits_behind_full}
use Rattle.demands.proofs.FaithfulLayout.{layout_fixes}
use Rattle.demands.proofs.LayoutCalls.{write_dss_laid, next_frame_laid, layout_not_whole}
use Rattle.demands.proofs.LongerTaken.{reader_taken_stay, reader_decided_stay, reader_loses_nothing}
use Rattle.demands.proofs.LongerCalls.{calls_same, has_whole, end_decided, words_same}
use Rattle.demands.proofs.Mending.{stops_waiting}
use Rattle.demands.proofs.DeadCalls.{calls_dead, words_dead}
use Rattle.demands.proofs.ReadBack.{reads_every_size}
use Rattle.demands.proofs.AsRead.{salvages_as_read, tells_why}
use Rattle.demands.proofs.AsReadCalls.{as_read_words}
use Rattle.demands.proofs.FourTypes.{types_as_four, heads_as_four, reads_as_four, all_as_four}
use Rattle.demands.proofs.FourTypesCalls.{from_byte_four, parse_four, next_frame_four, words_four, all_words_four}
use Rattle.demands.proofs.SpoiltFrames.{refuses_spoilt}
use Rattle.demands.specs.KeptLists.{payloads, AllBack, all_bytes, Recovered}
use Rattle.demands.specs.KeptCalls.{asked_of, Calls, asked_in_words, ExportedCalls}
use Rattle.demands.specs.KeptMeaning.{ReadAgain, NotReadAgain, ReadAgainInWords, NotReadAgainInWords, AllBackInWords, RecoveredInWords, RefusedInWords, SameInWords, StructureBack, StructureBackInWords, LaidInWords, not_yet, RefusedAs, AnsweredAs, AnsweredInWordsAs, AllAnsweredInWordsAs}
use Rattle.demands.proofs.ReaderClauses.{read_all_frames_back}
use Rattle.demands.proofs.SalvageClauses.{salvage_recovers, salvage_refuses}
use Rattle.demands.proofs.KeptFrame.{read_again, not_read_again, read_again_words, not_read_again_words}
use Rattle.demands.proofs.KeptLayouts.{laid_in_words, structure_back, full_last}
use Rattle.demands.proofs.KeptRows.{frames_back_words, recovers_words}
use Rattle.demands.proofs.MeasureTake.{takes_kept}
use Rattle.demands.proofs.KeptRefusals.{writes_kept, reads_kept, all_kept, sends_kept, frame_kept, taken_kept, frames_kept, salvage_kept}
use Rattle.dss_head.specs.declared.DssHeader.{DssHeader}
use Rattle.dss_reader.specs.declared.FramesRead.{FramesRead}
use Rattle.dss_salvage.specs.declared.Salvaging.{Salvaging}

-- ---- Demand 1: "A refusal has a number and a place, and leaves all lent buffers unchanged; where it leaves the reading position is fixed
-- too." That a call ends and does nothing undefined is what the toolchain proves of every function.

module _ (κs : Lfts 2) (room : MutBor (List ℕ)) (why : Refused) (after : List ℕ) where
  pub write_refused : (w : DssWriter) (t : DssType) (chained same : Bool) (payload : Bor (List ℕ))
      → write_dss_full.Post κs (w, (t, (chained, (same, (payload, (room, tt)))))) (Err why) (w, (t, (chained, (same, (payload, (at_last room after, tt))))))
      → after ≡ room.now
  write_refused w t chained same payload p = writes_kept w (sent w.correlation_id t chained same payload.now) room.now why after p

  -- the reader is left at the refusal's place, but with 16 where it was
  pub read_refused : (reader left : DssReader) (s : Bor (List ℕ))
      → next_frame.Post κs (reader, (s, (room, tt))) (Err why, left) (reader, (s, (at_last room after, tt)))
      → (after ≡ room.now) × (left ≡ left_at reader.position why)
  read_refused reader left s p = reads_kept s.now reader.position room.now why left after p

  pub take_refused : (rules : Rules) (s : Bor (List ℕ)) (at : ℕ)
      → take_frame.Post κs (rules, (s, (at, (room, tt)))) (Err why) (rules, (s, (at, (at_last room after, tt))))
      → after ≡ room.now
  take_refused rules s at p = takes_kept rules s.now at room.now why after p

-- A function over a row of records is named by its own clause: in any model of the logic it entails the fact.
module _ {M : Type 1} {𝓤 : Ura M} (𝓛 : Logic 𝓤) (mem : Memory → SProp 𝓤) (routines : Routine → Fun 𝓤) (κs : Lfts 3) (s : Bor (List ℕ)) (room : MutBor (List ℕ)) (why : Refused) (room_after : List ℕ) where
  pub all_read_refused : (row : MutBor (List DssFrame)) (reader left : DssReader) (row_after : List DssFrame)
      → ent 𝓤 ((read_all_frames.clauses 𝓛 mem routines κs (reader, (s, (room, (row, tt))))).ensures tt (Err why, left) (reader, (s, (at_last room room_after, (at_last row row_after, tt)))))
      (fact 𝓤 ((room_after ≡ room.now) × (row_after ≡ row.now) × (left ≡ stands_at why.place)))
  all_read_refused row reader left row_after = fact_mono 𝓤 _ _ (λ p. all_kept s.now reader.position room.now why left row.now room_after row_after p)

  -- "the one refusal of the call is 9"
  pub salvage_refused : (row : MutBor (List SalvageEntry)) (row_after : List SalvageEntry)
      → ent 𝓤 ((salvage.clauses 𝓛 mem routines κs (s, (room, (row, tt)))).ensures tt (Err why) (s, (at_last room room_after, (at_last row row_after, tt))))
      (fact 𝓤 ((number_of why.why ≡ 9) × (why.place ≡ 0) × (room_after ≡ room.now) × (row_after ≡ row.now)))
  salvage_refused row row_after = salvage_refuses 𝓛 mem routines κs s room row room_after row_after why

-- The exported functions: any number but 0 is a refusal's. Its place is also the position that it leaves, but with 16, which leaves it
-- as it was.
module _ (words : MutBor (List ℕ)) (number : ℕ) (answer : List ℕ) (other : number ≡ 0 → ⊥) (room : MutBor (List ℕ)) (room_after : List ℕ) where
  pub exported_write_refused : (κs : Lfts 3) (id fill type flags : ℕ) (payload : Bor (List ℕ))
      → lattrugone_write_dss_full.Post κs (id, (fill, (type, (flags, (payload, (room, (words, tt))))))) number (id, (fill, (type, (flags, (payload, (at_last room room_after, (at_last words answer, tt)))))))
      → RefusedInWords words.now number answer × (room_after ≡ room.now)
  exported_write_refused κs id fill type flags payload p =
      sends_kept words.now number answer other (type_at type 0) (writer_of id fill) (frame_of id (bit 0x40 flags) (bit 0x10 flags) payload.now) room.now room_after p

  pub exported_read_refused : (κs : Lfts 3) (s : Bor (List ℕ)) (at : ℕ)
      → lattrugone_next_frame.Post κs (s, (at, (room, (words, tt)))) number (s, (at, (at_last room room_after, (at_last words answer, tt))))
      → RefusedInWords words.now number answer × (room_after ≡ room.now)
  exported_read_refused κs s at p = frame_kept words.now number answer other s.now at room.now room_after p

  pub exported_take_refused : (κs : Lfts 3) (rules : ℕ) (s : Bor (List ℕ)) (at : ℕ)
      → lattrugone_take_frame.Post κs (rules, (s, (at, (room, (words, tt))))) number (rules, (s, (at, (at_last room room_after, (at_last words answer, tt)))))
      → RefusedInWords words.now number answer × (room_after ≡ room.now)
  exported_take_refused κs rules s at p = taken_kept words.now number answer other (rules_of rules) s.now at room.now room_after p

  module _ (κs : Lfts 4) (s : Bor (List ℕ)) (row : MutBor (List ℕ)) (row_after : List ℕ) where
    pub exported_all_read_refused : (at : ℕ)
        → lattrugone_read_all_frames.Post κs (s, (at, (room, (row, (words, tt))))) number (s, (at, (at_last room room_after, (at_last row row_after, (at_last words answer, tt)))))
        → RefusedInWords words.now number answer × (room_after ≡ room.now) × (row_after ≡ row.now)
    exported_all_read_refused at p = frames_kept words.now number answer other s.now at room.now row.now room_after row_after p

    pub exported_salvage_refused : lattrugone_salvage.Post κs (s, (room, (row, (words, tt)))) number (s, (at_last room room_after, (at_last row row_after, (at_last words answer, tt))))
        → RefusedInWords words.now number answer × (room_after ≡ room.now) × (row_after ≡ row.now)
    exported_salvage_refused p = salvage_kept words.now number answer other s.now room.now row.now room_after row_after p

-- ---- Demand 2, one frame

module _ (κs κs' : Lfts 2) (w : DssWriter) (t : DssType) (chained same : Bool) (payload : Bor (List ℕ)) (room : MutBor (List ℕ)) (wrote : Result DssWriter Refused) (laid : List ℕ) (lent : Bor (List ℕ)) (into : MutBor (List ℕ)) (r : Result DssFrame Refused × DssReader) (after : List ℕ) where
  abbrev asked : Sent
  asked = asked_of w t chained same payload

  -- "A written frame, read alone with enough room, gives back type, flags, correlation, payload and is wholly consumed."
  pub read_back : Calls κs κs' w t chained same payload room wrote laid lent into r after → (Unreadable asked → ⊥) → length payload.now ≤ length into.now → ReadAgain w asked wrote into.now r after
  read_back c u k = read_again w asked c.sendable room.now laid lent.now into.now wrote r after c.fits c.writes c.lent_is c.reads u k

  -- "With a payload of 32,761 plus one or more times 32,765 bytes, the reader says it isn't whole."
  pub not_whole_lem : Calls κs κs' w t chained same payload room wrote laid lent into r after → Unreadable asked → NotReadAgain w asked wrote into.now r after
  not_whole_lem c u = not_read_again w asked c.sendable room.now laid lent.now into.now wrote r after c.fits c.writes c.lent_is c.reads u

-- The same of the exported functions, lent eight words each. A writer is its correlation and its fill mark, a type a byte that says it,
-- flags a byte.
module _ (κs κs' : Lfts 3) (id fill type flags : ℕ) (t : DssType) (payload : Bor (List ℕ)) (room words : MutBor (List ℕ)) (number : ℕ) (laid answer : List ℕ) (lent : Bor (List ℕ)) (into words' : MutBor (List ℕ)) (number' : ℕ) (after answer' : List ℕ) where
  abbrev of_type : DssType → Sent
  of_type = asked_in_words id flags payload

  pub exported_read_back : ExportedCalls κs κs' id fill type flags t payload room words number laid answer lent into words' number' after answer' → (Unreadable (of_type t) → ⊥) → length payload.now ≤ length into.now
      → ReadAgainInWords (of_type t) fill number answer into.now number' answer' after
  exported_read_back c u k =
      read_again_words (type_at type 0) t c.typed id fill of_type refl c.sendable
      room.now words.now laid answer lent.now into.now words'.now number number' after answer' c.fits c.eight c.eight' c.writes c.lent_is c.reads u k

  pub exported_not_whole : ExportedCalls κs κs' id fill type flags t payload room words number laid answer lent into words' number' after answer' → Unreadable (of_type t) → NotReadAgainInWords (of_type t) fill number answer into.now number' answer' after
  exported_not_whole c u =
      not_read_again_words (type_at type 0) t c.typed id fill of_type refl c.sendable
      room.now words.now laid answer lent.now into.now words'.now number number' after answer' c.fits c.eight c.eight' c.writes c.lent_is c.reads u

-- ---- Demand 2, all frames of a run of written frames that stand by themselves, from its first byte on, with enough room and row

pub all_read_back : {M : Type 1} {𝓤 : Ura M} (𝓛 : Logic 𝓤) (mem : Memory → SProp 𝓤) (routines : Routine → Fun 𝓤) (κs : Lfts 3) (run : Bor (List ℕ)) (room : MutBor (List ℕ)) (row : MutBor (List DssFrame)) (r : Result FramesRead Refused × DssReader) (room_after : List ℕ) (row_after : List DssFrame)
    → (fs : List Sent) → AllAlone fs → run.now ≡ joined written fs → length (payloads fs) ≤ length room.now → length fs ≤ length row.now
    → ent 𝓤 ((read_all_frames.clauses 𝓛 mem routines κs (stands_at 0, (run, (room, (row, tt))))).ensures tt r (stands_at 0, (run, (at_last room room_after, (at_last row row_after, tt)))))
    (fact 𝓤 (AllBack fs room.now row.now r room_after row_after))
all_read_back 𝓛 mem routines κs run room row r room_after row_after fs a e h k =
    read_all_frames_back 𝓛 mem routines κs (stands_at 0) run room row r room_after row_after fs a refl e h k

-- the exported function, with a row of ten words a record
pub exported_all_read_back : (κs : Lfts 4) (run : Bor (List ℕ)) (room row words : MutBor (List ℕ)) (number : ℕ) (room_after row_after answer : List ℕ)
    → (fs : List Sent) → AllAlone fs → run.now ≡ joined written fs → length (payloads fs) ≤ length room.now → length fs * record_len ≤ length row.now → answer_len ≤ length words.now
    → lattrugone_read_all_frames.Post κs (run, (0, (room, (row, (words, tt))))) number (run, (0, (at_last room room_after, (at_last row row_after, (at_last words answer, tt)))))
    → AllBackInWords fs room.now row.now number room_after row_after answer
exported_all_read_back κs run room row words number room_after row_after answer fs a e h k l p =
    frames_back_words fs a room.now row.now words.now h k l number room_after row_after answer
    (subst (λ (s : List ℕ). ReadsAllFrames s 0 room.now row.now words.now number room_after row_after answer) e p)

-- ---- Demand 2, layouts: "meets the DSS and DDM layouts of The Open Group's DRDA volume 3, with differences listed". (DDM: `demands_ddm`.)

-- the definitions
pub layout_written : WritesLayout written
layout_written = writes_layout

pub layout_read : ReadsDssLayout (read_at Reader)
layout_read = reads_layout

-- under salvage's rules a full last chunk is no difference, and there is no other
pub layout_read_full : ReadsFullLast (read_at Salvage)
layout_read_full = reads_full_last

pub layout_waits : WaitsBehindFull (read_at Reader)
layout_waits = waits_behind_full

pub layout_fixed : LayoutFixes Dss
layout_fixed = layout_fixes

-- What a call laid down between its two fill marks has the layout of what was asked for, where the volume allows that.
pub laid_out : (κs : Lfts 2) (w d : DssWriter) (t : DssType) (chained same : Bool) (payload : Bor (List ℕ)) (room : MutBor (List ℕ)) (laid : List ℕ)
    → Allowed (structure_of (sent w.correlation_id t chained same payload.now))
    → write_dss_full.Post κs (w, (t, (chained, (same, (payload, (room, tt)))))) (Ok d) (w, (t, (chained, (same, (payload, (at_last room laid, tt))))))
    → Dss (structure_of (sent w.correlation_id t chained same payload.now)) (part laid w.fill d.fill)
laid_out κs w d t chained same payload room laid a p = write_dss_laid κs w d t chained same payload room laid a p

-- Bytes with a structure's layout are read as the structure, from their first on; with a full last chunk it is 1.
module _ (κs : Lfts 2) (b : Bor (List ℕ)) (room : MutBor (List ℕ)) (r : Result DssFrame Refused × DssReader) (after : List ℕ) (w : Structure) (l : Dss w b.now) (p : next_frame.Post κs (stands_at 0, (b, (room, tt))) r (stands_at 0, (b, (at_last room after, tt)))) where
  pub laid_read : (FullLast l → ⊥) → length w.payload ≤ length room.now → StructureBack w b.now room.now r after
  laid_read n h = next_frame_laid κs (stands_at 0) b room r after w l refl n h p

  pub laid_not_whole : FullLast l → (r ≡ (Err (not_yet 0), stands_at 0)) × (after ≡ room.now)
  laid_not_whole n = layout_not_whole w b.now l room.now r after p n

-- The same of the exported functions, lent eight words.
pub exported_laid_out : (κs : Lfts 3) (id fill type flags : ℕ) (t : DssType) (payload : Bor (List ℕ)) (room words : MutBor (List ℕ)) (laid answer : List ℕ)
    → type_at type 0 ≡ Ok t → Allowed (structure_of (sent id t (bit 0x40 flags) (bit 0x10 flags) payload.now)) → answer_len ≤ length words.now
    → lattrugone_write_dss_full.Post κs (id, (fill, (type, (flags, (payload, (room, (words, tt))))))) 0 (id, (fill, (type, (flags, (payload, (at_last room laid, (at_last words answer, tt)))))))
    → LaidInWords (structure_of (sent id t (bit 0x40 flags) (bit 0x10 flags) payload.now)) fill answer laid
exported_laid_out κs id fill type flags t payload room words laid answer typed a k p =
    laid_in_words (type_at type 0) t typed id fill (frame_of id (bit 0x40 flags) (bit 0x10 flags) payload.now) refl room.now words.now laid answer k p a

module _ (κs : Lfts 3) (b : Bor (List ℕ)) (room words : MutBor (List ℕ)) (number : ℕ) (after answer : List ℕ) (w : Structure) (l : Dss w b.now) (eight : answer_len ≤ length words.now) (p : lattrugone_next_frame.Post κs (b, (0, (room, (words, tt)))) number (b, (0, (at_last room after, (at_last words answer, tt))))) where
  pub exported_laid_read : (FullLast l → ⊥) → length w.payload ≤ length room.now → StructureBackInWords w b.now room.now number answer after
  exported_laid_read n h = structure_back w b.now l room.now words.now eight number after answer p n h

  pub exported_laid_not_whole : FullLast l → RefusedAs (not_yet 0) room.now number answer after
  exported_laid_not_whole n = full_last w b.now l room.now words.now eight number after answer p n

-- ---- Demand 2, "Each ported call, given room, equals the Rust on every input". That the four-type reading is the Rust's is compared, not
-- proved. W-210, "leaves out runs with type 5, since the Rust refuses it": what is left out, and no more. Each reading is what the
-- four-type reading is, unless that refuses a type 5 that stands in the run.

pub types_as_rust : TypesAsFour type_at
types_as_rust = types_as_four

pub heads_as_rust : HeadsAsFour head_at
heads_as_rust = heads_as_four

pub read_as_rust : ReadsAsFour (read_at Reader)
read_as_rust = reads_as_four

pub all_read_as_rust : AllAsFour all_frames
all_read_as_rust = all_as_four

-- so of the calls
pub type_as_rust : (κs : Lfts 0) (b : ℕ) (r : Result DssType Refused) → (b % 16 ≡ 5 → ⊥) → from_byte.Post κs (b, tt) r (b, tt) → r ≡ four_types b 0
type_as_rust κs b r h p = from_byte_four κs b r h p

pub head_as_rust : (κs : Lfts 1) (bytes : Bor (List ℕ)) (r : Result DssHeader Refused) → parse.Post κs (bytes, tt) r (bytes, tt) → SameOrFive bytes.now Err r (four_heads bytes.now 0)
head_as_rust κs bytes r p = parse_four κs bytes r p

pub next_frame_as_rust : (κs : Lfts 2) (reader : DssReader) (s : Bor (List ℕ)) (room : MutBor (List ℕ)) (r : Result DssFrame Refused × DssReader) (after : List ℕ)
    → next_frame.Post κs (reader, (s, (room, tt))) r (reader, (s, (at_last room after, tt)))
    → AnsweredAs s.now reader.position room.now (read_by four_heads s.now reader.position) r after
    ⊎ FiveRefused s.now refused (read_by four_heads s.now reader.position)
next_frame_as_rust κs reader s room r after p = next_frame_four s.now reader.position room.now r after p

pub exported_next_frame_as_rust : (κs : Lfts 3) (s : Bor (List ℕ)) (at : ℕ) (room words : MutBor (List ℕ)) (number : ℕ) (after answer : List ℕ)
    → lattrugone_next_frame.Post κs (s, (at, (room, (words, tt)))) number (s, (at, (at_last room after, (at_last words answer, tt))))
    → AnsweredInWordsAs s.now at room.now words.now (read_by four_heads s.now at) number after answer
    ⊎ FiveRefused s.now refused (read_by four_heads s.now at)
exported_next_frame_as_rust κs s at room words number after answer p = words_four s.now at room.now words.now number after answer p

pub exported_all_frames_as_rust : (κs : Lfts 4) (s : Bor (List ℕ)) (at : ℕ) (room row words : MutBor (List ℕ)) (number : ℕ) (room_after row_after answer : List ℕ)
    → lattrugone_read_all_frames.Post κs (s, (at, (room, (row, (words, tt))))) number (s, (at, (at_last room room_after, (at_last row row_after, (at_last words answer, tt)))))
    → AllAnsweredInWordsAs s.now at room.now row.now words.now (all_by four_heads s.now at) number room_after row_after answer
    ⊎ FiveRefused s.now refused_all (all_by four_heads s.now at)
exported_all_frames_as_rust κs s at room row words number room_after row_after answer p =
    all_words_four s.now at room.now row.now words.now number room_after row_after answer p

-- ---- When a frame may be taken while bytes still come in: once a whole frame stands behind it, by `has_complete_frame`. Then no bytes
-- that follow change it; and waiting for that loses nothing that was read.

pub taken_stay : TakenStay (read_at Reader) (λ s p. is_end (frame_end s p))
taken_stay = reader_taken_stay

pub waiting_loses_nothing : WaitingLosesNothing (read_at Reader)
waiting_loses_nothing = reader_loses_nothing

-- so of the calls: the first, made again over a run with more bytes and a room with the same ones, has the same answer and room
pub taken_again : (κs κs' : Lfts 2) (κs'' : Lfts 1) (reader next : DssReader) (s longer : Bor (List ℕ)) (room again : MutBor (List ℕ)) (more : List ℕ) (d : DssFrame) (r : Result DssFrame Refused × DssReader) (after after' : List ℕ)
    → longer.now ≡ s.now ++ more → again.now ≡ room.now
    → next_frame.Post κs (reader, (s, (room, tt))) (Ok d, next) (reader, (s, (at_last room after, tt)))
    → has_complete_frame.Post κs'' (next, (s, tt)) true (next, (s, tt))
    → next_frame.Post κs' (reader, (longer, (again, tt))) r (reader, (longer, (at_last again after', tt)))
    → (r ≡ (Ok d, next)) × (after' ≡ after)
taken_again κs κs' κs'' reader next s longer room again more d r after after' e k a c b =
    calls_same κs κs' κs'' reader next s longer room again more d r after after' e k a c b

-- and of the exported functions, lent eight words: `has_frame` is asked at the position that the first answer says
pub exported_taken_again : (κs κs' : Lfts 3) (κs'' : Lfts 1) (at : ℕ) (s longer : Bor (List ℕ)) (room again words words' : MutBor (List ℕ)) (more after answer : List ℕ) (number : ℕ) (after' answer' : List ℕ)
    → longer.now ≡ s.now ++ more → again.now ≡ room.now → answer_len ≤ length words.now → answer_len ≤ length words'.now
    → lattrugone_next_frame.Post κs (s, (at, (room, (words, tt)))) 0 (s, (at, (at_last room after, (at_last words answer, tt))))
    → lattrugone_has_frame.Post κs'' (s, (get_or (take answer_len answer) 1 0, tt)) 1 (s, (get_or (take answer_len answer) 1 0, tt))
    → lattrugone_next_frame.Post κs' (longer, (at, (again, (words', tt)))) number (longer, (at, (at_last again after', (at_last words' answer', tt))))
    → (number ≡ 0) × (take answer_len answer' ≡ take 8 answer) × (after' ≡ after)
exported_taken_again κs κs' κs'' at s longer room again words words' more after answer number after' answer' e k h h' a c b =
    words_same (λ l p. is_end (frame_end l p)) reader_taken_stay s.now more at room.now words.now words'.now h h' after answer number after' answer' a (has_whole s.now (get_or (take answer_len answer) 1 0) c)
    (subst (λ (l : List ℕ). ReadsFrame l at room.now words'.now number after' answer') e
    (subst (λ (l : List ℕ). ReadsFrame longer.now at l words'.now number after' answer') k b))

-- A frame behind it that is never whole settles it too: then `frame_end` answers 16, and not 0.
pub decided_stay : TakenStay (read_at Reader) (λ s p. decided (frame_end s p))
decided_stay = reader_decided_stay

-- so of the exported functions, where `frame_end` is asked at that position, whatever words it is lent
pub exported_taken_by_end : (κs κs' : Lfts 3) (κs'' : Lfts 2) (at : ℕ) (s longer : Bor (List ℕ)) (room again words words' end-words : MutBor (List ℕ)) (more after answer end-answer : List ℕ) (end number : ℕ) (after' answer' : List ℕ)
    → longer.now ≡ s.now ++ more → again.now ≡ room.now → answer_len ≤ length words.now → answer_len ≤ length words'.now
    → lattrugone_next_frame.Post κs (s, (at, (room, (words, tt)))) 0 (s, (at, (at_last room after, (at_last words answer, tt))))
    → lattrugone_frame_end.Post κs'' (s, (get_or (take answer_len answer) 1 0, (end-words, tt))) end (s, (get_or (take answer_len answer) 1 0, (at_last end-words end-answer, tt)))
    → (end ≡ 0) ⊎ (end ≡ 16)
    → lattrugone_next_frame.Post κs' (longer, (at, (again, (words', tt)))) number (longer, (at, (at_last again after', (at_last words' answer', tt))))
    → (number ≡ 0) × (take answer_len answer' ≡ take 8 answer) × (after' ≡ after)
exported_taken_by_end κs κs' κs'' at s longer room again words words' end-words more after answer end-answer end number after' answer' e k h h' a c d b =
    words_same (λ l p. decided (frame_end l p)) reader_decided_stay s.now more at room.now words.now words'.now h h' after answer number after' answer' a
    (end_decided s.now (get_or (take answer_len answer) 1 0) end-words.now end end-answer c d)
    (subst (λ (l : List ℕ). ReadsFrame l at room.now words'.now number after' answer') e
    (subst (λ (l : List ℕ). ReadsFrame longer.now at l words'.now number after' answer') k b))

-- ---- W-203, "Stop waiting for what can't come": 16 is exactly what no further bytes can mend.

pub waiting_stops : StopsWaiting Reader (read_at Reader) (λ s p. position_after p (read_at Reader s p))
waiting_stops = stops_waiting Reader

-- so of the calls: after 16 the reader stands where it stood, and the call made again over a run with more bytes, into any room, is
-- refused alike and leaves that room as it is
pub dead_again : (κs κs' : Lfts 2) (reader left : DssReader) (s longer : Bor (List ℕ)) (room again : MutBor (List ℕ)) (more : List ℕ) (why : Refused) (r : Result DssFrame Refused × DssReader) (after after' : List ℕ)
    → longer.now ≡ s.now ++ more → number_of why.why ≡ 16
    → next_frame.Post κs (reader, (s, (room, tt))) (Err why, left) (reader, (s, (at_last room after, tt)))
    → next_frame.Post κs' (reader, (longer, (again, tt))) r (reader, (longer, (at_last again after', tt)))
    → (left ≡ stands_at reader.position) × (r ≡ (Err why, left)) × (after' ≡ again.now)
dead_again κs κs' reader left s longer room again more why r after after' e k a b = calls_dead κs κs' reader left s longer room again more why r after after' e k a b

-- and of the exported function, lent eight words
pub exported_dead_again : (κs κs' : Lfts 3) (at : ℕ) (s longer : Bor (List ℕ)) (room again words words' : MutBor (List ℕ)) (more after answer : List ℕ) (number : ℕ) (after' answer' : List ℕ)
    → longer.now ≡ s.now ++ more → answer_len ≤ length words.now → answer_len ≤ length words'.now
    → lattrugone_next_frame.Post κs (s, (at, (room, (words, tt)))) 16 (s, (at, (at_last room after, (at_last words answer, tt))))
    → lattrugone_next_frame.Post κs' (longer, (at, (again, (words', tt)))) number (longer, (at, (at_last again after', (at_last words' answer', tt))))
    → (number ≡ 16) × (take answer_len answer' ≡ take 8 answer) × (after' ≡ again.now)
exported_dead_again κs κs' at s longer room again words words' more after answer number after' answer' e h h' a b =
    words_dead s.now more at room.now again.now words.now words'.now h h' after answer number after' answer' a
    (subst (λ (l : List ℕ). ReadsFrame l at again.now words'.now number after' answer') e b)

-- ---- Demand 3: "Take any run of written frames, none of those sizes, each able to stand by itself as the specification says. In any of
-- them spoil the magic byte or the type so that the head is refused; change its flags, correlation and payload bytes too, but no length
-- field. Given room, the salvage reading hands out every other frame, in order and exactly as written, and one refusal at the first byte
-- of each spoilt frame, and nothing else."
-- W-205: "From then on demand 3 has no forbidden sizes, and is to be proved so." None is left out here.
-- W-210: "demand 3's spoilt type is outside 1 to 5". A head is refused exactly where that or its magic byte is spoilt.

pub spoilt_told : RefusesSpoilt head_at
spoilt_told = refuses_spoilt

pub salvaged_back : {M : Type 1} {𝓤 : Ura M} (𝓛 : Logic 𝓤) (mem : Memory → SProp 𝓤) (routines : Routine → Fun 𝓤) (κs : Lfts 3) (s : Bor (List ℕ)) (room : MutBor (List ℕ)) (row : MutBor (List SalvageEntry)) (r : Result Salvaging Refused) (room_after : List ℕ) (row_after : List SalvageEntry)
    → (items : List (Item written)) → s.now ≡ run items → length (all_bytes items) ≤ length room.now → length items ≤ length row.now
    → ent 𝓤 ((salvage.clauses 𝓛 mem routines κs (s, (room, (row, tt)))).ensures tt r (s, (at_last room room_after, (at_last row row_after, tt))))
    (fact 𝓤 (Recovered items room.now row.now r room_after row_after))
salvaged_back 𝓛 mem routines κs s room row r room_after row_after items e h k =
    salvage_recovers 𝓛 mem routines κs s room row room_after row_after items e h k r

pub exported_salvaged_back : (κs : Lfts 4) (s : Bor (List ℕ)) (room row words : MutBor (List ℕ)) (number : ℕ) (room_after row_after answer : List ℕ)
    → (items : List (Item written)) → s.now ≡ run items → length (all_bytes items) ≤ length room.now → length items * record_len ≤ length row.now → answer_len ≤ length words.now
    → lattrugone_salvage.Post κs (s, (room, (row, (words, tt)))) number (s, (at_last room room_after, (at_last row row_after, (at_last words answer, tt))))
    → RecoveredInWords items room.now row.now number room_after row_after answer
exported_salvaged_back κs s room row words number room_after row_after answer items e h k l p =
    recovers_words items room.now row.now words.now h k l number room_after row_after answer
    (subst (λ (b : List ℕ). SalvagesInWords b room.now row.now words.now number room_after row_after answer) e p)

-- what it rests on: under salvage's rules a written frame of any size comes back
pub every_size_back : ReadsEverySize written (read_at Salvage)
every_size_back = reads_every_size

-- ---- W-205, what stays as it was: a run that the reader reads without refusal, and in which no continuation that is walked has length
-- 0x7FFF, the unfinished last frame's too, is salvaged as it is read.

pub salvaged_as_read : SalvagesAsRead (λ s p. all_frames s p) salvaged
salvaged_as_read = salvages_as_read

-- so of the exported functions, lent eight words each, and rooms and rows with the same contents: the row of the one is the row of the
-- other, and so is the room
pub exported_salvaged_as_read : (κs κs' : Lfts 4) (s : Bor (List ℕ)) (room row words room' row' words' : MutBor (List ℕ)) (number number' : ℕ) (room_after row_after answer room-after' row-after' answer' : List ℕ)
    → (fs : List Frame) (q : ℕ) → all_frames s.now 0 ≡ frames fs q → NoneFull s.now 0 fs
    → room'.now ≡ room.now → row'.now ≡ row.now → answer_len ≤ length words.now → answer_len ≤ length words'.now
    → lattrugone_read_all_frames.Post κs (s, (0, (room, (row, (words, tt))))) number (s, (0, (at_last room room_after, (at_last row row_after, (at_last words answer, tt)))))
    → lattrugone_salvage.Post κs' (s, (room', (row', (words', tt)))) number' (s, (at_last room' room-after', (at_last row' row-after', (at_last words' answer', tt))))
    → SameInWords (length fs) (length (payloads_of s.now fs)) q number answer room_after row_after number' answer' room-after' row-after'
exported_salvaged_as_read κs κs' s room row words room' row' words' number number' room_after row_after answer room-after' row-after' answer' fs q e n j k h h' a b =
    as_read_words s.now fs q room.now row.now words.now words'.now h h' e n number number' room_after row_after answer room-after' row-after' answer' a
    (subst (λ (l : List ℕ). SalvagesInWords s.now l row.now words'.now number' room-after' row-after' answer') j
    (subst (λ (l : List ℕ). SalvagesInWords s.now room'.now l words'.now number' room-after' row-after' answer') k b))

-- where salvage's walk ended because a frame isn't whole, `frame_end` at the tail says whether more bytes can mend it
pub tail_told : TellsWhy (λ s p. frame_end s p)
tail_told = tells_why
