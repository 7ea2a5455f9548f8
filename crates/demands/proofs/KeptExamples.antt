-- Examples that meet what the lines of Kept ask, by computation: what each contract allows in them, byte by byte and word by word.
use Rattle.std.specs.Prelude.{Result, Ok, Err}
use Prim.Native.Nat.{ℕ, ◌+◌, ◌≤◌}
use native.Mathlib.Omega.{arith}
use mathlib.Core.Path.{◌≡◌, refl, sym, ap, ap₂, subst, ◌∙◌}
use mathlib.Core.Bool.{true, false}
use mathlib.Core.List.{List, [], ◌∷◌, ◌++◌}
use lib.ListN.{length, take, replicate, length-replicate}
use contract.Lifetimes.{Lfts}
use denote.Ref.{Bor, MutBor}
use Rattle.wire.specs.Bytes.{part, splice, laid, joined}
use Rattle.wire.proofs.OctetLaws.{octets_tested}
use Rattle.answer.specs.Rooms.{no_room}
use Rattle.answer.specs.declared.Refusal.TheVariants.{InvalidMagic}
use Rattle.dss_head.specs.Heads.{type_byte}
use Rattle.dss_head.specs.declared.DssType.{DssType}
use Rattle.dss_head.specs.declared.DssType.TheVariants.{Request, Reply, NoReply}
use Rattle.dss_frame.specs.Segments.{payload_of, end_of, frame_walk, continuations, walk_fuel}
use Rattle.dss_frame.specs.Reading.{Read, refused, read_at, absorb, absorb_fuel, look}
use Rattle.dss_frame.specs.FrameRecords.{payloads_of, frame_records}
use Rattle.dss_frame.specs.Frames.{frames_fuel, all_frames}
use Rattle.dss_frame.specs.Salvage.{salvaged, salvage_fuel}
use Rattle.dss_frame.specs.Written.{Sent, written, chunks, chunks_fuel}
use Rattle.dss_frame.specs.declared.DssFrame.{DssFrame}
use Rattle.dss_frame.specs.declared.Rules.TheVariants.{Reader}
use Rattle.dss_take.specs.Take.{room_read}
use Rattle.dss_writer.specs.Writer.{fresh_writer, sent, wrote}
use Rattle.dss_writer.specs.declared.DssWriter.{DssWriter}
use Rattle.dss_reader.specs.Reader.{stands_at, given_frame, frame_end, ReadAllFrames}
use Rattle.dss_salvage.specs.SalvageEntries.{salvaged_bytes, salvaged_row}
use Rattle.gateway_words.specs.AnswerWords.{Answered}
use Rattle.gateway_writer.specs.WriterWords.{wrote_words}
use Rattle.gateway_reader.specs.ReaderWords.{frame_words}
use Rattle.gateway_frames.proofs.lattrugone_read_all_frames.Reads as lattrugone_read_all_frames
use Rattle.gateway_salvage.specs.SalvageWords.{SalvagesInWords}
use Rattle.gateway_salvage.proofs.lattrugone_salvage.Reads as lattrugone_salvage
use Rattle.layouts.specs.DssLayout.{Dss, FullLast}
use Rattle.demands.specs.Demands.{Sendable, Unreadable, run}
use Rattle.demands.specs.DssLayouts.{structure_of}
use Rattle.demands.proofs.Table.{p2, p8}
use Rattle.demands.specs.KeptLists.{payloads}
use Rattle.demands.specs.KeptMeaning.{not_yet, ReadAgain, NotReadAgain, ReadAgainInWords, NotReadAgainInWords, AllBackInWords, RecoveredInWords, RefusedInWords, StructureBack, StructureBackInWords, LaidInWords, RefusedAs}
use Rattle.demands.proofs.ReaderKeeps.{frames_back}
use Rattle.demands.proofs.AllFramesExample.{reply, object, pair, pair_alone}
use Rattle.demands.proofs.ReadBack as ReadBack
use Rattle.demands.proofs.SeveralRun.{alike}
use Rattle.demands.proofs.ExampleRun.{three, three_run, three_sizes}
use Rattle.demands.proofs.WrittenLayout.{allowed_sent}
use Rattle.demands.proofs.LayoutExamples as layouts
use Rattle.demands.specs.KeptCalls.{Calls, ExportedCalls}
use Rattle.demands.proofs.Kept.{write_refused, read_refused, read_back, not_whole_lem, exported_read_back, exported_not_whole, exported_all_read_back, exported_salvaged_back, exported_write_refused, exported_read_refused, exported_all_read_refused, exported_salvage_refused, laid_out, laid_read, laid_not_whole, exported_laid_out, exported_laid_read, exported_laid_not_whole, taken_again, exported_taken_again}
use Rattle.dss_reader.specs.declared.DssReader.{DssReader}
use Rattle.dss_reader.specs.declared.FramesRead.{FramesRead}
use Rattle.answer.specs.declared.Refused.{Refused}
use Rattle.dss_reader.specs.Reader.{frames_read}

-- bytes that are lent
abbrev pub lending : List ℕ → Bor (List ℕ)
lending l = record { ref_ptr = (0, 0); now = l }

-- bytes or words that are lent to be written
abbrev pub lending_room : List ℕ → MutBor (List ℕ)
lending_room l = record { ref_ptr = (0, 0); ghost_name = 0; now = l }

-- ---- one frame, from the fill mark 2 on

abbrev at_two : DssWriter
at_two = record { correlation_id = 7; fill = 2 }

-- a chained frame with same correlation, of one byte, by its type: a request, or one that wants no reply; and the room that it was laid
-- into
abbrev small : DssType → Sent
small t = sent 7 t true true (0xAA ∷ [])

abbrev filled : DssType → List ℕ
filled t = 9 ∷ 9 ∷ 0 ∷ 7 ∷ 0xD0 ∷ (type_byte t + 0x50) ∷ 0 ∷ 7 ∷ 0xAA ∷ 9 ∷ 9 ∷ []

small_sendable : (t : DssType) → Sendable (small t)
small_sendable t = record { correlation = omega arith; payload = octets_tested (0xAA ∷ []) refl }

abbrev handed : DssFrame
handed = record {
  header = record { length = 7; dss_type = Request; flags = record { chained = true; continue_on_error = false; same_correlation = true }; correlation_id = 7 };
  payload_at = 0;
  payload_len = 1;
  segments = 1;
  at = 2;
  end = 9;
}

small_calls : (κs κs' : Lfts 2)
    → Calls κs κs' at_two Request true true (lending (0xAA ∷ [])) (lending_room (replicate 11 9)) (Ok (record { correlation_id = 7; fill = 9 })) (filled Request)
    (lending (take 9 (filled Request))) (lending_room (8 ∷ 8 ∷ [])) (Ok handed, stands_at 9) (0xAA ∷ 8 ∷ [])
unfolding written chunks chunks_fuel splice laid read_at absorb absorb_fuel look payload_of end_of frame_walk continuations walk_fuel
small_calls κs κs' =
    record {
      sendable = small_sendable Request;
      fits = omega arith;
      writes = record { answers = refl; room_is = refl };
      lent_is = refl;
      reads = record { answers = refl; room_is = refl };
    }

-- so it comes back
pub small_back : (κs κs' : Lfts 2) → ReadAgain at_two (small Request) (Ok (record { correlation_id = 7; fill = 9 })) (8 ∷ 8 ∷ []) (Ok handed, stands_at 9) (0xAA ∷ 8 ∷ [])
small_back κs κs' =
    read_back κs κs' at_two Request true true (lending (0xAA ∷ [])) (lending_room (replicate 11 9)) (Ok (record { correlation_id = 7; fill = 9 })) (filled Request)
    (lending (take 9 (filled Request))) (lending_room (8 ∷ 8 ∷ [])) (Ok handed, stands_at 9) (0xAA ∷ 8 ∷ []) (small_calls κs κs') (λ u. omega (arith, u.size)) (omega arith)

-- the exported functions: type 5, flags 50; correlation and fill mark; then position, length, format byte, correlation, payload's length,
-- segments and its first byte
small_exported : (κs κs' : Lfts 3)
    → ExportedCalls κs κs' 7 2 5 0x50 NoReply (lending (0xAA ∷ [])) (lending_room (replicate 11 9)) (lending_room (replicate 8 9)) 0 (filled NoReply) (0 ∷ 0 ∷ 7 ∷ 9 ∷ 0 ∷ 0 ∷ 0 ∷ 0 ∷ [])
    (lending (take 9 (filled NoReply))) (lending_room (8 ∷ 8 ∷ [])) (lending_room (replicate 9 9)) 0 (0xAA ∷ 8 ∷ []) (0 ∷ 9 ∷ 7 ∷ 0x55 ∷ 7 ∷ 1 ∷ 1 ∷ 2 ∷ 9 ∷ [])
unfolding written chunks chunks_fuel splice laid read_at absorb absorb_fuel look payload_of end_of frame_walk continuations walk_fuel
small_exported κs κs' =
    record {
      typed = refl;
      sendable = small_sendable NoReply;
      fits = omega arith;
      eight = omega arith;
      eight' = omega arith;
      writes = record { answers = record { number_is = refl; words_are = refl }; room_is = refl };
      lent_is = refl;
      reads = record { answers = record { number_is = refl; words_are = refl }; room_is = refl };
    }

pub small_in_words : (κs κs' : Lfts 3) → ReadAgainInWords (small NoReply) 2 0 (0 ∷ 0 ∷ 7 ∷ 9 ∷ 0 ∷ 0 ∷ 0 ∷ 0 ∷ []) (8 ∷ 8 ∷ []) 0 (0 ∷ 9 ∷ 7 ∷ 0x55 ∷ 7 ∷ 1 ∷ 1 ∷ 2 ∷ 9 ∷ []) (0xAA ∷ 8 ∷ [])
small_in_words κs κs' =
    exported_read_back κs κs' 7 2 5 0x50 NoReply (lending (0xAA ∷ [])) (lending_room (replicate 11 9)) (lending_room (replicate 8 9)) 0 (filled NoReply) (0 ∷ 0 ∷ 7 ∷ 9 ∷ 0 ∷ 0 ∷ 0 ∷ 0 ∷ [])
    (lending (take 9 (filled NoReply))) (lending_room (8 ∷ 8 ∷ [])) (lending_room (replicate 9 9)) 0 (0xAA ∷ 8 ∷ []) (0 ∷ 9 ∷ 7 ∷ 0x55 ∷ 7 ∷ 1 ∷ 1 ∷ 2 ∷ 9 ∷ []) (small_exported κs κs')
    (λ u. omega (arith, u.size)) (omega arith)

-- ---- a frame of 65,526 bytes, which is 32,761 plus 32,765

abbrev big : List ℕ
big = replicate 65526 0xC1

-- the room that it fills
abbrev zeros : List ℕ
zeros = replicate 65534 0

abbrev full : Sent
full = sent 7 Request false false big

full_sendable : Sendable full
full_sendable = record { correlation = omega arith; payload = alike 65526 }

full_unreadable : Unreadable full
full_unreadable = record { times = 0; size = refl }

full_size : length (written full) ≡ 65534
unfolding written chunks chunks_fuel
full_size = refl

full_laid : laid zeros 0 (written full) ≡ written full
unfolding written chunks chunks_fuel splice laid
full_laid = refl

full_lent : written full ≡ take (0 + length (written full)) (written full)
unfolding written chunks chunks_fuel
full_lent = refl

full_read : read_at Reader (written full) 0 ≡ refused (not_yet 0)
full_read = ReadBack.not_whole_lem full full_sendable full_unreadable

full_wrote : wrote (fresh_writer 7) (length zeros) (length (written full)) ≡ Ok (record { correlation_id = 7; fill = 65534 })
unfolding written chunks chunks_fuel
full_wrote = refl

full_calls : (κs κs' : Lfts 2)
    → Calls κs κs' (fresh_writer 7) Request false false (lending big) (lending_room zeros) (Ok (record { correlation_id = 7; fill = 65534 })) (written full)
    (lending (written full)) (lending_room []) (Err (not_yet 0), stands_at 0) []
full_calls κs κs' =
    record {
      sendable = full_sendable;
      fits = omega (arith, full_size, length-replicate {A = ℕ} 65534 0);
      writes = record { answers = sym full_wrote; room_is = sym full_laid };
      lent_is = full_lent;
      reads = record { answers = sym (ap (given_frame (written full) 0 0) full_read); room_is = sym (ap (room_read (written full) []) full_read) };
    }

pub full_not_whole : (κs κs' : Lfts 2) → NotReadAgain (fresh_writer 7) full (Ok (record { correlation_id = 7; fill = 65534 })) [] (Err (not_yet 0), stands_at 0) []
full_not_whole κs κs' =
    not_whole_lem κs κs' (fresh_writer 7) Request false false (lending big) (lending_room zeros) (Ok (record { correlation_id = 7; fill = 65534 })) (written full)
    (lending (written full)) (lending_room []) (Err (not_yet 0), stands_at 0) [] (full_calls κs κs') full_unreadable

-- the exported functions: the writer answers 0, and the reader 1
full_exported : (κs κs' : Lfts 3)
    → ExportedCalls κs κs' 7 0 1 0 Request (lending big) (lending_room zeros) (lending_room (replicate 8 9)) 0 (written full) (0 ∷ 0 ∷ 7 ∷ 65534 ∷ 0 ∷ 0 ∷ 0 ∷ 0 ∷ [])
    (lending (written full)) (lending_room []) (lending_room (replicate 8 9)) 1 [] (1 ∷ replicate 7 0)
unfolding splice laid
full_exported κs κs' =
    record {
      typed = refl;
      sendable = full_sendable;
      fits = omega (arith, full_size, length-replicate {A = ℕ} 65534 0);
      eight = omega arith;
      eight' = omega arith;
      writes = record {
        answers =
            subst (λ (x : Result DssWriter Refused). Answered (wrote_words x) (replicate 8 9) 0 (0 ∷ 0 ∷ 7 ∷ 65534 ∷ 0 ∷ 0 ∷ 0 ∷ 0 ∷ [])) (sym full_wrote)
            (record { number_is = refl; words_are = refl });
        room_is = sym full_laid;
      };
      lent_is = full_lent;
      reads = record {
        answers =
            subst (λ (x : Read). Answered (frame_words (given_frame (written full) 0 0 x)) (replicate 8 9) 1 (1 ∷ replicate 7 0)) (sym full_read)
            (record { number_is = refl; words_are = refl });
        room_is = sym (ap (room_read (written full) []) full_read);
      };
    }

pub full_in_words : (κs κs' : Lfts 3) → NotReadAgainInWords full 0 0 (0 ∷ 0 ∷ 7 ∷ 65534 ∷ 0 ∷ 0 ∷ 0 ∷ 0 ∷ []) [] 1 (1 ∷ replicate 7 0) []
full_in_words κs κs' =
    exported_not_whole κs κs' 7 0 1 0 Request (lending big) (lending_room zeros) (lending_room (replicate 8 9)) 0 (written full) (0 ∷ 0 ∷ 7 ∷ 65534 ∷ 0 ∷ 0 ∷ 0 ∷ 0 ∷ [])
    (lending (written full)) (lending_room []) (lending_room (replicate 8 9)) 1 [] (1 ∷ replicate 7 0) (full_exported κs κs') full_unreadable

-- ---- two frames, read at once, into a room of seven bytes and a row of twenty-one words

abbrev pair_row : List ℕ
pair_row = 0 ∷ 0 ∷ 7 ∷ 0x42 ∷ 1 ∷ 1 ∷ 1 ∷ 0 ∷ 0 ∷ 7 ∷ 0 ∷ 1 ∷ 11 ∷ 0x13 ∷ 1 ∷ 5 ∷ 1 ∷ 0 ∷ 7 ∷ 18 ∷ 9 ∷ []

abbrev pair_room : List ℕ
pair_room = 0xAA ∷ 0 ∷ 5 ∷ 0x24 ∷ 0x1B ∷ 1 ∷ 9 ∷ []

abbrev pair_words : List ℕ
pair_words = 0 ∷ 18 ∷ 2 ∷ 6 ∷ 0 ∷ 0 ∷ 0 ∷ 0 ∷ []

pair_calls : (κs : Lfts 4) → lattrugone_read_all_frames.Post κs (lending (joined written (pair false)), (0, (lending_room (replicate 7 9), (lending_room (replicate 21 9), (lending_room (replicate 8 9), tt)))))
    0 (lending (joined written (pair false)), (0, (lending_room pair_room, (lending_room pair_row, (lending_room pair_words, tt)))))
unfolding pair reply object joined written chunks chunks_fuel splice laid all_frames frames_fuel read_at absorb absorb_fuel look payload_of end_of frame_walk continuations walk_fuel payloads_of frame_records
pair_calls κs = record { answers = record { number_is = refl; words_are = refl }; room_is = refl; row_is = refl }

pair_sizes : (length (payloads (pair false)) ≡ 6) × (length (pair false) ≡ 2)
unfolding pair reply object payloads
pair_sizes = (refl, refl)

pub pair_in_words : (κs : Lfts 4) → AllBackInWords (pair false) (replicate 7 9) (replicate 21 9) 0 pair_room pair_row pair_words
pair_in_words κs =
    exported_all_read_back κs (lending (joined written (pair false))) (lending_room (replicate 7 9)) (lending_room (replicate 21 9)) (lending_room (replicate 8 9)) 0 pair_room pair_row pair_words
    (pair false) (pair_alone false) refl (omega (arith, pair_sizes)) (omega (arith, pair_sizes)) (omega arith) (pair_calls κs)

-- ---- a spoilt frame between two good ones, salvaged

-- the reply; 2 at byte 7, with the byte that stands there; the object, its payload at byte 1 of the room
abbrev three_row : List ℕ
three_row = 0 ∷ 0 ∷ 7 ∷ 0x42 ∷ 1 ∷ 1 ∷ 1 ∷ 0 ∷ 0 ∷ 7 ∷ 2 ∷ 7 ∷ 0x55 ∷ 0 ∷ 0 ∷ 0 ∷ 0 ∷ 0 ∷ 7 ∷ 14 ∷ 0 ∷ 1 ∷ 11 ∷ 0x13 ∷ 1 ∷ 5 ∷ 1 ∷ 0 ∷ 14 ∷ 25 ∷ 9 ∷ []

abbrev three_words : List ℕ
three_words = 0 ∷ 0 ∷ 3 ∷ 6 ∷ 25 ∷ 0 ∷ 0 ∷ 0 ∷ []

three_calls : (κs : Lfts 4) → lattrugone_salvage.Post κs (lending (run three), (lending_room (replicate 7 9), (lending_room (replicate 31 9), (lending_room (replicate 8 9), tt))))
    0 (lending (run three), (lending_room pair_room, (lending_room three_row, (lending_room three_words, tt))))
unfolding splice laid salvaged salvage_fuel read_at absorb absorb_fuel look payload_of end_of frame_walk continuations walk_fuel salvaged_bytes salvaged_row joined
three_calls κs =
    subst (λ (s : List ℕ). SalvagesInWords s (replicate 7 9) (replicate 31 9) (replicate 8 9) 0 pair_room three_row three_words) (sym three_run)
    (record { answers = record { number_is = refl; words_are = refl }; room_is = refl; row_is = refl })

pub three_in_words : (κs : Lfts 4) → RecoveredInWords three (replicate 7 9) (replicate 31 9) 0 pair_room three_row three_words
three_in_words κs =
    exported_salvaged_back κs (lending (run three)) (lending_room (replicate 7 9)) (lending_room (replicate 31 9)) (lending_room (replicate 8 9)) 0 pair_room three_row three_words
    three refl (omega (arith, three_sizes)) (omega (arith, three_sizes)) (omega arith) (three_calls κs)

-- with any room of six bytes and any row of two records, whatever the contract of `read_all_frames` allows on the two frames answers so
pub pair_answered : (room : List ℕ) (row : List DssFrame) → 6 ≤ length room → 2 ≤ length row → (r : Result FramesRead Refused × DssReader) (room_after : List ℕ) (row_after : List DssFrame)
    → ReadAllFrames (joined written (pair false)) 0 room row r room_after row_after → r ≡ (Ok (frames_read 2 6), stands_at (length (joined written (pair false))))
pair_answered room row h k r room_after row_after p =
    (frames_back (pair false) (pair_alone false) room row (omega (arith, pair_sizes)) (omega (arith, pair_sizes)) r room_after row_after p).is
    ∙ ap₂ (λ (n m : ℕ). (Ok (frames_read n m), stands_at (length (joined written (pair false))))) pair_sizes.1 pair_sizes.0

-- ---- the volume's layout

-- what was laid down from the mark 2 to the mark 9
pub small_laid_out : (κs κs' : Lfts 2) → Dss (structure_of (small Request)) (part (filled Request) 2 9)
small_laid_out κs κs' =
    laid_out κs at_two (record { correlation_id = 7; fill = 9 }) Request true true (lending (0xAA ∷ [])) (lending_room (replicate 11 9)) (filled Request)
    (allowed_sent (small Request) (small_sendable Request) (λ e. refl)) (small_calls κs κs').writes

pub small_laid_words : (κs κs' : Lfts 3) → LaidInWords (structure_of (small NoReply)) 2 (0 ∷ 0 ∷ 7 ∷ 9 ∷ 0 ∷ 0 ∷ 0 ∷ 0 ∷ []) (filled NoReply)
small_laid_words κs κs' =
    exported_laid_out κs 7 2 5 0x50 NoReply (lending (0xAA ∷ [])) (lending_room (replicate 11 9)) (lending_room (replicate 8 9)) (filled NoReply) (0 ∷ 0 ∷ 7 ∷ 9 ∷ 0 ∷ 0 ∷ 0 ∷ 0 ∷ [])
    refl (allowed_sent (small NoReply) (small_sendable NoReply) (λ e. refl)) (omega arith) (small_exported κs κs').writes

-- `0007D0711234C1`, a chained request with same correlation and continue on error
abbrev asked_frame : DssFrame
asked_frame = record {
  header = record { length = 7; dss_type = Request; flags = record { chained = true; continue_on_error = true; same_correlation = true }; correlation_id = 0x1234 };
  payload_at = 0;
  payload_len = 1;
  segments = 1;
  at = 0;
  end = 7;
}

pub asked_back : (κs : Lfts 2) → StructureBack (layouts.asking true) layouts.asked (8 ∷ 8 ∷ []) (Ok asked_frame, stands_at 7) (0xC1 ∷ 8 ∷ [])
unfolding FullLast layouts.asked_laid splice laid read_at absorb absorb_fuel look payload_of end_of frame_walk continuations walk_fuel
asked_back κs =
    laid_read κs (lending layouts.asked) (lending_room (8 ∷ 8 ∷ [])) (Ok asked_frame, stands_at 7) (0xC1 ∷ 8 ∷ []) (layouts.asking true) layouts.asked_laid
    (record { answers = refl; room_is = refl }) (λ k. k) (omega arith)

pub asked_in_words : (κs : Lfts 3) → StructureBackInWords (layouts.asking true) layouts.asked (8 ∷ 8 ∷ []) 0 (0 ∷ 7 ∷ 7 ∷ 0x71 ∷ 0x1234 ∷ 1 ∷ 1 ∷ 0 ∷ []) (0xC1 ∷ 8 ∷ [])
unfolding FullLast layouts.asked_laid splice laid read_at absorb absorb_fuel look payload_of end_of frame_walk continuations walk_fuel
asked_in_words κs =
    exported_laid_read κs (lending layouts.asked) (lending_room (8 ∷ 8 ∷ [])) (lending_room (replicate 8 9)) 0 (0xC1 ∷ 8 ∷ []) (0 ∷ 7 ∷ 7 ∷ 0x71 ∷ 0x1234 ∷ 1 ∷ 1 ∷ 0 ∷ [])
    (layouts.asking true) layouts.asked_laid (omega arith) (record { answers = record { number_is = refl; words_are = refl }; room_is = refl }) (λ k. k) (omega arith)

-- two segments, the last of them full: 1
abbrev two_full : List ℕ
two_full = layouts.two_chunks (layouts.filling 32761) (layouts.filling 32765)

two_full_cut : layouts.CutShort (layouts.filling 32761) (layouts.filling 32765)
two_full_cut = layouts.filled 32765 (omega arith)

two_full_last : FullLast two_full_cut.laid
two_full_last = two_full_cut.full (omega (arith, layouts.filling_length 32765))

pub two_full_not_whole : (κs : Lfts 2) → (◌≡◌ {A = Result DssFrame Refused × DssReader} (Err (not_yet 0), stands_at 0) (Err (not_yet 0), stands_at 0)) × (◌≡◌ {A = List ℕ} [] [])
two_full_not_whole κs =
    laid_not_whole κs (lending two_full) (lending_room []) (Err (not_yet 0), stands_at 0) [] _ two_full_cut.laid
    (record { answers = sym (ap (given_frame two_full 0 0) layouts.full_waits); room_is = sym (ap (room_read two_full []) layouts.full_waits) }) two_full_last

pub two_full_in_words : (κs : Lfts 3) → RefusedAs (not_yet 0) [] 1 (1 ∷ replicate 7 0) []
unfolding splice laid
two_full_in_words κs =
    exported_laid_not_whole κs (lending two_full) (lending_room []) (lending_room (replicate 8 9)) 1 [] (1 ∷ replicate 7 0) _ two_full_cut.laid (omega arith)
    (record {
      answers =
          subst (λ (x : Read). Answered (frame_words (given_frame two_full 0 0 x)) (replicate 8 9) 1 (1 ∷ replicate 7 0)) (sym layouts.full_waits)
          (record { number_is = refl; words_are = refl });
      room_is = sym (ap (room_read two_full []) layouts.full_waits);
    })
    two_full_last

-- `0006D0050007`, a request that wants no reply
abbrev no_reply_frame : DssFrame
no_reply_frame = record {
  header = record { length = 6; dss_type = NoReply; flags = record { chained = false; continue_on_error = false; same_correlation = false }; correlation_id = 7 };
  payload_at = 0;
  payload_len = 0;
  segments = 1;
  at = 0;
  end = 6;
}

pub no_reply_back : (κs : Lfts 2) → StructureBack layouts.no_reply layouts.unanswered (9 ∷ []) (Ok no_reply_frame, stands_at 6) (9 ∷ [])
unfolding FullLast layouts.no_reply_laid splice laid read_at absorb absorb_fuel look payload_of end_of frame_walk continuations walk_fuel
no_reply_back κs =
    laid_read κs (lending layouts.unanswered) (lending_room (9 ∷ [])) (Ok no_reply_frame, stands_at 6) (9 ∷ []) layouts.no_reply layouts.no_reply_laid
    (record { answers = refl; room_is = refl }) (λ k. k) (omega arith)

pub no_reply_in_words : (κs : Lfts 3) → StructureBackInWords layouts.no_reply layouts.unanswered (9 ∷ []) 0 (0 ∷ 6 ∷ 6 ∷ 0x05 ∷ 7 ∷ 0 ∷ 1 ∷ 0 ∷ []) (9 ∷ [])
unfolding FullLast layouts.no_reply_laid splice laid read_at absorb absorb_fuel look payload_of end_of frame_walk continuations walk_fuel
no_reply_in_words κs =
    exported_laid_read κs (lending layouts.unanswered) (lending_room (9 ∷ [])) (lending_room (replicate 8 9)) 0 (9 ∷ []) (0 ∷ 6 ∷ 6 ∷ 0x05 ∷ 7 ∷ 0 ∷ 1 ∷ 0 ∷ [])
    layouts.no_reply layouts.no_reply_laid (omega arith) (record { answers = record { number_is = refl; words_are = refl }; room_is = refl }) (λ k. k) (omega arith)

-- ---- a frame that may be taken: the first of two, and more bytes behind them

abbrev pub taken_example : DssFrame
taken_example = record {
  header = record { length = 6; dss_type = Reply; flags = record { chained = false; continue_on_error = false; same_correlation = false }; correlation_id = 7 };
  payload_at = 0;
  payload_len = 0;
  segments = 1;
  at = 0;
  end = 6;
}

pub taken_twice : (κs κs' : Lfts 2) (κs'' : Lfts 1) → (◌≡◌ {A = Result DssFrame Refused × DssReader} (Ok taken_example, stands_at 6) (Ok taken_example, stands_at 6)) × (◌≡◌ {A = List ℕ} (9 ∷ []) (9 ∷ []))
unfolding frame_end splice laid read_at absorb absorb_fuel look payload_of end_of frame_walk continuations walk_fuel
taken_twice κs κs' κs'' =
    taken_again κs κs' κs'' (stands_at 0) (stands_at 6) (lending (p2 ++ p2)) (lending (p2 ++ p2 ++ p8)) (lending_room (9 ∷ [])) (lending_room (9 ∷ [])) p8 taken_example (Ok taken_example, stands_at 6) (9 ∷ []) (9 ∷ [])
    refl refl (record { answers = refl; room_is = refl }) refl (record { answers = refl; room_is = refl })

-- its words say the position 6, where `has_frame` then answers 1
abbrev taken_words : List ℕ
taken_words = 0 ∷ 6 ∷ 6 ∷ 0x02 ∷ 7 ∷ 0 ∷ 1 ∷ 0 ∷ []

pub taken_twice_in_words : (κs κs' : Lfts 3) (κs'' : Lfts 1) → (◌≡◌ {A = ℕ} 0 0) × (take 8 taken_words ≡ take 8 taken_words) × (◌≡◌ {A = List ℕ} (9 ∷ []) (9 ∷ []))
unfolding frame_end splice laid read_at absorb absorb_fuel look payload_of end_of frame_walk continuations walk_fuel
taken_twice_in_words κs κs' κs'' =
    exported_taken_again κs κs' κs'' 0 (lending (p2 ++ p2)) (lending (p2 ++ p2 ++ p8)) (lending_room (9 ∷ [])) (lending_room (9 ∷ [])) (lending_room (replicate 8 9)) (lending_room (replicate 8 9)) p8 (9 ∷ []) taken_words 0
    (9 ∷ []) taken_words refl refl (omega arith) (omega arith) (record { answers = record { number_is = refl; words_are = refl }; room_is = refl }) refl
    (record { answers = record { number_is = refl; words_are = refl }; room_is = refl })

-- ---- refusals

abbrev nines : MutBor (List ℕ)
nines = lending_room (replicate 8 9)

-- a room of six bytes hasn't place for seven: 9 at the fill mark, and seven bytes are needed
pub small_refused : (κs : Lfts 3) → RefusedInWords (replicate 8 9) 9 (9 ∷ 0 ∷ 7 ∷ replicate 5 0) × (◌≡◌ {A = List ℕ} (replicate 6 9) (replicate 6 9))
unfolding written chunks chunks_fuel splice laid
small_refused κs =
    exported_write_refused nines 9 (9 ∷ 0 ∷ 7 ∷ replicate 5 0) (λ e. omega arith) (lending_room (replicate 6 9)) (replicate 6 9) κs 7 0 1 0x50 (lending (0xAA ∷ []))
    (record { answers = record { number_is = refl; words_are = refl }; room_is = refl })

pub small_not_written : (κs : Lfts 2) → ◌≡◌ {A = List ℕ} (replicate 6 9) (replicate 6 9)
unfolding written chunks chunks_fuel splice laid
small_not_written κs =
    write_refused κs (lending_room (replicate 6 9)) (no_room 0 7 0) (replicate 6 9) (fresh_writer 7) Request true true (lending (0xAA ∷ [])) (record { answers = refl; room_is = refl })

-- P8: the first frame is lost to the head behind it, 2 at 6
pub lost_refused : (κs : Lfts 3) → RefusedInWords (replicate 8 9) 2 (2 ∷ 6 ∷ replicate 6 0) × (◌≡◌ {A = List ℕ} (replicate 3 9) (replicate 3 9))
unfolding splice laid read_at absorb absorb_fuel look payload_of end_of frame_walk continuations walk_fuel
lost_refused κs =
    exported_read_refused nines 2 (2 ∷ 6 ∷ replicate 6 0) (λ e. omega arith) (lending_room (replicate 3 9)) (replicate 3 9) κs (lending p8) 0
    (record { answers = record { number_is = refl; words_are = refl }; room_is = refl })

pub lost_not_read : (κs : Lfts 2) → (◌≡◌ {A = List ℕ} (replicate 3 9) (replicate 3 9)) × (stands_at 6 ≡ stands_at 6)
unfolding splice laid read_at absorb absorb_fuel look payload_of end_of frame_walk continuations walk_fuel
lost_not_read κs =
    read_refused κs (lending_room (replicate 3 9)) (record { why = InvalidMagic 0; place = 6 }) (replicate 3 9) (stands_at 0) (stands_at 6) (lending p8) (record { answers = refl; room_is = refl })

pub all_lost_refused : (κs : Lfts 4) → RefusedInWords (replicate 8 9) 2 (2 ∷ 6 ∷ replicate 6 0) × (◌≡◌ {A = List ℕ} (replicate 3 9) (replicate 3 9)) × (◌≡◌ {A = List ℕ} (replicate 16 9) (replicate 16 9))
unfolding splice laid all_frames frames_fuel read_at absorb absorb_fuel look payload_of end_of frame_walk continuations walk_fuel
all_lost_refused κs =
    exported_all_read_refused nines 2 (2 ∷ 6 ∷ replicate 6 0) (λ e. omega arith) (lending_room (replicate 3 9)) (replicate 3 9) κs (lending p8) (lending_room (replicate 16 9)) (replicate 16 9) 0
    (record { answers = record { number_is = refl; words_are = refl }; room_is = refl; row_is = refl })

-- salvage has two entries for it, and a row of nineteen words has place for one: 9, and two records are needed
pub short_refused : (κs : Lfts 4) → RefusedInWords (replicate 8 9) 9 (9 ∷ 0 ∷ 0 ∷ 2 ∷ replicate 4 0) × (◌≡◌ {A = List ℕ} (replicate 3 9) (replicate 3 9)) × (◌≡◌ {A = List ℕ} (replicate 19 9) (replicate 19 9))
unfolding splice laid salvaged salvage_fuel read_at absorb absorb_fuel look payload_of end_of frame_walk continuations walk_fuel salvaged_bytes salvaged_row joined
short_refused κs =
    exported_salvage_refused nines 9 (9 ∷ 0 ∷ 0 ∷ 2 ∷ replicate 4 0) (λ e. omega arith) (lending_room (replicate 3 9)) (replicate 3 9) κs (lending p8) (lending_room (replicate 19 9)) (replicate 19 9)
    (record { answers = record { number_is = refl; words_are = refl }; room_is = refl; row_is = refl })
