-- Demand 2's clause on layouts for a caller in C or Rust: over the records that the exported functions' contracts cite.
use Rattle.std.specs.Prelude.{Result, Ok, Err}
use Prim.Native.Nat.{ℕ, ◌+◌, ◌%◌, ◌≤◌}
use native.Mathlib.Omega.{arith}
use mathlib.Core.Path.{◌≡◌, refl, sym, ap, subst, ◌∙◌}
use mathlib.Core.List.{List}
use lib.ListN.{length}
use Rattle.answer.specs.Rooms.{room_for}
use Rattle.answer.specs.declared.Refused.{Refused}
use Rattle.dss_head.specs.Heads.{flags_byte}
use Rattle.dss_head.specs.declared.DssType.{DssType}
use Rattle.dss_frame.specs.declared.Rules.TheVariants.{Reader}
use Rattle.dss_frame.specs.Reading.{Frame, read_at}
use Rattle.dss_frame.specs.FrameRecords.{frame_record}
use Rattle.dss_frame.specs.Written.{Sent, written}
use Rattle.dss_writer.specs.Writer.{wrote_by, wrote}
use Rattle.dss_writer.specs.declared.DssWriter.{DssWriter}
use Rattle.dss_reader.specs.Reader.{stands_at, given_frame, NextFrame}
use Rattle.gateway_words.specs.AnswerWords.{done_words, Answered}
use Rattle.gateway_row.specs.RowWords.{format_byte, frame_at}
use Rattle.gateway_row.proofs.RecordBack.{format_says, numbered}
use Rattle.gateway_writer.specs.WriterWords.{writer_of, wrote_words, wrote_typed, room_typed, Sends}
use Rattle.gateway_reader.specs.ReaderWords.{frame_words, ReadsFrame}
use Rattle.layouts.specs.DssLayout.{Structure, Allowed, Dss, FullLast, format}
use Rattle.demands.specs.DssLayouts.{structure_of, SaysStructure}
use Rattle.demands.proofs.FaithfulLayout.{format_told, allowed_in}
use Rattle.demands.proofs.WrittenLayout.{flags_in}
use Rattle.demands.proofs.LayoutCalls.{done_refused, same_done, between_laid, layout_back, layout_not_whole}
use Rattle.demands.specs.KeptMeaning.{StructureInWords, StructureBackInWords, LaidInWords, not_yet, RefusedAs}
use Rattle.demands.proofs.KeptFrame.{answer_says}
use Rattle.dss_frame.specs.declared.DssFrame.{DssFrame}
use Rattle.dss_reader.specs.declared.DssReader.{DssReader}

-- ---- what was laid down

-- a writer keeps its correlation
done_correlation : (w d : DssWriter) (n : ℕ) (x : Result (Unit {0}) Refused) → wrote_by w n x ≡ Ok d → d.correlation_id ≡ w.correlation_id
done_correlation w d n (Ok tt) e = ap (λ (c : DssWriter). c.correlation_id) (sym (same_done _ d e))
done_correlation w d n (Err r) e = absurd (done_refused d r e)

module _ (found : Result DssType Refused) (t : DssType) (ft : found ≡ Ok t) (correlation fill : ℕ) (sends : DssType → Sent) (own : (sends t).correlation ≡ correlation)
    (room words laid-down answer : List ℕ) (k : 8 ≤ length words) (p : Sends found (writer_of correlation fill) sends room words 0 laid-down answer) where
  abbrev f : Sent
  f = sends t

  abbrev w : DssWriter
  w = writer_of correlation fill

  -- of the type that was found
  answers_as : (x : Result DssWriter Refused) → wrote w (length room) (length (written f)) ≡ x → Answered (wrote_words x) words 0 answer
  answers_as x e =
      subst (λ (y : Result DssWriter Refused). Answered (wrote_words y) words 0 answer) (ap (λ (y : Result DssType Refused). wrote_typed y w sends (length room)) ft ∙ e) p.answers

  pub laid_in_words : Allowed (structure_of f) → LaidInWords (structure_of f) fill answer laid-down
  laid_in_words a = go (wrote w (length room) (length (written f))) refl
    where
      go : (x : Result DssWriter Refused) → wrote w (length room) (length (written f)) ≡ x → LaidInWords (structure_of f) fill answer laid-down
      go (Ok d) e =
          record {
            mark = d.fill;
            words_say =
                answer_says refl k (answers_as (Ok d) e)
                ∙ ap (λ (c : ℕ). done_words c d.fill 0 0) (done_correlation w d (length (written f)) (room_for fill (length room) (length (written f))) e ∙ sym own);
            laid =
                between_laid w d f a room laid-down
                (record { answers = sym e; room_is = p.room_is ∙ ap (λ (x : Result DssType Refused). room_typed x w sends room) ft });
          }
      go (Err r) e = absurd (omega (arith, numbered r.why, (answers_as (Err r) e).number_is))

-- ---- what is read

-- a frame's words say the structure that it does
structure_words : (w : Structure) (b : List ℕ) (g : Frame) (position : ℕ) → w.type ≤ 5 → SaysStructure w b g → StructureInWords w position (frame_at position 0 (frame_record b 0 0 g))
structure_words w b g position h s =
    let flags : g.head.flags ≡ flags_in w = λ i. record { chained = s.chained i; continue_on_error = s.on_error_is i; same_correlation = s.same i } in
    let byte : format_byte g.head ≡ w.type + flags_byte (flags_in w) = λ i. s.type i + flags_byte (flags i) in
    let z : format_byte g.head ≡ format w = byte ∙ omega arith in
    record {
      number = refl;
      position_is = refl;
      type = ap (λ (n : ℕ). n % 16) z ∙ (format_told w h).type;
      flags = (format_says g.head).1 ∙ flags;
      correlation = s.correlation;
      payload_len = ap length s.payload;
    }

module _ (w : Structure) (b : List ℕ) (l : Dss w b) (room words : List ℕ) (k : 8 ≤ length words) (number : ℕ) (after answer : List ℕ) (p : ReadsFrame b 0 room words number after answer) where
  -- what the call in Rattle answers
  abbrev r : Result DssFrame Refused × DssReader
  r = given_frame b 0 (length room) (read_at Reader b 0)

  as_call : NextFrame b 0 room r after
  as_call = record { answers = refl; room_is = p.room_is }

  answers : (x : Result DssFrame Refused × DssReader) → r ≡ x → Answered (frame_words x) words number answer
  answers x e = subst (λ (y : Result DssFrame Refused × DssReader). Answered (frame_words y) words number answer) e p.answers

  pub structure_back : (FullLast l → ⊥) → length w.payload ≤ length room → StructureBackInWords w b room number answer after
  structure_back n h =
      let x = layout_back w b l room r after as_call n h in
      let a = answers (Ok (frame_record b 0 0 x.read), stands_at (length b)) x.is in
      record {
        number_is = a.number_is;
        says = subst (StructureInWords w (length b)) (sym (answer_says refl k a)) (structure_words w b x.read (length b) (allowed_in l).type.1 x.says);
        room_is = x.room_is;
      }

  refused_as : (why : Refused) → (r ≡ (Err why, stands_at 0)) × (after ≡ room) → RefusedAs why room number answer after
  refused_as why x =
      let a = answers (Err why, stands_at 0) x.0 in record { number_is = a.number_is; words_say = answer_says refl k a; room_is = x.1 }

  pub full_last : FullLast l → RefusedAs (not_yet 0) room number answer after
  full_last n = refused_as (not_yet 0) (layout_not_whole w b l room r after as_call n)
