-- A frame that was laid into a room from a fill mark on, and read from there again: over the records that the contracts cite.
use Rattle.std.specs.Prelude.{Result, Ok}
use Prim.Native.Nat.{ℕ, ◌+◌, ◌-◌, ◌≤◌}
use native.Mathlib.Omega.{arith}
use mathlib.Core.Path.{◌≡◌, refl, sym, ap, subst, ◌∙◌}
use mathlib.Core.List.{List, [], ◌++◌, append-nil}
use lib.ListN.{length, take, drop}
use lib.Seq.{length-take-le, take_at, drop_at}
use borrow.Author.Tests.{le-leb}
use Rattle.wire.specs.Bytes.{splice, laid}
use Rattle.wire.proofs.WireLaws.{pick_yes}
use Rattle.wire.proofs.Places.{here_length}
use Rattle.wire.proofs.Splicing.{splice_tail, splice_written, laid_fits}
use Rattle.answer.specs.Rooms.{room_for}
use Rattle.dss_head.specs.declared.DssType.{DssType}
use Rattle.dss_frame.specs.declared.Rules.TheVariants.{Reader}
use Rattle.dss_frame.specs.declared.DssFrame.{DssFrame}
use Rattle.dss_frame.specs.Segments.{payload_of}
use Rattle.dss_frame.specs.Reading.{Frame, Read, frame, refused, read_at, read_walk}
use Rattle.dss_frame.specs.FrameRecords.{frame_record}
use Rattle.dss_frame.specs.Written.{Sent, written}
use Rattle.dss_laws.proofs.Looking.{look_nothing}
use Rattle.dss_laws.proofs.Framed.{segments_end, framed_short}
use Rattle.dss_laws.proofs.WritingLaws.{framed_written}
use Rattle.dss_take.specs.Take.{room_read}
use Rattle.dss_writer.specs.Writer.{wrote_by, wrote, Writes}
use Rattle.dss_writer.specs.declared.DssWriter.{DssWriter}
use Rattle.dss_reader.specs.Reader.{stands_at, given_frame, NextFrame}
use Rattle.gateway_words.specs.AnswerWords.{refusal_words, done_words, Answered}
use Rattle.gateway_row.specs.RowWords.{frame_at}
use Rattle.gateway_row.proofs.RecordBack.{format_says}
use Rattle.gateway_writer.specs.WriterWords.{writer_of, wrote_words, wrote_typed, room_typed, Sends}
use Rattle.gateway_reader.specs.ReaderWords.{frame_words, ReadsFrame}
use Rattle.demands.specs.Demands.{Sendable, Unreadable, Gives}
use Rattle.demands.proofs.WrittenFrames.{framed_six, sent_at, read_written, gives_written}
use Rattle.demands.specs.KeptMeaning.{IsFrame, InWords, mark_behind, Written, ReadAgain, not_yet, NotReadAgain, ReadAgainInWords, NotReadAgainInWords}
use Rattle.dss_reader.specs.declared.DssReader.{DssReader}
use Rattle.answer.specs.declared.Refused.{Refused}

-- ---- a frame that is handed out

-- its record
pub is_frame : (f : Sent) (s : List ℕ) (p at : ℕ) (g : Frame) → Gives f s g → IsFrame f at (frame_record s p at g)
is_frame f s p at g w =
    record {
      type = w.type;
      flags = λ i. record { chained = w.chained i; continue_on_error = w.no_continue i; same_correlation = w.same i };
      correlation = w.correlation;
      payload_at = refl;
      payload_len = ap length w.payload;
    }

-- and its words, with whatever stands behind them
pub in_words : (f : Sent) (at place last : ℕ) (rest : List ℕ) (d : DssFrame) → IsFrame f at d → InWords f place (frame_at place last d ++ rest)
in_words f at place last rest d w =
    record {
      number = refl;
      place_is = refl;
      type = (format_says d.header).0 ∙ ap Ok w.type;
      flags = (format_says d.header).1 ∙ w.flags;
      correlation = w.correlation;
      payload_len = w.payload_len;
    }

-- an answer's words, where eight were lent
pub answer_says : {answer words : List ℕ} {r : ℕ} {after : List ℕ} → length answer ≡ 8 → 8 ≤ length words → Answered answer words r after → take 8 after ≡ answer
answer_says {answer} {words} {r} {after} e h p =
    ap (take 8) (p.words_are ∙ laid_fits words 0 answer (omega arith) ∙ splice_tail words 0 answer (omega arith)) ∙ take_at answer (drop (0 + length answer) words) 8 e

-- ---- reading where a written frame stands last

module _ (f : Sent) (v : Sendable f) (s : List ℕ) (p : ℕ) (d : drop p s ≡ written f) where
  stands : drop p s ≡ written f ++ []
  stands = d ∙ sym (append-nil (written f))

  -- the frame, with its end at the run's
  read_last : (Unreadable f → ⊥) → read_at Reader s p ≡ frame (sent_at f p)
  read_last u =
      read_written f v Reader u s [] p stands
      (λ h. look_nothing Reader s (p + length (written f)) (omega (arith, here_length s (written f) [] p stands)))

  gives_last : Gives f s (sent_at f p)
  gives_last = gives_written f s [] p stands

  -- or 1
  short_last : Unreadable f → read_at Reader s p ≡ refused (not_yet p)
  unfolding read_at
  short_last u =
      pick_yes _ _ (le-leb p (length s) (omega (arith, here_length s (written f) [] p stands, framed_six (framed_written f))))
      ∙ ap (read_walk Reader s p) (framed_short (framed_written f) (record { times = u.times; size = u.size }) s p stands)

  -- what the reader's call answers, and what its room then holds
  given_last : (Unreadable f → ⊥) → (size : ℕ) → length f.payload ≤ size
      → given_frame s p size (read_at Reader s p) ≡ (Ok (frame_record s p 0 (sent_at f p)), stands_at (mark_behind p f))
  given_last u size h =
      ap (given_frame s p size) (read_last u)
      ∙ pick_yes _ _ (le-leb (length (payload_of s (sent_at f p).segments)) size (omega (arith, ap length gives_last.payload)))
      ∙ ap (λ (n : ℕ). (Ok (frame_record s p 0 (sent_at f p)), stands_at n)) (segments_end (framed_written f) p)

  room_last : (Unreadable f → ⊥) → (room : List ℕ) → length f.payload ≤ length room → room_read s room (read_at Reader s p) ≡ splice room 0 f.payload
  room_last u room h = ap (room_read s room) (read_last u) ∙ ap (laid room 0) gives_last.payload ∙ laid_fits room 0 f.payload (omega arith)

-- ---- what was laid down

-- from the fill mark on, up to the mark behind it, the room is the frame
run_is : (f : Sent) (fill : ℕ) (room laid-down run : List ℕ) → mark_behind fill f ≤ length room → laid-down ≡ laid room fill (written f) → run ≡ take (mark_behind fill f) laid-down
    → drop fill run ≡ written f
run_is f fill room laid-down run h e k =
    ap (drop fill)
    (k ∙ ap (take (mark_behind fill f)) (e ∙ laid_fits room fill (written f) h) ∙ splice_written room fill (written f) (omega arith))
    ∙ drop_at (take fill room) (written f) fill (length-take-le fill room (omega arith))

wrote_is : (w : DssWriter) (f : Sent) (size : ℕ) → mark_behind w.fill f ≤ size → Written w f (wrote w size (length (written f)))
wrote_is w f size h =
    let enough : room_for w.fill size (length (written f)) ≡ Ok tt =
    pick_yes _ _ (le-leb w.fill size (omega arith)) ∙ pick_yes _ _ (le-leb (length (written f)) (size - w.fill) (omega arith)) in
    ap (wrote_by w (length (written f))) enough

-- ---- in Rattle

module _ (w : DssWriter) (f : Sent) (v : Sendable f) (room laid-down run into : List ℕ) (x : Result DssWriter Refused) (r : Result DssFrame Refused × DssReader) (after : List ℕ)
    (h : mark_behind w.fill f ≤ length room) (p : Writes w f room x laid-down) (e : run ≡ take (mark_behind w.fill f) laid-down) (q : NextFrame run w.fill into r after) where
  at_mark : drop w.fill run ≡ written f
  at_mark = run_is f w.fill room laid-down run h p.room_is e

  pub read_again : (Unreadable f → ⊥) → length f.payload ≤ length into → ReadAgain w f x into r after
  read_again u k =
      record {
        wrote_is = p.answers ∙ wrote_is w f (length room) h;
        frame = frame_record run w.fill 0 (sent_at f w.fill);
        read_is = q.answers ∙ given_last f v run w.fill at_mark u (length into) k;
        gives = is_frame f run w.fill 0 (sent_at f w.fill) (gives_last f v run w.fill at_mark);
        room_is = q.room_is ∙ room_last f v run w.fill at_mark u into k;
      }

  pub not_read_again : Unreadable f → NotReadAgain w f x into r after
  not_read_again u =
      let s : read_at Reader run w.fill ≡ refused (not_yet w.fill) = short_last f v run w.fill at_mark u in
      record {
        wrote_is = p.answers ∙ wrote_is w f (length room) h;
        read_is = q.answers ∙ ap (given_frame run w.fill (length into)) s;
        room_is = q.room_is ∙ ap (room_read run into) s;
      }

-- ---- in words

module _ (found : Result DssType Refused) (t : DssType) (ft : found ≡ Ok t) (correlation fill : ℕ) (sends : DssType → Sent) (own : (sends t).correlation ≡ correlation) (v : Sendable (sends t))
    (room words laid-down answer run into words' : List ℕ) (n n' : ℕ) (after answer' : List ℕ)
    (h : mark_behind fill (sends t) ≤ length room) (k : 8 ≤ length words) (k' : 8 ≤ length words')
    (p : Sends found (writer_of correlation fill) sends room words n laid-down answer)
    (e : run ≡ take (mark_behind fill (sends t)) laid-down) (q : ReadsFrame run fill into words' n' after answer') where
  -- what is laid down: of the type that was found
  abbrev f : Sent
  f = sends t

  laid_is : laid-down ≡ laid room fill (written f)
  laid_is = p.room_is ∙ ap (λ (x : Result DssType Refused). room_typed x (writer_of correlation fill) sends room) ft

  wrote_words_lem : wrote_words (wrote_typed found (writer_of correlation fill) sends (length room)) ≡ done_words f.correlation (mark_behind fill f) 0 0
  wrote_words_lem =
      ap (λ (x : Result DssType Refused). wrote_words (wrote_typed x (writer_of correlation fill) sends (length room))) ft
      ∙ ap wrote_words (wrote_is (writer_of correlation fill) f (length room) h)
      ∙ ap (λ (c : ℕ). done_words c (mark_behind fill f) 0 0) (sym own)

  wrote_answers : Answered (done_words f.correlation (mark_behind fill f) 0 0) words n answer
  wrote_answers = subst (λ (l : List ℕ). Answered l words n answer) wrote_words_lem p.answers

  at_mark' : drop fill run ≡ written f
  at_mark' = run_is f fill room laid-down run h laid_is e

  pub read_again_words : (Unreadable f → ⊥) → length f.payload ≤ length into → ReadAgainInWords f fill n answer into n' answer' after
  read_again_words u i =
      let d : DssFrame = frame_record run fill 0 (sent_at f fill) in
      let w : List ℕ = frame_at (mark_behind fill f) fill d in
      let a : Answered w words' n' answer' =
      subst (λ (x : Result DssFrame Refused × DssReader). Answered (frame_words x) words' n' answer') (given_last f v run fill at_mark' u (length into) i) q.answers in
      record {
        wrote = wrote_answers.number_is;
        wrote_says = answer_says refl k wrote_answers;
        read = a.number_is;
        read_says =
            subst (InWords f (mark_behind fill f)) (sym (answer_says refl k' a))
            (in_words f 0 (mark_behind fill f) fill [] d (is_frame f run fill 0 (sent_at f fill) (gives_last f v run fill at_mark')));
        room_is = q.room_is ∙ room_last f v run fill at_mark' u into i;
      }

  pub not_read_again_words : Unreadable f → NotReadAgainInWords f fill n answer into n' answer' after
  not_read_again_words u =
      let s : read_at Reader run fill ≡ refused (not_yet fill) = short_last f v run fill at_mark' u in
      let a : Answered (refusal_words (not_yet fill)) words' n' answer' =
      subst (λ (x : Read). Answered (frame_words (given_frame run fill (length into) x)) words' n' answer') s q.answers in
      record {
        wrote = wrote_answers.number_is;
        wrote_says = answer_says refl k wrote_answers;
        read = a.number_is;
        read_says = answer_says refl k' a;
        room_is = q.room_is ∙ ap (room_read run into) s;
      }
