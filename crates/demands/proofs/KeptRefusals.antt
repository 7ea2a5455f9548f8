-- A refusal leaves what was lent as it was: over the records that the contracts cite.
use Rattle.std.specs.Prelude.{Result, Ok, Err}
use Rattle.dss_measure.specs.Measure.{measured_record}
use Prim.Native.Nat.{ℕ, ◌+◌, ◌-◌, ◌<◌}
use native.Mathlib.Omega.{arith}
use mathlib.Core.Path.{◌≡◌, refl, sym, ap, ◌∙◌}
use mathlib.Core.Logic.{◌⊎◌, inl, inr}
use mathlib.Core.Bool.{Bool, true, false}
use mathlib.Core.List.{List}
use lib.Dec.{leb, eqb}
use lib.ListN.{length}
use borrow.Author.Tests.{leb-true, leb-false}
use Rattle.dss_salvage_call.specs.SalvageCall.{given_entries, entries_fit}
use Rattle.wire.specs.Bytes.{or}
use Rattle.wire.proofs.WireLaws.{by, pick_yes, pick_no, true_false}
use Rattle.wire.proofs.Splicing.{laid_kept}
use Rattle.answer.specs.Numbers.{number_of, not_whole}
use Rattle.answer.specs.Rooms.{no_room, room_for}
use Rattle.answer.specs.declared.Refusal.{Refusal}
use Rattle.answer.specs.declared.Refused.{Refused}
use Rattle.dss_head.specs.declared.DssType.{DssType}
use Rattle.dss_frame.specs.Reading.{Frame, read_at}
use Rattle.dss_frame.specs.Frames.{AllRead, frames, refused_all, all_frames}
use Rattle.dss_frame.specs.FrameRecords.{payloads_of}
use Rattle.dss_frame.specs.Salvage.{salvaged}
use Rattle.dss_frame.specs.Written.{Sent, written}
use Rattle.dss_frame.specs.declared.DssFrame.{DssFrame}
use Rattle.dss_frame.specs.declared.Rules.{Rules}
use Rattle.dss_frame.specs.declared.Rules.TheVariants.{Reader}
use Rattle.dss_take.specs.Take.{taken_of, Takes}
use Rattle.dss_writer.specs.Writer.{wrote_by, Writes}
use Rattle.dss_writer.specs.declared.DssWriter.{DssWriter}
use Rattle.dss_reader.specs.Reader.{stands_at, left_at, given_frame, NextFrame, frames_fit, given_frames, room_all, row_all, ReadAllFrames}
use Rattle.dss_reader.specs.declared.DssReader.{DssReader}
use Rattle.gateway_words.specs.AnswerWords.{refusal_words, Answered}
use Rattle.gateway_row.specs.RowWords.{places}
use Rattle.gateway_writer.specs.WriterWords.{wrote_words, wrote_typed, room_typed, Sends}
use Rattle.gateway_reader.specs.ReaderWords.{frame_words, ReadsFrame}
use Rattle.gateway_measure.specs.MeasureWords.{measured_words}
use Rattle.gateway_take.specs.TakeWords.{TakesFrame}
use Rattle.gateway_frames.specs.FramesWords.{frames_words, frames_row, ReadsAllFrames}
use Rattle.gateway_salvage.specs.SalvageWords.{salvaged_words, SalvagesInWords}
use Rattle.demands.proofs.LongerAll.{all_final}
use Rattle.demands.specs.KeptMeaning.{RefusedInWords}
use Rattle.demands.proofs.KeptFrame.{answer_says}
use Rattle.demands.proofs.MeasureTake.{takes_kept, next_is_taken}
use Rattle.dss_measure.specs.declared.FrameMeasure.{FrameMeasure}
use Rattle.dss_reader.specs.declared.FramesRead.{FramesRead}
use Rattle.dss_salvage.specs.declared.Salvaging.{Salvaging}
use Rattle.dss_reader.specs.Reader.{frames_read}

-- ---- writing

-- a frame fits, or it is longer than what the room has from the fill mark on
fits_or : (fill size n : ℕ) → (room_for fill size n ≡ Ok tt) ⊎ (size < fill + n)
fits_or fill size n =
    by (leb fill size)
    (λ t. by (leb n (size - fill)) (λ u. inl (pick_yes _ _ t ∙ pick_yes _ _ u)) (λ u. inr (omega (arith, leb-true fill size t, leb-false n (size - fill) u))))
    (λ t. inr (omega (arith, leb-false fill size t)))

not_done : (v : DssWriter) (x : Refused) → Ok v ≡ Err x → ⊥
not_done v x e = let z : ◌≡◌ {A = ℕ} 0 1 = cc in omega arith

pub writes_kept : (w : DssWriter) (f : Sent) (room : List ℕ) (x : Refused) (after : List ℕ) → Writes w f room (Err x) after → after ≡ room
writes_kept w f room x after p =
    elim (fits_or w.fill (length room) (length (written f))) [
      | inl e ↦ absurd (not_done _ x (sym (p.answers ∙ ap (wrote_by w (length (written f))) e)))
      | inr h ↦ p.room_is ∙ laid_kept room w.fill (written f) h
    ]

-- ---- reading one frame

-- `next_frame` is taking, whose refusals leave the room
pub reads_kept : (s : List ℕ) (p : ℕ) (room : List ℕ) (y : Refused) (d : DssReader) (after : List ℕ) → NextFrame s p room (Err y, d) after
    → (after ≡ room) × (d ≡ left_at p y)
reads_kept s p room y d after q =
    go (taken_of s p (length room) (read_at Reader s p)) (record { answers = refl; room_is = q.room_is })
  where
    go : (x : Result FrameMeasure Refused) → Takes Reader s p room x after → (after ≡ room) × (d ≡ left_at p y)
    go (Ok m) w =
        let k : ◌≡◌ {A = Result DssFrame Refused} (Err y) (Ok (measured_record p 0 m)) =
        ap (λ (x : Result DssFrame Refused × DssReader). x.0) (next_is_taken s p room (Err y, d) after (Ok m) after q w).0 in
        let z : ◌≡◌ {A = ℕ} 0 1 = cc in
        absurd (omega arith)
    go (Err z) w =
        let k : ◌≡◌ {A = Result DssFrame Refused × DssReader} (Err y, d) (Err z, left_at p z) = (next_is_taken s p room (Err y, d) after (Err z) after q w).0 in
        let h : ◌≡◌ {A = Result DssFrame Refused} (Err y) (Err z) = ap (λ (x : Result DssFrame Refused × DssReader). x.0) k in
        let i : y ≡ z = cc in
        let j : d ≡ left_at p z = ap (λ (x : Result DssFrame Refused × DssReader). x.1) k in
        (takes_kept Reader s p room z after w, j ∙ ap (left_at p) (sym i))

-- ---- reading all frames

-- a refusal is the run's, or the call's because the frames don't fit
none_read : (s : List ℕ) (p size rows : ℕ) (x : AllRead) (y : Refused) (d : DssReader) → (Err y, d) ≡ given_frames s p size rows x
    → (P : AllRead → Type 0) → ((r : Refused) → y ≡ r → d ≡ left_at p r → P (refused_all r))
    → ((fs : List Frame) (q : ℕ) → frames_fit s fs size rows ≡ false → y.place ≡ p → d ≡ stands_at p → P (frames fs q)) → P x
none_read s p size rows (refused_all r) y d e P f g =
    let h : ◌≡◌ {A = Result FramesRead Refused} (Err y) (Err r) = ap (λ (x : Result FramesRead Refused × DssReader). x.0) e in
    let i : y ≡ r = cc in
    let j : d ≡ left_at p r = ap (λ (x : Result FramesRead Refused × DssReader). x.1) e in
    f r i j
none_read s p size rows (frames fs q) y d e P f g =
    by (frames_fit s fs size rows)
    (λ t.
    let k : ◌≡◌ {A = Result FramesRead Refused} (Err y) (Ok (frames_read (length fs) (length (payloads_of s fs)))) = ap (λ (x : Result FramesRead Refused × DssReader). x.0) (e ∙ pick_yes _ _ t) in
    let z : ◌≡◌ {A = ℕ} 0 1 = cc in
    absurd (omega arith))
    (λ t.
    let k : ◌≡◌ {A = Result FramesRead Refused × DssReader} (Err y, d) (Err (no_room p (length (payloads_of s fs)) (length fs)), stands_at p) = e ∙ pick_no _ _ t in
    let h : ◌≡◌ {A = Result FramesRead Refused} (Err y) (Err (no_room p (length (payloads_of s fs)) (length fs))) = ap (λ (x : Result FramesRead Refused × DssReader). x.0) k in
    let i : y ≡ no_room p (length (payloads_of s fs)) (length fs) = cc in
    let j : d ≡ stands_at p = ap (λ (x : Result FramesRead Refused × DssReader). x.1) k in
    g fs q t (ap (λ (z : Refused). z.place) i) j)

or_second : (a b : Bool) → or a b ≡ false → b ≡ false
or_second true b e = absurd (true_false true refl e)
or_second false b e = e

not_dead : (w : Refusal) → not_whole w ≡ false → eqb (number_of w) 16 ≡ false
not_dead w e = or_second (eqb (number_of w) 1) (eqb (number_of w) 16) e

module _ (s : List ℕ) (p : ℕ) (room : List ℕ) (y : Refused) (d : DssReader) where
  -- the refusal isn't 16, so its place is where the reader is left
  stands_kept : (rows : ℕ) → (Err y, d) ≡ given_frames s p (length room) rows (all_frames s p) → d ≡ stands_at y.place
  stands_kept rows e =
      none_read s p (length room) rows (all_frames s p) y d e (λ z. all_frames s p ≡ z → d ≡ stands_at y.place)
      (λ r i j k. j ∙ ap stands_at (pick_no _ _ (not_dead r.why (all_final s p r k))) ∙ ap (λ (z : Refused). stands_at z.place) (sym i))
      (λ fs q t i j k. j ∙ ap stands_at (sym i)) refl

  room_kept : (rows : ℕ) (x : AllRead) → (Err y, d) ≡ given_frames s p (length room) rows x → room_all s room rows x ≡ room
  room_kept rows x e = none_read s p (length room) rows x y d e (λ z. room_all s room rows z ≡ room) (λ r i j. refl) (λ fs q t i j. pick_no _ _ t)

  pub all_kept : (row : List DssFrame) (room_after : List ℕ) (row_after : List DssFrame) → ReadAllFrames s p room row (Err y, d) room_after row_after
      → (room_after ≡ room) × (row_after ≡ row) × (d ≡ stands_at y.place)
  all_kept row room_after row_after q =
      let e = q.answers in (
        q.room_is ∙ room_kept (length row) (all_frames s p) e,
        q.row_is ∙ none_read s p (length room) (length row) (all_frames s p) y d e (λ z. row_all s p (length room) row z ≡ row) (λ r i j. refl) (λ fs k t i j. pick_no _ _ t),
        stands_kept (length row) e,
      )

  row_kept : (row : List ℕ) → (Err y, d) ≡ given_frames s p (length room) (places row) (all_frames s p) → frames_row s p (length room) row (all_frames s p) ≡ row
  row_kept row e = none_read s p (length room) (places row) (all_frames s p) y d e (λ z. frames_row s p (length room) row z ≡ row) (λ r i j. refl) (λ fs k t i j. pick_no _ _ t)

-- ---- salvage

not_fit : (s : List ℕ) (size rows : ℕ) (y : Refused) → Err y ≡ given_entries s size rows (salvaged s) → entries_fit s (salvaged s).entries size rows ≡ false
not_fit s size rows y e =
    by (entries_fit s (salvaged s).entries size rows)
    (λ t. let k = e ∙ pick_yes _ _ t in let z : ◌≡◌ {A = ℕ} 0 1 = cc in absurd (omega arith))
    (λ t. t)

typed_kept : (found : Result DssType Refused) (w : DssWriter) (f : DssType → Sent) (room : List ℕ) (y : Refused) → wrote_typed found w f (length room) ≡ Err y → room_typed found w f room ≡ room
typed_kept (Ok t) w f room y e = writes_kept w (f t) room y (room_typed (Ok t) w f room) (record { answers = sym e; room_is = refl })
typed_kept (Err r) w f room y e = refl

-- ---- in words: another number than 0 is a refusal's

module _ (words : List ℕ) (n : ℕ) (answer : List ℕ) (nz : n ≡ 0 → ⊥) where
  of_words : (y : Refused) → Answered (refusal_words y) words n answer → RefusedInWords words n answer
  of_words y a = record { why = y; number_is = a.number_is; words_say = λ h. answer_says refl h a; words_kept = λ h. a.words_are ∙ laid_kept words 0 (refusal_words y) (omega arith) }

  of_wrote : (x : Result DssWriter Refused) → Answered (wrote_words x) words n answer → record { y : Refused; is : x ≡ Err y; said : RefusedInWords words n answer }
  of_wrote (Ok w) a = absurd (nz a.number_is)
  of_wrote (Err y) a = record { y = y; is = refl; said = of_words y a }

  of_read : (x : Result DssFrame Refused × DssReader) → Answered (frame_words x) words n answer → record { y : Refused; d : DssReader; is : x ≡ (Err y, d); said : RefusedInWords words n answer }
  of_read (Ok f, d) a = absurd (nz a.number_is)
  of_read (Err y, d) a = record { y = y; d = d; is = refl; said = of_words y a }

  of_taken : (p : ℕ) (x : Result FrameMeasure Refused) → Answered (measured_words p x) words n answer → record { y : Refused; is : x ≡ Err y; said : RefusedInWords words n answer }
  of_taken p (Ok m) a = absurd (nz a.number_is)
  of_taken p (Err y) a = record { y = y; is = refl; said = of_words y a }

  of_frames : (x : Result FramesRead Refused × DssReader) → Answered (frames_words x) words n answer → record { y : Refused; d : DssReader; is : x ≡ (Err y, d); said : RefusedInWords words n answer }
  of_frames (Ok m, d) a = absurd (nz a.number_is)
  of_frames (Err y, d) a = record { y = y; d = d; is = refl; said = of_words y a }

  of_salvaged : (x : Result Salvaging Refused) → Answered (salvaged_words x) words n answer → record { y : Refused; is : x ≡ Err y; said : RefusedInWords words n answer }
  of_salvaged (Ok m) a = absurd (nz a.number_is)
  of_salvaged (Err y) a = record { y = y; is = refl; said = of_words y a }

  pub sends_kept : (found : Result DssType Refused) (w : DssWriter) (f : DssType → Sent) (room after : List ℕ) → Sends found w f room words n after answer → RefusedInWords words n answer × (after ≡ room)
  sends_kept found w f room after p =
      let x = of_wrote (wrote_typed found w f (length room)) p.answers in
      (x.said, p.room_is ∙ typed_kept found w f room x.y x.is)

  pub frame_kept : (s : List ℕ) (p : ℕ) (room after : List ℕ) → ReadsFrame s p room words n after answer → RefusedInWords words n answer × (after ≡ room)
  frame_kept s p room after q =
      let x = of_read (given_frame s p (length room) (read_at Reader s p)) q.answers in
      (x.said, (reads_kept s p room x.y x.d after (record { answers = sym x.is; room_is = q.room_is })).0)

  pub taken_kept : (rules : Rules) (s : List ℕ) (p : ℕ) (room after : List ℕ) → TakesFrame rules s p room words n after answer → RefusedInWords words n answer × (after ≡ room)
  taken_kept rules s p room after q =
      let x = of_taken p (taken_of s p (length room) (read_at rules s p)) q.answers in
      (x.said, takes_kept rules s p room x.y after (record { answers = sym x.is; room_is = q.room_is }))

  pub frames_kept : (s : List ℕ) (p : ℕ) (room row room_after row_after : List ℕ) → ReadsAllFrames s p room row words n room_after row_after answer
      → RefusedInWords words n answer × (room_after ≡ room) × (row_after ≡ row)
  frames_kept s p room row room_after row_after q =
      let x = of_frames (given_frames s p (length room) (places row) (all_frames s p)) q.answers in
      (x.said, q.room_is ∙ room_kept s p room x.y x.d (places row) (all_frames s p) (sym x.is), q.row_is ∙ row_kept s p room x.y x.d row (sym x.is))

  pub salvage_kept : (s room row room_after row_after : List ℕ) → SalvagesInWords s room row words n room_after row_after answer
      → RefusedInWords words n answer × (room_after ≡ room) × (row_after ≡ row)
  salvage_kept s room row room_after row_after q =
      let x = of_salvaged (given_entries s (length room) (places row) (salvaged s)) q.answers in
      let t = not_fit s (length room) (places row) x.y (sym x.is) in
      (x.said, q.room_is ∙ pick_no _ _ t, q.row_is ∙ pick_no _ _ t)
