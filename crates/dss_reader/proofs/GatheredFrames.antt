-- The parts that `read_all_frames` is made of: what the payloads' part answers, how many records an answer has, and that those are the
-- definition's.
use Rattle.std.specs.Prelude.{Result, Ok, Err}
use Prim.Native.Nat.{ℕ}
use mathlib.Core.Path.{◌≡◌, refl, sym, ap, ◌∙◌}
use mathlib.Core.Bool.{true}
use mathlib.Core.List.{List}
use lib.Dec.{leb}
use lib.ListN.{length}
use borrow.Author.Tests.{leb-true}
use Rattle.wire.specs.Bytes.{splice}
use Rattle.wire.proofs.WireLaws.{by, pick_yes, pick_no, picked, and_split}
use Rattle.answer.specs.declared.Refused.{Refused}
use Rattle.dss_frame.specs.Reading.{Frame}
use Rattle.dss_frame.specs.Frames.{AllRead, frames, refused_all, all_frames}
use Rattle.dss_frame.specs.FrameRecords.{payloads_of}
use Rattle.dss_frame.specs.declared.DssFrame.{DssFrame}
use Rattle.dss_row.specs.inner.FrameRows.{records_from}
use Rattle.dss_frame.specs.inner.RowStart.{starts_at}
use Rattle.dss_row.proofs.FrameRowLaws.{records_none, records_all}
use Rattle.wire.proofs.FilledRow.{splice_nothing}
use Rattle.dss_reader.specs.declared.DssReader.{DssReader}
use Rattle.dss_reader.specs.declared.AllMeasured.{AllMeasured}
use Rattle.dss_reader.specs.inner.MeasuredAll.{all_measured_of, measured_frames, fitting_of, fitting_frames}
use Rattle.dss_reader.specs.inner.TakingAll.{all_payloads, FitsAll}
use Rattle.dss_reader.specs.Reader.{stands_at, left_at, frames_fit, given_frames, room_all, row_all, ReadAllFrames, GathersFrames, records_in}
use Rattle.dss_reader.specs.declared.FramesRead.{FramesRead}
use Rattle.dss_reader.specs.Reader.{frames_read}

-- ---- what is answered, of what measuring came to

-- with the reader that it leaves
abbrev given_of : ℕ → Result AllMeasured Refused → Result FramesRead Refused × DssReader
given_of p (Ok m) = (Ok (frames_read m.count m.bytes), stands_at m.end)
given_of p (Err r) = (Err r, left_at p r)

module _ (s : List ℕ) (p size rows : ℕ) where
  given_is : (a : AllRead) → given_of p (fitting_of p size rows (all_measured_of s a)) ≡ given_frames s p size rows a
  given_is (refused_all r) = refl
  given_is (frames fs q) =
      by (frames_fit s fs size rows)
      (λ t. ap (given_of p) (pick_yes _ _ t) ∙ sym (pick_yes _ _ t))
      (λ t. ap (given_of p) (pick_no _ _ t) ∙ sym (pick_no _ _ t))

  pub answers_given : (r : Result AllMeasured Refused) → r ≡ fitting_frames s p size rows → given_of p r ≡ given_frames s p size rows (all_frames s p)
  unfolding measured_frames
  answers_given r e = ap (given_of p) e ∙ given_is (all_frames s p)

-- ---- what the room holds, of what was answered

-- the frames that an answer is of: all fits
pub record Fitted (s : List ℕ) (p size rows count : ℕ) : Type 0 where
  pub read : List Frame
  pub end : ℕ
  pub is : all_frames s p ≡ frames read end
  pub fit : frames_fit s read size rows ≡ true
  pub counted : length read ≡ count

not_frames : (x : Refused) (d e : DssReader) (count bytes : ℕ) → ◌≡◌ {A = Result FramesRead Refused × DssReader} (Err x, d) (Ok (frames_read count bytes), e) → ⊥
not_frames x d e count bytes k = let z : ◌≡◌ {A = Result FramesRead Refused} (Err x) (Ok (frames_read count bytes)) = ap (λ (r : Result FramesRead Refused × DssReader). r.0) k in cc

module _ (s : List ℕ) (p size rows : ℕ) where
  pub fitted : (r : Result FramesRead Refused × DssReader) (count bytes : ℕ) (d : DssReader) → r ≡ given_frames s p size rows (all_frames s p) → r ≡ (Ok (frames_read count bytes), d) → Fitted s p size rows count
  fitted r count bytes d e k = of_all (all_frames s p) refl (sym e ∙ k)
    where
      of_all : (a : AllRead) → all_frames s p ≡ a → given_frames s p size rows a ≡ (Ok (frames_read count bytes), d) → Fitted s p size rows count
      of_all (refused_all x) i l = absurd (not_frames x _ _ _ _ l)
      of_all (frames fs q) i l =
          picked (frames_fit s fs size rows) l (λ t m. record { read = fs; end = q; is = i; fit = t; counted = ap records_in m })
          (λ t m. absurd (not_frames _ _ _ _ _ m))

module _ (s : List ℕ) (p : ℕ) (room : List ℕ) (rows : ℕ) where
  -- nothing is laid down
  pub room_kept : (r : Result FramesRead Refused × DssReader) (x : Refused) (d : DssReader) → r ≡ given_frames s p (length room) rows (all_frames s p) → r ≡ (Err x, d) → room ≡ room_all s room rows (all_frames s p)
  room_kept r x d e k = of_all (all_frames s p) (sym e ∙ k)
    where
      of_all : (a : AllRead) → given_frames s p (length room) rows a ≡ (Err x, d) → room ≡ room_all s room rows a
      of_all (refused_all y) l = refl
      of_all (frames fs q) l =
          picked (frames_fit s fs (length room) rows) l (λ t m. absurd (not_frames x d _ _ _ (sym m)))
          (λ t m. sym (pick_no _ _ t))

  module _ {count : ℕ} (w : Fitted s p (length room) rows count) where
    -- what taking asks
    pub takes_asks : FitsAll s p room
    takes_asks =
        let l = and_split (leb (length (payloads_of s w.read)) (length room)) (leb (length w.read) rows) w.fit in
        record { read = w.read; end = w.end; is = w.is; fits = leb-true _ _ l.0 }

    pub asks_counted : length takes_asks.read ≡ count
    unfolding takes_asks
    asks_counted = w.counted

    -- the payloads are
    pub room_taken : (after : List ℕ) → after ≡ splice room 0 (all_payloads s (all_frames s p)) → after ≡ room_all s room rows (all_frames s p)
    room_taken after e =
        e
        ∙ ap (λ (a : AllRead). splice room 0 (all_payloads s a)) w.is
        ∙ sym (ap (room_all s room rows) w.is ∙ pick_yes _ _ w.fit)

-- ---- the records

-- the row that so many records are laid into
abbrev filled : List ℕ → ℕ → List DssFrame → ℕ → List DssFrame
filled s p row count = splice row 0 (records_from (length row) s (starts_at p count))

filled_none : (s : List ℕ) (p : ℕ) (row : List DssFrame) → filled s p row 0 ≡ row
filled_none s p row = ap (λ (l : List DssFrame). splice row 0 l) (records_none (length row) s (starts_at p 0) refl) ∙ splice_nothing row

filled_is : (s : List ℕ) (p size : ℕ) (row : List DssFrame) (a : AllRead) → all_frames s p ≡ a → filled s p row (records_in (given_frames s p size (length row) a)) ≡ row_all s p size row a
filled_is s p size row (refused_all r) e = filled_none s p row
filled_is s p size row (frames fs q) e =
    by (frames_fit s fs size (length row))
    (λ t. ap (λ (r : Result FramesRead Refused × DssReader). filled s p row (records_in r)) (pick_yes _ _ t)
    ∙ ap (λ (l : List DssFrame). splice row 0 l)
    (records_all fs (length row) s p 0 q e (leb-true _ _ (and_split (leb (length (payloads_of s fs)) size) (leb (length fs) (length row)) t).1))
    ∙ sym (pick_yes _ _ t))
    (λ t. ap (λ (r : Result FramesRead Refused × DssReader). filled s p row (records_in r)) (pick_no _ _ t) ∙ filled_none s p row ∙ sym (pick_no _ _ t))

-- the parts together
pub read_all_is : (s : List ℕ) (p : ℕ) (room : List ℕ) (row : List DssFrame) (r : Result FramesRead Refused × DssReader) (roomAfter : List ℕ) (rowAfter : List DssFrame) (count : ℕ)
    → GathersFrames s p room (length row) r roomAfter → count ≡ records_in r → rowAfter ≡ splice row 0 (records_from (length row) s (starts_at p count))
    → ReadAllFrames s p room row r roomAfter rowAfter
read_all_is s p room row r roomAfter rowAfter count w c e =
    record {
      answers = w.answers;
      room_is = w.room_is;
      row_is = e ∙ ap (filled s p row) (c ∙ ap records_in w.answers) ∙ filled_is s p (length room) row (all_frames s p) refl;
    }
