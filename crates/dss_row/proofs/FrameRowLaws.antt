-- The laws of the records of a run's frames.
use Rattle.std.specs.Prelude.{Option, Some, None}
use Prim.Native.Nat.{ℕ, zero, suc, ◌+◌, ◌-◌, ◌≤◌}
use native.Mathlib.Omega.{arith}
use mathlib.Core.Path.{◌≡◌, refl, sym, ap, ◌∙◌}
use mathlib.Core.List.{List, [], ◌∷◌}
use lib.ListN.{length}
use borrow.Author.Tests.{eq-eqb, ne_eqb}
use Rattle.wire.proofs.WireLaws.{pick_yes, pick_no, picked}
use Rattle.answer.specs.Numbers.{not_whole}
use Rattle.dss_frame.specs.Segments.{payload_of, end_of}
use Rattle.dss_frame.specs.Reading.{Frame, Read, frame, refused, read_at}
use Rattle.dss_frame.specs.Frames.{AllRead, frames, refused_all, before, and_on, all_frames}
use Rattle.dss_frame.specs.FrameRecords.{frame_record, frame_records}
use Rattle.dss_frame.specs.declared.DssFrame.{DssFrame}
use Rattle.dss_frame.specs.declared.Rules.TheVariants.{Reader}
use Rattle.dss_laws.proofs.FramesLaws.{frames_step}
use Rattle.dss_measure.specs.declared.FrameMeasure.{FrameMeasure}
use Rattle.dss_measure.specs.Measure.{measured_record}
use Rattle.dss_frame.specs.declared.RowPlace.{RowPlace}
use Rattle.dss_measure.proofs.Measures.{Measures}
use Rattle.dss_row.specs.inner.FrameRows.{found_of, record_at, records_from}
use Rattle.dss_row.specs.inner.RowRecords.{one_more}
use Rattle.dss_row.proofs.RowRecordsLaws.{laid_step, laid_full}

-- ---- one record

module _ (s : List ℕ) (x : RowPlace) where
  -- no more are to come
  pub record_none : x.left ≡ 0 → record_at s x ≡ None
  unfolding record_at
  record_none h = pick_yes _ _ (eq-eqb x.left 0 h)

  pub record_read : (r : Read) → (x.left ≡ 0 → ⊥) → read_at Reader s x.at ≡ r → record_at s x ≡ found_of s x r
  unfolding record_at
  record_read r h e = pick_no _ _ (ne_eqb x.left 0 h) ∙ ap (found_of s x) e

  -- the record of a measure, and the place behind it
  pub record_measured : (m : FrameMeasure) → (x.left ≡ 0 → ⊥) → Measures Reader s x.at m
      → record_at s x ≡ Some (measured_record x.at x.payload_at m, record { at = m.end; payload_at = x.payload_at + m.payload_len; left = x.left - 1 })
  record_measured m h w =
      record_read (frame w.whole) h w.reads
      ∙ ap (λ (y : FrameMeasure). Some (measured_record x.at x.payload_at y, record { at = y.end; payload_at = x.payload_at + y.payload_len; left = x.left - 1 }))
      w.same

-- ---- a row of them

-- what is found first comes first
pub records_step : (n : ℕ) (s : List ℕ) (x : RowPlace) (f : Option (DssFrame × RowPlace)) → f ≡ record_at s x → records_from (suc n) s x ≡ one_more f (records_from n s)
unfolding records_from
records_step n s x f e = laid_step (record_at s) n x f e

-- a row with no place left
pub records_full : (s : List ℕ) (x : RowPlace) → records_from 0 s x ≡ []
unfolding records_from
records_full s x = laid_full (record_at s) x

-- none are to come
pub records_none : (n : ℕ) (s : List ℕ) (x : RowPlace) → x.left ≡ 0 → records_from n s x ≡ []
records_none zero s x h = records_full s x
records_none (suc n) s x h = records_step n s x None (sym (record_none s x h))

-- what a reading of a frame and more came to, of the frame and of what follows
pub record Onward (s : List ℕ) (p : ℕ) (f : Frame) (fs : List Frame) (q : ℕ) : Type 0 where
  pub reads : read_at Reader s p ≡ frame f
  pub onward : all_frames s (end_of p f.segments) ≡ frames fs q

pub frames_onward : (s : List ℕ) (p : ℕ) (f : Frame) (fs : List Frame) (q : ℕ) → all_frames s p ≡ frames (f ∷ fs) q → Onward s p f fs q
frames_onward s p f fs q e = of_read (read_at Reader s p) refl (sym (frames_step s p) ∙ e)
  where
    of_frame : (g : Frame) (a : AllRead) → read_at Reader s p ≡ frame g → all_frames s (end_of p g.segments) ≡ a → before g a ≡ frames (f ∷ fs) q → Onward s p f fs q
    of_frame g (frames gs r) i j k =
        let x : g ≡ f = cc in
        record { reads = i ∙ ap frame x; onward = ap (λ (y : Frame). all_frames s (end_of p y.segments)) (sym x) ∙ j ∙ (let z : frames gs r ≡ frames fs q = cc in z) }
    of_frame g (refused_all r) i j k = let z : ◌≡◌ {A = ℕ} 0 1 = cc in absurd (omega arith)

    of_read : (r : Read) → read_at Reader s p ≡ r → and_on p r (all_frames s) ≡ frames (f ∷ fs) q → Onward s p f fs q
    of_read (frame g) i k = of_frame g (all_frames s (end_of p g.segments)) i refl k
    of_read (refused r) i k =
        picked (not_whole r.why) k
        (λ t z. let y : ◌≡◌ {A = ℕ} 0 1 = cc in absurd (omega arith))
        (λ t z. let y : ◌≡◌ {A = ℕ} 0 1 = cc in absurd (omega arith))

-- as many as there are frames: all of them
pub records_all : (fs : List Frame) (n : ℕ) (s : List ℕ) (p a q : ℕ) → all_frames s p ≡ frames fs q → length fs ≤ n
    → records_from n s (record { at = p; payload_at = a; left = length fs }) ≡ frame_records s p a fs
unfolding frame_records
records_all [] n s p a q e h = records_none n s (record { at = p; payload_at = a; left = 0 }) refl
records_all (f ∷ fs) zero s p a q e h = absurd (omega arith)
records_all (f ∷ fs) (suc n) s p a q e h =
    let x : RowPlace = record { at = p; payload_at = a; left = length (f ∷ fs) } in
    let w : Onward s p f fs q = frames_onward s p f fs q e in
    let b : ℕ = a + length (payload_of s f.segments) in
    let k : length (f ∷ fs) - 1 ≡ length fs = omega arith in
    records_step n s x (found_of s x (frame f)) (sym (record_read s x (frame f) (λ z. omega arith) w.reads))
    ∙ ap (λ (j : ℕ). frame_record s p a f ∷ records_from n s (record { at = end_of p f.segments; payload_at = b; left = j })) k
    ∙ ap (λ (l : List DssFrame). frame_record s p a f ∷ l) (records_all fs n s (end_of p f.segments) b q w.onward (omega arith))
