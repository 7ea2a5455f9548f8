-- What measuring all frames answers, computed from the definition's list of them, and its laws.
use Rattle.std.specs.Prelude.{Result, Ok, Err}
use Prim.Native.Nat.{ℕ, ◌+◌}
use native.Mathlib.Nat.{add_assoc}
use native.Mathlib.Numerals.{one-add}
use native.Mathlib.Omega.{arith}
use mathlib.Core.Path.{◌≡◌, refl, sym, ap, ap₂, ◌∙◌}
use mathlib.Core.Bool.{true, false}
use mathlib.Core.List.{List}
use lib.ListN.{length, length-append}
use Rattle.answer.specs.Numbers.{not_whole}
use Rattle.answer.specs.declared.Refused.{Refused}
use Rattle.dss_frame.specs.declared.Rules.TheVariants.{Reader}
use Rattle.dss_frame.specs.Segments.{payload_of, end_of}
use Rattle.dss_frame.specs.Reading.{Frame, refused, read_at}
use Rattle.dss_frame.specs.Frames.{AllRead, frames, refused_all, before, all_frames}
use Rattle.dss_frame.specs.FrameRecords.{payloads_of}
use Rattle.dss_laws.proofs.FramesLaws.{frames_more, frames_end, frames_refused}
use Rattle.dss_measure.specs.declared.FrameMeasure.{FrameMeasure}
use Rattle.dss_measure.proofs.Measures.{Measures}
use Rattle.dss_reader.specs.inner.MeasuredAll.{all_measured, all_measured_of, measured_frames}
use Rattle.dss_reader.specs.declared.AllMeasured.{AllMeasured}

-- behind so many frames with so much payload
abbrev pub adds_all : ℕ → ℕ → Result AllMeasured Refused → Result AllMeasured Refused
adds_all k n (Ok m) = Ok (all_measured (k + m.count) (n + m.bytes) m.end)
adds_all k n (Err r) = Err r

-- ---- laws

pub adds_none : (a : Result AllMeasured Refused) → a ≡ adds_all 0 0 a
adds_none (Ok m) = ap₂ (λ (x y : ℕ). Ok (all_measured x y m.end)) (omega arith) (omega arith)
adds_none (Err r) = refl

adds_adds : (k n k' n' : ℕ) (a : Result AllMeasured Refused) → adds_all k n (adds_all k' n' a) ≡ adds_all (k + k') (n + n') a
adds_adds k n k' n' (Ok m) = ap₂ (λ (x y : ℕ). Ok (all_measured x y m.end)) (sym (add_assoc k k' m.count)) (sym (add_assoc n n' m.bytes))
adds_adds k n k' n' (Err r) = refl

measured_before : (s : List ℕ) (f : Frame) (a : AllRead) → all_measured_of s (before f a) ≡ adds_all 1 (length (payload_of s f.segments)) (all_measured_of s a)
unfolding payloads_of
measured_before s f (frames fs q) = ap₂ (λ (x y : ℕ). Ok (all_measured x y q)) (sym (one-add (length fs))) (length-append (payload_of s f.segments) (payloads_of s fs))
measured_before s f (refused_all r) = refl

module _ (s : List ℕ) (p k n : ℕ) where
  -- one frame more
  pub all_frame : (m : FrameMeasure) → Measures Reader s p m → adds_all k n (measured_frames s p) ≡ adds_all (k + 1) (n + m.payload_len) (measured_frames s m.end)
  unfolding measured_frames
  all_frame m w =
      ap (λ (a : AllRead). adds_all k n (all_measured_of s a)) (frames_more s p w.whole w.reads)
      ∙ ap (adds_all k n) (measured_before s w.whole (all_frames s (end_of p w.whole.segments)))
      ∙ ap (λ (x : FrameMeasure). adds_all k n (adds_all 1 x.payload_len (measured_frames s x.end))) w.same
      ∙ adds_adds k n 1 m.payload_len (measured_frames s m.end)

  -- "reads until 1", or 16
  pub all_end : (r : Refused) → read_at Reader s p ≡ refused r → not_whole r.why ≡ true → adds_all k n (measured_frames s p) ≡ Ok (all_measured k n p)
  unfolding measured_frames payloads_of
  all_end r e i =
      ap (λ (a : AllRead). adds_all k n (all_measured_of s a)) (frames_end s p r e i) ∙ ap₂ (λ (x y : ℕ). Ok (all_measured x y p)) (omega arith) (omega arith)

  -- any other refusal
  pub all_refused : (r : Refused) → read_at Reader s p ≡ refused r → not_whole r.why ≡ false → adds_all k n (measured_frames s p) ≡ Err r
  unfolding measured_frames
  all_refused r e i = ap (λ (a : AllRead). adds_all k n (all_measured_of s a)) (frames_refused s p r e i)
