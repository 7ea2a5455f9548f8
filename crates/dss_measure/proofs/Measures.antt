-- What a measure says of the reading that it is of: the frame, where it ends, and how long its payload can be.
use Rattle.std.specs.Prelude.{Ok, Err}
use Prim.Native.Nat.{ℕ, ◌+◌, ◌≤◌}
use native.Mathlib.Omega.{arith}
use mathlib.Core.Path.{◌≡◌, refl, ap}
use mathlib.Core.List.{List}
use lib.ListN.{length}
use Rattle.answer.specs.declared.Refused.{Refused}
use Rattle.dss_frame.specs.Reading.{Frame, Read, frame, refused, read_at}
use Rattle.dss_frame.specs.declared.Rules.{Rules}
use Rattle.dss_laws.proofs.Bounds.{OfFrame, is_frame, is_refused, Past, read_past}
use Rattle.dss_measure.specs.declared.FrameMeasure.{FrameMeasure}
use Rattle.dss_measure.specs.Measure.{measure_of, measured_of, measured_at}
use Rattle.dss_laws.proofs.Thin.{Thin, read_thin}

-- the reading at p is a frame, whose measure is m; it ends six bytes on at least, inside the run, and holds no more than it takes
pub record Measures (rules : Rules) (s : List ℕ) (p : ℕ) (m : FrameMeasure) : Type 0 where
  pub whole : Frame
  pub reads : read_at rules s p ≡ frame whole
  pub same : measure_of s p whole ≡ m
  pub past : p + 6 ≤ m.end
  pub there : m.end ≤ length s
  pub thin : p + m.payload_len ≤ m.end

module _ (rules : Rules) (s : List ℕ) (p : ℕ) where
  pub measures : (m : FrameMeasure) → measured_at rules s p ≡ Ok m → Measures rules s p m
  unfolding measured_at
  measures m e = of_read (read_at rules s p) refl (read_past rules s p) (read_thin rules s p) e
    where
      of_read : (r : Read) → read_at rules s p ≡ r → OfFrame (Past s p (p + 6)) r → OfFrame (λ (f : Frame). Thin s p f.segments) r → measured_of s p r ≡ Ok m → Measures rules s p m
      of_read r i (is_frame f a) (is_frame f₁ b) k =
          let same : measure_of s p f ≡ m = cc in
          let end : (measure_of s p f).end ≡ m.end = ap (λ (x : FrameMeasure). x.end) same in
          let len : (measure_of s p f).payload_len ≡ m.payload_len = ap (λ (x : FrameMeasure). x.payload_len) same in
          record { whole = f; reads = i; same = same; past = omega arith; there = omega arith; thin = omega arith }
      of_read r i (is_refused x) b k = let z : ◌≡◌ {A = ℕ} 0 1 = cc in absurd (omega arith)

  pub measured_not : (x : Refused) → measured_at rules s p ≡ Err x → read_at rules s p ≡ refused x
  unfolding measured_at
  measured_not x e = of_read (read_at rules s p) e
    where
      of_read : (r : Read) → measured_of s p r ≡ Err x → r ≡ refused x
      of_read (frame f) k = let z : ◌≡◌ {A = ℕ} 0 1 = cc in absurd (omega arith)
      of_read (refused y) k = cc
