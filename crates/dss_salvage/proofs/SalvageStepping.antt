-- The laws of a step of the salvage walk: what the walk and the measure make of it, and what it says of the salvage reading from there on.
use Rattle.std.specs.Prelude.{Ok, Err}
use Prim.Native.Nat.{ℕ, ◌+◌, ◌-◌, ◌≤◌, ◌<◌}
use native.Mathlib.Omega.{arith}
use mathlib.Core.Path.{◌≡◌, refl, ap, ap₂, ◌∙◌}
use mathlib.Core.List.{List}
use lib.Dec.{ltb, leb}
use lib.ListN.{length}
use borrow.Author.Tests.{le-ltb, lt-ltb, ltb-true, ltb-false}
use Rattle.wire.specs.Bytes.{be16}
use Rattle.wire.proofs.WireLaws.{pick_yes, pick_no, picked}
use Rattle.answer.specs.declared.Refused.{Refused}
use Rattle.dss_frame.specs.declared.Rules.TheVariants.{Salvage}
use Rattle.dss_frame.specs.Segments.{Segment, Walk, whole, short, dead, end_of, frame_walk}
use Rattle.dss_frame.specs.Reading.{Read, frame, refused, Frame, read_at, read_walk}
use Rattle.dss_frame.specs.Salvage.{entry, stop}
use Rattle.dss_laws.proofs.Bounds.{OfWhole, is_whole, Six, walk_six}
use Rattle.dss_laws.proofs.SalvageLaws.{salvaged_from, salvaged_short, salvaged_dead, salvaged_frame, salvaged_refused, salvaged_refused_end}
use Rattle.dss_measure.specs.declared.FrameMeasure.{FrameMeasure}
use Rattle.dss_measure.specs.declared.Walked.{Walked}
use Rattle.dss_measure.specs.Measure.{measure_of, measured_of, measured_at}
use Rattle.dss_measure.specs.inner.Walking.{walked_of, walked_at}
use Rattle.dss_measure.proofs.Measures.{Measures, measures, measured_not}
use Rattle.dss_salvage.specs.declared.Step.{Step}
use Rattle.dss_salvage.specs.declared.Step.TheVariants.{Frame as OneFrame, Over, Last, End}
use Rattle.dss_salvage.specs.inner.SalvageSteps.{step_on, step_of, step_at, over_at}

-- ---- what the walk and the measure make of a step

module _ (s : List ℕ) (p : ℕ) (r : Refused) where
  of_none : (w : Walk) (x : Refused) → walked_of s p w ≡ Err x → step_of s p w (refused r) ≡ End
  of_none (whole gs) x e = let z : ◌≡◌ {A = ℕ} 0 1 = cc in absurd (omega arith)
  of_none short x e = refl
  of_none (dead q) x e = refl

  of_whole : (w : Walk) (m : Walked) (x : Step) → walked_of s p w ≡ Ok m → ((gs : List Segment) → end_of p gs ≡ m.end → step_on s p gs (refused r) ≡ x) → step_of s p w (refused r) ≡ x
  of_whole (whole gs) m x i h = h gs (let z : end_of p gs ≡ m.end = cc in z)
  of_whole short m x i h = let z : ◌≡◌ {A = ℕ} 0 1 = cc in absurd (omega arith)
  of_whole (dead q) m x i h = let z : ◌≡◌ {A = ℕ} 0 1 = cc in absurd (omega arith)

  -- not whole
  pub over_none : (x : Refused) → walked_at Salvage s p ≡ Err x → over_at s p r ≡ End
  unfolding walked_at over_at
  over_none x e = of_none (frame_walk Salvage s p) x e

  module _ (m : Walked) (i : walked_at Salvage s p ≡ Ok m) (raw : ℕ) (l : raw ≡ be16 s p) where
    -- a length below 6
    pub over_last : raw < 6 → over_at s p r ≡ Last r
    unfolding walked_at over_at
    over_last h = of_whole (frame_walk Salvage s p) m (Last r) i (λ gs j. pick_yes _ _ (lt-ltb (be16 s p) 6 (omega arith)))

    -- any other
    pub over_on : 6 ≤ raw → over_at s p r ≡ Over r m.end
    unfolding walked_at over_at
    over_on h = of_whole (frame_walk Salvage s p) m (Over r m.end) i (λ gs j. pick_no _ _ (le-ltb (be16 s p) 6 (omega arith)) ∙ ap (λ (q : ℕ). Over r q) j)

module _ (s : List ℕ) (p : ℕ) where
  -- a frame that is read is whole
  record Wholly : Type 0 where
    segments : List Segment
    is : frame_walk Salvage s p ≡ whole segments

  of_walk : (f : Frame) (w : Walk) → frame_walk Salvage s p ≡ w → read_walk Salvage s p w ≡ frame f → Wholly
  of_walk f (whole gs) i k = record { segments = gs; is = i }
  of_walk f short i k = let z : ◌≡◌ {A = ℕ} 0 1 = cc in absurd (omega arith)
  of_walk f (dead q) i k = let z : ◌≡◌ {A = ℕ} 0 1 = cc in absurd (omega arith)

  read_whole : (f : Frame) → read_at Salvage s p ≡ frame f → Wholly
  unfolding read_at
  read_whole f e =
      picked (leb p (length s)) e (λ t k. of_walk f (frame_walk Salvage s p) refl k) (λ t k. let z : ◌≡◌ {A = ℕ} 0 1 = cc in absurd (omega arith))

  -- a measure is a frame's step
  pub step_frame : (m : FrameMeasure) → measured_at Salvage s p ≡ Ok m → step_at s p ≡ OneFrame m
  unfolding step_at
  step_frame m e =
      let w : Measures Salvage s p m = measures Salvage s p m e in
      ap₂ (λ (x : Walk) (y : Read). step_of s p x y) (read_whole w.whole w.reads).is w.reads ∙ ap OneFrame w.same

  -- a refusal is stepped over
  pub step_refused : (r : Refused) → measured_at Salvage s p ≡ Err r → step_at s p ≡ over_at s p r
  unfolding step_at over_at
  step_refused r e = ap (λ (y : Read). step_of s p (frame_walk Salvage s p) y) (measured_not Salvage s p r e)

-- ---- what a step says of the salvage reading from there on

-- a frame, whose measure is m
pub record OnFrame (s : List ℕ) (p : ℕ) (m : FrameMeasure) : Type 0 where
  pub measured : Measures Salvage s p m
  pub onward : salvaged_from s p ≡ entry p (end_of p measured.whole.segments) (frame measured.whole) (salvaged_from s (end_of p measured.whole.segments))

-- a refusal that is stepped over to q
pub record OnOver (s : List ℕ) (p : ℕ) (r : Refused) (q : ℕ) : Type 0 where
  pub onward : salvaged_from s p ≡ entry p q (refused r) (salvaged_from s q)
  pub past : p + 6 ≤ q
  pub there : q ≤ length s

-- a refusal that the walk ends at
pub record OnLast (s : List ℕ) (p : ℕ) (r : Refused) : Type 0 where
  pub onward : salvaged_from s p ≡ entry p p (refused r) (stop p)
  pub there : p + 6 ≤ length s

module _ (s : List ℕ) (p : ℕ) where
  -- six bytes are there
  whole_six : (gs : List Segment) → frame_walk Salvage s p ≡ whole gs → 6 ≤ length s - p
  unfolding frame_walk
  whole_six gs i =
      picked (ltb (length s - p) 6) i (λ t k. let z : ◌≡◌ {A = ℕ} 0 1 = cc in absurd (omega arith)) (λ t k. ltb-false (length s - p) 6 t)

  is_frame : (m : FrameMeasure) (w : Walk) (r : Read) → frame_walk Salvage s p ≡ w → read_at Salvage s p ≡ r → step_of s p w r ≡ OneFrame m → OnFrame s p m
  unfolding measured_at
  is_frame m (whole gs) (frame f) i j k =
      let x : measure_of s p f ≡ m = cc in
      let w : Measures Salvage s p m = measures Salvage s p m (ap (measured_of s p) j ∙ ap Ok x) in
      record { measured = w; onward = salvaged_frame s p gs w.whole i w.reads }
  is_frame m (whole gs) (refused r) i j k =
      picked (ltb (be16 s p) 6) k (λ t z. let y : ◌≡◌ {A = ℕ} 0 1 = cc in absurd (omega arith)) (λ t z. let y : ◌≡◌ {A = ℕ} 0 1 = cc in absurd (omega arith))
  is_frame m short r i j k = let z : ◌≡◌ {A = ℕ} 0 1 = cc in absurd (omega arith)
  is_frame m (dead q) r i j k = let z : ◌≡◌ {A = ℕ} 0 1 = cc in absurd (omega arith)

  pub on_frame : (m : FrameMeasure) → step_at s p ≡ OneFrame m → OnFrame s p m
  unfolding step_at
  on_frame m k = is_frame m (frame_walk Salvage s p) (read_at Salvage s p) refl refl k

  over_past : (r : Refused) (q : ℕ) (gs : List Segment) → frame_walk Salvage s p ≡ whole gs → read_at Salvage s p ≡ refused r → OfWhole (Six s p) (whole gs) → 6 ≤ be16 s p
      → end_of p gs ≡ q → OnOver s p r q
  over_past r q gs i j (is_whole gs₁ six) h e = record {
    onward = salvaged_refused s p gs r i j h ∙ ap (λ (x : ℕ). entry p x (refused r) (salvaged_from s x)) e;
    past = omega (arith, six.0 h);
    there = omega (arith, six.1);
  }

  is_over : (r : Refused) (q : ℕ) (w : Walk) (a : Read) → frame_walk Salvage s p ≡ w → read_at Salvage s p ≡ a → OfWhole (Six s p) w → step_of s p w a ≡ Over r q → OnOver s p r q
  is_over r q (whole gs) (frame f) i j six k = let z : ◌≡◌ {A = ℕ} 0 1 = cc in absurd (omega arith)
  is_over r q (whole gs) (refused x) i j six k =
      picked (ltb (be16 s p) 6) k (λ t z. let y : ◌≡◌ {A = ℕ} 0 1 = cc in absurd (omega arith))
      (λ t z. let y : x ≡ r = cc in let e : end_of p gs ≡ q = cc in over_past r q gs i (j ∙ ap refused y) six (ltb-false _ _ t) e)
  is_over r q short a i j six k = let z : ◌≡◌ {A = ℕ} 0 1 = cc in absurd (omega arith)
  is_over r q (dead d) a i j six k = let z : ◌≡◌ {A = ℕ} 0 1 = cc in absurd (omega arith)

  pub on_over : (r : Refused) (q : ℕ) → step_at s p ≡ Over r q → OnOver s p r q
  unfolding step_at
  on_over r q k = is_over r q (frame_walk Salvage s p) (read_at Salvage s p) refl refl (walk_six Salvage s p) k

  is_last : (r : Refused) (w : Walk) (a : Read) → frame_walk Salvage s p ≡ w → read_at Salvage s p ≡ a → step_of s p w a ≡ Last r → OnLast s p r
  is_last r (whole gs) (frame f) i j k = let z : ◌≡◌ {A = ℕ} 0 1 = cc in absurd (omega arith)
  is_last r (whole gs) (refused x) i j k =
      picked (ltb (be16 s p) 6) k
      (λ t z. let y : x ≡ r = cc in record { onward = salvaged_refused_end s p gs r i (j ∙ ap refused y) (ltb-true _ _ t); there = omega (arith, whole_six gs i) })
      (λ t z. let y : ◌≡◌ {A = ℕ} 0 1 = cc in absurd (omega arith))
  is_last r short a i j k = let z : ◌≡◌ {A = ℕ} 0 1 = cc in absurd (omega arith)
  is_last r (dead d) a i j k = let z : ◌≡◌ {A = ℕ} 0 1 = cc in absurd (omega arith)

  pub on_last : (r : Refused) → step_at s p ≡ Last r → OnLast s p r
  unfolding step_at
  on_last r k = is_last r (frame_walk Salvage s p) (read_at Salvage s p) refl refl k

  is_end : (w : Walk) (a : Read) → frame_walk Salvage s p ≡ w → step_of s p w a ≡ End → salvaged_from s p ≡ stop p
  is_end (whole gs) (frame f) i k = let z : ◌≡◌ {A = ℕ} 0 1 = cc in absurd (omega arith)
  is_end (whole gs) (refused x) i k =
      picked (ltb (be16 s p) 6) k (λ t z. let y : ◌≡◌ {A = ℕ} 0 1 = cc in absurd (omega arith)) (λ t z. let y : ◌≡◌ {A = ℕ} 0 1 = cc in absurd (omega arith))
  is_end short a i k = salvaged_short s p i
  is_end (dead q) a i k = salvaged_dead s p q i

  -- the tail
  pub on_end : step_at s p ≡ End → salvaged_from s p ≡ stop p
  unfolding step_at
  on_end k = is_end (frame_walk Salvage s p) (read_at Salvage s p) refl k
