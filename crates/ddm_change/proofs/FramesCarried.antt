-- The one frame of a request carries its payload: how many continuations, which bytes, and where each of them stands.
use Rattle.std.specs.Prelude.{Result, Ok, Err}
use Prim.Native.Nat.{ℕ, suc, ◌+◌, ◌*◌, ◌-◌, ◌≤◌, ◌<◌}
use native.Mathlib.Omega.{arith}
use mathlib.Core.Path.{◌≡◌, refl, sym, ap, ap₂, subst, ◌∙◌}
use mathlib.Core.List.{List, [], ◌∷◌, ◌++◌, append-nil}
use lib.Dec.{ltb, leb, eqb}
use lib.ListN.{length, take, drop}
use lib.Seq.{length-take-le}
use borrow.Author.Tests.{ltb-true, ltb-false, leb-true}
use Rattle.wire.specs.Bytes.{be16, part}
use Rattle.wire.proofs.WireLaws.{by, pick_by}
use Rattle.dss_head.specs.Heads.{head_at}
use Rattle.dss_head.specs.declared.DssHeader.{DssHeader}
use Rattle.dss_frame.specs.declared.Rules.TheVariants.{Reader}
use Rattle.dss_frame.specs.Segments.{Segment, Walk, behind, first, frame_walk, payload_of, end_of}
use Rattle.dss_frame.specs.Reading.{Frame, frame}
use Rattle.dss_laws.proofs.Bounds.{OfWhole, is_whole, is_short, is_dead, OfFrame, is_frame, is_refused}
use Rattle.dss_laws.proofs.Framed.{later, later_end}
use Rattle.ddm_change.specs.Alone.{alone_at, alone_walk, alone_head}
use Rattle.ddm_change.specs.Request.{place_in}
use Rattle.ddm_change.specs.inner.Carried.{carried_bytes, carried, SoundCarriage, passed, place_of}
use Rattle.ddm_change.proofs.CarriedLaws.{passed_none, passed_is}
use Rattle.ddm_change.proofs.AloneLaws.{alone_as}
use Rattle.ddm_change.proofs.Continued.{FollowOn, continuations_follow, taken_rest, taken_full, taken_next, later_payload, later_length, place_in_lem, place_behind, place_last, later_places, passed_behind}
use Rattle.ddm_change.specs.declared.Carriage.{Carriage}
use Rattle.answer.specs.declared.Refused.{Refused}

-- ---- its segments

-- the segments of a frame at the run's start
data Shape (s : List ℕ) : List Segment → Type 0 where
  single : be16 s 0 ≤ length s → Shape s (first 0 (be16 s 0) ∷ [])
  several : (gs : List Segment) → FollowOn s 32767 gs → Shape s (first 0 32767 ∷ gs)

shape_behind : (s : List ℕ) (w : Walk) → OfWhole (FollowOn s 32767) w → OfWhole (Shape s) (behind (first 0 32767) w)
shape_behind s w (is_whole gs r) = is_whole _ (several gs r)
shape_behind s w is_short = is_short
shape_behind s w (is_dead d) = is_dead d

walk_shape : (s : List ℕ) → OfWhole (Shape s) (frame_walk Reader s 0)
unfolding frame_walk
walk_shape s =
    pick_by (OfWhole (Shape s)) (ltb (length s - 0) 6) _ _ (λ e. is_short)
    (λ e. pick_by (OfWhole (Shape s)) (eqb (be16 s 0) 65535) _ _
    (λ e₁. pick_by (OfWhole (Shape s)) (leb 32767 (length s - 0)) _ _ (λ e₂. shape_behind s _ (continuations_follow s 32767)) (λ e₂. is_short))
    (λ e₁. pick_by (OfWhole (Shape s)) (leb (be16 s 0) (length s - 0)) _ _
    (λ e₂. is_whole _ (single (omega (arith, leb-true (be16 s 0) (length s - 0) e₂)))) (λ e₂. is_short)))

-- ---- the frame

-- a frame of so many segments
abbrev pub carriage_in : ℕ → Carriage
carriage_in n = record { lead = 6; continuations = n - 1 }

-- how the frame carries its payload, up to its end
pub record Carries (s : List ℕ) (f : Frame) : Type 0 where
  pub some : 1 ≤ length f.segments
  pub within : end_of 0 f.segments ≤ length s
  pub sound : SoundCarriage (carriage_in (length f.segments)) (take (end_of 0 f.segments) s)
  pub payload_is : payload_of s f.segments ≡ carried (carriage_in (length f.segments)) (take (end_of 0 f.segments) s)
  pub places : (i : ℕ) → place_in 0 f.segments i ≡ place_of (carriage_in (length f.segments)) i

carries_sound : (s : List ℕ) (k e : ℕ) → e ≤ length s → 6 ≤ e → 6 + k * 32767 ≤ e + 4 → SoundCarriage (record { lead = 6; continuations = k }) (take e s)
carries_sound s k e h x y = let l : length (take e s) ≡ e = length-take-le e s h in record { led = omega arith; full = omega arith }

-- in one segment
single_carries : (s : List ℕ) (h : DssHeader) → 6 ≤ be16 s 0 → be16 s 0 ≤ length s → Carries s (record { head = h; segments = first 0 (be16 s 0) ∷ [] })
unfolding end_of payload_of carried carried_bytes place_of
single_carries s h x y =
    let n : ℕ = be16 s 0 in
    record {
      some = omega arith;
      within = omega arith;
      sound = carries_sound s 0 (0 + n) (omega arith) (omega arith) (omega arith);
      payload_is = append-nil (part s 6 (0 + n)) ∙ taken_rest s 6 (0 + n) (omega arith) (omega arith);
      places = λ i. place_last 0 (first 0 n) i 6 (n - 6) refl (omega arith) ∙ omega (arith, (passed_is 0 i).0);
    }

-- in several
several_payload : (s : List ℕ) (k l e : ℕ) → 2 ≤ l → e ≡ 32767 + k * 32767 + l → e ≤ length s
    → part s 6 32767 ++ payload_of s (later k 32767 l) ≡ carried_bytes 32761 (suc k) (drop 6 (take e s))
unfolding carried_bytes
several_payload s k l e t i h =
    ap₂ (λ (x b : List ℕ). x ++ b) (taken_full s e 0 6 32767 32761 h (omega arith) refl)
    (later_payload k s 32767 l e t i h ∙ ap (carried_bytes 32765 k) (sym (taken_next (take e s) 6 32763 32769 refl)))

several_places : (k l i : ℕ) → 2 ≤ l → place_in 0 (first 0 32767 ∷ later k 32767 l) i ≡ 6 + i + 2 * passed (suc k) i
several_places k l i t =
    by (ltb i 32761)
    (λ u. let h : i < 32761 = ltb-true _ _ u in
    place_in_lem 0 (first 0 32767) (later k 32767 l) i 6 32761 refl refl h ∙ omega (arith, passed_none (suc k) i h))
    (λ u. let h : 32761 ≤ i = ltb-false _ _ u in
    place_behind 0 (first 0 32767) (later k 32767 l) i 6 32761 refl refl h
    ∙ later_places k 32767 32767 l (i - 32761) t
    ∙ omega (arith, passed_behind k i h))

several_carries : (s : List ℕ) (h : DssHeader) (k l : ℕ) → 2 ≤ l → 32767 + k * 32767 + l ≤ length s
    → Carries s (record { head = h; segments = first 0 32767 ∷ later k 32767 l })
unfolding end_of payload_of carried place_of
several_carries s h k l t y =
    let e : ℕ = end_of 32767 (later k 32767 l) in
    let i : e ≡ 32767 + k * 32767 + l = later_end k 32767 32767 l in
    let n : ℕ = suc (length (later k 32767 l)) - 1 in
    let c : n ≡ suc k = omega (arith, later_length k 32767 l) in
    record {
      some = omega arith;
      within = omega arith;
      sound = carries_sound s n e (omega arith) (omega arith) (omega arith);
      payload_is = several_payload s k l e t i (omega arith) ∙ ap (λ (m : ℕ). carried_bytes 32761 m (drop 6 (take e s))) (sym c);
      places = λ j. several_places k l j t ∙ ap (λ (m : ℕ). 6 + j + 2 * passed m j) (sym c);
    }

shape_carries : (s : List ℕ) (h : DssHeader) (gs : List Segment) → 6 ≤ be16 s 0 → Shape s gs → Carries s (record { head = h; segments = gs })
shape_carries s h gs x (single y) = single_carries s h x y
shape_carries s h gs x (several rest r) =
    subst (λ (l : List Segment). Carries s (record { head = h; segments = first 0 32767 ∷ l })) (sym r.is)
    (several_carries s h r.many r.last r.two r.there)

alone_carries : (s : List ℕ) → OfFrame (Carries s) (alone_at Reader s 0)
alone_carries s = subst (OfFrame (Carries s)) (sym (alone_as s)) (by_walk (frame_walk Reader s 0) (walk_shape s))
  where
    by_head : (gs : List Segment) → Shape s gs → (h : Result DssHeader Refused) → OfFrame (Carries s) (alone_head s 0 gs h)
    by_head gs g (Err r) = is_refused r
    by_head gs g (Ok h) =
        pick_by (OfFrame (Carries s)) (ltb (be16 s 0) 6) _ _ (λ e. is_refused _) (λ e. is_frame _ (shape_carries s h gs (ltb-false _ _ e) g))

    by_walk : (w : Walk) → OfWhole (Shape s) w → OfFrame (Carries s) (alone_walk s 0 w)
    by_walk w (is_whole gs g) = by_head gs g (head_at s 0)
    by_walk w is_short = is_refused _
    by_walk w (is_dead q) = is_refused _

of_frame : {P : Frame → Type 0} {f : Frame} → OfFrame P (frame f) → P f
of_frame (is_frame f p) = p

pub carries : (s : List ℕ) (f : Frame) → alone_at Reader s 0 ≡ frame f → Carries s f
carries s f e = of_frame (subst (OfFrame (Carries s)) e (alone_carries s))
