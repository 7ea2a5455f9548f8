-- What a frame that is read was made of: its own segments are whole, its head is found, and then it is those or what it absorbs.
use Rattle.std.specs.Prelude.{Result, Ok, Err}
use Prim.Native.Nat.{ℕ, ◌+◌, ◌-◌, ◌≤◌}
use native.Mathlib.Omega.{arith}
use mathlib.Core.Path.{◌≡◌, refl, sym, ap, ◌∙◌}
use mathlib.Core.List.{List, [], ◌∷◌}
use lib.Dec.{ltb, leb, eqb}
use lib.ListN.{length}
use borrow.Author.Tests.{ltb-false, leb-true, eq-eqb, ne_eqb}
use Rattle.wire.specs.Bytes.{pick, be16}
use Rattle.wire.proofs.WireLaws.{picked, true_false, pick_yes, pick_no}
use Rattle.answer.specs.declared.Refused.{Refused}
use Rattle.dss_head.specs.Heads.{head_at}
use Rattle.dss_head.specs.declared.DssHeader.{DssHeader}
use Rattle.dss_frame.specs.declared.Rules.{Rules}
use Rattle.dss_frame.specs.Segments.{Segment, Walk, whole, short, dead, behind, first, continuations, frame_walk}
use Rattle.dss_frame.specs.Reading.{Frame, frame, refused, read_at, read_walk, read_head, absorb}

-- ---- segments

-- a walk with a segment before it is whole if it is
pub record Behind (g : Segment) (w : Walk) (gs : List Segment) : Type 0 where
  pub rest : List Segment
  pub is : w ≡ whole rest
  pub segments : gs ≡ g ∷ rest

pub behind_whole : (g : Segment) (w : Walk) (gs : List Segment) → behind g w ≡ whole gs → Behind g w gs
behind_whole g (whole hs) gs e = record { rest = hs; is = refl; segments = cc }
behind_whole g short gs e = let z : ◌≡◌ {A = ℕ} 0 1 = cc in absurd (omega arith)
behind_whole g (dead q) gs e = let z : ◌≡◌ {A = ℕ} 0 1 = cc in absurd (omega arith)

pub not_whole_lem : (gs : List Segment) → short ≡ whole gs → ⊥
not_whole_lem gs e = let z : ◌≡◌ {A = ℕ} 0 1 = cc in omega arith

pub not_frame : (r : Refused) (f : Frame) → refused r ≡ frame f → ⊥
not_frame r f e = let z : ◌≡◌ {A = ℕ} 0 1 = cc in omega arith

-- ---- a frame

record Found (rules : Rules) (s : List ℕ) (p : ℕ) (f : Frame) : Type 0 where
  head : DssHeader
  segments : List Segment
  walk : frame_walk rules s p ≡ whole segments
  six : 6 ≤ be16 s p
  reads : pick (eqb (be16 s p) 65535) (frame (record { head = head; segments = segments })) (absorb rules s p head segments) ≡ frame f

module _ (rules : Rules) (s : List ℕ) (p : ℕ) (f : Frame) where
  by_head : (gs : List Segment) → frame_walk rules s p ≡ whole gs → (h : Result DssHeader Refused) → read_head rules s p gs h ≡ frame f → Found rules s p f
  by_head gs w (Err r) e = absurd (not_frame r f e)
  by_head gs w (Ok h) e =
      picked (ltb (be16 s p) 6) e (λ t k. absurd (not_frame _ f k))
      (λ t k. record { head = h; segments = gs; walk = w; six = ltb-false _ _ t; reads = k })

  by_walk : (w : Walk) → frame_walk rules s p ≡ w → read_walk rules s p w ≡ frame f → Found rules s p f
  by_walk (whole gs) w e = by_head gs w (head_at s p) e
  by_walk short w e = absurd (not_frame _ f e)
  by_walk (dead q) w e = absurd (not_frame _ f e)

  found : read_at rules s p ≡ frame f → Found rules s p f
  unfolding read_at
  found e =
      picked (leb p (length s)) e (λ t k. by_walk (frame_walk rules s p) refl k) (λ t k. absurd (not_frame _ f k))

-- a frame of raw length 0xFFFF: 32,767 bytes and its continuations
pub record Several (rules : Rules) (s : List ℕ) (p : ℕ) (f : Frame) : Type 0 where
  pub rest : List Segment
  pub there : p + 32767 ≤ length s
  pub walk : continuations rules s (p + 32767) ≡ whole rest
  pub segments : f.segments ≡ first p 32767 ∷ rest

-- any other: its own bytes, and all that it absorbs
pub record Single (rules : Rules) (s : List ℕ) (p : ℕ) (f : Frame) : Type 0 where
  pub head : DssHeader
  pub six : 6 ≤ be16 s p
  pub there : p + be16 s p ≤ length s
  pub reads : absorb rules s p head (first p (be16 s p) ∷ []) ≡ frame f

module _ (rules : Rules) (s : List ℕ) (p : ℕ) (f : Frame) (e : read_at rules s p ≡ frame f) where
  module _ (k : be16 s p ≡ 65535) where
    several_walk : (gs : List Segment) → frame_walk rules s p ≡ whole gs → (p + 32767 ≤ length s) × (behind (first p 32767) (continuations rules s (p + 32767)) ≡ whole gs)
    unfolding frame_walk
    several_walk gs w =
        picked (ltb (length s - p) 6) w (λ t z. absurd (not_whole_lem gs z))
        (λ t z. let six : 6 ≤ length s - p = ltb-false _ _ t in
        picked (eqb (be16 s p) 65535) z
        (λ t₁ z₁. picked (leb 32767 (length s - p)) z₁ (λ t₂ z₂. (omega (arith, leb-true 32767 (length s - p) t₂), z₂)) (λ t₂ z₂. absurd (not_whole_lem gs z₂)))
        (λ t₁ z₁. absurd (true_false _ (eq-eqb (be16 s p) 65535 k) t₁)))

    pub several : Several rules s p f
    several =
        let w : Found rules s p f = found rules s p f e in
        let v = several_walk w.segments w.walk in
        let b : Behind (first p 32767) (continuations rules s (p + 32767)) w.segments = behind_whole _ _ _ v.1 in
        let z : ◌≡◌ {A = Frame} (record { head = w.head; segments = w.segments }) f = as_frame _ (sym (pick_yes _ _ (eq-eqb (be16 s p) 65535 k)) ∙ w.reads) in
        record { rest = b.rest; there = v.0; walk = b.is; segments = sym (ap (λ (x : Frame). x.segments) z) ∙ b.segments }
      where
        as_frame : (x : Frame) → frame x ≡ frame f → x ≡ f
        as_frame x i = cc

  module _ (k : be16 s p ≡ 65535 → ⊥) where
    single_walk : (gs : List Segment) → frame_walk rules s p ≡ whole gs → (p + be16 s p ≤ length s) × (whole (first p (be16 s p) ∷ []) ≡ whole gs)
    unfolding frame_walk
    single_walk gs w =
        picked (ltb (length s - p) 6) w (λ t z. absurd (not_whole_lem gs z))
        (λ t z. let six : 6 ≤ length s - p = ltb-false _ _ t in
        picked (eqb (be16 s p) 65535) z
        (λ t₁ z₁. absurd (true_false _ t₁ (ne_eqb (be16 s p) 65535 k)))
        (λ t₁ z₁. picked (leb (be16 s p) (length s - p)) z₁ (λ t₂ z₂. (omega (arith, leb-true (be16 s p) (length s - p) t₂), z₂)) (λ t₂ z₂. absurd (not_whole_lem gs z₂))))

    pub single : Single rules s p f
    single =
        let w : Found rules s p f = found rules s p f e in
        let v = single_walk w.segments w.walk in
        record {
          head = w.head;
          six = w.six;
          there = v.0;
          reads = ap (absorb rules s p w.head) (as_segments _ _ v.1) ∙ sym (pick_no _ _ (ne_eqb (be16 s p) 65535 k)) ∙ w.reads;
        }
      where
        as_segments : (gs hs : List Segment) → whole gs ≡ whole hs → gs ≡ hs
        as_segments gs hs i = cc
