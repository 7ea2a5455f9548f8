-- Where the length stands that a frame is never whole for: at its place, inside the run (W-203).
use Prim.Native.Nat.{ℕ, ◌+◌, ◌≤◌}
use native.Mathlib.Omega.{arith}
use mathlib.Core.List.{List, ◌∷◌}
use lib.ListN.{length}
use Rattle.dss_frame.specs.declared.Rules.{Rules}
use Rattle.dss_frame.specs.Segments.{Segment, Walk, whole, short, dead, behind, continuation, first, continuations, frame_walk}
use Rattle.dss_laws.proofs.WalkCases.{continuations_by, frame_by}

-- what holds of the place of a walk's dead length, if there is one
pub data OfDead (P : ℕ → Type 0) : Walk → Type 0 where
  not_dead : (gs : List Segment) → OfDead P (whole gs)
  not_yet : OfDead P short
  dead_at : (q : ℕ) → P q → OfDead P (dead q)

abbrev pub Inside : List ℕ → ℕ → ℕ → Type 0
Inside s q d = (q ≤ d) × (d + 2 ≤ length s)

behind_dead : (s : List ℕ) (q r : ℕ) (g : Segment) (w : Walk) → q ≤ r → OfDead (Inside s r) w → OfDead (Inside s q) (behind g w)
behind_dead s q r g w l (not_dead gs) = not_dead (g ∷ gs)
behind_dead s q r g w l not_yet = not_yet
behind_dead s q r g w l (dead_at d k) = dead_at d (omega arith)

continuations_dead : (rules : Rules) (s : List ℕ) (q : ℕ) → OfDead (Inside s q) (continuations rules s q)
continuations_dead rules s =
    continuations_by rules s (λ q w. OfDead (Inside s q) w) (λ q. not_yet) (λ q l. dead_at q (omega arith)) (λ q l c h. not_dead _)
    (λ q w l k. behind_dead s q (q + 32767) (continuation q 32767) w (omega arith) k)

pub frame_dead : (rules : Rules) (s : List ℕ) (p : ℕ) → OfDead (Inside s p) (frame_walk rules s p)
frame_dead rules s p =
    frame_by rules s (OfDead (Inside s p)) p not_yet (λ l h. not_dead _)
    (λ l. behind_dead s p (p + 32767) (first p 32767) _ (omega arith) (continuations_dead rules s (p + 32767)))
