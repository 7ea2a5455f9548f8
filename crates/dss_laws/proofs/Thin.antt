-- A frame's payload is no longer than the bytes that the frame takes: what sums over payloads rest on.
use Prim.Native.Nat.{ℕ, ◌+◌, ◌-◌, ◌≤◌}
use native.Mathlib.Omega.{arith}
use mathlib.Core.List.{List, [], ◌∷◌}
use lib.ListN.{length, drop, length-append, length-take}
use Rattle.dss_frame.specs.declared.Rules.{Rules}
use Rattle.dss_frame.specs.Segments.{Segment, segment_bytes, payload_of, end_of}
use Rattle.dss_frame.specs.Reading.{Frame, Read, read_at}
use Rattle.dss_frame.specs.Following.{Follow}
use Rattle.dss_laws.proofs.Bounds.{OfFrame, is_frame, is_refused}
use Rattle.dss_laws.proofs.Linked.{Linked, LinkedFrame, read_linked}

-- segments that follow p hold no more bytes than lie between p and their end
abbrev pub Thin : List ℕ → ℕ → List Segment → Type 0
Thin s p gs = p + length (payload_of s gs) ≤ end_of p gs

bytes_thin : (s : List ℕ) (g : Segment) → g.at ≤ g.end → g.at + length (segment_bytes s g) ≤ g.end
bytes_thin s g h = let a : ℕ = g.at + g.framing + g.dropped in omega (arith, length-take (g.end - a) (drop a s))

linked_thin : (s : List ℕ) (gs : List Segment) (p : ℕ) → Linked p gs → Thin s p gs
unfolding Follow payload_of end_of
linked_thin s [] p k = omega arith
linked_thin s (g ∷ gs) p k =
    omega (arith, k.0, bytes_thin s g k.1, length-append (segment_bytes s g) (payload_of s gs), linked_thin s gs g.end k.2)

pub read_thin : (rules : Rules) (s : List ℕ) (p : ℕ) → OfFrame (λ (f : Frame). Thin s p f.segments) (read_at rules s p)
read_thin rules s p = of_read (read_at rules s p) (read_linked rules s p)
  where
    of_read : (r : Read) → OfFrame (LinkedFrame p) r → OfFrame (λ (f : Frame). Thin s p f.segments) r
    of_read r (is_frame f k) = is_frame f (linked_thin s f.segments p k)
    of_read r (is_refused x) = is_refused x
