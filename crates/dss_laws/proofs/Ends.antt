-- Where a list of segments ends, and what it holds, as segments are joined.
use Prim.Native.Nat.{ℕ}
use mathlib.Core.Path.{◌≡◌, refl, sym, ap, ◌∙◌}
use mathlib.Core.List.{List, [], ◌∷◌, ◌++◌, append_assoc, append-nil}
use Rattle.dss_frame.specs.Segments.{Segment, segment_bytes, payload_of, end_of}

pub end_append : (p : ℕ) (gs hs : List Segment) → end_of p (gs ++ hs) ≡ end_of (end_of p gs) hs
unfolding end_of
end_append p [] hs = refl
end_append p (g ∷ gs) hs = end_append g.end gs hs

pub end_snoc : (p : ℕ) (gs : List Segment) (g : Segment) → end_of p (gs ++ (g ∷ [])) ≡ g.end
unfolding end_of
end_snoc p gs g = end_append p gs (g ∷ [])

-- the payloads of segments that are joined
pub payload_append : (s : List ℕ) (gs hs : List Segment) → payload_of s (gs ++ hs) ≡ payload_of s gs ++ payload_of s hs
unfolding payload_of
payload_append s [] hs = refl
payload_append s (g ∷ gs) hs = ap (λ (l : List ℕ). segment_bytes s g ++ l) (payload_append s gs hs) ∙ sym (append_assoc (segment_bytes s g) (payload_of s gs) (payload_of s hs))

pub payload_one : (s : List ℕ) (g : Segment) → payload_of s (g ∷ []) ≡ segment_bytes s g
unfolding payload_of
payload_one s g = append-nil (segment_bytes s g)

pub payload_snoc : (s : List ℕ) (gs : List Segment) (g : Segment) → payload_of s (gs ++ (g ∷ [])) ≡ payload_of s gs ++ segment_bytes s g
payload_snoc s gs g = payload_append s gs (g ∷ []) ∙ ap (λ (l : List ℕ). payload_of s gs ++ l) (payload_one s g)
