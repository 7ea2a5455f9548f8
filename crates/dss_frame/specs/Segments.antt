-- Segments, and the walk over a frame's continuations: document 01, "Reading", "The frame's end".
use Rattle.std.specs.Prelude.{ℕ, zero, suc, ◌+◌, ◌-◌, ◌/◌, List, [], ◌∷◌, ◌++◌, ltb, leb, eqb, length}
use Rattle.wire.specs.Bytes.{pick, be16, part}
use Rattle.dss_head.specs.declared.Chunk.{Chunk}
use Rattle.dss_head.specs.declared.Chunk.TheVariants.{Dead, Last, Full}
use Rattle.dss_frame.specs.Rules.{chunk_under}
use Rattle.dss_frame.specs.declared.Rules.{Rules}

-- a segment of a run: its first byte, how many bytes of framing stand first (6 or 2), how many marker bytes behind
-- them are dropped (0 or 2), and the byte after its last
pub record Segment : Type 0 where
  pub at : ℕ
  pub framing : ℕ
  pub dropped : ℕ
  pub end : ℕ

-- what a segment adds to the payload
abbrev pub segment_bytes : List ℕ → Segment → List ℕ
segment_bytes s g = part s (g.at + g.framing + g.dropped) g.end

-- the payload of a list of segments: their bytes joined
unfoldable pub payload_of : List ℕ → List Segment → List ℕ
payload_of s [] = []
payload_of s (g ∷ gs) = segment_bytes s g ++ payload_of s gs

-- where a list of segments that follows `from` ends
unfoldable pub end_of : ℕ → List Segment → ℕ
end_of from [] = from
end_of from (g ∷ gs) = end_of g.end gs

-- what a walk finds: the frame's segments, or that it isn't whole; then, whether bytes are missing, or a continuation
-- length of 0 or 1 stands at a place, which no further bytes can mend
pub data Walk : Type 0 where
  whole : List Segment → Walk
  short : Walk
  dead : ℕ → Walk

abbrev pub behind : Segment → Walk → Walk
behind g (whole gs) = whole (g ∷ gs)
behind g short = short
behind g (dead q) = dead q

-- a continuation of n bytes at q
abbrev pub continuation : ℕ → ℕ → Segment
continuation q n = record { at = q; framing = 2; dropped = 0; end = q + n }

-- What becomes of a continuation, by what the rules decide: one that is never whole; a last one, of as many bytes as its length says;
-- a full one, which takes "32,767 bytes and another must follow"
abbrev pub step : List ℕ → ℕ → Chunk → (ℕ → Walk) → Walk
step s q Dead more = dead q
step s q Last more = pick (leb (be16 s q) (length s - q)) (whole (continuation q (be16 s q) ∷ [])) short
step s q Full more = pick (leb 32767 (length s - q)) (behind (continuation q 32767) (more (q + 32767))) short

-- the continuations from q on, at most `fuel` of them
unfoldable pub walk_fuel : ℕ → Rules → List ℕ → ℕ → Walk
walk_fuel zero rules s q = short
walk_fuel (suc fuel) rules s q = pick (ltb (length s - q) 2) short (step s q (chunk_under rules (be16 s q)) (λ r. walk_fuel fuel rules s r))

-- each but the last takes 32,767 bytes
unfoldable pub continuations : Rules → List ℕ → ℕ → Walk
unfolding walk_fuel
continuations rules s q = walk_fuel (suc ((length s - q) / 32767)) rules s q

abbrev pub first : ℕ → ℕ → Segment
first p n = record { at = p; framing = 6; dropped = 0; end = p + n }

-- "The frame's end": its own segments, before anything that follows is looked at
unfoldable pub frame_walk : Rules → List ℕ → ℕ → Walk
unfolding continuations
frame_walk rules s p =
    pick (ltb (length s - p) 6) short
    (pick (eqb (be16 s p) 0xFFFF)
    (pick (leb 32767 (length s - p)) (behind (first p 32767) (continuations rules s (p + 32767))) short)
    (pick (leb (be16 s p) (length s - p)) (whole (first p (be16 s p) ∷ [])) short))
