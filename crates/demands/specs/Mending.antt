-- Document 02, W-203, "Stop waiting for what can't come": 16 is exactly what no further bytes can mend. A statement about any
-- reader, and the position that it leaves.
use Rattle.std.specs.Prelude.{ℕ, ◌≤◌, ◌≡◌, ◌↔◌, Bool, true, false, List, ◌++◌, eqb, length, Result, Ok, Err}
use Rattle.wire.specs.Bytes.{Octets}
use Rattle.answer.specs.Numbers.{number_of, not_whole}
use Rattle.answer.specs.declared.Refused.{Refused}
use Rattle.dss_frame.specs.declared.Rules.{Rules}
use Rattle.dss_frame.specs.Segments.{Segment, whole, frame_walk}
use Rattle.dss_frame.specs.Reading.{Read, frame, refused}
use Rattle.demands.specs.Demands.{Reader}
use Rattle.demands.specs.Longer.{DeadStays}

-- where a reader stands when it has read at a place of a run
abbrev pub Stand : Type 0
Stand = List ℕ → ℕ → ℕ

-- the answer says that the frame isn't whole, yet or ever
abbrev pub waits : Read → Bool
waits (frame f) = false
waits (refused r) = not_whole r.why

-- bytes with which the frame at p is whole, and the reader says so: it hands the frame out, or refuses a head
pub record Mended (rules : Rules) (reads : Reader) (s : List ℕ) (p : ℕ) : Type 0 where
  pub more : List ℕ
  pub bytes : Octets more
  pub segments : List Segment
  pub walks : frame_walk rules (s ++ more) p ≡ whole segments
  pub says : waits (reads (s ++ more) p) ≡ false

-- "16 says a continuation length of 0 or 1 was reached in an otherwise present frame, with the place of that length; 1 remains
-- for all else"
pub record StopsWaiting (rules : Rules) (reads : Reader) (stands : Stand) : Type 0 where
  -- "Both equal the Rust's `None`": one of the two is answered where the frame isn't whole, and nowhere else
  pub none : (s : List ℕ) (p : ℕ) → p ≤ length s → (waits (reads s p) ≡ true) ↔ ((gs : List Segment) → frame_walk rules s p ≡ whole gs → ⊥)
  -- such a length is answered with 16 and its place, over that run and any longer one
  pub dead : DeadStays rules reads
  -- 16 stays as it is whatever bytes follow, and the reader stays where it is
  pub never : (s t : List ℕ) (p : ℕ) (r : Refused) → p ≤ length s → reads s p ≡ refused r → number_of r.why ≡ 16 → (reads (s ++ t) p ≡ refused r) × (stands (s ++ t) p ≡ p)
  -- with 1 it stays too, and there are bytes that mend it
  pub yet : (s : List ℕ) (p : ℕ) (r : Refused) → p ≤ length s → reads s p ≡ refused r → number_of r.why ≡ 1 → (stands s p ≡ p) × Mended rules reads s p

-- ---- and what stands before such a frame

-- the frame's end is known, or that it never comes: what `frame_end` answers is 0 or 16
abbrev pub decided : Result ℕ Refused → Bool
decided (Ok e) = true
decided (Err r) = eqb (number_of r.why) 16
