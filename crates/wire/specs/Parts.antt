-- Which part of a lent slice a call hands back: its bytes, and where it starts in memory.
use Rattle.std.specs.Prelude.{ℕ, ◌+◌, ◌≡◌, List, leb, length, drop}
use Rattle.std.specs.Borrow.{Bor}
use Rattle.wire.specs.Bytes.{pick}

-- where the part of a slice from an offset on starts in memory
abbrev pub start_at : Bor (List ℕ) → ℕ → ℕ × ℕ
start_at x a = (x.ref_ptr.0, a + x.ref_ptr.1)

-- all that stands from a place on: beyond the data the empty part at its end
pub record RestAt (d : Bor (List ℕ)) (at : ℕ) (r : Bor (List ℕ)) : Type 0 where
  pub bytes_are : r.now ≡ drop at d.now
  pub starts : r.ref_ptr ≡ start_at d (pick (leb at (length d.now)) at (length d.now))
