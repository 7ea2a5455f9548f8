-- A payload where it lies: as it is, or cut into a frame's segments, of which all but the last are full.
use Rattle.std.specs.Prelude.{ℕ, zero, suc, ◌+◌, ◌*◌, ◌-◌, ◌/◌, ◌%◌, ◌≤◌, List, ◌++◌, ltb, leb, length, take, drop}
use Rattle.wire.specs.Bytes.{pick}
use Rattle.ddm_change.specs.declared.Carriage.{Carriage}

-- the payload in bytes that hold `room` bytes of it up to the first cut, 32,765 up to each later one, and two bytes of framing at each
unfoldable pub carried_bytes : ℕ → ℕ → List ℕ → List ℕ
carried_bytes room zero b = b
carried_bytes room (suc k) b = take room b ++ carried_bytes 32765 k (drop (room + 2) b)

unfoldable pub carried : Carriage → List ℕ → List ℕ
unfolding carried_bytes
carried c s = carried_bytes 32761 c.continuations (drop c.lead s)

-- the run has all its segments: the lead, and full ones up to the last continuation's two bytes
pub record SoundCarriage (c : Carriage) (s : List ℕ) : Type 0 where
  pub led : c.lead ≤ length s
  pub full : c.lead + c.continuations * 32767 ≤ length s + 4

-- how many of k continuations start at payload byte i or before it
unfoldable pub passed : ℕ → ℕ → ℕ
passed k i = pick (ltb i 32761) 0 (pick (ltb ((i - 32761) / 32765 + 1) k) ((i - 32761) / 32765 + 1) k)

-- where payload byte i stands
unfoldable pub place_of : Carriage → ℕ → ℕ
unfolding passed
place_of c i = c.lead + i + 2 * passed c.continuations i

-- how many bytes there are from i on up to the next cut
unfoldable pub uncut : ℕ → ℕ
uncut i = pick (ltb i 32761) (32761 - i) (32765 - (i - 32761) % 32765)

-- how many of `most` bytes from i on stand in one piece
unfoldable pub piece_of : ℕ → ℕ → ℕ → ℕ
unfolding passed uncut
piece_of k i most = pick (leb k (passed k i)) most (pick (ltb (uncut i) most) (uncut i) most)
