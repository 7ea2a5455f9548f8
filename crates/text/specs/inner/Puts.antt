-- What putting a text into a lent room comes to.
use Rattle.std.specs.Prelude.{ℕ, ◌+◌, ◌≡◌, List, length}
use Rattle.std.proofs.lemmas.List.Edits.{sets}
use Rattle.answer.specs.Rooms.{capped}

-- The text's bytes are stored from the mark `at` on, as far as the room goes, and the new mark is behind its last byte, also where
-- the room ends before; a mark above 2^64 - 1 is given as that.
pub record Puts (text room : List ℕ) (at r : ℕ) (after : List ℕ) : Type 0 where
  pub mark : r ≡ capped (at + length text)
  pub room_is : after ≡ sets room at text
