-- What putting a text into a lent room comes to, of the room and its mark as they go from call to call.
use Rattle.std.specs.Prelude.{ℕ, ◌≡◌, List}
use Rattle.text.specs.declared.Text.{Text}
use Rattle.text.specs.inner.Puts.{Puts}

-- The text is put at the mark, and the room is still the one that was lent.
pub record PutsText (words : List ℕ) (before after : Text) : Type 0 where
  pub puts : Puts words before.room.now before.at after.at after.room.now
  pub same_room : after.room.ghost_name ≡ before.room.ghost_name
