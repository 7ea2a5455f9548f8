-- `text::Text::put_text` meets its contract. The loop's invariant: the bytes that are left, put into the room as it is, come to all of
-- them put into the room as it was.
use mathlib.Core.Path.{◌≡◌}
use lib.ListN.{drop}
use Rattle.text.proofs.PutLaws.{Leads}
use Rattle.text.proofs.Text.put_text.Given as goal

abbrev pub invariant-loop-byte : goal.invariant-loop-byte
invariant-loop-byte l =
    record {
      same_room : l.self.room.ghost_name ≡ l.initial.self.room.ghost_name;
      leads : Leads l.words l.initial.self.room.now l.initial.self.at (drop l.byte-index l.words) l.self.room.now l.self.at;
    }
