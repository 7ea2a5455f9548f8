-- `listing::put_frames` meets its contract. The loop's invariant: the lines from the present position on, put into the room as it is, come
-- to all lines put into the room as it was. The measure is what is left of the run.
use Prim.Native.Nat.{◌-◌, ◌≤◌}
use mathlib.Core.Path.{◌≡◌}
use lib.ListN.{length}
use Rattle.text.proofs.PutLaws.{Leads}
use Rattle.listing.specs.ListTexts.{frames_text, lines_from}
use Rattle.listing.proofs.put_frames.Given as goal

abbrev pub invariant-loop-measure : goal.invariant-loop-measure
invariant-loop-measure l =
    record {
      there : l.position ≤ length l.run;
      leads : Leads (frames_text l.run) l.initial.text.room.now l.initial.text.at (lines_from l.run l.position) l.text.room.now l.text.at;
      same_room : l.text.room.ghost_name ≡ l.initial.text.room.ghost_name;
    }

abbrev pub decreases-loop-measure : goal.decreases-loop-measure
decreases-loop-measure l = length l.run - l.position
