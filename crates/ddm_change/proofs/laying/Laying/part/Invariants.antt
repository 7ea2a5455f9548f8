-- `ddm_change::laying::Laying::part` meets its contract. The loop's invariant: the bytes passed are laid down. A step is a piece that
-- nothing cuts, where it stands and where it goes.
use Prim.Native.Nat.{◌-◌}
use mathlib.Core.Path.{◌≡◌}
use Rattle.ddm_change.specs.inner.Carried.{carried}
use Rattle.ddm_change.proofs.Lying.{Lying}
use Rattle.ddm_change.proofs.laying.Laying.part.Given as goal

abbrev pub invariant-loop-i : goal.invariant-loop-i
invariant-loop-i l =
    record {
      lying : Lying (carried l.payload.by l.payload.run.now) l.from l.to l.initial.self.len l.initial.self.at l.initial.self.room.now l.self.room.now l.i l.self.at;
      same_len : l.self.len ≡ l.initial.self.len;
      same_room : l.self.room.ghost_name ≡ l.initial.self.room.ghost_name;
    }

abbrev pub decreases-loop-i : goal.decreases-loop-i
decreases-loop-i l = l.to - l.i
