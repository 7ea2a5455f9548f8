-- `replay::parts::walk` stays within the row.
use Rattle.std.proofs.Common.{◌≤◌, length}
use Rattle.replay.proofs.parts.walk.Given as goal

abbrev pub invariant-loop-count : goal.invariant-loop-count
invariant-loop-count l = l.filled ≤ length l.row
