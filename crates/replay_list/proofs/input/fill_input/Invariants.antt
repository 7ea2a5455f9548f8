-- `replay_list::input::fill_input` stays within the list and the run. A turn lays one piece down.
use Rattle.std.proofs.Common.{◌≤◌, length}
use Rattle.replay_list.proofs.input.fill_input.Given as goal

abbrev pub invariant-loop : goal.invariant-loop
invariant-loop l = (l.len ≤ length l.run) × (l.next ≤ length l.list)
