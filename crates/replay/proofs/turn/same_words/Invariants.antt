-- `replay::turn::same_words` stays within the list.
use Rattle.std.proofs.Common.{◌≤◌, length}
use Rattle.replay.proofs.turn.same_words.Given as goal

abbrev pub invariant-loop-word : goal.invariant-loop-word
invariant-loop-word l = l.next ≤ length l.list
