-- `ddm_builder::lay_number` meets its contract. The invariant: the bytes from i on are laid down, and what is left is the
-- number without them.
use Rattle.ddm_builder.proofs.NumberBytes.{LayingNumber}
use Rattle.ddm_builder.proofs.lay_number.Given as goal

abbrev pub invariant-loop-i : goal.invariant-loop-i
invariant-loop-i l = LayingNumber l.initial.room l.width l.n l.room l.left l.i
