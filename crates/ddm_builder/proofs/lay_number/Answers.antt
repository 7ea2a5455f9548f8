-- `ddm_builder::lay_number` meets its contract. The invariant: the bytes from i on are laid down, and what is left is the
-- number without them.
use native.Mathlib.Omega.{arith}
use mathlib.Core.Path.{sym}
use Rattle.wire.specs.Bytes.{last}
use Rattle.wire.proofs.Widths.{length_last}
use Rattle.wire.proofs.Splicing.{laid_kept}
use Rattle.ddm_builder.proofs.NumberBytes.{laying_start, laying_step, laying_end}
use Rattle.ddm_builder.proofs.lay_number.Goals as goal

pub returns-then-room-width : goal.returns-then-room-width
returns-then-room-width c =
    let s = c.args in
    sym (laid_kept s.room.now 0 (last s.width s.n) (omega (arith, length_last s.width s.n)))

pub loop-i-init : goal.loop-i-init
loop-i-init c = laying_start _ _ _

pub loop-i-preserved : goal.loop-i-preserved
loop-i-preserved c = laying_step _ _ _ c.if-room-width.false _ _ _ c.loop-i.invariant c.loop-i-test.true

pub returns : goal.returns
returns c = laying_end _ _ _ _ _ _ c.if-room-width.false c.loop-i.invariant c.loop-i-test.false
