-- `ddm_length::unmarked_len` meets its contract. The invariant: so many bytes are kept so far, and so much is left of the data.
use native.Mathlib.Omega.{arith}
use mathlib.Core.Path.{sym, ◌∙◌, ap}
use borrow.Author.Tests.{eqb-true}
use lib.ListN.{length}
use Rattle.wire.proofs.WireLaws.{pick_no}
use Rattle.wire.proofs.LentParts.{tail_drop}
use Rattle.ddm_length.specs.Markers.{unmarked}
use Rattle.ddm_length.proofs.MarkerLaws.{unmarked_length}
use Rattle.ddm_length.proofs.MarkerPieces.{keeping_start, keeping_step, keeping_end, part_fits}
use Rattle.ddm_length.proofs.unmarked_len.Goals as goal

pub returns-then-not-has_markers : goal.returns-then-not-has_markers
unfolding unmarked
returns-then-not-has_markers c = ap length (sym (pick_no _ _ (sym c.has_markers.ensures ∙ c.if-not-has_markers.true)))

pub loop-left-init : goal.loop-left-init
loop-left-init c = rw (tail_drop c.args.«data».now 32757) (keeping_start _ (sym c.has_markers.ensures ∙ c.if-not-has_markers.false)).1

pub overflow_add-len : goal.overflow_add-len
overflow_add-len c = omega (arith, part_fits _ _ _ _ _ c.loop-left.invariant c.next_part.ensures, unmarked_length c.args.«data».now)

pub loop-left-preserved : goal.loop-left-preserved
loop-left-preserved c = keeping_step _ _ _ _ _ c.loop-left.invariant c.next_part.ensures

pub returns : goal.returns
returns c = keeping_end _ _ _ c.loop-left.invariant (eqb-true _ _ (sym c.is_empty.ensures ∙ c.loop-left-test.false))
