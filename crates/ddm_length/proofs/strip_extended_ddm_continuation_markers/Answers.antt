-- `ddm_length::strip_extended_ddm_continuation_markers` meets its contract: the length is measured first, and nothing is laid
-- down unless it fits. Data without markers is laid down as it is.
use native.Mathlib.Omega.{arith}
use mathlib.Core.Path.{sym, ◌∙◌, ap}
use borrow.Author.Tests.{le-leb, lt-leb}
use Rattle.wire.specs.Bytes.{laid}
use Rattle.wire.proofs.WireLaws.{pick_no}
use Rattle.wire.proofs.Splicing.{laid_kept}
use Rattle.ddm_length.specs.Markers.{unmarked}
use Rattle.ddm_length.proofs.strip_extended_ddm_continuation_markers.Goals as goal

pub returns-then-work-need : goal.returns-then-work-need
returns-then-work-need c =
    let t = c in
    let s = t.args in
    let n = t.unmarked_len-need in
    record {
      answers = rw (c.no_room.ensures, ← n.ensures) (simp (lt-leb _ _ t.if-work-need.true));
      room_is = sym (laid_kept s.work.now 0 (unmarked s.«data».now) (omega arith));
    }

pub returns-else-has_markers : goal.returns-else-has_markers
unfolding unmarked
returns-else-has_markers c =
    let s = c.args in
    record {
      answers = rw (← c.unmarked_len-need.ensures) (simp (le-leb _ _ c.if-work-need.false));
      room_is = c.copy.ensures ∙ ap (laid s.work.now 0) (sym (pick_no _ _ (sym c.has_markers.ensures ∙ c.if-has_markers.false)));
    }
