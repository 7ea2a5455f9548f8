-- `ddm_length::lay_kept` meets its contract. The invariant: so many bytes are kept so far, so much is left of the data, and the
-- work area holds what is kept.
use mathlib.Core.Path.{sym, ◌∙◌}
use borrow.Author.Tests.{eqb-true}
use Rattle.ddm_length.proofs.MarkerPieces.{keeping_start, keeping_step, laid_more, first_laid, all_laid}
use Rattle.ddm_length.proofs.lay_kept.Goals as goal

pub loop-left-init : goal.loop-left-init
loop-left-init c =
    let s = c in
    rw (s.split_at.ensures.back, s.split_at.ensures.front_len) (
      (keeping_start s.args.«data».now s.requires.data_value).1,
      first_laid s.args.«data».now s.args.work.now _ s.requires.data_value s.requires.data_in_bounds (rw (← s.split_at.ensures.front) c.copy.ensures),
    )

pub loop-left-preserved : goal.loop-left-preserved
loop-left-preserved c =
    let l = c.loop-left in (
      keeping_step _ _ _ _ _ l.invariant.0 c.next_part.ensures,
      c.lay_at.ensures ∙ laid_more _ _ _ _ _ l.invariant.0 c.next_part.ensures _ _ c.requires.data_in_bounds l.invariant.1,
    )

pub returns : goal.returns
returns c =
    let l = c.loop-left in
    all_laid _ _ _ _ _ l.invariant.0 (eqb-true _ _ (sym c.is_empty.ensures ∙ c.loop-left-test.false)) c.requires.data_in_bounds l.invariant.1
