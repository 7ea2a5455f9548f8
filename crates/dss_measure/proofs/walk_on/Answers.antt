-- `dss_measure::walk_on` meets its contract: each return is one of the laws of the walk from the present place.
use Rattle.std.specs.Prelude.{Err}
use native.Mathlib.Omega.{arith}
use mathlib.Core.Path.{sym, ap, ◌∙◌}
use Rattle.dss_measure.proofs.WalkLaws.{on_nothing, on_dead, on_last, on_last_short, on_full, on_full_short}
use Rattle.dss_measure.proofs.walk_on.Goals as goal

pub loop-rules-preserved : goal.loop-rules-preserved
loop-rules-preserved c =
    let i = c.loop-rules.invariant in (
      omega arith,
      omega arith,
      omega arith,
      i.3 ∙ on_full _ _ _ _ _ _ _ c.u16_at-raw.ensures (omega arith) (sym c.in-Full.ensures) (omega arith),
    )

pub returns-then-there-lt-DSS_CONTINUATION_HEADER_LEN : goal.returns-then-there-lt-DSS_CONTINUATION_HEADER_LEN
returns-then-there-lt-DSS_CONTINUATION_HEADER_LEN c =
    ap Err c.at.ensures ∙ sym (c.loop-rules.invariant.3 ∙ on_nothing _ _ _ _ _ _ c.if-there-lt-DSS_CONTINUATION_HEADER_LEN.true)

pub returns-in-Dead : goal.returns-in-Dead
returns-in-Dead c =
    ap Err c.at-in-Dead.ensures
    ∙ sym (c.loop-rules.invariant.3 ∙ on_dead _ _ _ _ _ _ _ c.u16_at-raw.ensures (omega arith) (sym c.in-Dead.ensures))

pub returns-then-there-continuation_len : goal.returns-then-there-continuation_len
returns-then-there-continuation_len c =
    ap Err c.at-then-there-continuation_len.ensures
    ∙ sym (c.loop-rules.invariant.3 ∙ on_last_short _ _ _ _ _ _ _ c.u16_at-raw.ensures (omega arith) (sym c.in-Last.ensures) (omega arith))

pub returns-in-Last : goal.returns-in-Last
returns-in-Last c =
    let h = c.if-there-continuation_len.false in
    rw c.from-continuation_len.ensures
    (sym (c.loop-rules.invariant.3 ∙ on_last _ _ _ _ _ _ _ c.u16_at-raw.ensures (omega arith) (sym c.in-Last.ensures) (omega arith)))

pub returns-then-there-lt-DSS_FULL_SEGMENT_LEN : goal.returns-then-there-lt-DSS_FULL_SEGMENT_LEN
returns-then-there-lt-DSS_FULL_SEGMENT_LEN c =
    ap Err c.at-then-there-lt-DSS_FULL_SEGMENT_LEN.ensures
    ∙ sym (c.loop-rules.invariant.3 ∙ on_full_short _ _ _ _ _ _ _ c.u16_at-raw.ensures (omega arith) (sym c.in-Full.ensures) c.if-there-lt-DSS_FULL_SEGMENT_LEN.true)
