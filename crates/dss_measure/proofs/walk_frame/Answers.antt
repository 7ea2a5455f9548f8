-- `dss_measure::walk_frame` meets its contract: each return is one of the laws of the walk over a frame.
use Rattle.std.specs.Prelude.{Ok, Err}
use Prim.Native.Nat.{ℕ}
use native.Mathlib.Omega.{arith}
use mathlib.Core.Path.{sym, ap, ap₂, ◌∙◌}
use Rattle.dss_measure.specs.inner.Walking.{walked}
use Rattle.dss_measure.proofs.WalkLaws.{frame_nothing, several_short, several, single_short, single}
use Rattle.dss_measure.proofs.walk_frame.Goals as goal

pub returns-then-there-lt-DSS_HEADER_LEN : goal.returns-then-there-lt-DSS_HEADER_LEN
returns-then-there-lt-DSS_HEADER_LEN c = ap Err c.at.ensures ∙ sym (frame_nothing _ _ _ (omega arith))

pub returns-then-there-lt-DSS_FULL_SEGMENT_LEN : goal.returns-then-there-lt-DSS_FULL_SEGMENT_LEN
returns-then-there-lt-DSS_FULL_SEGMENT_LEN c =
    ap Err c.at-then-there-lt-DSS_FULL_SEGMENT_LEN.ensures
    ∙ sym (several_short _ _ _ _ c.u16_at-raw.ensures (omega arith) c.if-raw.true (omega arith))

pub returns-then-raw : goal.returns-then-raw
returns-then-raw c =
    c.walk_on.ensures
    ∙ sym (several _ _ _ _ c.u16_at-raw.ensures (omega arith) c.if-raw.true (omega arith))

pub returns-then-there-seg_len : goal.returns-then-there-seg_len
returns-then-there-seg_len c =
    ap Err c.at-then-there-seg_len.ensures
    ∙ sym (single_short _ _ _ _ c.u16_at-raw.ensures (omega arith) c.if-raw.false (omega arith))

pub returns : goal.returns
returns c =
    ap₂ (λ (e n : ℕ). Ok (walked e 1 n)) (omega arith) (omega arith)
    ∙ sym (single _ _ _ _ c.u16_at-raw.ensures (omega arith) c.if-raw.false (omega arith))
