-- `dss_salvage::step_over` meets its contract: each answer of the walk has its own law.
use native.Mathlib.Omega.{arith}
use mathlib.Core.Path.{sym, ◌∙◌}
use Rattle.dss_salvage.proofs.SalvageStepping.{over_none, over_last, over_on}
use Rattle.dss_salvage.proofs.step_over.Goals as goal

pub returns-in_default : goal.returns-in_default
returns-in_default c = sym (over_none _ _ _ _ (sym c.in_default.ensures))

pub returns-then-seg_len-lt-DSS_HEADER_LEN : goal.returns-then-seg_len-lt-DSS_HEADER_LEN
returns-then-seg_len-lt-DSS_HEADER_LEN c =
    sym (over_last _ _ _ _ (sym c.in-Ok.ensures) _ (c.from-seg_len.ensures ∙ c.u16_at.ensures) (omega arith))

pub returns : goal.returns
returns c = sym (over_on _ _ _ _ (sym c.in-Ok.ensures) _ (c.from-seg_len.ensures ∙ c.u16_at.ensures) (omega arith))
