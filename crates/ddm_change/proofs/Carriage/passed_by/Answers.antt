-- `ddm_change::Carriage::passed_by` meets its contract: each return is one case.
use mathlib.Core.Path.{sym}
use Rattle.ddm_change.proofs.CarriedLaws.{passed_none, passed_later}
use Rattle.ddm_change.proofs.Carriage.passed_by.Goals as goal

pub returns-then-i-lt-DSS_FIRST_PAYLOAD_LEN : goal.returns-then-i-lt-DSS_FIRST_PAYLOAD_LEN
returns-then-i-lt-DSS_FIRST_PAYLOAD_LEN c = sym (passed_none _ _ c.if-i-lt-DSS_FIRST_PAYLOAD_LEN.true)

pub returns : goal.returns
returns c = passed_later _ _ _ c.if-i-lt-DSS_FIRST_PAYLOAD_LEN.false c.min.ensures
