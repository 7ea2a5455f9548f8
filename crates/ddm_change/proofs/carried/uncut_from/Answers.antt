-- `ddm_change::carried::uncut_from` meets its contract: each return is one case.
use mathlib.Core.Path.{sym}
use Rattle.ddm_change.proofs.CarriedLaws.{uncut_first, uncut_later}
use Rattle.ddm_change.proofs.carried.uncut_from.Goals as goal

pub returns-then-i-lt-DSS_FIRST_PAYLOAD_LEN : goal.returns-then-i-lt-DSS_FIRST_PAYLOAD_LEN
returns-then-i-lt-DSS_FIRST_PAYLOAD_LEN c = sym (uncut_first _ c.if-i-lt-DSS_FIRST_PAYLOAD_LEN.true)

pub returns : goal.returns
returns c = sym (uncut_later _ c.if-i-lt-DSS_FIRST_PAYLOAD_LEN.false)
