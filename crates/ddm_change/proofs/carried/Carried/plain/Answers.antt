-- `ddm_change::carried::Carried::plain` meets its contract.
use Rattle.ddm_change.proofs.ChangeLaws.{plain_carried}
use Rattle.ddm_change.proofs.carried.Carried.plain.Goals as goal

pub returns : goal.returns
returns c = plain_carried c.args.run.now
