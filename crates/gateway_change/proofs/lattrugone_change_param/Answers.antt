-- `gateway_change::lattrugone_change_param` meets its contract: what was laid down or refused, and the words that say so.
use Rattle.gateway_change.proofs.Changing.{in_words}
use Rattle.gateway_change.proofs.lattrugone_change_param.Goals as goal

pub returns : goal.returns
returns c = in_words c.change_param-laid.ensures c.put_laid.ensures
