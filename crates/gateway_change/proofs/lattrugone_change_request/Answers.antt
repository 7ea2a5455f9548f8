-- `gateway_change::lattrugone_change_request` meets its contract: what was laid down or refused, and the words that say so.
use Rattle.gateway_change.proofs.Changing.{frame_in_words}
use Rattle.gateway_change.proofs.lattrugone_change_request.Goals as goal

pub returns : goal.returns
returns c = frame_in_words c.change_request-laid.ensures c.put_laid.ensures
