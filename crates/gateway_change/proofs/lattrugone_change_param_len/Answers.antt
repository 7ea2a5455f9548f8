-- `gateway_change::lattrugone_change_param_len` meets its contract: the need or the refusal, and the words that say so.
use Rattle.gateway_change.proofs.lattrugone_change_param_len.Goals as goal

pub returns : goal.returns
returns c = rw (← c.change_param_len-laid.ensures) c.put_laid.ensures
