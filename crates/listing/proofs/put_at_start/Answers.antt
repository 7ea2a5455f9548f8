-- `listing::put_at_start` meets its contract.
use Rattle.std.proofs.Common.{rules}
use Rattle.text.proofs.PutLaws.{puts_in}
use Rattle.listing.proofs.put_at_start.Goals as goal

pub returns : goal.returns
returns c = puts_in (search rules) c.put_list.ensures.puts
