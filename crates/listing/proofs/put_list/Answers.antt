-- `listing::put_list` meets its contract.
use Rattle.listing.proofs.ListLaws.{list_long, list_frames, list_salvage, puts_text_as}
use Rattle.listing.proofs.put_list.Goals as goal

pub returns-then-run-gt-MOST : goal.returns-then-run-gt-MOST
returns-then-run-gt-MOST c = puts_text_as (list_long _ _ c.if-run-gt-MOST.true) c.put_text.ensures

pub returns-in-Reader : goal.returns-in-Reader
returns-in-Reader c = puts_text_as (list_frames _ _ c.if-run-gt-MOST.false c.in-Reader.is) c.put_frames.ensures

pub returns-in-Salvage : goal.returns-in-Salvage
returns-in-Salvage c = puts_text_as (list_salvage _ _ c.if-run-gt-MOST.false c.in-Salvage.is) c.put_salvage.ensures
