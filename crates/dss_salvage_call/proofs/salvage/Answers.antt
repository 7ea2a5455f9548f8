-- `dss_salvage_call::salvage` meets its contract: the whole call follows from its part that needs no row, and the row's filling.
use Rattle.dss_salvage_call.proofs.GatheredEntries.{salvages_is}
use Rattle.dss_salvage_call.proofs.salvage.Goals as goal

pub returns : goal.returns
returns c =
    salvages_is c.args.run.now c.args.room.now c.args.row.now _ _ _ _ c.gather_entries-salvaged.ensures c.entries_in.ensures c.fill_entries.ensures
