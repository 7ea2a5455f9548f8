-- `dss_salvage_row::fill_entries` meets its contract: the rows of entries are what `dss_row::fill` lays, at entries.
use Rattle.dss_salvage_row.specs.inner.EntryRows.{entry_records_from}
use Rattle.dss_salvage_row.proofs.fill_entries.Goals as goal

pub returns : goal.returns
unfolding entry_records_from
returns c = c.fill.ensures
