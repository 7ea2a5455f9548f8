-- `dss_row::fill_rows` meets its contract: the rows of frames are what `fill` lays, at frames.
use Rattle.dss_row.specs.inner.FrameRows.{records_from}
use Rattle.dss_row.proofs.fill_rows.Goals as goal

pub returns : goal.returns
unfolding records_from
returns c = c.fill.ensures
