-- `dss_row::fill`: the records from the place on, laid down from the next row on, make the row that is wanted. A place lies no further
-- into the room than into the run.
use Rattle.std.proofs.Common.{length, ◌-◌, ◌≡◌, ◌≤◌}
use Rattle.wire.specs.Bytes.{splice}
use Rattle.dss_row.specs.inner.RowRecords.{laid_from}
use Rattle.dss_frame.specs.inner.RowStart.{starts_at}
use Rattle.dss_row.proofs.fill.Given as goal

abbrev pub invariant-loop-slot : goal.invariant-loop-slot
invariant-loop-slot g l =
    let found = g.R.Records.found in
    record {
      low : l.place.payload_at ≤ l.place.at;
      onward : splice l.row l.slot-index (laid_from (found l.run) (length l.row - l.slot-index) l.place)
          ≡ splice l.initial.row 0 (laid_from (found l.run) (length l.initial.row) (starts_at l.from l.count));
    }
