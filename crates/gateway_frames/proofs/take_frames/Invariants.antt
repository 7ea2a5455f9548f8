-- `gateway_frames::take_frames` meets its contract. The loop's invariant: the room with the payloads that are left laid down behind those
-- that are, and the row with their records, are those that are to come.
use Prim.Native.Nat.{◌*◌, ◌-◌}
use Rattle.wire.specs.Bytes.{splice}
use Rattle.dss_frame.specs.Frames.{all_frames}
use Rattle.dss_reader.specs.inner.TakingAll.{all_payloads}
use Rattle.gateway_frames.specs.inner.LaidRecords.{words_from}
use Rattle.gateway_row.specs.RowWords.{record_len}
use Rattle.gateway_frames.proofs.RecordLaws.{TakingRecords}
use Rattle.gateway_frames.proofs.take_frames.Given as goal

abbrev pub invariant-loop-i : goal.invariant-loop-i
invariant-loop-i l =
    TakingRecords l.run (splice l.initial.room 0 (all_payloads l.run (all_frames l.run l.from))) l.initial.row
    (splice l.initial.row 0 (words_from l.run l.from 0 l.count)) l.room l.row l.at l.payload_at (l.i * record_len) (l.count - l.i)
