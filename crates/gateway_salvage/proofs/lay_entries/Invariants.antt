-- `gateway_salvage::lay_entries` meets its contract. The loop's invariant: the row with the entries that are left laid down behind those
-- that are is the one that is to come.
use Prim.Native.Nat.{◌*◌, ◌-◌}
use Rattle.wire.specs.Bytes.{splice}
use Rattle.gateway_row.specs.RowWords.{record_len}
use Rattle.gateway_salvage.proofs.LaidEntries.{entry_words_from, LaysEntries}
use Rattle.gateway_salvage.proofs.lay_entries.Given as goal

abbrev pub invariant-loop-i : goal.invariant-loop-i
invariant-loop-i l =
    LaysEntries l.run l.initial.row (splice l.initial.row 0 (entry_words_from l.run 0 0 l.count)) l.row l.at l.payload_at (record_len * l.i) (l.count - l.i)
