-- `gateway_salvage::lattrugone_salvage` meets its contract: what was gathered, the entries that are laid, and the words that say so.
use native.Mathlib.Omega.{arith}
use Rattle.gateway_salvage.proofs.LaidEntries.{places_enough, row_filled}
use Rattle.gateway_salvage.proofs.lattrugone_salvage.Goals as goal

pub lay_entries-requires : goal.lay_entries-requires
lay_entries-requires c =
    let gathered = c.gather_entries-salvaged.ensures in
    omega (arith, places_enough _ _ _ _ _ gathered, c.entries_in-count.ensures)

pub returns : goal.returns
returns c =
    let gathered = c.gather_entries-salvaged.ensures in
    record {
      answers = rw (← gathered.answers) c.put_salvaged.ensures;
      room_is = gathered.room_is;
      row_is = row_filled _ _ _ _ _ _ _ gathered c.entries_in-count.ensures c.lay_entries.ensures;
    }
