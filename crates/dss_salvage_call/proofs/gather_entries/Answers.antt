-- `dss_salvage_call::gather_entries` meets its contract: 9 by what was measured, and the room by what `lay_payloads` ensures.
use native.Mathlib.Omega.{arith}
use Rattle.dss_salvage_call.proofs.GatheredEntries.{gathers_all, bytes_in_is}
use Rattle.dss_salvage_call.proofs.gather_entries.Goals as goal

pub lay_payloads-requires : goal.lay_payloads-requires
lay_payloads-requires c =
    let a = c.args in
    omega (arith, bytes_in_is a.run.now a.room.now a.rows _ c.measure_salvage-all.ensures)

pub returns : goal.returns
returns c = gathers_all _ _ _ _ c.measure_salvage-all.ensures _ c.if-room-all.false c.if-rows-all.false c.lay_payloads.ensures
