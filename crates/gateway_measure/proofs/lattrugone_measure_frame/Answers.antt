-- `gateway_measure::lattrugone_measure_frame` meets its contract: what was measured, and the words that say so.
use Rattle.gateway_measure.proofs.lattrugone_measure_frame.Goals as goal

pub returns : goal.returns
returns c =
    let m = c in
    rw (← m.rules_of-rules.ensures, ← m.measure-measured.ensures) c.put_measured.ensures
