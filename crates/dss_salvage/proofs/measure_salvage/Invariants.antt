-- `dss_salvage::measure_salvage` meets its contract. The loop's invariant: the whole reading comes to that from the present place on,
-- behind the entries and the payload so far. An entry takes six bytes of the run, and no fewer than its payload has; the measure is
-- what is left of the run.
use Prim.Native.Nat.{◌-◌, ◌≤◌}
use mathlib.Core.Path.{◌≡◌}
use lib.ListN.{length}
use Rattle.dss_frame.specs.Salvage.{salvaged}
use Rattle.dss_laws.proofs.SalvageLaws.{salvaged_from}
use Rattle.dss_salvage.specs.inner.SalvageMeasure.{salvaging_of}
use Rattle.dss_salvage.proofs.SalvageMeasuring.{adds_to}
use Rattle.dss_salvage.proofs.measure_salvage.Given as goal

abbrev pub invariant-loop-measure : goal.invariant-loop-measure
invariant-loop-measure l = record {
  few : l.all.count ≤ l.all.tail;
  short : l.all.bytes ≤ l.all.tail;
  comes_to : salvaging_of l.run (salvaged l.run) ≡ adds_to l.all.count l.all.bytes (salvaging_of l.run (salvaged_from l.run l.all.tail));
}

abbrev pub decreases-loop-measure : goal.decreases-loop-measure
decreases-loop-measure l = length l.run - l.all.tail
