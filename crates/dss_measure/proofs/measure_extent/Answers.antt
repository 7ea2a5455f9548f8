-- `dss_measure::measure_extent` meets its contract: a frame that stands alone by its law, any other by its measure.
use mathlib.Core.Path.{sym, ap}
use Rattle.dss_measure.specs.Measure.{extent_of}
use Rattle.dss_measure.proofs.GlanceLaws.{lone_measured}
use Rattle.dss_measure.proofs.measure_extent.Goals as goal

pub returns-in-Some : goal.returns-in-Some
returns-in-Some c =
    let a = c.args in
    ap extent_of (sym (lone_measured a.rules a.run.now a.at c.in-Some.len c.in-Some.ensures))
