-- `dss_measure::single` meets its contract: nothing behind it can belong to it, or the looks decide.
use mathlib.Core.Path.{sym}
use Rattle.dss_measure.proofs.GlanceLaws.{single_apart}
use Rattle.dss_measure.proofs.single.Goals as goal

pub returns-then-stands_apart : goal.returns-then-stands_apart
returns-then-stands_apart c =
    let a = c.args in
    sym (single_apart a.rules a.run.now a.at a.seg_len a.head c.requires.1 (c.stands_apart.ensures c.if-stands_apart.true))
