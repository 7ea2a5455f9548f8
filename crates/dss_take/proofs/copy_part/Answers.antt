-- `dss_take::copy_part` meets its contract: the part has room, so that it is laid down.
use native.Mathlib.Omega.{arith}
use mathlib.Core.Path.{◌∙◌}
use Rattle.wire.specs.Bytes.{part}
use Rattle.wire.proofs.WireLaws.{part_length}
use Rattle.wire.proofs.Splicing.{laid_fits}
use Rattle.dss_take.proofs.copy_part.Goals as goal

pub returns : goal.returns
returns c =
    let a = c.args in
    c.lay_at.ensures
    ∙ laid_fits a.room.now a.at (part a.run.now a.from a.end) (omega (arith, part_length a.run.now a.from a.end c.requires.1, c.requires))
