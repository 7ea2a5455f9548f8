-- `dss_reader::take_all` meets its contract: each turn takes a frame, and where none is taken all payloads stand there.
use native.Mathlib.Omega.{arith}
use Rattle.dss_reader.proofs.TakingFrames.{taking_more, taking_past, taking_done}
use Rattle.dss_reader.proofs.take_all.Goals as goal

pub loop-measure-smaller : goal.loop-measure-smaller
loop-measure-smaller c = omega (arith, taking_past c.loop-measure.invariant _ _ c.take.result c.take.ensures c.in-Ok.is)

pub loop-measure-preserved : goal.loop-measure-preserved
loop-measure-preserved c = taking_more c.loop-measure.invariant _ _ c.take.result c.take.ensures c.in-Ok.is

pub returns : goal.returns
returns c = taking_done c.loop-measure.invariant _ _ c.take.result c.take.ensures c.in_default.is
