-- `dss_reader::measure_frames` meets its contract: what was measured, and the reader that it leaves.
use Rattle.dss_reader.proofs.GatheredFrames.{answers_given}
use Rattle.dss_reader.proofs.measure_frames.Goals as goal

pub returns-in-Ok : goal.returns-in-Ok
returns-in-Ok c = answers_given _ _ _ _ _ c.in-Ok.ensures

pub returns-in-Err : goal.returns-in-Err
returns-in-Err c = rw c.left_at.ensures (answers_given _ _ _ _ _ c.in-Err.ensures)
