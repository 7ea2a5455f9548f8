-- `ddm_rows::rows::take_listed` meets its contract: the laws of what is answered, by the two tests.
use Rattle.ddm_rows.proofs.ObjectRowLaws.{measured_count, takes_both, takes_none}
use Rattle.ddm_rows.proofs.rows.take_listed.Goals as goal

pub returns-then-found-gt0 : goal.returns-then-found-gt0
returns-then-found-gt0 c =
    let s = c.args in
    let m = measured_count s.«data».now s.found c.requires in
    takes_both s.«data».now _ s.work.now s.rows _ _ m.0 m.1 c.if-work-found.false c.if-rows-found.false _ c.take_works.ensures

pub returns-else-found-gt0 : goal.returns-else-found-gt0
returns-else-found-gt0 c =
    let s = c.args in
    let m = measured_count s.«data».now s.found c.requires in
    takes_none s.«data».now _ s.work.now s.rows _ _ m.0 m.1 c.if-found-gt0.false c.if-rows-found.false
