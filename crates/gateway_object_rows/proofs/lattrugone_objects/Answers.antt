-- `gateway_object_rows::lattrugone_objects` meets its contract: the work area as it was filled, then row and words.
use Rattle.ddm_object.specs.Objects.{all_objects}
use Rattle.ddm_rows.proofs.ObjectLists.{objects_parameters}
use Rattle.gateway_object_rows.proofs.FillingLaws.{count_fits, lists_words}
use Rattle.gateway_object_rows.proofs.lattrugone_objects.Goals as goal

pub list-requires : goal.list-requires
list-requires c =
    let a = c.args in
    count_fits a.run.now (all_objects a.run.now) (objects_parameters a.run.now) a.work.now a.row.now _ _ c.take_objects-found.ensures

pub returns : goal.returns
returns c =
    let a = c.args in
    lists_words a.run.now (all_objects a.run.now) (objects_parameters a.run.now) a.work.now a.row.now _ _ c.take_objects-found.ensures _ _ _ _ c.list.ensures
