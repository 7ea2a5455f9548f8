-- `gateway_object_rows::lattrugone_parameters` meets its contract: the work area as it was filled, then row and words.
use mathlib.Core.Path.{◌≡◌}
use mathlib.Core.List.{List}
use Prim.Native.Nat.{ℕ}
use Rattle.ddm_object.specs.Objects.{Object, objects, parameters}
use Rattle.gateway_object_rows.proofs.FillingLaws.{count_fits, lists_words}
use Rattle.gateway_object_rows.proofs.lattrugone_parameters.Goals as goal

these : (s : List ℕ) (os : List Object) → objects (parameters s) ≡ objects os → parameters s ≡ os
these s os e = cc

pub list-requires : goal.list-requires
list-requires c =
    let a = c.args in
    let d = a.«data».now in
    count_fits d (objects (parameters d)) (these d) a.work.now a.row.now _ _ c.take_parameters-found.ensures

pub returns : goal.returns
returns c =
    let a = c.args in
    let d = a.«data».now in
    lists_words d (objects (parameters d)) (these d) a.work.now a.row.now _ _ c.take_parameters-found.ensures _ _ _ _ c.list.ensures
