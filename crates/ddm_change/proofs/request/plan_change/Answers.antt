-- `ddm_change::request::plan_change` meets its contract: what the search says of the change.
use Rattle.std.specs.Prelude.{Ok}
use native.Mathlib.Omega.{arith}
use mathlib.Core.Path.{sym, ap, ◌∙◌}
use Rattle.ddm_change.proofs.CarriedLaws.{carried_length}
use Rattle.ddm_change.proofs.PlanParam.{search_found, search_nowhere, search_fault, fault_place}
use Rattle.ddm_change.proofs.request.plan_change.Goals as goal

pub plan_found-requires : goal.plan_found-requires
plan_found-requires c =
    let a = c.args in
    search_found a.payload.run.now a.payload.by a.first c.requires a.code_point _ (sym c.in-Ok-Some.ensures ∙ ap Ok c.in-Ok-Some.field-0-is)

pub overflow_add-first : goal.overflow_add-first
overflow_add-first c =
    let a = c.args in
    let p = a.payload in
    omega (arith, fault_place p.run.now p.by a.first c.requires a.code_point _ (sym c.in-Err.ensures), carried_length p.by p.run.now p.sound)

pub place_of-requires : goal.place_of-requires
place_of-requires c =
    let a = c.args in
    fault_place a.payload.run.now a.payload.by a.first c.requires a.code_point _ (sym c.in-Err.ensures)

pub returns-in-Ok-None : goal.returns-in-Ok-None
returns-in-Ok-None c =
    let a = c.args in
    rw c.at.ensures
    (λ new e. search_nowhere a.payload.run.now a.payload.by a.first c.requires a.code_point (sym c.in-Ok-None.ensures ∙ ap Ok c.in-Ok-None.field-0-is) new)

pub returns-in-Err : goal.returns-in-Err
returns-in-Err c =
    let a = c.args in
    rw (c.at-in-Err.ensures, c.place_of.ensures)
    (λ new e. search_fault a.payload.run.now a.payload.by a.first c.requires a.code_point _ (sym c.in-Err.ensures) new)
