-- `ddm_change::change_param_len` meets its contract: it goes by what the search says.
use Rattle.std.specs.Prelude.{Ok, Err}
use Rattle.std.proofs.lemmas.Result.{err_from_is_err_and}
use Prim.Native.Nat.{ℕ, ◌+◌, ◌-◌}
use native.Mathlib.Omega.{arith}
use mathlib.Core.Path.{◌≡◌, sym, ◌∙◌, ap}
use mathlib.Core.List.{List}
use lib.ListN.{length}
use Rattle.answer.specs.declared.Refused.{Refused}
use Rattle.answer.specs.Rooms.{capped}
use Rattle.ddm_builder.specs.Built.{built_size}
use Rattle.ddm_change.specs.Change.{needed_of}
use Rattle.ddm_change.specs.inner.Searching.{searched, found_as}
use Rattle.ddm_change.proofs.SearchLaws.{needed_sound, needed_fault, found_within, found_is, not_found}
use Rattle.ddm_change.proofs.change_param_len.Goals as goal

needed_not : (d : List ℕ) (cp n : ℕ) (r : Refused) → found_as (searched d cp) ≡ Err r → needed_of d cp n ≡ Err r
needed_not d cp n r e =
    not_found (searched d cp) r e (λ i z. needed_sound d cp _ i n ∙ ap Err z) (λ p i z. needed_fault d cp p i n ∙ ap Err z)

pub returns-in_err-from : goal.returns-in_err-from
returns-in_err-from c =
    let a = c.args in
    let p = err_from_is_err_and c.from_residual.result c.from_residual.ensures.1 in
    rw (p.1, p.2) (sym (needed_not a.«data».now a.code_point a.new_len _ (sym c.in_err-from.ensures)))

pub overflow_sub-data : goal.overflow_sub-data
overflow_sub-data c = omega (arith, found_within _ _ _ (found_is _ _ (sym c.in_ok-from.ensures)))

pub overflow_add-from : goal.overflow_add-from
overflow_add-from c = omega (arith, found_within _ _ _ (found_is _ _ (sym c.in_ok-from.ensures)))

pub returns : goal.returns
returns c =
    let a = c.args in
    let f = c.in_ok-from.field-0.from in
    let t = length a.«data».now - c.in_ok-from.field-0.to in
    let n = built_size a.new_len in
    let z : f + t + n ≡ f + n + t = omega arith in
    ap Ok (c.changed_len.ensures ∙ ap capped z) ∙ sym (needed_sound _ _ _ (found_is _ _ (sym c.in_ok-from.ensures)) a.new_len)
