-- `ddm_change::change_param` meets its contract: it goes by what the search says.
use Rattle.std.specs.Prelude.{Err}
use Rattle.std.proofs.lemmas.Result.{err_from_is_err_and}
use Prim.Native.Nat.{ℕ}
use native.Mathlib.Omega.{arith}
use mathlib.Core.Path.{◌≡◌, sym}
use mathlib.Core.List.{List}
use Rattle.answer.specs.declared.Refused.{Refused}
use Rattle.ddm_change.specs.Change.{Changes}
use Rattle.ddm_change.specs.inner.Searching.{searched, found_as}
use Rattle.ddm_change.proofs.SearchLaws.{change_sound, change_fault, found_within, found_is, not_found}
use Rattle.ddm_change.proofs.ChangeLaws.{changes_laid, lacks_laid, faulty_laid}
use Rattle.ddm_change.proofs.change_param.Goals as goal

change_not : (d : List ℕ) (cp : ℕ) (new room : List ℕ) (r : Refused) → found_as (searched d cp) ≡ Err r → Changes d cp new room (Err r) room
change_not d cp new room r e =
    not_found (searched d cp) r e (λ i z. rw (← z) (lacks_laid d cp new room (change_sound d cp _ i new)))
    (λ p i z. rw (← z) (faulty_laid d cp new room p (change_fault d cp p i new)))

pub returns-in_err-spot : goal.returns-in_err-spot
returns-in_err-spot c =
    let a = c.args in
    let p = err_from_is_err_and c.from_residual.result c.from_residual.ensures.1 in
    rw (p.1, p.2) (change_not a.«data».now a.code_point a.new.now a.room.now _ (sym c.in_err-spot.ensures))

pub rewrite-requires : goal.rewrite-requires
rewrite-requires c =
    let w = found_within _ _ _ (found_is _ _ (sym c.in_ok-spot.ensures)) in
    (omega (arith, w), w.1)

pub returns : goal.returns
returns c =
    let a = c.args in
    changes_laid _ _ _ _ _ _ _ (change_sound _ _ _ (found_is _ _ (sym c.in_ok-spot.ensures)) a.new.now) c.rewrite.ensures
