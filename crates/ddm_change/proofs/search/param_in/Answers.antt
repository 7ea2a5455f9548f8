-- `ddm_change::search::param_in` meets its contract: it goes by what `measure_in` says.
use Rattle.std.specs.Prelude.{Ok, Some}
use Prim.Native.Nat.{ℕ}
use native.Mathlib.Omega.{arith}
use mathlib.Core.Path.{◌≡◌, sym, ◌∙◌, ap}
use mathlib.Core.List.{List}
use lib.ListN.{drop, length-drop}
use Rattle.ddm_length.specs.Lengths.{measured}
use Rattle.ddm_length.proofs.MarkerPieces.{be16_drop}
use Rattle.ddm_length.proofs.PayloadParts.{drop_two}
use Rattle.ddm_change.specs.inner.Searching.{param}
use Rattle.ddm_change.proofs.SearchLaws.{is_ok, param_lacks, param_raw, param_takes, measured_four}
use Rattle.ddm_change.proofs.search.param_in.Goals as goal

pub returns-in_err-total : goal.returns-in_err-total
returns-in_err-total g c =
    let b : List ℕ = drop c.args.at (g.P.Payload.bytes c.args.payload.now) in
    rw c.from_residual.ensures (sym (param_lacks b _ (sym c.measure_in.ensures) (sym c.in_err-total.ensures.value)))

pub returns-then-u16_in : goal.returns-then-u16_in
returns-then-u16_in g c =
    let a = c.args in
    sym (param_raw _ (be16_drop (g.P.Payload.bytes a.payload.now) a.at ∙ sym c.u16_in.ensures ∙ c.if-u16_in.true))

pub overflow_add-at : goal.overflow_add-at
overflow_add-at g c =
    let v : List ℕ = g.P.Payload.bytes c.args.payload.now in
    let e : measured (drop c.args.at v) 0 ≡ Ok c.in_ok-total.field-0 = sym c.measure_in.ensures ∙ is_ok _ _ (sym c.in_ok-total.ensures.value) in
    omega (arith, measured_four _ _ _ e, length-drop c.args.at v, c.requires)

pub returns : goal.returns
returns g c =
    let a = c.args in
    let v : List ℕ = g.P.Payload.bytes a.payload.now in
    let e : measured (drop a.at v) 0 ≡ Ok c.in_ok-total.field-0 = sym c.measure_in.ensures ∙ is_ok _ _ (sym c.in_ok-total.ensures.value) in
    ap (λ (n : ℕ). Some (param n c.in_ok-total.field-0.total)) (c.u16_in-code_point.ensures ∙ sym (drop_two v a.at 2))
    ∙ sym (param_takes _ _ _ e (λ z. c.if-u16_in.false (c.u16_in.ensures ∙ sym (be16_drop v a.at) ∙ z)))
