-- `ddm_change::search::search` meets its contract. The invariant: no fault so far, and the first with the code point if it was met.
use Rattle.std.specs.Prelude.{Some, None}
use Prim.Native.Nat.{ℕ, ◌+◌, ◌-◌, ◌≤◌, ◌<◌}
use native.Mathlib.Omega.{arith}
use mathlib.Core.Path.{◌≡◌, sym, ◌∙◌, ap}
use mathlib.Core.List.{List}
use lib.ListN.{length, drop, length-drop}
use lib.Seq.{drop-drop}
use Rattle.ddm_object.proofs.ParamWalks.{sized}
use Rattle.ddm_change.specs.declared.Param.{Param}
use Rattle.ddm_change.specs.inner.Searching.{param_of}
use Rattle.ddm_change.proofs.SearchLaws.{Sane, sane, searching_step, searching_fault, searching_end}
use Rattle.ddm_change.proofs.search.search.Goals as goal

-- a parameter of the payload v is one of the data that start at its byte `first`
module _ (v : List ℕ) (first at : ℕ) (x : Param) (is : Some x ≡ param_of (drop (first + at) v)) where
  here : Sane (drop at (drop first v)) x.code_point x.total
  here = sane _ _ (ap param_of (drop-drop at first v) ∙ sym is)

  inside : at < length v - first → (0 < x.total) × (first + at + x.total ≤ length v)
  inside h =
      let q = here in (
        omega (arith, sized q.reads, q.takes),
        omega (arith, sized q.reads, q.takes, length-drop at (drop first v), length-drop first v),
      )

pub met_behind-met-requires : goal.met_behind-met-requires
met_behind-met-requires g c =
    let a = c.args in
    omega (arith, c.len.ensures, (inside (g.P.Payload.bytes a.payload.now) a.first c.loop-at.at _ c.in-Some.ensures (omega (arith, c.len.ensures))).1)

pub overflow_add-at : goal.overflow_add-at
overflow_add-at g c =
    let a = c.args in
    omega (arith, c.len.ensures, (inside (g.P.Payload.bytes a.payload.now) a.first c.loop-at.at _ c.in-Some.ensures (omega (arith, c.len.ensures))).1)

pub loop-at-smaller : goal.loop-at-smaller
loop-at-smaller g c =
    let a = c.args in
    omega (arith, c.len.ensures, inside (g.P.Payload.bytes a.payload.now) a.first c.loop-at.at _ c.in-Some.ensures (omega (arith, c.len.ensures)))

pub loop-at-preserved : goal.loop-at-preserved
loop-at-preserved g c =
    let a = c.args in
    rw c.met_behind-met.ensures
    (searching_step _ _ _ _ c.loop-at.invariant _ _ (here (g.P.Payload.bytes a.payload.now) a.first c.loop-at.at _ c.in-Some.ensures))

pub returns-in_default : goal.returns-in_default
returns-in_default g c =
    let v : List ℕ = g.P.Payload.bytes c.args.payload.now in
    let l = c.loop-at in
    let none : param_of (drop l.at (drop c.args.first v)) ≡ None = ap param_of (drop-drop l.at c.args.first v) ∙ sym c.in_default.ensures in
    sym (searching_fault _ _ _ _ l.invariant (omega (arith, c.len.ensures, length-drop c.args.first v)) none)

pub returns : goal.returns
returns g c =
    let v : List ℕ = g.P.Payload.bytes c.args.payload.now in
    sym (searching_end _ _ _ _ c.loop-at.invariant (omega (arith, c.loop-at.invariant.within, c.len.ensures, length-drop c.args.first v)))
