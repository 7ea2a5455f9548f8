-- `ddm_length::extended_in` meets its contract: the number is what `number_in` gives, and it is too large where the whole is.
use Rattle.std.specs.Prelude.{Ok, Err}
use Prim.Native.Nat.{ℕ, ◌+◌, ◌-◌, ◌^◌, ◌≤◌, ◌<◌}
use native.Mathlib.Omega.{arith}
use mathlib.Core.Path.{◌≡◌, sym, ◌∙◌, ap}
use mathlib.Core.List.{List}
use lib.ListN.{length, take, drop, length-drop}
use lib.Seq.{drop-drop}
use borrow.Author.Tests.{lt-ltb, le-ltb, le-leb}
use Rattle.wire.specs.Bytes.{spelled}
use Rattle.wire.proofs.WireLaws.{pick_yes, pick_no}
use Rattle.answer.specs.declared.Refusal.TheVariants.{LengthTooLarge}
use Rattle.ddm_length.specs.Lengths.{takes, refuse, extended, extended_total}
use Rattle.ddm_length.proofs.NumberSums.{number_is, number_large}
use Rattle.ddm_length.proofs.extended_in.Goals as goal
use Rattle.ddm_length.proofs.extended_in.Goals.{in_default-via-in-Some+else-n-expected, in_default-via-in_default}

-- e is the header's length as a place
module _ (v : List ℕ) (at place header e : ℕ) (is : e ≡ header) (lo : 4 ≤ header) (there : e ≤ length v - at) where
  abbrev number : ℕ
  number = spelled 0 (take (e - 4) (drop (at + 4) v))

  whole : extended (drop at v) place header ≡ extended_total place header (header + number)
  whole =
      pick_no _ _ (le-ltb header 4 lo) ∙ pick_yes _ _ (le-leb header (length (drop at v)) (omega (arith, length-drop at v)))
      ∙ ap (λ (x : List ℕ). extended_total place header (header + spelled 0 (take (header - 4) x))) (drop-drop 4 at v)
      ∙ ap (λ (n : ℕ). extended_total place header (header + spelled 0 (take (n - 4) (drop (at + 4) v)))) (sym is)

  within : (n : ℕ) → number ≡ n → e + n < 2 ^ 64 → extended (drop at v) place header ≡ Ok (takes (e + n) e)
  within n f h = whole ∙ rw (f, ← is) (pick_yes _ _ (lt-ltb (e + n) (2 ^ 64) h))

  too_large : 2 ^ 64 ≤ e + number → extended (drop at v) place header ≡ refuse place (LengthTooLarge header)
  too_large h = whole ∙ pick_no _ _ (le-ltb (header + number) (2 ^ 64) (omega arith))

pub returns-in-Some : goal.returns-in-Some
returns-in-Some g c =
    let a = c.args in
    let there : c.from-expected.result ≤ length (g.P.Payload.bytes a.payload.now) - a.at = omega (arith, c.len.ensures, c.saturating_sub-actual.ensures, c.if-actual-expected.false) in
    sym (within (g.P.Payload.bytes a.payload.now) a.at a.place a.header _ c.from-expected.ensures c.if-header-lt4.false there _ (number_is _ _ (sym c.in-Some.ensures)) (omega arith))

pub returns-in_default : goal.returns-in_default
returns-in_default g c =
    let a = c.args in
    let v : List ℕ = g.P.Payload.bytes a.payload.now in
    let e = c.from-expected.result in
    let there : e ≤ length v - a.at = omega (arith, c.len.ensures, c.saturating_sub-actual.ensures, c.if-actual-expected.false) in
    let large : 2 ^ 64 ≤ e + spelled 0 (take (e - 4) (drop (a.at + 4) v)) =
    elim c.in_default.branch [
      | in_default-via-in-Some+else-n-expected w ↦ omega (arith, number_is _ _ (sym w.in-Some.ensures))
      | in_default-via-in_default w ↦ omega (arith, number_large _ (sym w.in_default.ensures))
    ] in
    ap Err c.at-in_default.ensures ∙ sym (too_large v a.at a.place a.header e c.from-expected.ensures c.if-header-lt4.false there large)
