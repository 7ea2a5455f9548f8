-- `ddm_length::measure_in` meets its contract: it goes by what `length_in` says. A length below its header is an inline one,
-- and so has two bytes, and four bytes stand there.
use Rattle.std.specs.Prelude.{Ok, Err}
use Rattle.std.proofs.lemmas.Result.{err_from_is_err_and}
use Prim.Native.Nat.{ℕ, ◌+◌, ◌-◌, ◌≤◌, ◌<◌}
use native.Mathlib.Omega.{arith}
use mathlib.Core.Path.{◌≡◌, sym, ◌∙◌, ap}
use mathlib.Core.List.{List}
use lib.ListN.{length, drop, length-drop}
use borrow.Author.Tests.{lt-ltb, le-ltb, lt-leb, le-leb}
use Rattle.wire.specs.Bytes.{be16}
use Rattle.wire.proofs.WireLaws.{pick_yes, pick_no}
use Rattle.answer.specs.declared.Refusal.TheVariants.{BufferTooShort, InlineTooShort}
use Rattle.ddm_length.specs.Lengths.{takes, refuse, marshaled, measured, fitting}
use Rattle.ddm_length.proofs.TakenLengths.{LengthSays, says_inline, says_all, says_wide, marshaled_says}
use Rattle.ddm_length.proofs.PayloadParts.{drop_two}
use Rattle.ddm_length.proofs.measure_in.Goals as goal

small : {b : List ℕ} {t h : ℕ} → LengthSays b t h → t < h → (4 ≤ length b) × (t < 65536)
small (says_inline four et eh hi) l = (four, omega arith)
small (says_all four raw et eh) l = (four, absurd (omega arith))
small (says_wide raw lo there et hi) l = absurd (omega arith)

module _ (v : List ℕ) (at place total header : ℕ) (says : Ok (takes total header) ≡ marshaled (drop at v) place) where
  inline : total < header → (at + 4 ≤ length v) × (total < 65536)
  inline h =
      let k = small (marshaled_says (drop at v) total header place (sym says)) h in
      (omega (arith, length-drop at v, k.0), k.1)

  low : (cp : ℕ) → cp ≡ be16 v (at + 2) → total < header → refuse place (InlineTooShort total cp) ≡ measured (drop at v) place
  unfolding measured
  low cp e h =
      ap (λ (n : ℕ). refuse place (InlineTooShort total n)) (e ∙ sym (drop_two v at 2))
      ∙ sym (ap (fitting (drop at v) place) (sym says) ∙ pick_yes _ _ (lt-ltb total header h))

  module _ (there : ℕ) (len : there ≡ length v - at) (l : header ≤ total) where
    whole : there ≡ length (drop at v)
    whole = omega (arith, length-drop at v)

    short : there < total → refuse place (BufferTooShort total there) ≡ measured (drop at v) place
    unfolding measured
    short h =
        ap (λ (m : ℕ). refuse place (BufferTooShort total m)) whole
        ∙ sym (ap (fitting (drop at v) place) (sym says) ∙ pick_no _ _ (le-ltb total header l) ∙ pick_no _ _ (lt-leb total (length (drop at v)) (omega (arith, whole))))

    fits : total ≤ there → Ok (takes total header) ≡ measured (drop at v) place
    unfolding measured
    fits h =
        sym (ap (fitting (drop at v) place) (sym says) ∙ pick_no _ _ (le-ltb total header l) ∙ pick_yes _ _ (le-leb total (length (drop at v)) (omega (arith, whole))))

pub returns-in_err-total : goal.returns-in_err-total
unfolding measured
returns-in_err-total g c =
    let s = c.args in
    let p = err_from_is_err_and c.from_residual.result c.from_residual.ensures.1 in
    rw (p.1, p.2) (sym (ap (fitting (drop s.at (g.P.Payload.bytes s.payload.now)) s.place) (sym c.in_err-total.ensures)))

pub overflow_cast-length : goal.overflow_cast-length
overflow_cast-length g c =
    let s = c.args in
    omega (arith, (inline (g.P.Payload.bytes s.payload.now) s.at s.place _ _ c.in_ok-total.ensures c.if-total-header.true).1)

pub overflow_add-at : goal.overflow_add-at
overflow_add-at g c =
    let s = c.args in
    omega (
      arith,
      c.len.ensures,
      (inline (g.P.Payload.bytes s.payload.now) s.at s.place _ _ c.in_ok-total.ensures c.if-total-header.true).0,
    )

pub returns-then-total-header : goal.returns-then-total-header
returns-then-total-header g c =
    let s = c.args in
    ap Err c.at.ensures ∙ low (g.P.Payload.bytes s.payload.now) s.at s.place _ _ c.in_ok-total.ensures _ c.u16_in-code_point.ensures c.if-total-header.true

pub returns-then-actual-total : goal.returns-then-actual-total
returns-then-actual-total g c =
    let s = c.args in
    ap Err c.at-then-actual-total.ensures
    ∙ short (g.P.Payload.bytes s.payload.now) s.at s.place _ _ c.in_ok-total.ensures
    _ (omega (arith, c.len.ensures, c.saturating_sub-actual.ensures)) c.if-total-header.false c.if-actual-total.true

pub returns : goal.returns
returns g c =
    let s = c.args in
    fits (g.P.Payload.bytes s.payload.now) s.at s.place _ _ c.in_ok-total.ensures
    _ (omega (arith, c.len.ensures, c.saturating_sub-actual.ensures)) c.if-total-header.false c.if-actual-total.false
