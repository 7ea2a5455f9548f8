-- `ddm_length::length_in` meets its contract: each return rewrites with the tests that led there.
use Rattle.std.specs.Prelude.{Result, Ok, Err}
use Prim.Native.Nat.{ℕ, ◌-◌, ◌≤◌, ◌<◌}
use native.Mathlib.Omega.{arith}
use mathlib.Core.Path.{◌≡◌, sym, ◌∙◌, ap}
use mathlib.Core.List.{List}
use lib.ListN.{length, drop, length-drop}
use borrow.Author.Tests.{lt-ltb, le-ltb, eq-eqb, ne_eqb}
use Rattle.wire.specs.Bytes.{be16}
use Rattle.wire.proofs.WireLaws.{pick_yes, pick_no}
use Rattle.answer.specs.declared.Refusal.TheVariants.{BufferTooShort}
use Rattle.answer.specs.declared.Refused.{Refused}
use Rattle.ddm_length.specs.Lengths.{takes, refuse, extended, marshaled}
use Rattle.ddm_length.specs.declared.Marshaled.{Marshaled}
use Rattle.ddm_length.proofs.MarkerPieces.{be16_drop}
use Rattle.ddm_length.proofs.length_in.Goals as goal

module _ (v : List ℕ) (at place there : ℕ) (len : there ≡ length v - at) where
  whole : there ≡ length (drop at v)
  whole = omega (arith, length-drop at v)

  short : there < 4 → refuse place (BufferTooShort 4 there) ≡ marshaled (drop at v) place
  unfolding marshaled
  short h = rw whole (sym (pick_yes _ _ (lt-ltb (length (drop at v)) 4 (omega (arith, whole)))))

  module _ (raw : ℕ) (r : raw ≡ be16 v at) (four : 4 ≤ there) where
    four_there : 4 ≤ length (drop at v)
    four_there = omega (arith, whole)

    is : be16 (drop at v) 0 ≡ raw
    is = be16_drop v at ∙ sym r

    all : raw ≡ 0x8004 → Ok (takes there 4) ≡ marshaled (drop at v) place
    unfolding marshaled
    all h = rw whole (sym (pick_no _ _ (le-ltb (length (drop at v)) 4 four_there) ∙ pick_yes _ _ (eq-eqb (be16 (drop at v) 0) 0x8004 (is ∙ h))))

    module _ (other : ¬ (raw ≡ 0x8004)) where
      not_all : ¬ (be16 (drop at v) 0 ≡ 0x8004)
      not_all h = other (sym is ∙ h)

      inline : raw < 0x8000 → Ok (takes raw 4) ≡ marshaled (drop at v) place
      unfolding marshaled
      inline h =
          ap (λ (m : ℕ). Ok (takes m 4)) (sym is)
          ∙ sym (pick_no _ _ (le-ltb (length (drop at v)) 4 four_there) ∙ pick_no _ _ (ne_eqb (be16 (drop at v) 0) 0x8004 not_all)
          ∙ pick_yes _ _ (lt-ltb (be16 (drop at v) 0) 0x8000 (omega (arith, is))))

      wide : (m : Result Marshaled Refused) → m ≡ extended (drop at v) place (raw - 0x8000) → 0x8000 ≤ raw → m ≡ marshaled (drop at v) place
      unfolding marshaled
      wide m k h =
          k ∙ ap (λ (m : ℕ). extended (drop at v) place (m - 0x8000)) (sym is)
          ∙ sym (pick_no _ _ (le-ltb (length (drop at v)) 4 four_there) ∙ pick_no _ _ (ne_eqb (be16 (drop at v) 0) 0x8004 not_all)
          ∙ pick_no _ _ (le-ltb (be16 (drop at v) 0) 0x8000 (omega (arith, is))))

pub returns-then-actual-header : goal.returns-then-actual-header
returns-then-actual-header g c =
    let s = c.args in
    ap Err c.at.ensures
    ∙ short (g.P.Payload.bytes s.payload.now) s.at s.place _ (omega (arith, c.len.ensures, c.saturating_sub-actual.ensures)) c.if-actual-header.true

pub returns-then-raw : goal.returns-then-raw
returns-then-raw g c =
    let s = c.args in
    all (g.P.Payload.bytes s.payload.now) s.at s.place _ (omega (arith, c.len.ensures, c.saturating_sub-actual.ensures))
    _ c.u16_in-raw.ensures c.if-actual-header.false c.if-raw.true

pub returns-then-raw-lt32768 : goal.returns-then-raw-lt32768
returns-then-raw-lt32768 g c =
    let s = c.args in
    rw c.from.ensures
    (inline (g.P.Payload.bytes s.payload.now) s.at s.place _ (omega (arith, c.len.ensures, c.saturating_sub-actual.ensures))
    _ c.u16_in-raw.ensures c.if-actual-header.false c.if-raw.false c.if-raw-lt32768.true)

pub returns : goal.returns
returns g c =
    let s = c.args in
    wide (g.P.Payload.bytes s.payload.now) s.at s.place _ (omega (arith, c.len.ensures, c.saturating_sub-actual.ensures))
    _ c.u16_in-raw.ensures c.if-actual-header.false c.if-raw.false _ c.extended_in.ensures c.if-raw-lt32768.false
