-- What a look at what follows a frame says over a longer run: the same, unless it was finished for a reason that more bytes
-- can do away with.
use Rattle.std.specs.Prelude.{Result, Ok}
use Prim.Native.Nat.{ℕ, ◌+◌, ◌-◌, ◌≤◌, ◌<◌}
use native.Mathlib.Omega.{arith}
use mathlib.Core.Path.{◌≡◌, refl, sym, ap, ap₂, subst, ◌∙◌}
use mathlib.Core.Logic.{inr}
use mathlib.Core.Bool.{Bool, true, false}
use mathlib.Core.List.{List, ◌++◌}
use lib.Dec.{ltb, leb, eqb}
use lib.ListN.{length, length-append}
use borrow.Author.Tests.{ltb-true, ltb-false, leb-true, leb-false, eqb-false, le-ltb, lt-leb, eq-eqb, ne_eqb}
use Rattle.wire.specs.Bytes.{pick, and, be16, marker}
use Rattle.wire.proofs.WireLaws.{and_split, pick_by, pick_yes, pick_no, be16_front}
use Rattle.answer.specs.declared.Refusal.TheVariants.{LengthTooShort}
use Rattle.answer.specs.declared.Refused.{Refused}
use Rattle.dss_head.specs.Heads.{head_at}
use Rattle.dss_head.specs.declared.DssType.{DssType}
use Rattle.dss_head.specs.declared.DssHeader.{DssHeader}
use Rattle.dss_frame.specs.declared.Rules.{Rules}
use Rattle.dss_frame.specs.declared.Rules.TheVariants.{Reader, Salvage}
use Rattle.dss_frame.specs.Segments.{Segment, short, frame_walk}
use Rattle.dss_frame.specs.Reading.{Look, finished, absorbs, refuses, look, look_at, refusal, follows, own_object, dropped_at}
use Rattle.demands.specs.Longer.{Unsettled, few_left, beyond, OfHead, Apart, continued, clear, other_type, own_object_is}
use Rattle.dss_laws.proofs.Looking.{TakenLook}
use Rattle.demands.proofs.LongerRuns.{picks, picks_later, fits_longer, head_longer, HeadSays, finds, refuses_head, head_says, walk_few}

-- what a look at q says, and what one over a longer run says
pub data Looks (s : List ℕ) (type : DssType) (q : ℕ) : Look → Look → Type 0 where
  finishes : Looks s type q finished finished
  takes : (g : Segment) (c : Bool) → TakenLook s q g → Looks s type q (absorbs g c) (absorbs g c)
  stops : (r : Refused) → OfHead r → r.place ≡ q → Looks s type q (refuses r) (refuses r)
  unsettled : Unsettled s type q → (l : Look) → Looks s type q finished l

looks_refusal : (rules : Rules) (s : List ℕ) (type : DssType) (q : ℕ) (r : Refused) → OfHead r → r.place ≡ q → Looks s type q (refusal rules r) (refusal rules r)
looks_refusal Reader s type q r n e = stops r n e
looks_refusal Salvage s type q r n e = finishes

-- ---- the tests of a segment that is there

and_same : (a b x y : Bool) → a ≡ b → (a ≡ true → x ≡ y) → and a x ≡ and b y
and_same true b x y e f = f refl ∙ ap (λ (c : Bool). and c y) e
and_same false b x y e f = ap (λ (c : Bool). and c y) e

own_longer : (s t : List ℕ) (q : ℕ) → be16 s q ≤ length s - q → be16 (s ++ t) q ≡ be16 s q → own_object s q ≡ own_object (s ++ t) q
own_longer s t q h raw =
    and_same (ltb 10 (be16 s q)) (ltb 10 (be16 (s ++ t) q)) _ _ (ap (ltb 10) (sym raw))
    (λ e. let l : 10 < be16 s q = ltb-true 10 (be16 s q) e in
    let code : be16 s (q + 8) ≡ be16 (s ++ t) (q + 8) = sym (be16_front s t (q + 8) (omega arith)) in
    let size : be16 s (q + 6) ≡ be16 (s ++ t) (q + 6) = sym (be16_front s t (q + 6) (omega arith)) in
    ap (λ (n : ℕ). and (ltb 256 n) (leb (be16 s (q + 6)) (be16 s q - 2))) code
    ∙ ap₂ (λ (m n : ℕ). and (ltb 256 (be16 (s ++ t) (q + 8))) (leb m (n - 2))) size (sym raw))

dropped_longer : (s t : List ℕ) (extended : Bool) (q : ℕ) → be16 s q ≤ length s - q → be16 (s ++ t) q ≡ be16 s q → dropped_at s extended q ≡ dropped_at (s ++ t) extended q
dropped_longer s t extended q h raw =
    ap (λ (b : Bool). pick b 2 0)
    (and_same extended extended _ _ refl
    (λ e. and_same (leb 8 (be16 s q)) (leb 8 (be16 (s ++ t) q)) _ _ (ap (leb 8) (sym raw))
    (λ e₁. let l : 8 ≤ be16 s q = leb-true 8 (be16 s q) e₁ in ap marker (sym (be16_front s t (q + 6) (omega arith))))))

-- ---- a look

module _ (rules : Rules) (s t : List ℕ) (type : DssType) (extended : Bool) (q : ℕ) where
  segment : ℕ → ℕ → Bool → Look
  segment n d c = absorbs (record { at = q; framing = 6; dropped = d; end = q + n }) c

  -- a segment that is there: too short, an object of its own, or absorbed
  looks_there : (h : DssHeader) → 6 ≤ length s - q → be16 s q ≤ length s - q → be16 (s ++ t) q ≡ be16 s q
      → Looks s type q
      (pick (ltb (be16 s q) 6) (refusal rules (record { why = LengthTooShort (be16 s q); place = q }))
      (pick (own_object s q) finished (segment (be16 s q) (dropped_at s extended q) h.flags.chained)))
      (pick (ltb (be16 (s ++ t) q) 6) (refusal rules (record { why = LengthTooShort (be16 (s ++ t) q); place = q }))
      (pick (own_object (s ++ t) q) finished (segment (be16 (s ++ t) q) (dropped_at (s ++ t) extended q) h.flags.chained)))
  unfolding segment
  looks_there h six there raw =
      picks (Looks s type q) (ltb (be16 s q) 6) (ltb (be16 (s ++ t) q) 6) (ap (λ (n : ℕ). ltb n 6) (sym raw))
      (λ e. subst (λ (n : ℕ). Looks s type q (refusal rules (record { why = LengthTooShort (be16 s q); place = q })) (refusal rules (record { why = LengthTooShort n; place = q }))) (sym raw)
      (looks_refusal rules s type q _ (inr (inr refl)) refl))
      (λ e. let l : 6 ≤ be16 s q = ltb-false _ _ e in
      picks (Looks s type q) (own_object s q) (own_object (s ++ t) q) (own_longer s t q there raw) (λ e₁. finishes)
      (λ e₁. subst (Looks s type q (segment (be16 s q) (dropped_at s extended q) h.flags.chained))
      (ap₂ (λ (n d : ℕ). segment n d h.flags.chained) (sym raw) (dropped_longer s t extended q there raw))
      (takes _ _ (record { six = omega arith; there = omega arith }))))

  looks_head : (x : Result DssHeader Refused) → head_at s q ≡ x → HeadSays q x → 6 ≤ length s - q → Looks s type q (look_at rules s type extended q x) (look_at rules (s ++ t) type extended q x)
  unfolding segment
  looks_head x k (refuses_head r n e) six = looks_refusal rules s type q r n e
  looks_head x k (finds h) six =
      let raw : be16 (s ++ t) q ≡ be16 s q = be16_front s t q (omega arith) in
      picks (Looks s type q) (eqb (be16 s q) 65535) (eqb (be16 (s ++ t) q) 65535) (ap (λ (n : ℕ). eqb n 65535) (sym raw)) (λ e. finishes)
      (λ e. picks (Looks s type q) h.flags.same_correlation h.flags.same_correlation refl
      (λ e₁. picks (Looks s type q) (follows type h.dss_type) (follows type h.dss_type) refl
      (λ e₂. picks_later (Looks s type q) (leb (be16 s q) (length s - q)) (leb (be16 (s ++ t) q) (length (s ++ t) - q))
      (fits_longer s t (be16 (s ++ t) q) (be16 s q) q raw)
      (λ e₃. looks_there h six (leb-true _ _ e₃) raw)
      (λ e₃. unsettled (beyond h k (eqb-false _ _ e) e₁ e₂ (leb-false _ _ e₃))))
      (λ e₂. finishes))
      (λ e₁. finishes))

  pub look_longer : Looks s type q (look rules s type extended q) (look rules (s ++ t) type extended q)
  unfolding look
  look_longer =
      pick_by (λ (l : Look). Looks s type q l (look rules (s ++ t) type extended q)) (ltb (length s - q) 6) _ _ (λ e. unsettled (few_left (ltb-true _ _ e)) _)
      (λ e. let six : 6 ≤ length s - q = ltb-false _ _ e in
      subst (Looks s type q (look_at rules s type extended q (head_at s q)))
      (sym (pick_no _ _ (le-ltb (length (s ++ t) - q) 6 (omega (arith, length-append s t))) ∙ ap (look_at rules (s ++ t) type extended q) (head_longer s t q six)))
      (looks_head (head_at s q) refl (head_says s q six) six))

-- where a frame's end is unsettled, no whole frame follows
pub unsettled_short : (rules : Rules) (s : List ℕ) (type : DssType) (q : ℕ) → Unsettled s type q → frame_walk rules s q ≡ short
unfolding frame_walk
unsettled_short rules s type q (few_left h) = walk_few rules s q h
unsettled_short rules s type q (beyond h k ne same follow far) =
    pick_by (λ w. w ≡ short) (ltb (length s - q) 6) _ _ (λ e. refl)
    (λ e. pick_no _ _ (ne_eqb (be16 s q) 65535 ne) ∙ pick_no _ _ (lt-leb (be16 s q) (length s - q) far))

-- what is no segment of the frame before it finishes a look
own_finished : (rules : Rules) (s : List ℕ) (type : DssType) (extended : Bool) (q : ℕ) (h : DssHeader) → own_object s q ≡ true → look_at rules s type extended q (Ok h) ≡ finished
own_finished rules s type extended q h o =
    let l : 10 < be16 s q = ltb-true 10 (be16 s q) (and_split (ltb 10 (be16 s q)) _ o).0 in
    let done : Look → Type 0 = λ x. x ≡ finished in
    pick_by done (eqb (be16 s q) 65535) _ _ (λ e. refl)
    (λ e. pick_by done h.flags.same_correlation _ _
    (λ e₁. pick_by done (follows type h.dss_type) _ _
    (λ e₂. pick_by done (leb (be16 s q) (length s - q)) _ _ (λ e₃. pick_no _ _ (le-ltb (be16 s q) 6 (omega arith)) ∙ pick_yes _ _ o) (λ e₃. refl))
    (λ e₂. refl))
    (λ e₁. refl))

apart_at : (rules : Rules) (s : List ℕ) (type : DssType) (extended : Bool) (q : ℕ) → Apart s type q → look_at rules s type extended q (head_at s q) ≡ finished
apart_at rules s type extended q (continued h k e) = ap (look_at rules s type extended q) k ∙ pick_yes _ _ (eq-eqb (be16 s q) 65535 e)
apart_at rules s type extended q (clear h k e) =
    ap (look_at rules s type extended q) k ∙ pick_by (λ (x : Look). x ≡ finished) (eqb (be16 s q) 65535) _ _ (λ e₁. refl) (λ e₁. pick_no _ _ e)
apart_at rules s type extended q (other_type h k e) =
    ap (look_at rules s type extended q) k
    ∙ pick_by (λ (x : Look). x ≡ finished) (eqb (be16 s q) 65535) _ _ (λ e₁. refl)
    (λ e₁. pick_by (λ (x : Look). x ≡ finished) h.flags.same_correlation _ _ (λ e₂. pick_no _ _ e) (λ e₂. refl))
apart_at rules s type extended q (own_object_is h k e) = ap (look_at rules s type extended q) k ∙ own_finished rules s type extended q h e

pub apart_finished : (rules : Rules) (s : List ℕ) (type : DssType) (extended : Bool) (q : ℕ) → Apart s type q → look rules s type extended q ≡ finished
unfolding look
apart_finished rules s type extended q a = pick_by (λ (x : Look). x ≡ finished) (ltb (length s - q) 6) _ _ (λ e. refl) (λ e. apart_at rules s type extended q a)
