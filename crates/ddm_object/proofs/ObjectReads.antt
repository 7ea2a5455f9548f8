-- Bytes that read as one object, whatever stands behind them.
use Prim.Native.Nat.{ℕ, suc, ◌+◌, ◌-◌, ◌^◌, ◌≤◌, ◌<◌}
use native.Mathlib.Omega.{arith}
use mathlib.Core.Path.{◌≡◌, refl, sym, ◌∙◌, ap}
use mathlib.Core.List.{List, ◌++◌}
use borrow.Author.Tests.{ne_eqb}
use lib.ListN.{length, take, drop, length-append}
use lib.Seq.{take_at, drop_at, drop-append_seam, take_all}
use Rattle.wire.specs.Bytes.{two, be16, spelled}
use Rattle.ddm_object.specs.Objects.{Object, object, parsed, content_of}
use Rattle.wire.proofs.WireLaws.{pick_no, part_front, be16_front}
use Rattle.ddm_length.proofs.TakenLengths.{TakenLength, inline, wide, taken_measured}
use Rattle.ddm_length.proofs.Fronts.{in_order, grow}

abbrev pub made : ℕ → List ℕ → ℕ → Object
made cp d n = record { code_point = cp; content = d; consumed = n }

made_is : {cp cp' : ℕ} {d d' : List ℕ} {n n' : ℕ} → cp ≡ cp' → d ≡ d' → n ≡ n' → object (made cp d n) ≡ object (made cp' d' n')
made_is p q r = λ i. object (made (p i) (q i) (r i))

pub taken_parsed : (b : List ℕ) (t h place : ℕ) → TakenLength b t h → parsed b place ≡ object (made (be16 b 2) (content_of b t h) t)
unfolding parsed
taken_parsed b t h place k = rw (taken_measured b t h place k)

pub content_plain : (b : List ℕ) (t h : ℕ) → ¬ (be16 b 0 ≡ 0x8004) → content_of b t h ≡ take (t - h) (drop h b)
content_plain b t h n = pick_no _ _ (ne_eqb (be16 b 0) 0x8004 n)

pub record Reads (p : List ℕ) (o : Object) : Type 0 where
  pub back : (s : List ℕ) (place : ℕ) → parsed (p ++ s) place ≡ object o
  pub whole : o.consumed ≡ length p
  pub four : 4 ≤ length p

-- what stands behind them
pub past : {p : List ℕ} {o : Object} → Reads p o → (s : List ℕ) → drop o.consumed (p ++ s) ≡ s
past {p} {o} r s = drop_at p s o.consumed (sym r.whole)

-- bytes whose own length is theirs
pub own_reads : (p : List ℕ) (h cp : ℕ) (d : List ℕ) → TakenLength p (length p) h → ¬ (be16 p 0 ≡ 0x8004) → be16 p 2 ≡ cp → take (length p - h) (drop h p) ≡ d
    → Reads p (made cp d (length p))
own_reads p h cp d k n ec ed =
    let o : (4 ≤ h) × (h ≤ length p) × (length p ≤ length p) = in_order k in
    record {
      back = λ s place.
          taken_parsed (p ++ s) (length p) h place (grow p s (length p) h (omega arith) n k)
          ∙ made_is (be16_front p s 2 (omega arith) ∙ ec)
          (content_plain (p ++ s) (length p) h (λ e. n (sym (be16_front p s 0 (omega arith)) ∙ e)) ∙ part_front p s h (length p - h) (omega arith) ∙ ed) refl;
      whole = refl;
      four = omega arith;
    }

module _ (cp : ℕ) (d : List ℕ) (small : cp < 65536) where
  pub inline_reads : length d + 4 ≤ 0x7FFF → let p = two (length d + 4) ++ (two cp ++ d) in Reads p (made cp d (length p))
  inline_reads h =
      let p : List ℕ = two (length d + 4) ++ (two cp ++ d) in
      own_reads p 4 cp d (inline (omega arith) refl (omega arith) (omega arith) (omega arith)) (λ e. omega arith) (omega arith)
      (take_all (length p - 4) d (omega arith))

  -- any number of length bytes
  pub wide_reads : (ls : List ℕ) → 0 < length ls → length ls < 0x7000 → spelled 0 ls ≡ length d → length d < 2 ^ 63
      → let p = two (0x8004 + length ls) ++ (two cp ++ (ls ++ d)) in Reads p (made cp d (length p))
  wide_reads ls lo hi says few =
      let p : List ℕ = two (0x8004 + length ls) ++ (two cp ++ (ls ++ d)) in
      let h : ℕ = suc (suc (suc (suc (length ls)))) in
      let whole : length p ≡ h + length d = omega (arith, length-append ls d) in
      own_reads p h cp d
      (wide (omega arith) (omega arith) (whole ∙ ap (λ (n : ℕ). h + n) (sym says) ∙ ap (λ (l : List ℕ). h + spelled 0 l) (sym (take_at ls d (h - 4) (omega arith)))) (omega arith) (omega arith))
      (λ e. omega arith) (omega arith) (ap (take (length p - h)) (drop-append_seam ls d) ∙ take_all (length p - h) d (omega arith))
