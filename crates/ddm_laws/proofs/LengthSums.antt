-- The extended number read byte by byte, refused as soon as it passes 2^64 - 1: it is the number that all the bytes spell.
use Rattle.std.specs.Prelude.{Result, Ok}
use Prim.Native.Nat.{ℕ, ◌+◌, ◌*◌, ◌^◌, ◌≤◌, ◌<◌}
use native.Mathlib.Omega.{arith}
use mathlib.Core.Path.{◌≡◌, sym, ◌∙◌, ap}
use mathlib.Core.List.{List, [], ◌∷◌}
use mathlib.Core.Option.{Option, none, some}
use borrow.Author.Tests.{ltb-true, ltb-false, le-ltb, lt-ltb}
use lib.Dec.{ltb}
use Rattle.wire.specs.Bytes.{pick, spelled}
use Rattle.answer.specs.declared.Refusal.TheVariants.{LengthTooLarge}
use Rattle.ddm_length.proofs.NumberSums.{spelled_grows}
use Rattle.ddm_length.specs.Lengths.{refuse, extended_total}
use Rattle.wire.proofs.WireLaws.{by, pick_yes, pick_no}
use Rattle.ddm_length.specs.declared.Marshaled.{Marshaled}
use Rattle.answer.specs.declared.Refused.{Refused}
use Rattle.ddm_length.specs.Lengths.{takes}

-- the loop
unfoldable pub summed : ℕ → List ℕ → Option ℕ
summed n [] = some n
summed n (b ∷ bs) = pick (ltb (n * 256 + b) (2 ^ 64)) (summed (n * 256 + b) bs) none

abbrev pub within : ℕ → Option ℕ
within n = pick (ltb n (2 ^ 64)) (some n) none

pub summed_is : (n : ℕ) (bs : List ℕ) → n < 2 ^ 64 → summed n bs ≡ within (spelled n bs)
unfolding summed spelled
summed_is n [] h = sym (pick_yes _ _ (lt-ltb n (2 ^ 64) h))
summed_is n (b ∷ bs) h =
    by (ltb (n * 256 + b) (2 ^ 64))
    (λ e. pick_yes _ _ e ∙ summed_is (n * 256 + b) bs (ltb-true (n * 256 + b) (2 ^ 64) e))
    (λ e. let l : 2 ^ 64 ≤ n * 256 + b = ltb-false (n * 256 + b) (2 ^ 64) e in
    pick_no _ _ e ∙ sym (pick_no _ _ (le-ltb (spelled (n * 256 + b) bs) (2 ^ 64) (omega (arith, spelled_grows (n * 256 + b) bs)))))

-- and the header's length added to it
abbrev pub plus : ℕ → Option ℕ → Option ℕ
plus header none = none
plus header (some n) = within (header + n)

pub plus_within : (header n : ℕ) → plus header (within n) ≡ within (header + n)
plus_within header n =
    by (ltb n (2 ^ 64)) (λ e. ap (plus header) (pick_yes (some n) none e))
    (λ e. let l : 2 ^ 64 ≤ n = ltb-false n (2 ^ 64) e in
    ap (plus header) (pick_no (some n) none e) ∙ sym (pick_no _ _ (le-ltb (header + n) (2 ^ 64) (omega arith))))

-- "8 when the number in all length bytes plus header length exceeds 2^64 - 1"
pub sum_is : (header : ℕ) (bs : List ℕ) → plus header (summed 0 bs) ≡ within (header + spelled 0 bs)
sum_is header bs = ap (plus header) (summed_is 0 bs (omega arith)) ∙ plus_within header (spelled 0 bs)

abbrev pub by_total : Option ℕ → (ℕ → Result Marshaled Refused) → Result Marshaled Refused → Result Marshaled Refused
by_total none f x = x
by_total (some n) f x = f n

by_within : (n : ℕ) (f : ℕ → Result Marshaled Refused) (x : Result Marshaled Refused) → by_total (within n) f x ≡ pick (ltb n (2 ^ 64)) (f n) x
by_within n f x =
    by (ltb n (2 ^ 64)) (λ e. ap (λ o. by_total o f x) (pick_yes (some n) none e) ∙ sym (pick_yes (f n) x e))
    (λ e. ap (λ o. by_total o f x) (pick_no (some n) none e) ∙ sym (pick_no (f n) x e))

-- what the length field says, by the loop
pub extended_sum : (place header : ℕ) (bs : List ℕ)
    → extended_total place header (header + spelled 0 bs)
    ≡ by_total (plus header (summed 0 bs)) (λ total. Ok (takes total header)) (refuse place (LengthTooLarge header))
extended_sum place header bs =
    sym (ap (λ o. by_total o (λ total. Ok (takes total header)) (refuse place (LengthTooLarge header))) (sum_is header bs)
    ∙ by_within (header + spelled 0 bs) (λ total. Ok (takes total header)) (refuse place (LengthTooLarge header)))
