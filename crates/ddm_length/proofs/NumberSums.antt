-- The extended number read byte by byte: what the bytes so far spell, and the test that comes before each step.
use Rattle.std.specs.Prelude.{Some, None}
use Prim.Native.Nat.{ℕ, suc, ◌+◌, ◌*◌, ◌^◌, ◌≤◌, ◌<◌}
use native.Mathlib.Omega.{arith}
use native.Mathlib.Numerals.{add-one}
use mathlib.Core.Path.{◌≡◌, sym, ◌∙◌, ap}
use mathlib.Core.Logic.{◌↔◌}
use mathlib.Core.List.{List, [], ◌∷◌}
use borrow.Author.Tests.{ltb-false, lt-ltb, le-ltb}
use lib.Dec.{ltb}
use lib.ListN.{length, get_or, take, drop, take-append-drop}
use lib.Seq.{take-suc, take_all}
use Rattle.wire.specs.Bytes.{spelled}
use Rattle.wire.proofs.WireLaws.{picked, pick_yes, pick_no}
use Rattle.wire.proofs.Widths.{spelled_append}
use Rattle.ddm_length.specs.inner.Numbered.{spelled_number}

-- a number only grows with its bytes
pub spelled_grows : (n : ℕ) (bs : List ℕ) → n ≤ spelled n bs
unfolding spelled
spelled_grows n [] = omega arith
spelled_grows n (b ∷ bs) = omega (arith, spelled_grows (n * 256 + b) bs)

-- the test that a machine can make before it multiplies
pub room : (n b : ℕ) → b < 256 → (n * 256 + b < 2 ^ 64) ↔ (n < 2 ^ 56)
room n b h = omega arith

-- the loop's step, by place
pub spelled_step : (bs : List ℕ) (i : ℕ) → i < length bs → spelled 0 (take (suc i) bs) ≡ spelled 0 (take i bs) * 256 + get_or bs i 0
unfolding spelled
spelled_step bs i h = ap (spelled 0) (take-suc bs i 0 h) ∙ spelled_append 0 (take i bs) (get_or bs i 0 ∷ [])

-- what the bytes so far spell is no more than all
pub spelled_front : (bs : List ℕ) (i : ℕ) → spelled 0 (take i bs) ≤ spelled 0 bs
spelled_front bs i =
    omega (arith, spelled_grows (spelled 0 (take i bs)) (drop i bs), spelled_append 0 (take i bs) (drop i bs), ap (spelled 0) (take-append-drop i bs))

-- ---- the number that all bytes spell, where it is below 2^64

pub number_is : (bs : List ℕ) (n : ℕ) → spelled_number bs ≡ Some n → spelled 0 bs ≡ n
unfolding spelled_number
number_is bs n e = picked (ltb (spelled 0 bs) (2 ^ 64)) e (λ c r. cc) (λ c r. cc)

pub number_large : (bs : List ℕ) → spelled_number bs ≡ None → 2 ^ 64 ≤ spelled 0 bs
unfolding spelled_number
number_large bs e =
    picked (ltb (spelled 0 bs) (2 ^ 64)) e (λ c r. absurd (let z : ◌≡◌ {A = ℕ} 0 1 = cc in omega arith)) (λ c r. ltb-false (spelled 0 bs) (2 ^ 64) c)

-- a step that would pass 2^64 - 1
pub number_stops : (bs : List ℕ) (i n : ℕ) → i < length bs → n ≡ spelled 0 (take i bs) → 2 ^ 64 ≤ n * 256 + get_or bs i 0 → spelled_number bs ≡ None
unfolding spelled_number
number_stops bs i n h e l =
    pick_no _ _ (le-ltb (spelled 0 bs) (2 ^ 64) (omega (arith, spelled_step bs i h, spelled_front bs (suc i))))

-- a step that doesn't
pub number_goes_on : (bs : List ℕ) (i n m : ℕ) → i < length bs → n ≡ spelled 0 (take i bs) → m ≡ n * 256 + get_or bs i 0 → m ≡ spelled 0 (take (i + 1) bs)
number_goes_on bs i n m h e k =
    k ∙ ap (λ (x : ℕ). x * 256 + get_or bs i 0) e ∙ sym (ap (λ (j : ℕ). spelled 0 (take j bs)) (add-one i) ∙ spelled_step bs i h)

-- all bytes are read
pub number_ends : (bs : List ℕ) (i n : ℕ) → length bs ≤ i → n ≡ spelled 0 (take i bs) → n < 2 ^ 64 → Some n ≡ spelled_number bs
unfolding spelled_number
number_ends bs i n h e l =
    let f : n ≡ spelled 0 bs = e ∙ ap (spelled 0) (take_all i bs h) in
    rw f (sym (pick_yes _ _ (lt-ltb (spelled 0 bs) (2 ^ 64) (omega arith))))
