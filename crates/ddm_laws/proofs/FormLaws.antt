-- How many length bytes data takes, and how long an object is.
use Prim.Native.Nat.{ℕ, ◌^◌, ◌≤◌, ◌<◌}
use native.Mathlib.Omega.{arith}
use mathlib.Core.Path.{sym, subst}
use borrow.Author.Tests.{leb-true, leb-false}
use lib.Dec.{leb}
use Rattle.layouts.specs.DdmLayout.{Width, four, six, eight}
use Rattle.ddm_builder.specs.Built.{length_bytes}
use Rattle.ddm_builder.proofs.BuiltForms.{inline_bytes, four_bytes, six_bytes, eight_bytes}
use Rattle.wire.proofs.WireLaws.{by}

pub some_bytes : {k : ℕ} → Width k → (0 < k) × (k ≤ 8)
some_bytes four = omega arith
some_bytes six = omega arith
some_bytes eight = omega arith

-- the length bytes of n bytes of data: none where the data is inline, else enough
pub data Form (n : ℕ) : ℕ → Type 0 where
  inline : n ≤ 32763 → Form n 0
  wide : {k : ℕ} → Width k → n < 256 ^ k → Form n k

pub form : (n : ℕ) → n < 2 ^ 63 → Form n (length_bytes n)
form n small =
    by (leb n 32763) (λ a. let h : n ≤ 32763 = leb-true n 32763 a in subst (Form n) (sym (inline_bytes n h)) (inline h))
    (λ a. let l : 32763 < n = leb-false n 32763 a in
    by (leb n 2147483643) (λ b. let h : n ≤ 2147483643 = leb-true n 2147483643 b in subst (Form n) (sym (four_bytes n l h)) (wide four (omega arith)))
    (λ b. let m : 2147483643 < n = leb-false n 2147483643 b in
    by (leb n 140737488355323) (λ c. let h : n ≤ 140737488355323 = leb-true n 140737488355323 c in subst (Form n) (sym (six_bytes n m h)) (wide six (omega arith)))
    (λ c. subst (Form n) (sym (eight_bytes n (leb-false n 140737488355323 c))) (wide eight (omega arith)))))
