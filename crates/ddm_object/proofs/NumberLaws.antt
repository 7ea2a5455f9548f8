-- Four bytes as a number, and as two's complement.
use Rattle.std.specs.Prelude.{Ok, Err}
use Prim.Native.Nat.{ℕ, ◌^◌, ◌≤◌, ◌<◌}
use native.Mathlib.Omega.{arith}
use mathlib.Core.Path.{◌≡◌, sym, ◌∙◌, ap}
use mathlib.Core.List.{List, [], ◌∷◌}
use borrow.Author.Tests.{lt-ltb}
use lib.Dec.{leb, ltb}
use lib.IntN.{pos}
use lib.ListN.{length, take, get_or}
use mir.Syntax.{w32}
use mir.Val.{to_z}
use Rattle.std.specs.Int.{from_be_bytes}
use Rattle.wire.specs.Bytes.{pick, spelled}
use Rattle.wire.proofs.WireLaws.{picked, pick_yes, pick_no}
use Rattle.answer.specs.declared.Refused.{Refused}
use Rattle.ddm_object.specs.ObjectCalls.{u32_of, signed32, i32_of}

-- four bytes at the front of data
pub four_spelled : (d : List ℕ) → 4 ≤ length d → spelled 0 (take 4 d) ≡ from_be_bytes w32 (get_or d 0 0 ∷ get_or d 1 0 ∷ get_or d 2 0 ∷ get_or d 3 0 ∷ [])
unfolding spelled
four_spelled [] h = absurd (omega arith)
four_spelled (a ∷ []) h = absurd (omega arith)
four_spelled (a ∷ b ∷ []) h = absurd (omega arith)
four_spelled (a ∷ b ∷ c ∷ []) h = absurd (omega arith)
four_spelled (a ∷ b ∷ c ∷ e ∷ d) h = omega arith

pub signed_is : (n : ℕ) → n < 2 ^ 32 → to_z w32 n ≡ signed32 n
signed_is n h = ap (pick (ltb n (2 ^ 31)) (pos n)) (sym (pick_yes _ _ (lt-ltb n (2 ^ 32) h)))

-- the signed number of the unsigned one
pub i32_number : (d : List ℕ) (n : ℕ) → u32_of d ≡ Ok n → i32_of d ≡ Ok (signed32 n)
unfolding u32_of i32_of
i32_number d n e =
    picked (leb 4 (length d)) e
    (λ c r. let s : spelled 0 (take 4 d) ≡ n = cc in pick_yes _ _ c ∙ ap (λ (k : ℕ). Ok (signed32 k)) s)
    (λ c r. absurd (let z : ◌≡◌ {A = ℕ} 0 1 = cc in omega arith))

pub i32_none : (d : List ℕ) (x : Refused) → u32_of d ≡ Err x → i32_of d ≡ Err x
unfolding u32_of i32_of
i32_none d x e =
    picked (leb 4 (length d)) e (λ c r. absurd (let z : ◌≡◌ {A = ℕ} 0 1 = cc in omega arith)) (λ c r. pick_no _ _ c ∙ ap Err (cc))
