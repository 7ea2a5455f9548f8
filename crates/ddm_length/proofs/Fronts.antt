-- An object says by its own bytes how long it is: what stands behind them does not matter.
use Prim.Native.Nat.{ℕ, ◌+◌, ◌-◌, ◌≤◌}
use native.Mathlib.Omega.{arith}
use mathlib.Core.Path.{◌≡◌, sym, ◌∙◌, ap}
use mathlib.Core.List.{List, ◌++◌}
use lib.ListN.{length, length-append}
use Rattle.wire.specs.Bytes.{be16, spelled}
use Rattle.wire.proofs.WireLaws.{be16_front, part_front}
use Rattle.ddm_length.proofs.TakenLengths.{TakenLength, inline, all, wide}

-- header and whole, in order
pub in_order : {b : List ℕ} {t h : ℕ} → TakenLength b t h → (4 ≤ h) × (h ≤ t) × (t ≤ length b)
in_order (inline et eh lo hi fits) = omega arith
in_order (all four raw et eh) = omega arith
in_order (wide raw lo et hi fits) = omega arith

pub grow : (p s : List ℕ) (t h : ℕ) → t ≤ length p → ¬ (be16 p 0 ≡ 0x8004) → TakenLength p t h → TakenLength (p ++ s) t h
grow p s t h l n (inline et eh lo hi fits) = inline (et ∙ sym (be16_front p s 0 (omega arith))) eh lo hi (omega (arith, length-append p s))
grow p s t h l n (all four raw et eh) = absurd (n raw)
grow p s t h l n (wide raw lo et hi fits) =
    wide (be16_front p s 0 (omega arith) ∙ raw) lo (et ∙ ap (λ (x : List ℕ). h + spelled 0 x) (sym (part_front p s 4 (h - 4) (omega arith)))) hi
    (omega (arith, length-append p s))

pub shrink : (p s : List ℕ) (t h : ℕ) → t ≤ length p → ¬ (be16 p 0 ≡ 0x8004) → TakenLength (p ++ s) t h → TakenLength p t h
shrink p s t h l n (inline et eh lo hi fits) = inline (et ∙ be16_front p s 0 (omega arith)) eh lo hi l
shrink p s t h l n (all four raw et eh) = absurd (n (sym (be16_front p s 0 (omega (arith, length-append p s))) ∙ raw))
shrink p s t h l n (wide raw lo et hi fits) =
    wide (sym (be16_front p s 0 (omega arith)) ∙ raw) lo (et ∙ ap (λ (x : List ℕ). h + spelled 0 x) (part_front p s 4 (h - 4) (omega arith))) hi l
