-- The equations of the writer's `chunks`, with the count gone.
use Prim.Native.Nat.{ℕ, zero, suc, ◌+◌, ◌/◌, ◌≤◌, ◌<◌}
use native.Mathlib.Omega.{arith}
use mathlib.Core.Path.{◌≡◌, sym, ap, ◌∙◌}
use mathlib.Core.List.{List, ◌++◌}
use lib.Dec.{leb}
use lib.ListN.{length, take, drop, length-drop}
use borrow.Author.Tests.{le-leb, lt-leb, leb-true, leb-false}
use Rattle.wire.specs.Bytes.{two}
use Rattle.dss_frame.specs.Written.{chunks_fuel, chunks}
use Rattle.wire.proofs.WireLaws.{by, pick_yes, pick_no}

last : (f : ℕ) (b : List ℕ) → length b ≤ 32765 → chunks_fuel (suc f) b ≡ two (length b + 2) ++ b
unfolding chunks_fuel
last f b h = pick_yes _ _ (le-leb (length b) 32765 h)

more : (f : ℕ) (b : List ℕ) → 32765 < length b → chunks_fuel (suc f) b ≡ two 65535 ++ (take 32765 b ++ chunks_fuel f (drop 32765 b))
unfolding chunks_fuel
more f b h = pick_no _ _ (lt-leb (length b) 32765 h)

-- fuel that suffices is as good as any other that does
enough : (f g : ℕ) (b : List ℕ) → length b / 32765 < f → length b / 32765 < g → chunks_fuel f b ≡ chunks_fuel g b
enough zero g b h k = absurd (omega arith)
enough (suc f) zero b h k = absurd (omega arith)
enough (suc f) (suc g) b h k =
    by (leb (length b) 32765) (λ e. let l : length b ≤ 32765 = leb-true _ _ e in last f b l ∙ sym (last g b l))
    (λ e. let l : 32765 < length b = leb-false _ _ e in
    more f b l
    ∙ ap (λ (r : List ℕ). two 65535 ++ (take 32765 b ++ r))
    (enough f g (drop 32765 b) (omega (arith, length-drop 32765 b)) (omega (arith, length-drop 32765 b)))
    ∙ sym (more g b l))

-- "last": bytes + 2, and the bytes
pub chunks_last : (b : List ℕ) → length b ≤ 32765 → chunks b ≡ two (length b + 2) ++ b
unfolding chunks
chunks_last b h = last (length b / 32765) b h

-- "more": 0xFFFF, 32,765 bytes, and the chunks of the rest
pub chunks_more : (b : List ℕ) → 32765 < length b → chunks b ≡ two 65535 ++ (take 32765 b ++ chunks (drop 32765 b))
unfolding chunks
chunks_more b h =
    more (length b / 32765) b h
    ∙ ap (λ (r : List ℕ). two 65535 ++ (take 32765 b ++ r))
    (enough (length b / 32765) (suc (length (drop 32765 b) / 32765)) (drop 32765 b) (omega (arith, length-drop 32765 b)) (omega arith))
