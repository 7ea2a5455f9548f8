-- The walk over all objects with its fuel gone: its three equations.
use Prim.Native.Nat.{ℕ, zero, suc, ◌+◌, ◌≤◌, ◌<◌}
use native.Mathlib.Omega.{arith}
use mathlib.Core.Path.{◌≡◌, refl, ◌∙◌, ap}
use mathlib.Core.List.{List, []}
use borrow.Author.Tests.{le-ltb, lt-ltb}
use lib.Dec.{ltb}
use lib.ListN.{length, drop}
use Rattle.answer.specs.declared.Refused.{Refused}
use Rattle.wire.specs.Bytes.{pick}
use Rattle.ddm_object.specs.Objects.{Object, Parsed, object, refused, objects, refused_all, and_more, with_rest, parsed, all_fuel, all_objects}
use Rattle.wire.proofs.WireLaws.{pick_yes, pick_no}
use Rattle.ddm_object.proofs.ParamWalks.{found, sized, left}
use Rattle.ddm_object.specs.inner.Walked.{all_from}

-- fuel that suffices is as good as any other that does
pub enough : (f g : ℕ) (b : List ℕ) (place : ℕ) → length b < f → length b < g → all_fuel f b place ≡ all_fuel g b place
unfolding all_fuel
enough zero g b place h k = absurd (omega arith)
enough (suc f) zero b place h k = absurd (omega arith)
enough (suc f) (suc g) b place h k =
    ap (pick (ltb (length b) 4) (objects [])) (go (parsed b place) refl (λ n l. enough f g (drop n b) (place + n) (omega arith) (omega arith)))
  where
    go : (x : Parsed) → parsed b place ≡ x → ((n : ℕ) → length (drop n b) < length b → all_fuel f (drop n b) (place + n) ≡ all_fuel g (drop n b) (place + n))
        → with_rest x (λ n. all_fuel f (drop n b) (place + n)) ≡ with_rest x (λ n. all_fuel g (drop n b) (place + n))
    go (object o) q ih = ap (and_more o) (ih o.consumed (left (found b place o q)))
    go (refused r) q ih = refl

pub all_from_lem : (b : List ℕ) → all_objects b ≡ all_from b 0
unfolding all_objects all_from
all_from_lem b = refl

-- "ignores 1 to 3 last bytes"
pub all_short : (b : List ℕ) (place : ℕ) → length b < 4 → all_from b place ≡ objects []
unfolding all_from
all_short b place h = pick_yes _ _ (lt-ltb (length b) 4 h)

-- "and refuses whole on any refusal"
pub all_refused : (b : List ℕ) (place : ℕ) (r : Refused) → 4 ≤ length b → parsed b place ≡ refused r → all_from b place ≡ refused_all r
unfolding all_from
all_refused b place r h e =
    pick_no _ _ (le-ltb (length b) 4 h) ∙ ap (λ x. with_rest x (λ n. all_fuel (length b) (drop n b) (place + n))) e

pub all_step : (b : List ℕ) (place : ℕ) (o : Object) → parsed b place ≡ object o
    → all_from b place ≡ and_more o (all_from (drop o.consumed b) (place + o.consumed))
unfolding all_from
all_step b place o e =
    pick_no _ _ (le-ltb (length b) 4 (omega (arith, sized (found b place o e))))
    ∙ ap (λ x. with_rest x (λ n. all_fuel (length b) (drop n b) (place + n))) e
    ∙ ap (and_more o) (enough (length b) (suc (length (drop o.consumed b))) (drop o.consumed b) (place + o.consumed) (left (found b place o e)) (omega arith))
