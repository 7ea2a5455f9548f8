-- The equations of `continuations`, with the count gone.
use Prim.Native.Nat.{ℕ, zero, suc, ◌+◌, ◌-◌, ◌/◌, ◌≤◌, ◌<◌}
use native.Mathlib.Omega.{arith}
use mathlib.Core.Path.{◌≡◌, refl, sym, ap, ◌∙◌}
use mathlib.Core.List.{List, [], ◌∷◌}
use lib.Dec.{ltb, leb}
use lib.ListN.{length}
use borrow.Author.Tests.{le-ltb, lt-ltb, le-leb, lt-leb, ltb-true, ltb-false, leb-true}
use Rattle.wire.specs.Bytes.{be16}
use Rattle.dss_head.specs.declared.Chunk.{Chunk}
use Rattle.dss_head.specs.declared.Chunk.TheVariants.{Dead, Last, Full}
use Rattle.dss_frame.specs.Rules.{chunk_under}
use Rattle.dss_frame.specs.declared.Rules.{Rules}
use Rattle.dss_frame.specs.Segments.{Walk, whole, short, dead, behind, continuation, step, walk_fuel, continuations}
use Rattle.wire.proofs.WireLaws.{by, pick_yes, pick_no, pick_same}
use Rattle.dss_laws.proofs.RawLengths.{chunk_dead}

-- a step, from what the length field says
one_step : (rules : Rules) (f : ℕ) (s : List ℕ) (q : ℕ) → 2 ≤ length s - q → walk_fuel (suc f) rules s q ≡ step s q (chunk_under rules (be16 s q)) (λ r. walk_fuel f rules s r)
unfolding walk_fuel
one_step rules f s q h = pick_no _ _ (le-ltb (length s - q) 2 h)

no_step : (rules : Rules) (f : ℕ) (s : List ℕ) (q : ℕ) → length s - q < 2 → walk_fuel (suc f) rules s q ≡ short
unfolding walk_fuel
no_step rules f s q h = pick_yes _ _ (lt-ltb (length s - q) 2 h)

-- what a step needs of the count
same_step : (s : List ℕ) (q : ℕ) (c : Chunk) (more less : ℕ → Walk) → (32767 ≤ length s - q → more (q + 32767) ≡ less (q + 32767)) → step s q c more ≡ step s q c less
same_step s q Dead more less h = refl
same_step s q Last more less h = refl
same_step s q Full more less h = pick_same (leb 32767 (length s - q)) (λ e. ap (behind (continuation q 32767)) (h (leb-true _ _ e))) (λ e. refl)

-- fuel that suffices is as good as any other that does
enough : (f g : ℕ) (rules : Rules) (s : List ℕ) (q : ℕ) → (length s - q) / 32767 < f → (length s - q) / 32767 < g → walk_fuel f rules s q ≡ walk_fuel g rules s q
enough zero g rules s q h k = absurd (omega arith)
enough (suc f) zero rules s q h k = absurd (omega arith)
enough (suc f) (suc g) rules s q h k =
    by (ltb (length s - q) 2) (λ e. let l : length s - q < 2 = ltb-true _ _ e in no_step rules f s q l ∙ sym (no_step rules g s q l))
    (λ e. let l : 2 ≤ length s - q = ltb-false _ _ e in
    one_step rules f s q l
    ∙ same_step s q (chunk_under rules (be16 s q)) (λ r. walk_fuel f rules s r) (λ r. walk_fuel g rules s r) (λ m. enough f g rules s (q + 32767) (omega arith) (omega arith))
    ∙ sym (one_step rules g s q l))

-- ---- the equations that a reader expects

-- what stands at q, as its length field says
pub continuations_step : (rules : Rules) (s : List ℕ) (q : ℕ) → 2 ≤ length s - q → continuations rules s q ≡ step s q (chunk_under rules (be16 s q)) (continuations rules s)
unfolding continuations
continuations_step rules s q h =
    one_step rules ((length s - q) / 32767) s q h
    ∙ same_step s q (chunk_under rules (be16 s q)) (λ r. walk_fuel ((length s - q) / 32767) rules s r) (λ r. walk_fuel (suc ((length s - r) / 32767)) rules s r)
    (λ l. enough ((length s - q) / 32767) (suc ((length s - (q + 32767)) / 32767)) rules s (q + 32767) (omega arith) (omega arith))

-- "short": no length field is there
pub continuations_short : (rules : Rules) (s : List ℕ) (q : ℕ) → length s - q < 2 → continuations rules s q ≡ short
unfolding continuations
continuations_short rules s q h = no_step rules ((length s - q) / 32767) s q h

step_as : (rules : Rules) (s : List ℕ) (q : ℕ) (c : Chunk) → 2 ≤ length s - q → chunk_under rules (be16 s q) ≡ c → continuations rules s q ≡ step s q c (continuations rules s)
step_as rules s q c h e = continuations_step rules s q h ∙ ap (λ (d : Chunk). step s q d (continuations rules s)) e

-- "dead": a length of 0 or 1
pub continuations_dead : (rules : Rules) (s : List ℕ) (q : ℕ) → 2 ≤ length s - q → be16 s q < 2 → continuations rules s q ≡ dead q
continuations_dead rules s q h k = step_as rules s q Dead h (chunk_dead rules (be16 s q) k)

-- "last": it is there, or not
pub continuations_last : (rules : Rules) (s : List ℕ) (q : ℕ) → 2 ≤ length s - q → chunk_under rules (be16 s q) ≡ Last → be16 s q ≤ length s - q
    → continuations rules s q ≡ whole (continuation q (be16 s q) ∷ [])
continuations_last rules s q h c k = step_as rules s q Last h c ∙ pick_yes _ _ (le-leb (be16 s q) (length s - q) k)

pub continuations_last_short : (rules : Rules) (s : List ℕ) (q : ℕ) → 2 ≤ length s - q → chunk_under rules (be16 s q) ≡ Last → length s - q < be16 s q → continuations rules s q ≡ short
continuations_last_short rules s q h c k = step_as rules s q Last h c ∙ pick_no _ _ (lt-leb (be16 s q) (length s - q) k)

-- "full step": 32,767 bytes and another, or not
pub continuations_full : (rules : Rules) (s : List ℕ) (q : ℕ) → chunk_under rules (be16 s q) ≡ Full → 32767 ≤ length s - q
    → continuations rules s q ≡ behind (continuation q 32767) (continuations rules s (q + 32767))
continuations_full rules s q c k = step_as rules s q Full (omega arith) c ∙ pick_yes _ _ (le-leb 32767 (length s - q) k)

pub continuations_full_short : (rules : Rules) (s : List ℕ) (q : ℕ) → 2 ≤ length s - q → chunk_under rules (be16 s q) ≡ Full → length s - q < 32767 → continuations rules s q ≡ short
continuations_full_short rules s q h c k = step_as rules s q Full h c ∙ pick_no _ _ (lt-leb 32767 (length s - q) k)
