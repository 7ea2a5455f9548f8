-- What holds of a walk, by what it comes to: one induction over continuations, and one look at a frame's first length.
use Prim.Native.Nat.{ℕ, zero, suc, ◌+◌, ◌-◌, ◌/◌, ◌≤◌}
use mathlib.Core.Path.{◌≡◌, refl}
use mathlib.Core.List.{List, [], ◌∷◌}
use lib.Dec.{ltb, leb, eqb}
use lib.ListN.{length}
use borrow.Author.Tests.{ltb-false, leb-true}
use Rattle.wire.specs.Bytes.{be16}
use Rattle.wire.proofs.WireLaws.{pick_by}
use Rattle.dss_head.specs.declared.Chunk.{Chunk}
use Rattle.dss_head.specs.declared.Chunk.TheVariants.{Dead, Last, Full}
use Rattle.dss_frame.specs.Rules.{chunk_under}
use Rattle.dss_frame.specs.declared.Rules.{Rules}
use Rattle.dss_frame.specs.Segments.{Walk, whole, short, dead, behind, continuation, first, step, walk_fuel, continuations, frame_walk}

module _ (rules : Rules) (s : List ℕ) where
  -- what holds of the walk from any continuation on: where bytes are missing, where a length is dead, of a last one, and of a full one
  -- where it holds of what stands behind it
  module _ (P : ℕ → Walk → Type 0) (of_short : (q : ℕ) → P q short) (of_dead : (q : ℕ) → 2 ≤ length s - q → P q (dead q)) (of-last : (q : ℕ) → 2 ≤ length s - q → chunk_under rules (be16 s q) ≡ Last → be16 s q ≤ length s - q → P q (whole (continuation q (be16 s q) ∷ []))) (of-full : (q : ℕ) (w : Walk) → 32767 ≤ length s - q → P (q + 32767) w → P q (behind (continuation q 32767) w)) where
    walk_by : (f q : ℕ) → P q (walk_fuel f rules s q)
    unfolding walk_fuel
    walk_by zero q = of_short q
    walk_by (suc f) q =
        pick_by (P q) (ltb (length s - q) 2) _ _ (λ e. of_short q) (λ e. by_chunk (chunk_under rules (be16 s q)) refl (ltb-false _ _ e) (walk_by f (q + 32767)))
      where
        by_chunk : (c : Chunk) → chunk_under rules (be16 s q) ≡ c → 2 ≤ length s - q → P (q + 32767) (walk_fuel f rules s (q + 32767)) → P q (step s q c (λ r. walk_fuel f rules s r))
        by_chunk Dead i l k = of_dead q l
        by_chunk Last i l k = pick_by (P q) (leb (be16 s q) (length s - q)) _ _ (λ e. of-last q l i (leb-true _ _ e)) (λ e. of_short q)
        by_chunk Full i l k = pick_by (P q) (leb 32767 (length s - q)) _ _ (λ e. of-full q _ (leb-true _ _ e) k) (λ e. of_short q)

    pub continuations_by : (q : ℕ) → P q (continuations rules s q)
    unfolding continuations
    continuations_by q = walk_by (suc ((length s - q) / 32767)) q

  -- what holds of a frame's walk: where bytes are missing, of one segment, and of a first one with continuations behind it
  pub frame_by : (P : Walk → Type 0) (p : ℕ) → P short → (6 ≤ length s - p → be16 s p ≤ length s - p → P (whole (first p (be16 s p) ∷ [])))
      → (32767 ≤ length s - p → P (behind (first p 32767) (continuations rules s (p + 32767)))) → P (frame_walk rules s p)
  unfolding frame_walk
  frame_by P p of_short of_one of-several =
      pick_by P (ltb (length s - p) 6) _ _ (λ e. of_short)
      (λ e. pick_by P (eqb (be16 s p) 0xFFFF) _ _ (λ e₁. pick_by P (leb 32767 (length s - p)) _ _ (λ e₂. of-several (leb-true _ _ e₂)) (λ e₂. of_short))
      (λ e₁. pick_by P (leb (be16 s p) (length s - p)) _ _ (λ e₂. of_one (ltb-false _ _ e) (leb-true _ _ e₂)) (λ e₂. of_short)))
