-- What laying bytes down at a room's first byte says by its answer.
use Rattle.std.specs.Prelude.{Ok, Err}
use Prim.Native.Nat.{ℕ, ◌+◌, ◌≤◌}
use native.Mathlib.Omega.{arith}
use mathlib.Core.Path.{◌≡◌, refl, sym, ◌∙◌, ap}
use mathlib.Core.List.{List, [], ◌∷◌, ◌++◌}
use borrow.Author.Tests.{leb-true, leb-false}
use lib.Dec.{leb}
use lib.ListN.{length, drop}
use Rattle.wire.specs.Bytes.{splice, laid}
use Rattle.wire.proofs.WireLaws.{by, pick_yes, picked}
use Rattle.wire.proofs.Splicing.{laid_fits, laid_kept}
use Rattle.answer.specs.Rooms.{no_room, Lays}
use Rattle.answer.specs.declared.Refused.{Refused}

-- the bytes are the room's first n, and behind them it is as it was
pub record StandsLaid (bytes room : List ℕ) (n : ℕ) (after : List ℕ) : Type 0 where
  pub many : n ≡ length bytes
  pub fits : n ≤ length room
  pub room_is : after ≡ bytes ++ drop n room

pub never : {P : Type 0} {n : ℕ} {x : Refused} → Ok n ≡ Err x → P
never e = absurd (let z : ◌≡◌ {A = ℕ} 0 1 = cc in omega arith)

module _ (b room after : List ℕ) where
  pub lays_done : (n : ℕ) → Lays b room (Ok n) after → StandsLaid b room n after
  unfolding splice
  lays_done n p =
      picked (leb (length b) (length room)) (sym p.answers)
      (λ t k. let h : length b ≤ length room = leb-true (length b) (length room) t in
      let m : n ≡ length b = cc in
      let z : 0 + length b ≡ n = omega arith in
      record { many = m; fits = omega arith; room_is = p.room_is ∙ laid_fits room 0 b (omega arith) ∙ ap (λ (j : ℕ). b ++ drop j room) z })
      (λ t k. never (sym k))

  -- a refusal leaves the room as it was
  pub lays_kept : (x : Refused) → Lays b room (Err x) after → after ≡ room
  lays_kept x p =
      by (leb (length b) (length room)) (λ t. never (sym (p.answers ∙ pick_yes _ _ t)))
      (λ t. p.room_is ∙ laid_kept room 0 b (omega (arith, leb-false (length b) (length room) t)))

-- both are met
done_met : StandsLaid (1 ∷ []) (8 ∷ 9 ∷ []) 1 (1 ∷ 9 ∷ [])
unfolding splice laid
done_met = lays_done (1 ∷ []) (8 ∷ 9 ∷ []) (1 ∷ 9 ∷ []) 1 (record { answers = refl; room_is = refl })

kept_met : ◌≡◌ {A = List ℕ} (8 ∷ []) (8 ∷ [])
unfolding splice laid
kept_met = lays_kept (1 ∷ 2 ∷ []) (8 ∷ []) (8 ∷ []) (no_room 0 2 0) (record { answers = refl; room_is = refl })
