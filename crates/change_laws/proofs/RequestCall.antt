-- What an answer of `change_request` says, and what the room then holds.
use Rattle.std.specs.Prelude.{Ok, Err}
use Prim.Native.Nat.{ℕ, ◌≤◌}
use mathlib.Core.Path.{◌≡◌, refl}
use mathlib.Core.List.{List, [], ◌∷◌, ◌++◌}
use lib.ListN.{length, drop, replicate}
use Rattle.wire.specs.Bytes.{laid}
use Rattle.answer.specs.declared.Refusal.TheVariants.{Incomplete}
use Rattle.ddm_object.specs.Objects.{parameters}
use Rattle.answer.specs.declared.Refused.{Refused}
use Rattle.change_laws.proofs.ChangeLays.{never, lays_done, lays_kept}
use Rattle.ddm_change.specs.Request.{Changed, lays_frame, refuses_it, request_of, request_answer, request_room, ChangesRequest}

-- the answer is 0 with n bytes: the frame after is the room's first bytes, and behind them it is as it was
pub record LaysFrame (s : List ℕ) (cp : ℕ) (new room : List ℕ) (n : ℕ) (after : List ℕ) : Type 0 where
  pub bytes : List ℕ
  pub is : request_of s cp new ≡ lays_frame bytes
  pub many : n ≡ length bytes
  pub fits : n ≤ length room
  pub room_is : after ≡ bytes ++ drop n room

module _ (s : List ℕ) (cp : ℕ) (new room : List ℕ) (after : List ℕ) where
  pub done_frame : (n : ℕ) → ChangesRequest s cp new room (Ok n) after → LaysFrame s cp new room n after
  done_frame n p = go (request_of s cp new) refl p.answers p.room_is
    where
      go : (c : Changed) → request_of s cp new ≡ c → Ok n ≡ request_answer c (length room) → after ≡ request_room c room → LaysFrame s cp new room n after
      go (lays_frame b) q e a =
          let l = lays_done b room after n (record { answers = e; room_is = a }) in
          record { bytes = b; is = q; many = l.many; fits = l.fits; room_is = l.room_is }
      go (refuses_it r) q e a = never e

  -- every other answer leaves the room as it was
  pub refused_keeps : (x : Refused) → ChangesRequest s cp new room (Err x) after → after ≡ room
  refused_keeps x p = go (request_of s cp new) p.answers p.room_is
    where
      go : (c : Changed) → Err x ≡ request_answer c (length room) → after ≡ request_room c room → after ≡ room
      go (lays_frame b) e a = lays_kept b room after x (record { answers = e; room_is = a })
      go (refuses_it r) e a = a

-- both are met: a value emptied, and a frame that isn't there
done_met : LaysFrame (0 ∷ 15 ∷ 0xD0 ∷ 1 ∷ 0 ∷ 3 ∷ 0 ∷ 9 ∷ 0x20 ∷ 0x0D ∷ 0 ∷ 5 ∷ 0x21 ∷ 0x10 ∷ 7 ∷ []) 0x2110 [] (replicate 15 5) 14
    (0 ∷ 14 ∷ 0xD0 ∷ 1 ∷ 0 ∷ 3 ∷ 0 ∷ 8 ∷ 0x20 ∷ 0x0D ∷ 0 ∷ 4 ∷ 0x21 ∷ 0x10 ∷ 5 ∷ [])
unfolding request_of parameters laid
done_met = done_frame _ 0x2110 [] (replicate 15 5) _ 14 (record { answers = refl; room_is = refl })

kept_met : ◌≡◌ {A = List ℕ} (8 ∷ []) (8 ∷ [])
unfolding request_of parameters laid
kept_met = refused_keeps [] 0x2110 [] (8 ∷ []) (8 ∷ []) (record { why = Incomplete; place = 0 }) (record { answers = refl; room_is = refl })
