-- What an answer of the call says, and what the room then holds.
use Rattle.std.specs.Prelude.{Result, Ok, Err}
use Prim.Native.Nat.{ℕ, ◌^◌, ◌≤◌, ◌<◌}
use mathlib.Core.Path.{◌≡◌, refl, sym, ◌∙◌, ap}
use mathlib.Core.List.{List, ◌++◌}
use borrow.Author.Tests.{lt-leb}
use lib.ListN.{length, drop}
use Rattle.wire.proofs.WireLaws.{pick_no}
use Rattle.answer.specs.declared.Refusal.TheVariants.{NoRoom}
use Rattle.answer.specs.declared.Refused.{Refused}
use Rattle.dss_writer.proofs.LayingLaws.{capped_same}
use Rattle.ddm_change.specs.Change.{Change, changed, faulty, lacking, change_of, change_answer, change_room, Changes}
use Rattle.change_laws.proofs.ChangeLays.{never, lays_done, lays_kept}
use Rattle.change_laws.proofs.ChangedList.{ChangedAs, changed_as}

-- two results that the contract allows are one
pub determined : (d : List ℕ) (cp : ℕ) (new room : List ℕ) (r r' : Result ℕ Refused) (a a' : List ℕ) → Changes d cp new room r a → Changes d cp new room r' a' → (r ≡ r') × (a ≡ a')
determined d cp new room r r' a a' p q = (p.answers ∙ sym q.answers, p.room_is ∙ sym q.room_is)

-- the answer is 0 with n bytes: the changed data are the room's first bytes, and behind them it is as it was
pub record Lay (d : List ℕ) (cp : ℕ) (new room : List ℕ) (n : ℕ) (after : List ℕ) : Type 0 where
  pub bytes : List ℕ
  pub is : change_of d cp new ≡ changed bytes
  pub like : ChangedAs d cp new bytes
  pub many : n ≡ length bytes
  pub fits : n ≤ length room
  pub room_is : after ≡ bytes ++ drop n room

module _ (d : List ℕ) (cp : ℕ) (new room : List ℕ) (after : List ℕ) where
  pub done_laid : (n : ℕ) → Changes d cp new room (Ok n) after → Lay d cp new room n after
  done_laid n p = go (change_of d cp new) refl p.answers p.room_is
    where
      go : (c : Change) → change_of d cp new ≡ c → Ok n ≡ change_answer c (length room) → after ≡ change_room c room → Lay d cp new room n after
      go (changed b) q e a =
          let l = lays_done b room after n (record { answers = e; room_is = a }) in
          record { bytes = b; is = q; like = changed_as d cp new b q; many = l.many; fits = l.fits; room_is = l.room_is }
      go (faulty place) q e a = never e
      go lacking q e a = never e

  -- every other answer leaves the room as it was
  pub refused_kept : (x : Refused) → Changes d cp new room (Err x) after → after ≡ room
  refused_kept x p = go (change_of d cp new) p.answers p.room_is
    where
      go : (c : Change) → Err x ≡ change_answer c (length room) → after ≡ change_room c room → after ≡ room
      go (changed b) e a = lays_kept b room after x (record { answers = e; room_is = a })
      go (faulty place) e a = a
      go lacking e a = a

-- 9 exactly where nothing else refuses and the room is too short, with the bytes that the result has
pub no_room_lem : (d : List ℕ) (cp : ℕ) (new b room : List ℕ) → change_of d cp new ≡ changed b → length room < length b → length b < 2 ^ 64
    → change_answer (change_of d cp new) (length room) ≡ Err (record { why = NoRoom (length b) 0; place = 0 })
no_room_lem d cp new b room e h k =
    ap (λ c. change_answer c (length room)) e ∙ pick_no _ _ (lt-leb (length b) (length room) h)
    ∙ ap (λ (n : ℕ). Err (record { why = NoRoom n 0; place = 0 })) (capped_same (length b) k)
