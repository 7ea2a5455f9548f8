-- The laws of room: where a result fits and where it doesn't, what is answered and what the room holds.
use Rattle.std.specs.Prelude.{Ok, Err}
use Prim.Native.Nat.{ℕ, ◌≤◌, ◌<◌}
use native.Mathlib.Nat.{sub-zero}
use native.Mathlib.Omega.{arith}
use mathlib.Core.Path.{◌≡◌, refl, sym, ap, ◌∙◌}
use mathlib.Core.List.{List, [], ◌∷◌}
use lib.Dec.{leb}
use lib.ListN.{length}
use lib.Seq.{sets}
use borrow.Author.Tests.{le-leb, leb-true, leb-false}
use Rattle.wire.specs.Bytes.{pick}
use Rattle.wire.proofs.WireLaws.{pick_yes, pick_no, picked}
use Rattle.wire.proofs.Splicing.{laid_kept, sets_laid}
use Rattle.answer.specs.Rooms.{no_room, room_for, Lays}
use Rattle.answer.specs.declared.Refused.{Refused}

-- ---- at a room's first byte

from_start : (size need : ℕ) → room_for 0 size need ≡ pick (leb need size) (Ok tt) (Err (no_room 0 need 0))
from_start size need = rw (le-leb 0 size (omega arith), sub-zero)

-- there is room only where what is needed fits
pub room_enough : (size need : ℕ) → room_for 0 size need ≡ Ok tt → need ≤ size
room_enough size need e =
    picked (leb need size) (sym (from_start size need) ∙ e) (λ t _. leb-true need size t)
    (λ _ k. let z : ◌≡◌ {A = ℕ} 0 1 = cc in omega arith)

room_enough_met : room_for 0 6 6 ≡ Ok tt
room_enough_met = refl

-- where there is room, the stores of the bytes lay them down
pub lays_stored : (bytes room b : List ℕ) → b ≡ bytes → length bytes ≤ length room → Lays bytes room (Ok (length bytes)) (sets room 0 b)
lays_stored bytes room b e k = record {
  answers = sym (pick_yes _ _ (le-leb (length bytes) (length room) k));
  room_is = ap (sets room 0) e ∙ sets_laid bytes room k;
}

lays_stored_met : Lays (1 ∷ []) (8 ∷ 9 ∷ []) (Ok 1) (1 ∷ 9 ∷ [])
lays_stored_met = lays_stored (1 ∷ []) (8 ∷ 9 ∷ []) (1 ∷ []) refl (omega arith)

-- where room is refused, the answer is that refusal, and the room stays
pub lays_refused : (bytes room : List ℕ) (r : Refused) → room_for 0 (length room) (length bytes) ≡ Err r → Lays bytes room (Err r) room
lays_refused bytes room r e =
    picked (leb (length bytes) (length room)) (sym (from_start (length room) (length bytes)) ∙ e)
    (λ t k. let z : ◌≡◌ {A = ℕ} 0 1 = cc in absurd (omega arith))
    (λ t k. record {
      answers = ap Err (cc) ∙ sym (pick_no _ _ t);
      room_is = let l : length room < length bytes = leb-false (length bytes) (length room) t in sym (laid_kept room 0 bytes (omega arith));
    })

lays_refused_met : room_for 0 1 2 ≡ Err (no_room 0 2 0)
lays_refused_met = refl
