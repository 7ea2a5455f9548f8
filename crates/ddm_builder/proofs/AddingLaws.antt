-- What adding to a builder, and laying an object down, come to, from what the test for room says.
use Rattle.std.specs.Prelude.{Ok, Err}
use Prim.Native.Nat.{ℕ, ◌+◌, ◌-◌, ◌≤◌, ◌<◌}
use native.Mathlib.Omega.{arith}
use mathlib.Core.Path.{◌≡◌, sym}
use mathlib.Core.List.{List}
use borrow.Author.Tests.{leb-true, leb-false, le-leb, lt-leb}
use lib.Dec.{leb}
use lib.ListN.{length}
use Rattle.wire.specs.Bytes.{laid}
use Rattle.wire.proofs.WireLaws.{picked, pick_yes, pick_no}
use Rattle.wire.proofs.Splicing.{laid_kept}
use Rattle.answer.specs.Rooms.{no_room, room_for}
use Rattle.answer.specs.declared.Refused.{Refused}
use Rattle.ddm_builder.specs.Builder.{Adds}
use Rattle.ddm_builder.specs.inner.FormsLaid.{LaysAt}
use Rattle.ddm_builder.specs.declared.DdmBuilder.{DdmBuilder}

-- there is room
pub enough_fits : (mark size need : ℕ) → room_for mark size need ≡ Ok tt → (mark ≤ size) × (need ≤ size - mark)
enough_fits mark size need e =
    picked (leb mark size) e
    (λ a r. picked (leb need (size - mark)) r (λ b q. (leb-true mark size a, leb-true need (size - mark) b))
    (λ b q. absurd (let z : ◌≡◌ {A = ℕ} 0 1 = cc in omega arith)))
    (λ a r. absurd (let z : ◌≡◌ {A = ℕ} 0 1 = cc in omega arith))

-- there is none
pub refused_short : (mark size need : ℕ) (r : Refused) → room_for mark size need ≡ Err r → size < mark + need
refused_short mark size need r e =
    picked (leb mark size) e
    (λ a q. picked (leb need (size - mark)) q (λ b p. absurd (let z : ◌≡◌ {A = ℕ} 0 1 = cc in omega arith))
    (λ b p. omega (arith, leb-true mark size a, leb-false need (size - mark) b)))
    (λ a q. omega (arith, leb-false mark size a))

module _ (b : DdmBuilder) (bytes room : List ℕ) where
  pub adds_enough : (n : ℕ) (after : List ℕ) → length bytes ≡ n → room_for b.fill (length room) n ≡ Ok tt → after ≡ laid room b.fill bytes
      → Adds b bytes room (Ok (record { code_point = b.code_point; fill = b.fill + n })) after
  adds_enough n after l e a = record { answers = sym (rw (l, e)); room_is = a }

  pub adds_refused : (n : ℕ) (r : Refused) → length bytes ≡ n → room_for b.fill (length room) n ≡ Err r → Adds b bytes room (Err r) room
  adds_refused n r l e =
      record {
        answers = sym (rw (l, e));
        room_is = sym (laid_kept room b.fill bytes (omega (arith, refused_short b.fill (length room) n r e)));
      }

-- ---- at a room's first byte

module _ (place : ℕ) (bytes room : List ℕ) (n : ℕ) (l : length bytes ≡ n) where
  pub lays_enough : (after : List ℕ) → n ≤ length room → after ≡ laid room 0 bytes → LaysAt place bytes room (Ok n) after
  lays_enough after h a = record { answers = sym (rw l (pick_yes _ _ (le-leb n (length room) h))); room_is = a }

  pub lays_refused : length room < n → LaysAt place bytes room (Err (no_room place n 0)) room
  lays_refused h =
      record {
        answers = sym (rw l (pick_no _ _ (lt-leb n (length room) h)));
        room_is = sym (laid_kept room 0 bytes (omega arith));
      }
