-- A text that was put into no room, to find its length, and then into a room that has room.
use Rattle.std.specs.Prelude.{Result, Ok, Err}
use Prim.Native.Nat.{ℕ, ◌^◌, ◌≤◌, ◌<◌}
use native.Mathlib.Nat.{sub-zero, zero-add}
use native.Mathlib.Omega.{arith}
use mathlib.Core.Path.{◌≡◌, refl, sym, ap, ap₂, ◌∙◌}
use mathlib.Core.List.{List, [], ◌∷◌, ◌++◌}
use lib.Dec.{ltb, leb}
use lib.ListN.{length}
use lib.Seq.{sets}
use borrow.Author.Tests.{le-leb, lt-leb, leb-true, ltb-true, ltb-false}
use Rattle.wire.proofs.WireLaws.{by, picked}
use Rattle.answer.specs.Rooms.{capped, no_room, room_for, Lays}
use Rattle.answer.proofs.RoomLaws.{room_enough, lays_stored, lays_refused}
use Rattle.answer.specs.declared.Refusal.TheVariants.{NoRoom}
use Rattle.answer.specs.declared.Refused.{Refused}
use Rattle.text.specs.inner.Puts.{Puts}
use Rattle.text.proofs.PutLaws.{capped_low, capped_high, sets_beyond}

-- a need that is capped is refused as the need itself, where no room is that large
wide : (size n : ℕ) → size < n → room_for 0 size n ≡ Err (no_room 0 n 0)
wide size n h = rw (le-leb 0 size (omega arith), sub-zero, lt-leb n size h)

-- the largest need there is
most : (n : ℕ) → 2 ^ 64 ≤ n → ◌≡◌ {A = Result (Unit {0}) Refused} (Err (no_room 0 18446744073709551615 0)) (Err (no_room 0 n 0))
most n k =
    let e : capped n ≡ 18446744073709551615 = capped_high n k in
    let m : capped 18446744073709551615 ≡ 18446744073709551615 = capped_low 18446744073709551615 (omega arith) in
    ap (λ (b : ℕ). Err (record { why = NoRoom b (capped 0); place = 0 })) (m ∙ sym e)

room_capped : (size n : ℕ) → size < 2 ^ 63 → room_for 0 size (capped n) ≡ room_for 0 size n
room_capped size n h =
    by (ltb n (2 ^ 64)) (λ t. ap (room_for 0 size) (capped_low n (ltb-true n (2 ^ 64) t)))
    (λ t. let k : 2 ^ 64 ≤ n = ltb-false n (2 ^ 64) t in
    ap (room_for 0 size) (capped_high n k) ∙ wide size 18446744073709551615 (omega arith) ∙ most n k ∙ sym (wide size n (omega arith)))

module _ (text room : List ℕ) {need : ℕ} {none : List ℕ} (p : Puts text [] 0 need none) (small : length room < 2 ^ 63) where
  -- nothing was put into no room
  none_is : none ++ room ≡ room
  none_is = ap (λ (l : List ℕ). l ++ room) (p.room_is ∙ sets_beyond text [] 0 (omega arith))

  need_is : need ≡ capped (length text)
  need_is = p.mark ∙ ap capped (zero-add (length text))

  -- what the room's length was tested with, of the text itself
  tested : {x : Result (Unit {0}) Refused} → room_for 0 (length (none ++ room)) need ≡ x → room_for 0 (length room) (length text) ≡ x
  tested e =
      sym (room_capped (length room) (length text) small)
      ∙ ap₂ (λ (l : List ℕ) (n : ℕ). room_for 0 (length l) n) (sym none_is) (sym need_is)
      ∙ e

  -- it doesn't fit
  pub lay_refused : (r : Refused) → room_for 0 (length (none ++ room)) need ≡ Err r → Lays text room (Err r) (none ++ room)
  lay_refused r e = rw none_is (lays_refused text room r (tested e))

  -- it fits
  pub lay_enough : {m : ℕ} {after : List ℕ} → room_for 0 (length (none ++ room)) need ≡ Ok tt → Puts text (none ++ room) 0 m after → Lays text room (Ok need) after
  lay_enough {m} {after} e q =
      let f : length text ≤ length room = room_enough (length room) (length text) (tested e) in
      let n : need ≡ length text = need_is ∙ capped_low (length text) (omega arith) in
      let a : after ≡ sets room 0 text = q.room_is ∙ ap (λ (l : List ℕ). sets l 0 text) none_is in
      rw (n, a) (lays_stored text room text refl f)

-- ---- what an answer says of the room

-- as many bytes as are answered are there
pub laid_count : {text room : List ℕ} {r : Result ℕ Refused} {after : List ℕ} (n : ℕ) → Lays text room r after → r ≡ Ok n → n ≤ length room
laid_count {text} {room} {r} n w e =
    picked (leb (length text) (length room)) (sym w.answers ∙ e)
    (λ t k. let z : length text ≡ n = cc in let h : length text ≤ length room = leb-true (length text) (length room) t in omega arith)
    (λ t k. let z : ◌≡◌ {A = ℕ} 0 1 = cc in absurd (omega arith))

laid_count_met : Lays (1 ∷ []) (8 ∷ 9 ∷ []) (Ok 1) (1 ∷ 9 ∷ [])
laid_count_met = lays_stored (1 ∷ []) (8 ∷ 9 ∷ []) (1 ∷ []) refl (omega arith)
