-- The data after: how long they are, and what laying them down, or refusing to, comes to. And data as they lie, carried by themselves.
use Rattle.std.specs.Prelude.{Result, Ok, Err}
use Prim.Native.Nat.{ℕ, ◌+◌, ◌-◌, ◌^◌, ◌≤◌, ◌<◌}
use native.Mathlib.Omega.{arith}
use mathlib.Core.Path.{◌≡◌, refl, sym, ◌∙◌, ap}
use mathlib.Core.List.{List, ◌++◌}
use borrow.Author.Tests.{lt-leb, le-leb, le-ltb, ltb-true, ltb-false}
use lib.Dec.{ltb}
use lib.ListN.{length, take, drop, length-append, length-drop}
use Rattle.wire.specs.Bytes.{part, laid}
use Rattle.wire.proofs.WireLaws.{by, pick_yes, pick_no, part_length}
use Rattle.wire.proofs.LentParts.{tail_drop}
use Rattle.wire.proofs.Splicing.{laid_kept}
use Rattle.answer.specs.Rooms.{capped, no_room, Lays}
use Rattle.answer.specs.declared.Refusal.TheVariants.{NoRoom}
use Rattle.dss_writer.proofs.LayingLaws.{capped_same}
use Rattle.ddm_builder.specs.Built.{length_bytes, built, built_size}
use Rattle.ddm_builder.proofs.BuiltForms.{length_built}
use Rattle.ddm_change.specs.Change.{changed, faulty, lacking, change_of, unsound, no_such, Changes}
use Rattle.ddm_change.specs.inner.Carried.{SoundCarriage, carried_bytes, carried}
use Rattle.ddm_change.specs.declared.Carriage.{Carriage}
use Rattle.answer.specs.declared.Refused.{Refused}

-- ---- numbers that are given as 2^64 - 1 where they are more

pub capped_exact : (n m : ℕ) → m ≡ capped n → n < 2 ^ 64 → m ≡ n
capped_exact n m e h = e ∙ capped_same n h

pub capped_beyond : (n : ℕ) → 2 ^ 64 ≤ n → capped n ≡ 2 ^ 64 - 1
capped_beyond n h = pick_no _ _ (le-ltb n (2 ^ 64) h)

pub capped_most : (n : ℕ) → (capped n ≤ n) × (capped n ≤ 2 ^ 64 - 1)
capped_most n =
    by (ltb n (2 ^ 64)) (λ t. let h : n < 2 ^ 64 = ltb-true n (2 ^ 64) t in (omega (arith, capped_same n h), omega (arith, capped_same n h)))
    (λ t. let h : 2 ^ 64 ≤ n = ltb-false n (2 ^ 64) t in (omega (arith, capped_beyond n h), omega (arith, capped_beyond n h)))

-- a sum with a number that is given so
pub capped_sum : (k n : ℕ) → k + capped n ≤ 2 ^ 64 - 1 → k + capped n ≡ capped (k + n)
capped_sum k n h =
    by (ltb n (2 ^ 64)) (λ t. let l : n < 2 ^ 64 = ltb-true n (2 ^ 64) t in omega (arith, capped_same n l, capped_same (k + n) (omega (arith, capped_same n l))))
    (λ t. let l : 2 ^ 64 ≤ n = ltb-false n (2 ^ 64) t in omega (arith, capped_beyond n l, capped_beyond (k + n) (omega arith)))

pub capped_over : (k n : ℕ) → 2 ^ 64 - 1 < k + capped n → 2 ^ 64 - 1 ≡ capped (k + n)
capped_over k n h = sym (capped_beyond (k + n) (omega (arith, capped_most n)))

-- what fits a room isn't given as 2^64 - 1
pub capped_fits : (n m : ℕ) → capped n ≤ m → m < 2 ^ 63 → n ≤ m
capped_fits n m h k =
    by (ltb n (2 ^ 64)) (λ t. omega (arith, capped_same n (ltb-true n (2 ^ 64) t)))
    (λ t. absurd (omega (arith, capped_beyond n (ltb-false n (2 ^ 64) t))))

-- ---- how long they are

pub built_size_lem : (n : ℕ) → built_size n ≡ 4 + length_bytes n + n
unfolding built_size
built_size_lem n = refl

pub built_length : (cp : ℕ) (d : List ℕ) → length (built cp d) ≡ built_size (length d)
built_length cp d = length_built cp d ∙ sym (built_size_lem (length d))

-- a part of v, a parameter, and v from `to` on
pub parts_length : (v : List ℕ) (first from to cp : ℕ) (new : List ℕ) → from ≤ length v
    → length (part v first from ++ (built cp new ++ drop to v)) ≡ from - first + (length v - to) + built_size (length new)
parts_length v first from to cp new h =
    omega (
      arith,
      length-append (part v first from) (built cp new ++ drop to v),
      length-append (built cp new) (drop to v),
      part_length v first from h,
      built_length cp new,
      length-drop to v,
    )

module _ (d : List ℕ) (from to cp : ℕ) (new : List ℕ) (ordered : from ≤ to) (inside : to ≤ length d) where
  pub rewritten_length : length (take from d ++ (built cp new ++ drop to d)) ≡ from + (length d - to) + built_size (length new)
  rewritten_length =
      let z : from ≡ from - 0 = omega arith in
      omega (arith, ap (λ (n : ℕ). length (take n d ++ (built cp new ++ drop to d))) z, parts_length d 0 from to cp new (omega arith))

-- ---- laid down or refused

module _ (bytes room : List ℕ) (n : ℕ) (l : length bytes ≡ n) where
  -- 9, with a need that may be more than 2^64 - 1
  pub lays_none : length room < capped n → Lays bytes room (Err (no_room 0 (capped n) 0)) room
  lays_none h =
      record {
        answers =
            ap (λ (k : ℕ). Err (record { why = NoRoom k 0; place = 0 })) (capped_same (capped n) (omega (arith, capped_most n)))
            ∙ sym (rw l (pick_no _ _ (lt-leb n (length room) (omega (arith, capped_most n)))));
        room_is = sym (laid_kept room 0 bytes (omega (arith, capped_most n)));
      }

  pub lays_some : (after : List ℕ) → n ≤ length room → after ≡ laid room 0 bytes → Lays bytes room (Ok n) after
  lays_some after h a = record { answers = sym (rw l (pick_yes _ _ (le-leb n (length room) h))); room_is = a }

-- what was laid down is what changing comes to
pub changes_laid : (d : List ℕ) (cp : ℕ) (new room : List ℕ) (r : Result ℕ Refused) (after b : List ℕ) → change_of d cp new ≡ changed b → Lays b room r after
    → Changes d cp new room r after
changes_laid d cp new room r after b e p = record { answers = p.answers ∙ sym (rw e); room_is = p.room_is ∙ sym (rw e) }

module _ (d : List ℕ) (cp : ℕ) (new room : List ℕ) where
  pub faulty_laid : (place : ℕ) → change_of d cp new ≡ faulty place → Changes d cp new room (Err (unsound place)) room
  faulty_laid place e = record { answers = sym (rw e); room_is = sym (rw e) }

  pub lacks_laid : change_of d cp new ≡ lacking → Changes d cp new room (Err no_such) room
  lacks_laid e = record { answers = sym (rw e); room_is = sym (rw e) }

-- ---- data as they lie

abbrev pub plainly : Carriage
plainly = record { lead = 0; continuations = 0 }

pub plain_carried : (d : List ℕ) → carried plainly d ≡ d
unfolding carried carried_bytes
plain_carried d = refl

-- the whole of them as a part
pub plain_part : (d : List ℕ) → part (carried plainly d) 0 (length d) ≡ d
plain_part d = ap (λ (v : List ℕ). part v 0 (length d)) (plain_carried d) ∙ tail_drop d 0

pub plain_sound : (d : List ℕ) → SoundCarriage plainly d
plain_sound d = record { led = omega arith; full = omega arith }
