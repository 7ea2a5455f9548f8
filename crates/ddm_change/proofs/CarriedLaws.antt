-- The laws of a payload where it lies: how long it is, where each of its bytes stands, and how many of them stand in one piece. Payload
-- byte i stands behind so many continuations, q, and 2 * q bytes of framing.
use Rattle.std.proofs.Common.{min}
use Prim.Native.Nat.{ℕ, zero, suc, ◌+◌, ◌*◌, ◌-◌, ◌/◌, ◌%◌, ◌≤◌, ◌<◌}
use native.Mathlib.Omega.{arith}
use mathlib.Core.Path.{◌≡◌, refl, sym, ap, ◌∙◌}
use mathlib.Core.List.{List, ◌++◌}
use borrow.Author.Tests.{ltb-true, ltb-false, leb-true, leb-false, lt-ltb, le-ltb, le-leb, lt-leb}
use lib.Dec.{ltb, leb}
use lib.ListN.{length, get_or, take, drop, length-append, length-drop, take-append-drop}
use lib.Seq.{length-take-le, drop-append-add, drop-drop, get_or-take, get_or-drop}
use Rattle.wire.proofs.WireLaws.{by, pick_yes, pick_no, part_front}
use Rattle.ddm_change.specs.declared.Carriage.{Carriage}
use Rattle.ddm_change.specs.inner.Carried.{carried_bytes, carried, SoundCarriage, passed, place_of, uncut, piece_of}

-- ---- the bytes of all segments

pub joined_length : (room k : ℕ) (b : List ℕ) → room ≤ 32765 → room + k * 32767 ≤ length b + 32765 → length (carried_bytes room k b) + 2 * k ≡ length b
unfolding carried_bytes
joined_length room zero b r h = omega arith
joined_length room (suc k) b r h =
    omega (
      arith,
      length-append (take room b) (carried_bytes 32765 k (drop (room + 2) b)),
      length-take-le room b (omega arith),
      length-drop (room + 2) b,
      joined_length 32765 k (drop (room + 2) b) (omega arith) (omega (arith, length-drop (room + 2) b)),
    )

-- a part of the list's front
pub front_part : (n : ℕ) (b : List ℕ) (i m : ℕ) → n ≤ length b → i + m ≤ n → take m (drop i (take n b)) ≡ take m (drop i b)
front_part n b i m l h =
    sym (part_front (take n b) (drop n b) i m (omega (arith, length-take-le n b l)))
    ∙ ap (λ (x : List ℕ). take m (drop i x)) (take-append-drop n b)

-- what is cut by no continuation
pub joined_piece : (room k : ℕ) (b : List ℕ) (q i m : ℕ) → room ≤ 32765 → room + k * 32767 ≤ length b + 32765 → q ≤ k → room + q * 32765 ≤ i + 32765
    → (q < k → i + m ≤ room + q * 32765) → take m (drop i (carried_bytes room k b)) ≡ take m (drop (i + 2 * q) b)
unfolding carried_bytes
joined_piece room zero b q i m r h l a u = let z : i ≡ i + 2 * q = omega arith in ap (λ (j : ℕ). take m (drop j b)) z
joined_piece room (suc k) b zero i m r h l a u =
    let z : i ≡ i + 2 * 0 = omega arith in
    let there : i + m ≤ room + 0 * 32765 = u (omega arith) in
    part_front (take room b) (carried_bytes 32765 k (drop (room + 2) b)) i m (omega (arith, length-take-le room b (omega arith)))
    ∙ front_part room b i m (omega arith) (omega arith)
    ∙ ap (λ (j : ℕ). take m (drop j b)) z
joined_piece room (suc k) b (suc q) i m r h l a u =
    let rest : List ℕ = drop (room + 2) b in
    let z : i ≡ length (take room b) + (i - room) = omega (arith, length-take-le room b (omega arith)) in
    let z₁ : room + 2 + (i - room + 2 * q) ≡ i + 2 * suc q = omega arith in
    ap (λ (j : ℕ). take m (drop j (take room b ++ carried_bytes 32765 k rest))) z
    ∙ ap (take m) (drop-append-add (take room b) (carried_bytes 32765 k rest) (i - room))
    ∙ joined_piece 32765 k rest q (i - room) m (omega arith) (omega (arith, length-drop (room + 2) b)) (omega arith) (omega arith)
    (λ v. omega (arith, u (omega arith)))
    ∙ ap (take m) (drop-drop (i - room + 2 * q) (room + 2) b)
    ∙ ap (λ (j : ℕ). take m (drop j b)) z₁

-- ---- the continuations before a byte: each case, then what all cases have in common

module _ (k i : ℕ) where
  pub passed_none : i < 32761 → passed k i ≡ 0
  unfolding passed
  passed_none h = pick_yes _ _ (lt-ltb i 32761 h)

  pub passed_some : 32761 ≤ i → (i - 32761) / 32765 + 1 < k → passed k i ≡ (i - 32761) / 32765 + 1
  unfolding passed
  passed_some h l = pick_no _ _ (le-ltb i 32761 h) ∙ pick_yes _ _ (lt-ltb ((i - 32761) / 32765 + 1) k l)

  pub passed_all : 32761 ≤ i → k ≤ (i - 32761) / 32765 + 1 → passed k i ≡ k
  unfolding passed
  passed_all h l = pick_no _ _ (le-ltb i 32761 h) ∙ pick_no _ _ (le-ltb ((i - 32761) / 32765 + 1) k l)

pub passed_later : (k i m : ℕ) → 32761 ≤ i → m ≡ min ((i - 32761) / 32765 + 1) k → m ≡ passed k i
passed_later k i m h e =
    by (ltb ((i - 32761) / 32765 + 1) k)
    (λ t. let l : (i - 32761) / 32765 + 1 < k = ltb-true _ k t in omega (arith, passed_some k i h l))
    (λ t. let l : k ≤ (i - 32761) / 32765 + 1 = ltb-false _ k t in omega (arith, passed_all k i h l))

pub uncut_first : (i : ℕ) → i < 32761 → uncut i ≡ 32761 - i
unfolding uncut
uncut_first i h = pick_yes _ _ (lt-ltb i 32761 h)

pub uncut_later : (i : ℕ) → 32761 ≤ i → uncut i ≡ 32765 - (i - 32761) % 32765
unfolding uncut
uncut_later i h = pick_no _ _ (le-ltb i 32761 h)

pub uncut_some : (i : ℕ) → 0 < uncut i
uncut_some i =
    by (ltb i 32761)
    (λ e. let l : i < 32761 = ltb-true i 32761 e in omega (arith, uncut_first i l))
    (λ e. omega (arith, uncut_later i (ltb-false i 32761 e)))

module _ (k i : ℕ) where
  -- no more than there are, all of them at the byte or before it, and the next one where `uncut` says
  pub passed_is : (passed k i ≤ k) × (32761 + passed k i * 32765 ≤ i + 32765) × (passed k i < k → i + uncut i ≡ 32761 + passed k i * 32765)
  passed_is =
      by (ltb i 32761)
      (λ e. let l : i < 32761 = ltb-true i 32761 e in
      let n : passed k i ≡ 0 = passed_none k i l in
      (omega arith, omega arith, λ h. omega (arith, uncut_first i l)))
      (λ e. let l : 32761 ≤ i = ltb-false i 32761 e in
      by (ltb ((i - 32761) / 32765 + 1) k)
      (λ f. let n : passed k i ≡ (i - 32761) / 32765 + 1 = passed_some k i l (ltb-true ((i - 32761) / 32765 + 1) k f) in
      (omega (arith, ltb-true ((i - 32761) / 32765 + 1) k f), omega arith, λ h. omega (arith, uncut_later i l)))
      (λ f. let n : passed k i ≡ k = passed_all k i l (ltb-false ((i - 32761) / 32765 + 1) k f) in
      (omega arith, omega (arith, ltb-false ((i - 32761) / 32765 + 1) k f), λ h. absurd (omega arith))))

-- ---- pieces

module _ (k i most : ℕ) where
  pub piece_all : k ≤ passed k i → piece_of k i most ≡ most
  unfolding piece_of
  piece_all h = pick_yes _ _ (le-leb k (passed k i) h)

  pub piece_cut : passed k i < k → uncut i < most → piece_of k i most ≡ uncut i
  unfolding piece_of
  piece_cut h l = pick_no _ _ (lt-leb k (passed k i) h) ∙ pick_yes _ _ (lt-ltb (uncut i) most l)

  pub piece_fits : passed k i < k → most ≤ uncut i → piece_of k i most ≡ most
  unfolding piece_of
  piece_fits h l = pick_no _ _ (lt-leb k (passed k i) h) ∙ pick_no _ _ (le-ltb (uncut i) most l)

  pub piece_min : (m : ℕ) → passed k i < k → m ≡ min (uncut i) most → m ≡ piece_of k i most
  piece_min m h e =
      by (ltb (uncut i) most) (λ t. let l : uncut i < most = ltb-true (uncut i) most t in omega (arith, piece_cut h l))
      (λ t. let l : most ≤ uncut i = ltb-false (uncut i) most t in omega (arith, piece_fits h l))

  -- a piece is all that is asked for, or it ends where a continuation starts
  piece_is : {P : Type 0} → (piece_of k i most ≡ most → (passed k i < k → most ≤ uncut i) → P) → (uncut i < most → piece_of k i most ≡ uncut i → P) → P
  piece_is f g =
      by (leb k (passed k i))
      (λ e. let l : k ≤ passed k i = leb-true k (passed k i) e in f (piece_all l) (λ h. absurd (omega arith)))
      (λ e. let l : passed k i < k = leb-false k (passed k i) e in
      by (ltb (uncut i) most)
      (λ d. let t : uncut i < most = ltb-true (uncut i) most d in g t (piece_cut l t))
      (λ d. let t : most ≤ uncut i = ltb-false (uncut i) most d in f (piece_fits l t) (λ h. t)))

pub piece_most : (k i most : ℕ) → piece_of k i most ≤ most
piece_most k i most = piece_is k i most (λ e u. omega arith) (λ l e. omega arith)

pub piece_some : (k i most : ℕ) → 0 < most → 0 < piece_of k i most
piece_some k i most h = piece_is k i most (λ e u. omega arith) (λ l e. omega (arith, uncut_some i))

pub piece_uncut : (k i most : ℕ) → passed k i < k → piece_of k i most ≤ uncut i
piece_uncut k i most h = piece_is k i most (λ e u. omega (arith, u h)) (λ l e. omega arith)

-- ---- the payload

pub place_is : (c : Carriage) (i : ℕ) → place_of c i ≡ c.lead + i + 2 * passed c.continuations i
unfolding place_of
place_is c i = refl

module _ (c : Carriage) (s : List ℕ) (sound : SoundCarriage c s) where
  pub carried_length : length (carried c s) + c.lead + 2 * c.continuations ≡ length s
  unfolding carried
  carried_length =
      omega (
        arith,
        sound.led,
        sound.full,
        length-drop c.lead s,
        joined_length 32761 c.continuations (drop c.lead s) (omega arith) (omega (arith, sound.led, sound.full, length-drop c.lead s)),
      )

  -- so many bytes from i on, which nothing cuts
  whole_piece : (i m : ℕ) → (passed c.continuations i < c.continuations → m ≤ uncut i) → take m (drop i (carried c s)) ≡ take m (drop (place_of c i) s)
  unfolding carried
  whole_piece i m u =
      let n : ℕ = c.continuations in
      let p = passed_is n i in
      let z : c.lead + (i + 2 * passed n i) ≡ place_of c i = omega (arith, place_is c i) in
      joined_piece 32761 n (drop c.lead s) (passed n i) i m (omega arith) (omega (arith, sound.led, sound.full, length-drop c.lead s)) p.0 p.1
      (λ h. omega (arith, u h, p.2 h))
      ∙ ap (take m) (drop-drop (i + 2 * passed n i) c.lead s)
      ∙ ap (λ (j : ℕ). take m (drop j s)) z

  pub carried_piece : (i m most : ℕ) → m ≤ piece_of c.continuations i most → i + m ≤ length (carried c s)
      → (take m (drop i (carried c s)) ≡ take m (drop (place_of c i) s)) × (place_of c i + m ≤ length s)
  carried_piece i m most h l = (
    whole_piece i m (λ v. omega (arith, piece_uncut c.continuations i most v)),
    omega (arith, carried_length, place_is c i, (passed_is c.continuations i).0),
  )

  pub place_inside : (i : ℕ) → i < length (carried c s) → place_of c i < length s
  place_inside i h = omega (arith, carried_length, place_is c i, (passed_is c.continuations i).0)

  pub carried_byte : (i : ℕ) → i < length (carried c s) → get_or (carried c s) i 0 ≡ get_or s (place_of c i) 0
  carried_byte i h =
      first (carried c s) i
      ∙ ap (λ (x : List ℕ). get_or x 0 0) (whole_piece i 1 (λ v. uncut_some i))
      ∙ sym (first s (place_of c i))
    where
      first : (x : List ℕ) (j : ℕ) → get_or x j 0 ≡ get_or (take 1 (drop j x)) 0 0
      first x j = let z : j ≡ j + 0 = omega arith in ap (λ (n : ℕ). get_or x n 0) z ∙ sym (get_or-take 1 (drop j x) 0 0 (omega arith) ∙ get_or-drop j x 0 0)
