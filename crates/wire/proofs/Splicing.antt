-- The laws of `splice r a b`, r with b laid over it from a on, and of `laid`, which leaves r as it was where b doesn't fit.
use Prim.Native.Nat.{ℕ, ◌+◌, ◌-◌, ◌≤◌, ◌<◌}
use native.Mathlib.Nat.{add_assoc}
use native.Mathlib.Omega.{arith}
use mathlib.Core.Path.{◌≡◌, refl, sym, ap, ap₂, ◌∙◌}
use mathlib.Core.List.{List, [], ◌++◌, append_assoc}
use lib.ListN.{length, get_or, take, drop, length-append, length-drop, take-append-drop}
use lib.Seq.{length-take-le, take_at, drop_at, take-add, drop-drop, get_or-take, get_or-drop, sets, sets-eq}
use borrow.Author.Tests.{le-leb, lt-leb}
use Rattle.wire.specs.Bytes.{part, splice, laid}
use Rattle.wire.proofs.WireLaws.{pick_yes, pick_no}
use Rattle.wire.proofs.Places.{here_byte, here_next, here_part}

-- nothing laid over r
pub splice_none : (r : List ℕ) (a : ℕ) → splice r a [] ≡ r
unfolding splice
splice_none r a = let z : a + 0 ≡ a = omega arith in ap (λ (n : ℕ). take a r ++ drop n r) z ∙ take-append-drop a r

module _ (r : List ℕ) (a : ℕ) (b : List ℕ) where
  -- what comes back when the writer is lent the tail of r: at a place of the tail, and at its first byte
  pub splice_lent_at : (j : ℕ) → take a r ++ splice (drop a r) j b ≡ splice r (a + j) b
  unfolding splice
  splice_lent_at j =
      sym (append_assoc (take a r) (take j (drop a r)) (b ++ drop (j + length b) (drop a r)))
      ∙ ap₂ (λ (x y : List ℕ). x ++ (b ++ y)) (sym (take-add a j r))
      (drop-drop (j + length b) a r ∙ ap (λ (n : ℕ). drop n r) (sym (add_assoc a j (length b))))

  pub splice_lent : take a r ++ splice (drop a r) 0 b ≡ splice r a b
  splice_lent = let z : a + 0 ≡ a = omega arith in splice_lent_at 0 ∙ ap (λ (n : ℕ). splice r n b) z

  -- as many bytes as before, where b fits
  pub splice_length : a + length b ≤ length r → length (splice r a b) ≡ length r
  unfolding splice
  splice_length h =
      omega (
        arith,
        length-append (take a r) (b ++ drop (a + length b) r),
        length-append b (drop (a + length b) r),
        length-take-le a r (omega arith),
        length-drop (a + length b) r,
      )

  module _ (h : a ≤ length r) where
    -- up to a: r's bytes
    pub splice_front : take a (splice r a b) ≡ take a r
    unfolding splice
    splice_front = take_at (take a r) (b ++ drop (a + length b) r) a (length-take-le a r h)

    -- from a on: b, and r's bytes behind it
    pub splice_tail : drop a (splice r a b) ≡ b ++ drop (a + length b) r
    unfolding splice
    splice_tail = drop_at (take a r) (b ++ drop (a + length b) r) a (length-take-le a r h)

    -- up to the end of b: r's, and b
    pub splice_written : take (a + length b) (splice r a b) ≡ take a r ++ b
    splice_written =
        take-add a (length b) (splice r a b)
        ∙ ap₂ (λ (x y : List ℕ). x ++ take (length b) y) splice_front splice_tail
        ∙ ap (λ (x : List ℕ). take a r ++ x) (take_at b (drop (a + length b) r) (length b) refl)

    -- behind b: r's
    pub splice_rest : drop (a + length b) (splice r a b) ≡ drop (a + length b) r
    splice_rest = here_next (splice r a b) b (drop (a + length b) r) a (a + length b) splice_tail refl

    -- what was written reads back
    pub splice_part : part (splice r a b) a (a + length b) ≡ b
    splice_part = here_part (splice r a b) b (drop (a + length b) r) a (a + length b) splice_tail (omega arith)

    -- the same, byte by byte
    pub splice_at : (i : ℕ) → i < length b → get_or (splice r a b) (a + i) 0 ≡ get_or b i 0
    splice_at i l = here_byte (splice r a b) b (drop (a + length b) r) a i splice_tail l

    pub splice_before : (i : ℕ) → i < a → get_or (splice r a b) i 0 ≡ get_or r i 0
    splice_before i l = sym (get_or-take a (splice r a b) i 0 l) ∙ ap (λ (s : List ℕ). get_or s i 0) splice_front ∙ get_or-take a r i 0 l

    pub splice_after : (i : ℕ) → a + length b ≤ i → get_or (splice r a b) i 0 ≡ get_or r i 0
    splice_after i l =
        let n : ℕ = a + length b in
        let z : i ≡ n + (i - n) = omega arith in
        ap (λ (k : ℕ). get_or (splice r a b) k 0) z
        ∙ sym (get_or-drop n (splice r a b) (i - n) 0) ∙ ap (λ (s : List ℕ). get_or s (i - n) 0) splice_rest ∙ get_or-drop n r (i - n) 0
        ∙ ap (λ (k : ℕ). get_or r k 0) (sym z)

-- one behind the other is both at once
pub splice_splice : (r : List ℕ) (a : ℕ) (x y : List ℕ) → a ≤ length r → splice (splice r a x) (a + length x) y ≡ splice r a (x ++ y)
unfolding splice
splice_splice r a x y h =
    let n : ℕ = a + length x in
    let z : n + length y ≡ a + length (x ++ y) = omega (arith, length-append x y) in
    ap₂ (λ (s t : List ℕ). s ++ (y ++ t)) (splice_written r a x h)
    (sym (drop-drop (length y) n (splice r a x)) ∙ ap (drop (length y)) (splice_rest r a x h) ∙ drop-drop (length y) n r ∙ ap (λ (k : ℕ). drop k r) z)
    ∙ simp append_assoc

-- ---- what a room holds after a call

module _ (r : List ℕ) (a : ℕ) (b : List ℕ) where
  -- b fits
  pub laid_fits : a + length b ≤ length r → laid r a b ≡ splice r a b
  unfolding laid
  laid_fits h = pick_yes _ _ (le-leb (a + length b) (length r) h)

  -- b doesn't: the room is as it was
  pub laid_kept : length r < a + length b → laid r a b ≡ r
  unfolding laid
  laid_kept h = pick_no _ _ (lt-leb (a + length b) (length r) h)

-- stores one after the other lay bytes down
pub sets_splice : (b r : List ℕ) (a : ℕ) → a + length b ≤ length r → sets r a b ≡ splice r a b
unfolding splice
sets_splice b r a h = sets-eq b r a h ∙ append_assoc (take a r) b (drop (a + length b) r)

pub sets_laid : (b r : List ℕ) → length b ≤ length r → sets r 0 b ≡ laid r 0 b
sets_laid b r h = sets_splice b r 0 (omega arith) ∙ sym (laid_fits r 0 b (omega arith))
