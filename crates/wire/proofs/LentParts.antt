-- What a room holds once the tail of it that was lent to a writer has come back, said with `splice`.
use Prim.Native.Nat.{ℕ, ◌+◌, ◌-◌, ◌≤◌}
use native.Mathlib.Nat.{zero-add}
use native.Mathlib.Omega.{arith}
use mathlib.Core.Path.{◌≡◌, sym, ap, ap₂, ◌∙◌}
use mathlib.Core.List.{List, [], ◌++◌, append-nil}
use lib.ListN.{length, take, drop, length-drop}
use lib.Seq.{take_all, take-length, drop-length}
use Rattle.wire.specs.Bytes.{splice, laid}
use Rattle.wire.proofs.Splicing.{splice_lent, splice_splice, laid_fits}

-- the tail that is lent, `&mut r[a..]`, and r once it came back as t
abbrev pub tail : List ℕ → ℕ → List ℕ
tail r a = take (length r - a) (drop a r)

abbrev pub back : List ℕ → ℕ → List ℕ → List ℕ
back r a t = take a r ++ (t ++ drop (length r - a) (drop a r))

pub tail_drop : (r : List ℕ) (a : ℕ) → tail r a ≡ drop a r
tail_drop r a = take_all (length r - a) (drop a r) (omega (arith, length-drop a r))

pub tail_length : (r : List ℕ) (a : ℕ) → length (tail r a) ≡ length r - a
tail_length r a = ap length (tail_drop r a) ∙ length-drop a r

-- bytes laid over the tail from its first byte are laid over r from a on
pub lent : (r : List ℕ) (a : ℕ) (t b : List ℕ) → t ≡ splice (tail r a) 0 b → back r a t ≡ splice r a b
lent r a t b e =
    let none : drop (length r - a) (drop a r) ≡ [] = ap (λ (n : ℕ). drop n (drop a r)) (sym (length-drop a r)) ∙ drop-length (drop a r) in
    ap₂ (λ (x y : List ℕ). take a r ++ (x ++ y)) (e ∙ ap (λ (l : List ℕ). splice l 0 b) (tail_drop r a)) none
    ∙ ap (λ (x : List ℕ). take a r ++ x) (append-nil (splice (drop a r) 0 b))
    ∙ splice_lent r a b

-- the next writer, lent what stands behind x, which was laid over r from a on
pub next : (r : List ℕ) (a : ℕ) (x : List ℕ) (s : List ℕ) (n : ℕ) (t y : List ℕ) → a ≤ length r → s ≡ splice r a x → a + length x ≡ n
    → t ≡ splice (tail s n) 0 y → back s n t ≡ splice r a (x ++ y)
next r a x s n t y h e k f =
    lent s n t y f
    ∙ ap₂ (λ (l : List ℕ) (m : ℕ). splice l m y) e (sym k)
    ∙ splice_splice r a x y h

-- what copying s over r leaves
pub copied : (s r : List ℕ) → take (length s) s ++ drop (length s) r ≡ splice r 0 s
unfolding splice
copied s r = ap₂ (λ (x : List ℕ) (n : ℕ). x ++ drop n r) (take-length s) (sym (zero-add (length s)))

-- x at the start of a room that has n bytes for it, and y copied into the tail behind it
pub headed : (r x s : List ℕ) (n : ℕ) (t y : List ℕ) → length x ≡ n → n ≤ length r → s ≡ laid r 0 x
    → t ≡ take (length y) y ++ drop (length y) (tail s n) → back s n t ≡ splice r 0 (x ++ y)
headed r x s n t y k h e f = next r 0 x s n t y (omega arith) (e ∙ laid_fits r 0 x (omega arith)) (omega arith) (f ∙ copied y (tail s n))

-- y copied into the tail from a on
pub copied_lent : (r : List ℕ) (a : ℕ) (t y : List ℕ) → t ≡ take (length y) y ++ drop (length y) (tail r a) → back r a t ≡ splice r a y
copied_lent r a t y e = lent r a t y (e ∙ copied y (tail r a))
