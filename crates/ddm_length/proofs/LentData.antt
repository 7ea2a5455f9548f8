-- What a room holds when a part of it was lent on, whether or not what is laid down fits, and when bytes are laid over bytes that
-- were laid. `wire`'s `Lent` has the laws of what fits, said with `splice`.
use Prim.Native.Nat.{ℕ, ◌+◌, ◌-◌, ◌≤◌, ◌<◌}
use native.Mathlib.Omega.{arith}
use mathlib.Core.Path.{◌≡◌, sym, ◌∙◌, ap, ap₂}
use mathlib.Core.List.{List, [], ◌++◌, append-nil}
use borrow.Author.Tests.{leb-true, leb-false}
use lib.Dec.{leb}
use lib.ListN.{length, take, drop, length-append, drop_of_length-le}
use lib.Seq.{drop-drop}
use Rattle.wire.specs.Bytes.{splice, laid}
use Rattle.wire.proofs.WireLaws.{by}
use Rattle.wire.proofs.LentParts.{tail, back, tail_length, lent, copied}
use Rattle.wire.proofs.Splicing.{splice_none, splice_front, splice_rest, splice_length, splice_splice, laid_fits, laid_kept}

-- what was laid down at the lent part's start was laid down at a
pub lent_laid : (r : List ℕ) (a : ℕ) (part b : List ℕ) → a ≤ length r → part ≡ laid (tail r a) 0 b → back r a part ≡ laid r a b
lent_laid r a part b h e =
    by (leb (a + length b) (length r))
    (λ c. let f : a + length b ≤ length r = leb-true (a + length b) (length r) c in
    lent r a part b (e ∙ laid_fits (tail r a) 0 b (omega (arith, tail_length r a))) ∙ sym (laid_fits r a b f))
    (λ c. let f : length r < a + length b = leb-false (a + length b) (length r) c in
    lent r a part [] (e ∙ laid_kept (tail r a) 0 b (omega (arith, tail_length r a)) ∙ sym (splice_none (tail r a) 0)) ∙ splice_none r a ∙ sym (laid_kept r a b f))

-- bytes laid over no more bytes, from the same place on
pub splice_over : (r : List ℕ) (a : ℕ) (x y : List ℕ) → a ≤ length r → length x ≤ length y → splice (splice r a x) a y ≡ splice r a y
unfolding splice
splice_over r a x y h l =
    let n : ℕ = a + length x in
    let m : ℕ = length y - length x in
    let z : n + m ≡ a + length y = omega arith in
    ap₂ (λ (s t : List ℕ). s ++ (y ++ t)) (splice_front r a x h)
    (ap (λ (k : ℕ). drop k (splice r a x)) (sym z) ∙ sym (drop-drop m n (splice r a x)) ∙ ap (drop m) (splice_rest r a x h) ∙ drop-drop m n r ∙ ap (λ (k : ℕ). drop k r) z)

-- what a copy leaves
pub copied_laid : (d r : List ℕ) → length d ≤ length r → take (length d) d ++ drop (length d) r ≡ laid r 0 d
copied_laid d r h = copied d r ∙ sym (laid_fits r 0 d (omega arith))

-- bytes that fit, laid down behind bytes that were laid down
pub laid_next : (r : List ℕ) (a : ℕ) (x y : List ℕ) (n : ℕ) → a + length x ≡ n → n + length y ≤ length r → laid (laid r a x) n y ≡ laid r a (x ++ y)
laid_next r a x y n e h =
    let l : length (x ++ y) ≡ length x + length y = length-append x y in
    let s : laid r a x ≡ splice r a x = laid_fits r a x (omega arith) in
    let w : length (splice r a x) ≡ length r = splice_length r a x (omega arith) in
    ap₂ (λ (z : List ℕ) (m : ℕ). laid z m y) s (sym e)
    ∙ laid_fits (splice r a x) (a + length x) y (omega arith)
    ∙ splice_splice r a x y (omega arith)
    ∙ sym (laid_fits r a (x ++ y) (omega arith))

-- a room that bytes fill
pub laid_whole : (r b : List ℕ) → length b ≡ length r → laid r 0 b ≡ b
unfolding splice
laid_whole r b e =
    laid_fits r 0 b (omega arith)
    ∙ ap (λ (x : List ℕ). b ++ x) (drop_of_length-le r {i = 0 + length b} (omega arith))
    ∙ append-nil b

-- a room keeps its length
pub laid_length : (r : List ℕ) (a : ℕ) (b : List ℕ) → length (laid r a b) ≡ length r
laid_length r a b =
    by (leb (a + length b) (length r))
    (λ c. let f : a + length b ≤ length r = leb-true (a + length b) (length r) c in
    ap length (laid_fits r a b f) ∙ splice_length r a b f)
    (λ c. ap length (laid_kept r a b (leb-false (a + length b) (length r) c)))

-- the next bytes, laid down by one who was lent what follows those laid down so far
pub lent_next : (r s x : List ℕ) (n : ℕ) (part y : List ℕ) → s ≡ laid r 0 x → length x ≡ n → n + length y ≤ length r
    → part ≡ laid (tail s n) 0 y → back s n part ≡ laid r 0 (x ++ y)
lent_next r s x n part y e l h p =
    lent_laid s n part y (omega (arith, ap length e ∙ laid_length r 0 x)) p
    ∙ ap (λ (z : List ℕ). laid z n y) e
    ∙ laid_next r 0 x y n (omega arith) h
