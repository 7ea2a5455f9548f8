-- Words laid into a row one behind the other: what is left of them, and the row that they lead to.
use Prim.Native.Nat.{ℕ, ◌+◌, ◌-◌, ◌≤◌}
use native.Mathlib.Omega.{arith}
use mathlib.Core.Path.{◌≡◌, refl, sym, ap, ap₂, ◌∙◌}
use mathlib.Core.List.{List, [], ◌∷◌, ◌++◌, append-nil}
use lib.ListN.{length, take, drop, length-append, length-drop}
use lib.Seq.{length-take-le, drop-length, drop-drop}
use Rattle.wire.specs.Bytes.{splice, laid, joined}
use Rattle.wire.proofs.Splicing.{splice_none, splice_length, splice_splice, laid_fits}

-- the words of no record, and of one before others
pub joined_none : {A : Type 0} (words : A → List ℕ) → joined words [] ≡ []
unfolding joined
joined_none words = refl

pub joined_more : {A : Type 0} (words : A → List ℕ) (x : A) (xs : List A) → joined words (x ∷ xs) ≡ words x ++ joined words xs
unfolding joined
joined_more words x xs = refl

-- the part of so many words that is lent, `&mut row[n..e]`, and the row once it came back as t
abbrev pub part_of : List ℕ → ℕ → ℕ → List ℕ
part_of row n e = take (e - n) (drop n row)

abbrev pub back_part : List ℕ → ℕ → ℕ → List ℕ → List ℕ
back_part row n e t = take n row ++ (t ++ drop (e - n) (drop n row))

-- as many words as the part has, laid at its start
part_laid : (row w t : List ℕ) (n e : ℕ) → n + length w ≡ e → e ≤ length row → t ≡ laid (part_of row n e) 0 w → back_part row n e t ≡ splice row n w
unfolding splice
part_laid row w t n e k h i =
    let p : List ℕ = part_of row n e in
    let long : length p ≡ e - n = length-take-le (e - n) (drop n row) (omega (arith, length-drop n row)) in
    let x : length p ≡ 0 + length w = omega arith in
    let is : t ≡ w =
    i ∙ laid_fits p 0 w (omega arith) ∙ ap (λ (k : ℕ). w ++ drop k p) (sym x) ∙ ap (λ (l : List ℕ). w ++ l) (drop-length p) ∙ append-nil w in
    ap₂ (λ (a b : List ℕ). take n row ++ (a ++ b)) is (drop-drop (e - n) n row ∙ ap (λ (k : ℕ). drop k row) (let z : n + (e - n) ≡ n + length w = omega arith in z))

-- the row is as long as at first, and what is left, laid from n on, leads to the row aim
pub record LayingWords (start aim row left : List ℕ) (n : ℕ) : Type 0 where
  pub long : length row ≡ length start
  pub leads : aim ≡ splice row n left

pub laying_start : (row left : List ℕ) → LayingWords row (splice row 0 left) row left 0
laying_start row left = record { long = refl; leads = refl }

module _ (start aim row left : List ℕ) (n : ℕ) (l : LayingWords start aim row left n) where
  -- nothing is left
  pub laying_end : left ≡ [] → row ≡ aim
  laying_end e = sym (l.leads ∙ ap (splice row n) e ∙ splice_none row n)

  -- words are laid into the part that is lent, which has just so many
  pub laying_part : (e : ℕ) (w rest t : List ℕ) → left ≡ w ++ rest → n + length w ≡ e → e ≤ length row → t ≡ laid (part_of row n e) 0 w
      → LayingWords start aim (back_part row n e t) rest e
  laying_part e w rest t i k h g =
      let a : back_part row n e t ≡ splice row n w = part_laid row w t n e k h g in
      record {
        long = ap length a ∙ splice_length row n w (omega arith) ∙ l.long;
        leads =
            l.leads ∙ ap (splice row n) i ∙ sym (splice_splice row n w rest (omega arith))
            ∙ ap₂ (λ (x : List ℕ) (j : ℕ). splice x j rest) (sym a) k;
      }

-- words laid down, and more of them behind those
pub laid_behind : (r a b : List ℕ) (n : ℕ) → length a ≡ n → n + length b ≤ length r → laid (laid r 0 a) n b ≡ laid r 0 (a ++ b)
laid_behind r a b n e h =
    let x : laid r 0 a ≡ splice r 0 a = laid_fits r 0 a (omega arith) in
    ap (λ (z : List ℕ). laid z n b) x
    ∙ laid_fits (splice r 0 a) n b (omega (arith, splice_length r 0 a (omega arith)))
    ∙ ap (λ (k : ℕ). splice (splice r 0 a) k b) (let z : n ≡ 0 + length a = omega arith in z)
    ∙ splice_splice r 0 a b (omega arith)
    ∙ sym (laid_fits r 0 (a ++ b) (omega (arith, length-append a b)))
