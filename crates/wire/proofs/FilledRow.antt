-- A row that is filled from its start on, element by element, whatever the elements are: what stands in it after each, and at the end.
use Prim.Native.Nat.{ℕ, zero, suc, ◌+◌, ◌<◌, ◌≤◌}
use native.Mathlib.Omega.{arith}
use mathlib.Core.Path.{◌≡◌, refl, sym, ap, ◌∙◌}
use mathlib.Core.List.{List, [], ◌∷◌, ◌++◌, append_assoc, append-nil}
use lib.ListN.{length, set, take, drop, length-append, take-append-drop}
use lib.Seq.{drop_at}
use Rattle.wire.specs.Bytes.{splice}

-- a list laid over a row's start
splice_start : {A : Type 0} (r b : List A) → splice r 0 b ≡ b ++ drop (length b) r
unfolding splice
splice_start r b = let z : 0 + length b ≡ length b = omega arith in ap (λ (n : ℕ). b ++ drop n r) z

-- nothing laid over it
pub splice_nothing : {A : Type 0} (r : List A) → splice r 0 [] ≡ r
unfolding splice
splice_nothing r = refl

set_at : {A : Type 0} (d : List A) (z r : A) (l : List A) → set (d ++ (z ∷ l)) (length d) r ≡ (d ++ (r ∷ [])) ++ l
set_at [] z r l = refl
set_at {A} (x ∷ d) z r l = ap (λ (k : List A). x ∷ k) (set_at d z r l)

-- Elements come one behind the other from a place on, at most n of them: `from n place`. Stored so far (done), what stood there before
-- (old), what still stands behind them (left), and the next place, which is good.
pub record Filled {A P : Type 0} (from : ℕ → P → List A) (Good : P → Type 0) (start : P) (ys : List A) : Type 0 where
  pub done : List A
  pub old : List A
  pub left : List A
  pub at : P
  pub good : Good at
  pub same : length done ≡ length old
  pub split : old ++ left ≡ ys
  pub recs : from (length ys) start ≡ done ++ from (length left) at

-- nothing is stored yet
abbrev pub unfilled : {A P : Type 0} (from : ℕ → P → List A) (Good : P → Type 0) (start : P) (ys : List A) → Good start → Filled from Good start ys
unfilled from Good start ys good = record { done = []; old = []; left = ys; at = start; good = good; same = refl; split = refl; recs = refl }

module _ {A P : Type 0} {from : ℕ → P → List A} {Good : P → Type 0} {start : P} {ys : List A} (σ : Filled from Good start ys) where
  -- what stands in the row
  abbrev pub now : List A
  now = σ.done ++ σ.left

  pub now_length : length now ≡ length ys
  now_length = length-append σ.done σ.left ∙ ap (λ (n : ℕ). n + length σ.left) σ.same ∙ sym (length-append σ.old σ.left) ∙ ap length σ.split

  -- all elements are stored where no more come
  pub filled_all : (l : List A) → σ.left ≡ l → from (length l) σ.at ≡ [] → from (length ys) start ≡ σ.done
  filled_all l e h =
      σ.recs ∙ ap (λ (k : List A). σ.done ++ from (length k) σ.at) e ∙ ap (λ (k : List A). σ.done ++ k) h ∙ append-nil σ.done

  -- and the row is what they are laid over
  pub filled_row : from (length ys) start ≡ σ.done → now ≡ splice ys 0 (from (length ys) start)
  filled_row e =
      sym
      (splice_start ys (from (length ys) start)
      ∙ ap (λ (d : List A). d ++ drop (length d) ys) e
      ∙ ap (λ (k : List A). σ.done ++ k)
      (ap (λ (k : List A). drop (length σ.done) k) (sym σ.split) ∙ drop_at σ.old σ.left (length σ.done) (sym σ.same)))

  pub filled_full : σ.left ≡ [] → length ys ≤ length σ.done
  filled_full e = omega (arith, σ.same, ap length e, simp length-append at (ap length σ.split))

  module _ (z : A) (l : List A) (e : σ.left ≡ z ∷ l) where
    pub filled_within : length σ.done < length ys
    filled_within = omega (arith, σ.same, ap length e, simp length-append at (ap length σ.split))

    pub filled_less : length l < length σ.left
    filled_less = omega (arith, ap length e)

    module _ (r : A) (next : P) (good : Good next) (is : from (suc (length l)) σ.at ≡ r ∷ from (length l) next) where
      -- one element more
      abbrev pub filled_one : Filled from Good start ys
      filled_one = record {
        done = σ.done ++ (r ∷ []);
        old = σ.old ++ (z ∷ []);
        left = l;
        at = next;
        good = good;
        same = length-append σ.done (r ∷ []) ∙ ap (λ (n : ℕ). n + 1) σ.same ∙ sym (length-append σ.old (z ∷ []));
        split = append_assoc σ.old (z ∷ []) l ∙ ap (λ (k : List A). σ.old ++ k) (sym e) ∙ σ.split;
        recs = σ.recs ∙ ap (λ (k : List A). σ.done ++ from (length k) σ.at) e ∙ ap (λ (k : List A). σ.done ++ k) is
            ∙ sym (append_assoc σ.done (r ∷ []) (from (length l) next));
      }

      pub filled_stored : set now (length σ.done) r ≡ (σ.done ++ (r ∷ [])) ++ l
      filled_stored = ap (λ (k : List A). set (σ.done ++ k) (length σ.done) r) e ∙ set_at σ.done z r l

-- ---- the same, of the row alone: what is still to be laid down stands from the next place on

splice_front_none : {A : Type 0} (r : List A) (i : ℕ) → splice r i [] ≡ r
unfolding splice
splice_front_none r i = let z : i + 0 ≡ i = omega arith in ap (λ (n : ℕ). take i r ++ drop n r) z ∙ take-append-drop i r

-- no more are laid down
pub splice_no_more : {A : Type 0} (r : List A) (i : ℕ) (b : List A) → b ≡ [] → splice r i b ≡ r
splice_no_more {A} r i b e = ap (λ (l : List A). splice r i l) e ∙ splice_front_none r i

-- one is stored, and the others come behind it
pub splice_store : {A : Type 0} (r : List A) (i : ℕ) (x : A) (l : List A) → i < length r → splice r i (x ∷ l) ≡ splice (set r i x) (i + 1) l
unfolding splice
splice_store [] i x l h = absurd (omega arith)
splice_store {A} (y ∷ r) zero x l h =
    let a : 0 + suc (length l) ≡ suc (length l) = omega arith in
    let b : 1 + length l ≡ suc (length l) = omega arith in
    ap (λ (n : ℕ). x ∷ (l ++ drop {A = A} n (y ∷ r))) a ∙ sym (ap (λ (n : ℕ). x ∷ (l ++ drop {A = A} n (x ∷ r))) b)
splice_store {A} (y ∷ r) (suc i) x l h =
    let w = splice_store r i x l (omega arith) in
    let a : suc i + suc (length l) ≡ suc (i + suc (length l)) = omega arith in
    let b : suc i + 1 ≡ suc (i + 1) = omega arith in
    let c : suc (i + 1) + length l ≡ suc (i + 1 + length l) = omega arith in
    ap (λ (n : ℕ). y ∷ (take i r ++ x ∷ (l ++ drop {A = A} n (y ∷ r)))) a
    ∙ ap (λ (k : List A). y ∷ k) w
    ∙ sym (ap (λ (n : ℕ). y ∷ (take (i + 1) (set r i x) ++ (l ++ drop {A = A} n (y ∷ set r i x)))) c)
    ∙ sym (ap (λ (n : ℕ). splice {A = A} (y ∷ set r i x) n l) b)
