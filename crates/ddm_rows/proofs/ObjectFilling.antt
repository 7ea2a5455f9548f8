-- The loop that stores records in a row: those stored so far, and what still stands behind them.
use Rattle.std.specs.Prelude.{Result, Ok, Err}
use Prim.Native.Nat.{ℕ, zero, suc, ◌+◌, ◌<◌, ◌≤◌}
use native.Mathlib.Omega.{arith}
use mathlib.Core.Path.{◌≡◌, refl, sym, ◌∙◌, ap, ap₂}
use mathlib.Core.List.{List, [], ◌∷◌, ◌++◌, append_assoc, append-nil}
use lib.ListN.{length, set, take, drop, length-append, take-append-drop}
use Rattle.answer.specs.declared.Refused.{Refused}
use Rattle.ddm_object.specs.ObjectCalls.{param_step_at}
use Rattle.ddm_object.specs.declared.DdmObject.{DdmObject}
use Rattle.ddm_rows.specs.inner.RowsFilled.{one_more_object, recs_from, RowFilled}

set_at : (d : List DdmObject) (z r : DdmObject) (l : List DdmObject) → set (d ++ (z ∷ l)) (length d) r ≡ (d ++ (r ∷ [])) ++ l
set_at [] z r l = refl
set_at (x ∷ d) z r l = ap (λ (k : List DdmObject). x ∷ k) (set_at d z r l)

one_more : (n : ℕ) (s : List ℕ) (at : ℕ) (f : Result (DdmObject × ℕ) Refused) → param_step_at s at ≡ f → recs_from (suc n) s at ≡ one_more_object f (λ r next. r ∷ recs_from n s next)
unfolding recs_from
one_more n s at f e = ap (λ (g : Result (DdmObject × ℕ) Refused). one_more_object g (λ r next. r ∷ recs_from n s next)) e

none : (s : List ℕ) (at : ℕ) → recs_from 0 s at ≡ []
unfolding recs_from
none s at = refl

-- a record that stands in a row
stands : (i : ℕ) (ys : List DdmObject) → i < length ys → (z : DdmObject) × (drop i ys ≡ z ∷ drop (suc i) ys)
stands zero [] h = absurd (omega arith)
stands zero (y ∷ ys) h = (y, refl)
stands (suc i) [] h = absurd (omega arith)
stands (suc i) (y ∷ ys) h = stands i ys (omega arith)

pub record FillingObjects (s : List ℕ) (n : ℕ) (ys : List DdmObject) (i at : ℕ) (row : List DdmObject) : Type 0 where
  pub done : List DdmObject
  pub more : ℕ
  pub few : i + more ≡ n
  pub many : length done ≡ i
  pub holds : row ≡ done ++ drop i ys
  pub recs : recs_from n s 0 ≡ done ++ recs_from more s at

pub filling_start : (s : List ℕ) (n : ℕ) (ys : List DdmObject) → FillingObjects s n ys 0 0 ys
filling_start s n ys = record { done = []; more = n; few = omega arith; many = refl; holds = refl; recs = refl }

-- what is left of a part, and what stands behind the part
behind : (i n : ℕ) (ys : List DdmObject) → i ≤ n → drop i (take n ys) ++ drop n ys ≡ drop i ys
behind zero n ys h = take-append-drop n ys
behind (suc i) zero ys h = absurd (omega arith)
behind (suc i) (suc n) [] h = refl
behind (suc i) (suc n) (y ∷ ys) h = behind i n ys (omega arith)

-- the part of a row that is filled, and behind it what stood there
module _ (s : List ℕ) (n : ℕ) (ys : List DdmObject) (i at : ℕ) (row : List DdmObject) (k : FillingObjects s n (take n ys) i at row) where
  -- the records are those stored, once no more come
  ended : recs_from k.more s at ≡ [] → RowFilled s n ys (row ++ drop n ys)
  ended e =
      let all : recs_from n s 0 ≡ k.done = k.recs ∙ ap (λ (l : List DdmObject). k.done ++ l) e ∙ append-nil k.done in
      let h : i ≤ n = omega (arith, k.few) in
      record {
        row_is = ap (λ (l : List DdmObject). l ++ drop n ys) k.holds ∙ append_assoc k.done (drop i (take n ys)) (drop n ys)
            ∙ ap₂ (λ (l m : List DdmObject). l ++ m) (sym all) (behind i n ys h)
            ∙ ap (λ (m : ℕ). recs_from n s 0 ++ drop m ys) (sym k.many ∙ sym (ap length all));
      }

  pub filling_full : n ≤ i → RowFilled s n ys (row ++ drop n ys)
  filling_full h = let z : k.more ≡ 0 = omega (arith, k.few) in ended (ap (λ (m : ℕ). recs_from m s at) z ∙ none s at)

  pub filling_stops : (r : Refused) → param_step_at s at ≡ Err r → RowFilled s n ys (row ++ drop n ys)
  filling_stops r e = ended (go k.more)
    where
      go : (m : ℕ) → recs_from m s at ≡ []
      go zero = none s at
      go (suc m) = one_more m s at (Err r) e

module _ (s : List ℕ) (n : ℕ) (ys : List DdmObject) (i at : ℕ) (row : List DdmObject) (k : FillingObjects s n ys i at row) where
  pub filling_step : (r : DdmObject) (next : ℕ) → n ≤ length ys → i < n → param_step_at s at ≡ Ok (r, next) → FillingObjects s n ys (i + 1) next (set row i r)
  filling_step r next room h e = go k.more refl
    where
      go : (m : ℕ) → k.more ≡ m → FillingObjects s n ys (i + 1) next (set row i r)
      go zero q = absurd (omega (arith, k.few))
      go (suc m) q =
          let z = stands i ys (omega arith) in
          record {
            done = k.done ++ (r ∷ []);
            more = m;
            few = omega (arith, k.few);
            many = length-append k.done (r ∷ []) ∙ omega (arith, k.many);
            holds = ap (λ (l : List DdmObject). set l i r) (k.holds ∙ ap (λ (l : List DdmObject). k.done ++ l) z.1)
                ∙ ap (λ (j : ℕ). set (k.done ++ (z.0 ∷ drop (suc i) ys)) j r) (sym k.many)
                ∙ set_at k.done z.0 r (drop (suc i) ys)
                ∙ (let w : suc i ≡ i + 1 = omega arith in ap (λ (j : ℕ). (k.done ++ (r ∷ [])) ++ drop j ys) w);
            recs = k.recs ∙ ap (λ (j : ℕ). k.done ++ recs_from j s at) q ∙ ap (λ (l : List DdmObject). k.done ++ l) (one_more m s at (Ok (r, next)) e)
                ∙ sym (append_assoc k.done (r ∷ []) (recs_from m s next));
          }
