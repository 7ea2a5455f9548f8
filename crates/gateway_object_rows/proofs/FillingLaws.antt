-- The loop that fills a row of words, record by record, and what the row then holds.
use Rattle.std.specs.Prelude.{Result, Ok, Err}
use Prim.Native.Nat.{ℕ, suc, ◌+◌, ◌*◌, ◌-◌, ◌≤◌, ◌<◌}
use native.Mathlib.Omega.{arith}
use mathlib.Core.Path.{◌≡◌, refl, sym, ◌∙◌, ap, ap₂}
use mathlib.Core.List.{List, [], ◌∷◌, ◌++◌, append_assoc, append-nil}
use borrow.Author.Tests.{le-leb, leb-true}
use lib.Dec.{leb}
use lib.ListN.{length, length-append}
use Rattle.wire.specs.Bytes.{splice, laid, landed}
use Rattle.wire.proofs.WireLaws.{by, and_both, and_split, pick_by, pick_yes, pick_no}
use Rattle.wire.proofs.LentParts.{tail, back}
use Rattle.wire.proofs.Splicing.{splice_none, splice_splice, splice_length, laid_fits}
use Rattle.answer.specs.Rooms.{no_room}
use Rattle.answer.specs.declared.Refused.{Refused}
use Rattle.ddm_length.proofs.LentData.{lent_laid}
use Rattle.ddm_object.specs.Objects.{Object, AllParsed, objects, refused_all, parameters}
use Rattle.ddm_rows.specs.ListCalls.{works_of, object_records, objects_fit, given_list, listed}
use Rattle.ddm_object.specs.ObjectCalls.{param_step_at}
use Rattle.ddm_rows.specs.ObjectRows.{TakesWork}
use Rattle.ddm_rows.specs.inner.RowsFilled.{count_of}
use Rattle.ddm_rows.specs.inner.RowsFilled.{one_more_object, recs_from}
use Rattle.ddm_rows.proofs.ObjectRowLaws.{recs_records}
use Rattle.ddm_object.specs.declared.DdmObject.{DdmObject}
use Rattle.gateway_object.specs.ObjectWords.{object_words}
use Rattle.gateway_object_rows.specs.ListWords.{object_len, list_row, records, ListsWords}
use Rattle.gateway_object_rows.specs.inner.Listed.{ListedWords}
use Rattle.ddm_rows.specs.declared.ObjectsFound.{ObjectsFound}
use Rattle.ddm_rows.proofs.ObjectLists.{objects_found}

-- ---- the words of records

pub row_length : (os : List DdmObject) → length (list_row os) ≡ length os * object_len
unfolding list_row
row_length [] = refl
row_length (o ∷ os) = omega (arith, length-append (object_words o) (list_row os), row_length os)

row_more : (os : List DdmObject) (o : DdmObject) → list_row (os ++ (o ∷ [])) ≡ list_row os ++ object_words o
unfolding list_row
row_more [] o = append-nil (object_words o)
row_more (x ∷ os) o = ap (λ (l : List ℕ). object_words x ++ l) (row_more os o) ∙ sym (append_assoc (object_words x) (list_row os) (object_words o))

-- ---- the loop

-- i of the first n records are met and stand in the row; the next stands at a place of the data
pub record Filling (s : List ℕ) (n : ℕ) (row : List ℕ) (i at : ℕ) (now : List ℕ) : Type 0 where
  pub met : List DdmObject
  pub fits : n * object_len ≤ length row
  pub few : i ≤ n
  pub count_is : length met ≡ i
  pub rest : recs_from n s 0 ≡ met ++ recs_from (n - i) s at
  pub row_is : now ≡ splice row 0 (list_row met)

pub filling_start : (s : List ℕ) (n : ℕ) (row : List ℕ) → n * object_len ≤ length row → Filling s n row 0 0 row
unfolding list_row
filling_start s n row h =
    let z : n ≡ n - 0 = omega arith in
    record { met = []; fits = h; few = omega arith; count_is = refl; rest = ap (λ (k : ℕ). recs_from k s 0) z; row_is = sym (splice_none row 0) }

module _ (s : List ℕ) (n : ℕ) (row : List ℕ) (i at : ℕ) (now : List ℕ) (f : Filling s n row i at now) where
  -- the row keeps its length, and what is met fits it
  pub filling_length : length now ≡ length row
  filling_length = ap length f.row_is ∙ splice_length row 0 (list_row f.met) (omega (arith, row_length f.met, f.count_is, f.few, f.fits))

  module _ (l : i < n) where
    -- the next record's words are there
    pub filling_room : i * object_len + object_len ≤ length now
    filling_room = omega (arith, filling_length, f.fits)

    -- the next record, by one step of the walk
    next_is : recs_from (n - i) s at ≡ one_more_object (param_step_at s at) (λ o next. o ∷ recs_from (n - (i + 1)) s next)
    unfolding recs_from
    next_is = let z : n - i ≡ suc (n - (i + 1)) = omega arith in ap (λ (k : ℕ). recs_from k s at) z

    pub filling_step : (o : DdmObject) (next : ℕ) (part : List ℕ) → param_step_at s at ≡ Ok (o, next)
        → part ≡ laid (tail now (i * object_len)) 0 (object_words o) → Filling s n row (i + 1) next (back now (i * object_len) part)
    filling_step o next part e p =
        let m : List DdmObject = f.met in
        let w : length (list_row m) ≡ i * object_len = row_length m ∙ ap (λ (k : ℕ). k * object_len) f.count_is in
        let z : i * object_len ≡ 0 + length (list_row m) = omega arith in
        record {
          met = m ++ (o ∷ []);
          fits = f.fits;
          few = omega arith;
          count_is = omega (arith, length-append m (o ∷ []), f.count_is);
          rest = f.rest ∙ ap (λ (l : List DdmObject). m ++ l) (next_is ∙ ap (λ (z : Result (DdmObject × ℕ) Refused). one_more_object z (λ r k. r ∷ recs_from (n - (i + 1)) s k)) e)
              ∙ sym (append_assoc m (o ∷ []) (recs_from (n - (i + 1)) s next));
          row_is = lent_laid now (i * object_len) part (object_words o) (omega (arith, filling_room)) p
              ∙ laid_fits now (i * object_len) (object_words o) filling_room
              ∙ ap₂ (λ (r : List ℕ) (k : ℕ). splice r k (object_words o)) f.row_is z
              ∙ splice_splice row 0 (list_row m) (object_words o) (omega arith)
              ∙ ap (splice row 0) (sym (row_more m o));
        }

    -- the walk ends before n records: there are no more
    pub filling_ends : (r : Refused) → param_step_at s at ≡ Err r → now ≡ splice row 0 (list_row (recs_from n s 0))
    filling_ends r e =
        f.row_is
        ∙ ap (λ (l : List DdmObject). splice row 0 (list_row l))
        (sym (f.rest ∙ ap (λ (l : List DdmObject). f.met ++ l) (next_is ∙ ap (λ (z : Result (DdmObject × ℕ) Refused). one_more_object z (λ r k. r ∷ recs_from (n - (i + 1)) s k)) e) ∙ append-nil f.met))

  -- all n are there
  pub filling_done : n ≤ i → now ≡ splice row 0 (list_row (recs_from n s 0))
  unfolding recs_from
  filling_done l =
      let z : n - i ≡ 0 = omega arith in
      f.row_is
      ∙ ap (λ (l : List DdmObject). splice row 0 (list_row l))
      (sym (f.rest ∙ ap (λ (k : ℕ). f.met ++ recs_from k s at) z ∙ append-nil f.met))

-- ---- work area and row together

pub none_met : (s row : List ℕ) → splice row 0 (list_row (recs_from 0 s 0)) ≡ row
unfolding recs_from list_row
none_met s row = splice_none row 0

none_landed : (s : List ℕ) (size rows : ℕ) (row : List ℕ) → landed (objects_fit s [] size rows) row (list_row (object_records s 0 [])) ≡ row
unfolding works_of object_records list_row
none_landed s size rows row =
    pick_yes _ _ (and_both (leb 0 size) (leb 0 rows) (le-leb 0 size (omega arith)) (le-leb 0 rows (omega arith))) ∙ splice_none row 0

-- x is what was listed, and where it is objects they are the parameters
module _ (s : List ℕ) (x : AllParsed) (all : (os : List Object) → x ≡ objects os → parameters s ≡ os) (work row : List ℕ) (r : Result ObjectsFound Refused) (zw : List ℕ) (t : TakesWork s x work (records row) r zw) where
  -- an answer's records fit the row
  pub count_fits : count_of r * object_len ≤ length row
  count_fits = rw t.answers (go x)
    where
      go : (x : AllParsed) → count_of (given_list s (length work) (records row) x) * object_len ≤ length row
      go (objects os) =
          pick_by (λ (a : Result ObjectsFound Refused). count_of a * object_len ≤ length row) (objects_fit s os (length work) (records row)) (Ok (objects_found (length os) (length (works_of s 0 os)))) (Err (no_room 0 (length (works_of s 0 os)) (length os)))
          (λ f. omega (arith, leb-true (length os) (records row) (and_split (leb (length (works_of s 0 os)) (length work)) (leb (length os) (records row)) f).1))
          (λ f. omega arith)
      go (refused_all y) = omega arith

  row_landed : (y : AllParsed) → x ≡ y → (zr : List ℕ) → r ≡ given_list s (length work) (records row) y
      → zr ≡ splice row 0 (list_row (recs_from (count_of r) s 0))
      → zr ≡ landed (objects_fit s (listed y) (length work) (records row)) row (list_row (object_records s 0 (listed y)))
  row_landed (objects os) w zr a f =
      by (objects_fit s os (length work) (records row))
      (λ k. let c : count_of r ≡ length os = ap count_of (a ∙ pick_yes _ _ k) in
      let e : recs_from (count_of r) s 0 ≡ object_records s 0 os = ap (λ (n : ℕ). recs_from n s 0) c ∙ recs_records s os 0 (all os w) in
      f ∙ ap (λ (l : List DdmObject). splice row 0 (list_row l)) e ∙ sym (pick_yes _ _ k))
      (λ k. let c : count_of r ≡ 0 = ap count_of (a ∙ pick_no _ _ k) in
      f ∙ ap (λ (n : ℕ). splice row 0 (list_row (recs_from n s 0))) c ∙ none_met s row ∙ sym (pick_no _ _ k))
  row_landed (refused_all y) w zr a f =
      let c : count_of r ≡ 0 = ap count_of a in
      f ∙ ap (λ (n : ℕ). splice row 0 (list_row (recs_from n s 0))) c ∙ none_met s row ∙ sym (none_landed s (length work) (records row) row)

  pub lists_words : (words : List ℕ) (n : ℕ) (zr after : List ℕ) → ListedWords s r row words n zr after
      → ListsWords s (listed x) (λ size rows. given_list s size rows x) work row words n zw zr after
  lists_words words n zr after k =
      record { answers = rw (← t.answers) k.answers; room_is = t.work_is; row_is = row_landed x refl zr t.answers k.row_is }
