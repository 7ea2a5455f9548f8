-- From an answer in words to what a caller looks up there.
use Rattle.std.specs.Prelude.{Result, Ok, Err}
use Prim.Native.Nat.{ℕ, suc, ◌+◌, ◌*◌, ◌≤◌}
use native.Mathlib.Omega.{arith}
use mathlib.Core.Path.{◌≡◌, refl, sym, ap, subst, ◌∙◌}
use mathlib.Core.List.{List, [], ◌∷◌, ◌++◌}
use borrow.Author.Tests.{le-leb}
use lib.ListN.{length, get_or, drop}
use lib.Seq.{drop_at}
use Rattle.wire.specs.Bytes.{splice, landed}
use Rattle.wire.proofs.WireLaws.{pick_yes}
use Rattle.wire.proofs.Splicing.{laid_fits, splice_none}
use Rattle.answer.specs.Rooms.{laid_at_start}
use Rattle.ddm_builder.specs.Built.{built, built_all, Fit}
use Rattle.ddm_builder.proofs.BuiltForms.{length_built}
use Rattle.ddm_object.specs.Objects.{Object, parameters, all_objects}
use Rattle.ddm_object.specs.ObjectCalls.{not_found}
use Rattle.ddm_rows.specs.ListCalls.{works_of, object_records, objects_fit, given_objects, given_list, listed}
use Rattle.ddm_object.specs.declared.DdmObject.{DdmObject}
use Rattle.ddm_laws.proofs.BuiltLists.{objects_of, parameters_joined, objects_joined}
use Rattle.gateway_words.specs.AnswerWords.{done_words, laid_words, Answered}
use Rattle.gateway_object.specs.ObjectWords.{object_words, found_words}
use Rattle.gateway_object_rows.specs.ListWords.{list_words, list_row, records, ObjectsWords, ParametersWords}
use Rattle.gateway_object_rows.proofs.FillingLaws.{row_length}
use Rattle.demands_ddm.specs.ReadingBack.{plain, data_of, built_header, records_built, AllSay, ReadsAs}
use Rattle.demands_ddm.specs.ReadingWords.{SaysInWords, AnswersNumber, AnswersObject, RowSays, AnswersList, AnswersNone}
use Rattle.demands_ddm.proofs.Listing.{rest_of, fit_listed, given_listed}
use Rattle.ddm_rows.specs.declared.ObjectsFound.{ObjectsFound}
use Rattle.answer.specs.declared.Refused.{Refused}
use Rattle.ddm_rows.proofs.ObjectLists.{objects_found}

-- the words, where there are eight: the answer's, and behind them what was there
pub after_is : (answer words : List ℕ) (r : ℕ) (after : List ℕ) → length answer ≡ 8 → 8 ≤ length words → Answered answer words r after → after ≡ answer ++ drop 8 words
unfolding splice
after_is answer words r after l h a =
    let n : 0 + length answer ≡ 8 = omega arith in
    a.words_are ∙ laid_fits words 0 answer (omega arith) ∙ ap (λ (m : ℕ). answer ++ drop m words) n

-- ---- one object

module _ (words : List ℕ) (r : ℕ) (after : List ℕ) (h : 8 ≤ length words) where
  -- one number
  pub said_number : (n : ℕ) → Answered (done_words n 0 0 0) words r after → AnswersNumber n words r after
  said_number n b =
      let w = after_is _ words r after refl h b in
      record {
        done = b.number_is;
        number = ap (λ (x : List ℕ). get_or x 0 0) w;
        result = ap (λ (x : List ℕ). get_or x 2 0) w;
        behind = ap (drop 8) w;
      }

  -- bytes laid down where there is room
  pub said_laid : (place size n : ℕ) → n ≤ size → Answered (laid_words (laid_at_start place size n)) words r after → AnswersNumber n words r after
  said_laid place size n f a = said_number n (subst (λ (x : Result ℕ Refused). Answered (laid_words x) words r after) (pick_yes _ _ (le-leb n size f)) a)

  says_plain : (cp : ℕ) (d s : List ℕ) (place header : ℕ) (rest : List ℕ) → data_of s (plain place cp header (length d)) ≡ d
      → SaysInWords cp d s (header + length d) (object_words (plain place cp header (length d)) ++ rest)
  says_plain cp d s place header rest e = record { number = refl; code_point = refl; in_run = refl; data_is = e; data_length = refl; takes_so_many = refl }

  pub said_object : (cp : ℕ) (d s : List ℕ) (place header : ℕ) (work workAfter : List ℕ) (x : Result DdmObject Refused) → ReadsAs cp d s place header work x workAfter
      → Answered (found_words x) words r after → AnswersObject cp d s (header + length d) work words r workAfter after
  said_object cp d s place header work workAfter x p a =
      let b = subst (λ (y : Result DdmObject Refused). Answered (found_words y) words r after) p.is a in
      let w = after_is _ words r after refl h b in
      record {
        done = b.number_is;
        says = subst (SaysInWords cp d s (header + length d)) (sym w) (says_plain cp d s place header (drop 8 words) p.data_is);
        behind = ap (drop 8) w;
        work_is = p.work_is;
      }

  pub said_none : (work workAfter : List ℕ) (x : Result DdmObject Refused) → x ≡ Err not_found → workAfter ≡ work → Answered (found_words x) words r after
      → AnswersNone work words r workAfter after
  said_none work workAfter x e k a =
      let b = subst (λ (y : Result DdmObject Refused). Answered (found_words y) words r after) e a in
      let w = after_is _ words r after refl h b in
      record { none = b.number_is; number = ap (λ (y : List ℕ). get_or y 0 0) w; behind = ap (drop 8) w; work_is = k }

-- ---- lists

row_says : (l : List (ℕ × List ℕ)) (s : List ℕ) (place : ℕ) (rest : List ℕ) → AllSay s l (records_built place l) → RowSays s l (list_row (records_built place l) ++ rest)
unfolding RowSays AllSay records_built list_row
row_says [] s place rest a = tt
row_says (x ∷ l) s place rest a =
    let n : built_header x.1 + length x.1 ≡ length (built x.0 x.1) = sym (length_built x.0 x.1) in (
      record { number = refl; code_point = refl; in_run = refl; data_is = a.1; data_length = refl; takes_so_many = n },
      row_says l s (place + length (built x.0 x.1)) rest a.2,
    )

built_count : (place : ℕ) (l : List (ℕ × List ℕ)) → length (records_built place l) ≡ length l
unfolding records_built
built_count place [] = refl
built_count place (x ∷ l) = ap suc (built_count (place + length (built x.0 x.1)) l)

module _ (l : List (ℕ × List ℕ)) (g : Fit l) (work row words : List ℕ) (h : length l * 8 ≤ length row) (k : 8 ≤ length words) (r : ℕ) (workAfter rowAfter after : List ℕ) where
  abbrev s : List ℕ
  s = built_all l

  few : length l ≤ records row
  few = omega arith

  said_list : (os : List Object) (x : Result ObjectsFound Refused) → os ≡ objects_of l → x ≡ Ok (objects_found (length l) 0) → Answered (list_words x) words r after
      → workAfter ≡ landed (objects_fit s os (length work) (records row)) work (works_of s 0 os)
      → rowAfter ≡ landed (objects_fit s os (length work) (records row)) row (list_row (object_records s 0 os))
      → AnswersList l s work row words r workAfter rowAfter after
  unfolding splice
  said_list os x e is a ew er =
      let all = rest_of l g s 0 refl in
      let fit = fit_listed l g (length work) (records row) few in
      let ws : List ℕ = list_row (records_built 0 l) in
      let n : length ws ≡ length l * 8 = row_length (records_built 0 l) ∙ ap (λ (m : ℕ). m * 8) (built_count 0 l) in
      let z : 0 + length ws ≡ length l * 8 = omega arith in
      let b = subst (λ (y : Result ObjectsFound Refused). Answered (list_words y) words r after) is a in
      let w = after_is _ words r after refl k b in
      let rw' : rowAfter ≡ ws ++ drop (length l * 8) row =
      er
      ∙ ap (λ (y : List Object). landed (objects_fit s y (length work) (records row)) row (list_row (object_records s 0 y))) e
      ∙ pick_yes _ _ fit
      ∙ ap (λ (y : List DdmObject). splice row 0 (list_row y)) all.records
      ∙ ap (λ (m : ℕ). ws ++ drop m row) z in
      record {
        done = b.number_is;
        number = ap (λ (y : List ℕ). get_or y 0 0) w;
        count = ap (λ (y : List ℕ). get_or y 2 0) w;
        no_work = ap (λ (y : List ℕ). get_or y 3 0) w;
        behind = ap (drop 8) w;
        row_says = subst (RowSays s l) (sym rw') (row_says l s 0 (drop (length l * 8) row) all.say);
        row_behind = ap (drop (length l * 8)) rw' ∙ drop_at ws (drop (length l * 8) row) (length l * 8) n;
        work_is =
            ew
            ∙ ap (λ (y : List Object). landed (objects_fit s y (length work) (records row)) work (works_of s 0 y)) e
            ∙ pick_yes _ _ fit
            ∙ ap (splice work 0) all.works
            ∙ splice_none work 0;
      }

  pub said_parameters : ParametersWords s work row words r workAfter rowAfter after → AnswersList l s work row words r workAfter rowAfter after
  said_parameters p =
      said_list (parameters s) (given_objects s (length work) (records row) (parameters s)) (parameters_joined l g)
      (ap (given_objects s (length work) (records row)) (parameters_joined l g) ∙ given_listed l g (length work) (records row) few) p.answers p.room_is p.row_is

  pub said_objects : ObjectsWords s work row words r workAfter rowAfter after → AnswersList l s work row words r workAfter rowAfter after
  said_objects p =
      said_list (listed (all_objects s)) (given_list s (length work) (records row) (all_objects s)) (ap listed (objects_joined l g))
      (ap (given_list s (length work) (records row)) (objects_joined l g) ∙ given_listed l g (length work) (records row) few) p.answers p.room_is p.row_is
