-- What is found of one object by measuring alone: its record, and how much it lays into the work area. `b` is all that stands
-- from its first byte on, and `place` where that is.
use Rattle.std.specs.Prelude.{Result, Ok, Err}
use Prim.Native.Nat.{ℕ, ◌+◌, ◌-◌, ◌≤◌, ◌<◌}
use native.Mathlib.Omega.{arith}
use mathlib.Core.Path.{◌≡◌, refl, sym, ◌∙◌, ap}
use mathlib.Core.Bool.{Bool, true, false}
use mathlib.Core.List.{List, []}
use borrow.Author.Tests.{eqb-true, ltb-true, le-leb, lt-leb, lt-ltb}
use lib.Dec.{leb, ltb, eqb}
use lib.ListN.{length, take, drop, length-drop}
use lib.Seq.{take_all, length-take-le}
use Rattle.wire.specs.Bytes.{pick, and, be16, laid}
use Rattle.wire.proofs.WireLaws.{by, and_split, pick_yes, pick_no}
use Rattle.wire.proofs.Splicing.{laid_fits, laid_kept, splice_none}
use Rattle.answer.specs.Rooms.{no_room, out_of_bounds}
use Rattle.answer.specs.declared.Refusal.TheVariants.{BufferTooShort}
use Rattle.answer.specs.declared.Refused.{Refused}
use Rattle.ddm_length.specs.Lengths.{marshaled, fitting, measured}
use Rattle.ddm_length.specs.Markers.{has_markers, marker_first, unmarked}
use Rattle.ddm_length.proofs.TakenLengths.{TakenLength, inline, all, wide, measured_taken}
use Rattle.ddm_length.proofs.Fronts.{in_order}
use Rattle.ddm_object.specs.Objects.{Object, Parsed, object, refused, content_of, object_of, parsed}
use Rattle.ddm_object.specs.ObjectCalls.{lies_in_work, given_parsed, object_at, work_parsed, ObjectAt}
use Rattle.ddm_object.proofs.ParamWalks.{Found, found, sized}
use Rattle.ddm_object.specs.declared.DdmObject.{DdmObject}
use Rattle.ddm_object.specs.inner.RecordsGiven.{work_in, record_in, record_parsed, record_found, given_in, work_given, GivesIn}
use Rattle.ddm_length.specs.declared.Marshaled.{Marshaled}
use Rattle.ddm_length.specs.Lengths.{takes}

-- ---- laws

module _ (b : List ℕ) (e : lies_in_work b ≡ true) where
  -- only raw 0x8004, which takes all
  pub in_all : be16 b 0 ≡ 0x8004
  in_all = eqb-true (be16 b 0) 0x8004 (and_split (eqb (be16 b 0) 0x8004) (has_markers (drop 4 b)) e).0

  pub in_marked : has_markers (drop 4 b) ≡ true
  in_marked = (and_split (eqb (be16 b 0) 0x8004) (has_markers (drop 4 b)) e).1

  pub in_long : 32763 < length b
  in_long =
      omega (arith, length-drop 4 b, ltb-true 32759 (length (drop 4 b)) (and_split (ltb 32759 (length (drop 4 b))) (marker_first (drop 32757 (drop 4 b))) in_marked).0)

  -- its data are without markers
  pub in_content : (t h : ℕ) → content_of b t h ≡ unmarked (drop 4 b)
  in_content t h = pick_yes _ _ (and_split (eqb (be16 b 0) 0x8004) (has_markers (drop 4 b)) e).0

-- other data are a part of the object's own bytes
plain_all : (b : List ℕ) (t h : ℕ) → be16 b 0 ≡ 0x8004 → TakenLength b t h → take (t - h) (drop h b) ≡ drop 4 b
plain_all b t h raw (inline et eh lo hi fits) = absurd (omega arith)
plain_all b t h raw (wide r lo et hi fits) = absurd (omega arith)
plain_all b t h raw (all four r et eh) =
    ap (λ (n : ℕ). take (t - n) (drop n b)) eh ∙ take_all (t - 4) (drop 4 b) (omega (arith, length-drop 4 b))

pub out_content : (b : List ℕ) (t h : ℕ) → lies_in_work b ≡ false → TakenLength b t h → content_of b t h ≡ take (t - h) (drop h b)
unfolding unmarked
out_content b t h e k =
    by (eqb (be16 b 0) 0x8004)
    (λ c. pick_yes _ _ c ∙ pick_no _ _ (sym (ap (λ (x : Bool). and x (has_markers (drop 4 b))) c) ∙ e)
    ∙ sym (plain_all b t h (eqb-true (be16 b 0) 0x8004 c) k))
    (λ c. pick_no _ _ c)

pub out_length : (b : List ℕ) (t h : ℕ) → lies_in_work b ≡ false → TakenLength b t h → length (content_of b t h) ≡ t - h
out_length b t h e k =
    let o : (4 ≤ h) × (h ≤ t) × (t ≤ length b) = in_order k in
    ap length (out_content b t h e k) ∙ length-take-le (t - h) (drop h b) (omega (arith, length-drop h b))

-- the record, by what the length says
module _ (b : List ℕ) (place : ℕ) where
  pub record_refused : (r : Refused) → measured b place ≡ Err r → record_found b place ≡ Err r
  unfolding record_found parsed
  record_refused r e = rw e

  module _ (t h : ℕ) (e : measured b place ≡ Ok (takes t h)) where
    pub record_work : lies_in_work b ≡ true
        → record_found b place ≡ Ok (record { code_point = be16 b 2; in_work = true; data_at = 0; data_len = length (unmarked (drop 4 b)); consumed = t })
    unfolding record_found parsed
    record_work i = rw (e, in_content b i t h, i)

    pub record_plain : lies_in_work b ≡ false
        → record_found b place ≡ Ok (record { code_point = be16 b 2; in_work = false; data_at = place + h; data_len = t - h; consumed = t })
    unfolding record_found parsed
    record_plain i =
        let k : TakenLength b t h = measured_taken b t h place e in
        let o : (4 ≤ h) × (h ≤ t) × (t ≤ length b) = in_order k in
        let z : t - (t - h) ≡ h = omega arith in
        rw (e, i, out_length b t h i k, z)

-- what a record was found of
pub record RecordOf (b : List ℕ) (place : ℕ) (rec : DdmObject) : Type 0 where
  pub of : Object
  pub read : parsed b place ≡ object of
  pub is : record_in b place of ≡ rec

pub record_of : (b : List ℕ) (place : ℕ) (rec : DdmObject) → record_found b place ≡ Ok rec → RecordOf b place rec
unfolding record_found
record_of b place rec e = go (parsed b place) refl e
  where
    go : (p : Parsed) → parsed b place ≡ p → record_parsed b place p ≡ Ok rec → RecordOf b place rec
    go (object o) q r = record { of = o; read = q; is = cc }
    go (refused x) q r = absurd (let z : ◌≡◌ {A = ℕ} 0 1 = cc in omega arith)

pub refused_of : (b : List ℕ) (place : ℕ) (r : Refused) → record_found b place ≡ Err r → parsed b place ≡ refused r
unfolding record_found
refused_of b place r e = go (parsed b place) refl e
  where
    go : (p : Parsed) → parsed b place ≡ p → record_parsed b place p ≡ Err r → parsed b place ≡ refused r
    go (object o) q k = absurd (let z : ◌≡◌ {A = ℕ} 0 1 = cc in omega arith)
    go (refused x) q k = q ∙ ap refused (cc)

-- data in the work area are the object's without markers
pub work_content : (b : List ℕ) (place : ℕ) (o : Object) → parsed b place ≡ object o → lies_in_work b ≡ true → o.content ≡ unmarked (drop 4 b)
work_content b place o e i =
    let f : Found b o = found b place o e in
    sym (ap (λ (x : Object). x.content) f.is) ∙ in_content b i o.consumed f.header

-- an object takes four bytes at least, and no more than there are
pub record_next : (s : List ℕ) (at : ℕ) (rec : DdmObject) → at ≤ length s → RecordOf (drop at s) at rec → (4 ≤ rec.consumed) × (at + rec.consumed ≤ length s)
record_next s at rec h f =
    omega (arith, ap (λ (x : DdmObject). x.consumed) f.is, sized (found (drop at s) at f.of f.read), length-drop at s)

-- ---- what the call answers, by the record

pub gives_refused : (b : List ℕ) (place position : ℕ) (work : List ℕ) (r : Refused) → parsed b place ≡ refused r → GivesIn b place position work (Err r) work
gives_refused b place position work r e = record { answers = rw e; work_is = rw e }

module _ (b : List ℕ) (place position : ℕ) (work : List ℕ) (rec : DdmObject) (f : RecordOf b place rec) where
  -- the record says whether the data go through the work area, and how long they are
  pub rec_in : rec.in_work ≡ lies_in_work b
  rec_in = sym (ap (λ (o : DdmObject). o.in_work) f.is)

  pub rec_len : rec.data_len ≡ length f.of.content
  rec_len = sym (ap (λ (o : DdmObject). o.data_len) f.is)

  pub gives_plain : rec.in_work ≡ false → GivesIn b place position work (Ok rec) work
  gives_plain i =
      let j : lies_in_work b ≡ false = sym rec_in ∙ i in
      record {
        answers = sym (ap (given_in b place position (length work)) f.read ∙ ap (λ (w : List ℕ). pick (leb (length w) (length work)) (Ok (record_in b place f.of)) (Err (no_room position (length w) 0))) (pick_no _ _ j)
            ∙ pick_yes _ _ (le-leb 0 (length work) (omega arith)) ∙ ap Ok f.is);
        work_is = sym (ap (work_given b work) f.read ∙ ap (laid work 0) (pick_no _ _ j) ∙ laid_fits work 0 [] (omega arith) ∙ splice_none work 0);
      }

  module _ (i : rec.in_work ≡ true) where
    work_is : work_in b f.of ≡ unmarked (drop 4 b)
    work_is = pick_yes _ _ (sym rec_in ∙ i) ∙ work_content b place f.of f.read (sym rec_in ∙ i)

    pub need_is : rec.data_len ≡ length (unmarked (drop 4 b))
    need_is = rec_len ∙ ap length (work_content b place f.of f.read (sym rec_in ∙ i))

    -- what is answered, by the bytes for the work area
    answered : given_in b place position (length work) (parsed b place)
        ≡ pick (leb (length (unmarked (drop 4 b))) (length work)) (Ok rec) (Err (no_room position (length (unmarked (drop 4 b))) 0))
    answered =
        ap (given_in b place position (length work)) f.read
        ∙ ap (λ (w : List ℕ). pick (leb (length w) (length work)) (Ok (record_in b place f.of)) (Err (no_room position (length w) 0))) work_is
        ∙ ap (λ (x : DdmObject). pick (leb (length (unmarked (drop 4 b))) (length work)) (Ok x) (Err (no_room position (length (unmarked (drop 4 b))) 0))) f.is

    left : work_given b work (parsed b place) ≡ laid work 0 (unmarked (drop 4 b))
    left = ap (work_given b work) f.read ∙ ap (laid work 0) work_is

    pub gives_work : (after : List ℕ) → length (unmarked (drop 4 b)) ≤ length work → after ≡ laid work 0 (unmarked (drop 4 b)) → GivesIn b place position work (Ok rec) after
    gives_work after h a =
        record {
          answers = sym (answered ∙ pick_yes _ _ (le-leb (length (unmarked (drop 4 b))) (length work) h));
          work_is = a ∙ sym left;
        }

    pub gives_short : (n : ℕ) → length (unmarked (drop 4 b)) ≡ n → length work < n → GivesIn b place position work (Err (no_room position n 0)) work
    gives_short n l h =
        record {
          answers = sym (answered ∙ pick_no _ _ (lt-leb (length (unmarked (drop 4 b))) (length work) (omega arith)) ∙ rw l refl);
          work_is = sym (left ∙ laid_kept work 0 (unmarked (drop 4 b)) (omega arith));
        }

-- ---- at a place of a run

-- fewer than four bytes are no object
pub short_refused : (b : List ℕ) (place : ℕ) → length b < 4 → parsed b place ≡ refused (record { why = BufferTooShort 4 (length b); place = place })
unfolding parsed measured marshaled
short_refused b place h = ap (λ (m : Result Marshaled Refused). object_of b (fitting b place m)) (pick_yes _ _ (lt-ltb (length b) 4 h))

module _ (s : List ℕ) (place : ℕ) (work : List ℕ) where
  given_same : (size : ℕ) (p : Parsed) → given_in (drop place s) place place size p ≡ given_parsed s place size p
  given_same size (object o) = refl
  given_same size (refused r) = refl

  left_same : (p : Parsed) → work_given (drop place s) work p ≡ work_parsed s place work p
  left_same (object o) = refl
  left_same (refused r) = refl

  pub at_place : (r : Result DdmObject Refused) (after : List ℕ) → place ≤ length s → GivesIn (drop place s) place place work r after → ObjectAt s place work r after
  unfolding object_at
  at_place r after h g =
      record {
        answers = g.answers ∙ given_same (length work) (parsed (drop place s) place) ∙ sym (pick_yes _ _ (le-leb place (length s) h));
        work_is = g.work_is ∙ left_same (parsed (drop place s) place);
      }

  pub beyond_place : length s < place → ObjectAt s place work (Err (out_of_bounds place (length s))) work
  unfolding object_at
  beyond_place h =
      record {
        answers = sym (pick_no _ _ (lt-leb place (length s) h));
        work_is = sym (ap (work_parsed s place work) (short_refused (drop place s) place (omega (arith, length-drop place s))));
      }
