-- Which part an object's data are: "a part of its own bytes, or of the work area once markers came out; of a refused object it
-- is the empty part at the start of its bytes (with 10, at the run's end)". The work area is lent as it is, "filled" or not.
use Prim.Native.Nat.{ℕ, ◌+◌, ◌≤◌, ◌<◌}
use native.Mathlib.Omega.{arith}
use mathlib.Core.Path.{◌≡◌, refl, sym, ◌∙◌, ap}
use mathlib.Core.Bool.{true, false}
use mathlib.Core.List.{List, [], ◌++◌}
use borrow.Author.Tests.{le-leb, lt-leb, leb-true, leb-false}
use lib.Dec.{leb}
use lib.ListN.{length, take, drop, length-drop, length-append}
use lib.Seq.{take_at}
use denote.Ref.{Bor}
use Rattle.wire.specs.Bytes.{pick, splice, laid}
use Rattle.wire.proofs.WireLaws.{by, pick_yes, pick_no}
use Rattle.wire.specs.Parts.{start_at}
use Rattle.wire.proofs.Splicing.{laid_fits, laid_kept}
use Rattle.answer.specs.declared.Refused.{Refused}
use Rattle.ddm_object.specs.Objects.{Object, Parsed, object, refused, parsed}
use Rattle.ddm_object.specs.ObjectCalls.{lies_in_work, work_of, work_parsed}
use Rattle.ddm_object.proofs.DataParsed.{data_parsed}
use Rattle.ddm_object.proofs.ObjectRecords.{RecordOf, rec_in, rec_len, short_refused}
use Rattle.ddm_object.proofs.DataLaws.{given_run, run_data}
use Rattle.ddm_object.specs.declared.DdmObject.{DdmObject}
use Rattle.ddm_object.specs.DataParts.{data_part, data_start, DataAt}

-- ---- laws

-- the first bytes of what was laid down
laid_front : (d work : List ℕ) → pick (leb (length d) (length (laid work 0 d))) (take (length d) (laid work 0 d)) [] ≡ pick (leb (length d) (length work)) d []
unfolding splice
laid_front d work =
    let front : List ℕ → List ℕ = λ l. pick (leb (length d) (length l)) (take (length d) l) [] in
    let rest : List ℕ = drop (0 + length d) work in
    by (leb (length d) (length work))
    (λ c. ap front (laid_fits work 0 d (omega (arith, leb-true (length d) (length work) c)))
    ∙ pick_yes _ _ (le-leb (length d) (length (d ++ rest)) (omega (arith, length-append d rest)))
    ∙ take_at d rest (length d) refl
    ∙ sym (pick_yes _ _ c))
    (λ c. ap front (laid_kept work 0 d (omega (arith, leb-false (length d) (length work) c))) ∙ pick_no _ _ c ∙ sym (pick_no _ _ c))

module _ (s : List ℕ) (place : ℕ) (work : List ℕ) where
  -- where the data need so much of the work area
  abbrev fit : Object → List ℕ → List ℕ
  fit o l = pick (leb (length l) (length work)) o.content []

  abbrev front : Object → List ℕ → List ℕ
  front o l = pick (leb (length o.content) (length l)) (take (length o.content) l) []

  filled_work : (o : Object) → lies_in_work (drop place s) ≡ true → pick (lies_in_work (drop place s)) (front o (laid work 0 (work_of s place o))) o.content ≡ fit o (work_of s place o)
  filled_work o i =
      let w : work_of s place o ≡ o.content = pick_yes o.content [] i in
      pick_yes (front o (laid work 0 (work_of s place o))) o.content i ∙ ap (λ (l : List ℕ). front o (laid work 0 l)) w ∙ laid_front o.content work ∙ sym (ap (fit o) w)

  filled_run : (o : Object) → lies_in_work (drop place s) ≡ false → pick (lies_in_work (drop place s)) (front o (laid work 0 (work_of s place o))) o.content ≡ fit o (work_of s place o)
  filled_run o i =
      let w : work_of s place o ≡ [] = pick_no o.content [] i in
      pick_no (front o (laid work 0 (work_of s place o))) o.content i ∙ sym (ap (fit o) w ∙ pick_yes o.content [] (le-leb 0 (length work) (omega arith)))

  -- of a work area that `object_at` has filled it is the object's data
  pub part_filled : (p : Parsed) → data_part s place (work_parsed s place work p) p ≡ data_parsed s place (length work) p
  part_filled (object o) = by (lies_in_work (drop place s)) (filled_work o) (filled_run o)
  part_filled (refused r) = refl

module _ (run : Bor (List ℕ)) (place : ℕ) (work r : Bor (List ℕ)) where
  abbrev Is : Parsed → Type 0
  Is p = (r.now ≡ data_part run.now place work.now p) × (r.ref_ptr ≡ data_start run place work p)

  is : (p : Parsed) → parsed (drop place run.now) place ≡ p → Is p → DataAt run place work r
  is p e k = record {
    bytes_are = k.0 ∙ sym (ap (data_part run.now place work.now) e);
    starts = k.1 ∙ sym (ap (data_start run place work) e);
  }

  pub data_beyond : length run.now < place → r.now ≡ [] → r.ref_ptr ≡ start_at run (length run.now) → DataAt run place work r
  data_beyond h n p =
      is (refused _) (short_refused (drop place run.now) place (omega (arith, length-drop place run.now)))
      (n, p ∙ sym (ap (start_at run) (pick_no _ _ (lt-leb place (length run.now) h))))

  pub data_refused : (x : Refused) → place ≤ length run.now → parsed (drop place run.now) place ≡ refused x → r.now ≡ [] → r.ref_ptr ≡ start_at run place → DataAt run place work r
  data_refused x h e n p = is (refused x) e (n, p ∙ sym (ap (start_at run) (pick_yes _ _ (le-leb place (length run.now) h))))

  module _ (rec : DdmObject) (f : RecordOf (drop place run.now) place rec) where
    rin : rec.in_work ≡ lies_in_work (drop place run.now)
    rin = rec_in (drop place run.now) place 0 work.now rec f

    rlen : rec.data_len ≡ length f.of.content
    rlen = rec_len (drop place run.now) place 0 work.now rec f

    module _ (i : rec.in_work ≡ true) where
      pub data_short : length work.now < rec.data_len → r.now ≡ [] → r.ref_ptr ≡ start_at run place → DataAt run place work r
      data_short h n p =
          let c : leb (length f.of.content) (length work.now) ≡ false = lt-leb (length f.of.content) (length work.now) (omega (arith, rlen)) in
          is (object f.of) f.read (n ∙ sym (pick_yes _ _ (sym rin ∙ i) ∙ pick_no _ _ c), p ∙ sym (pick_yes _ _ (sym rin ∙ i) ∙ pick_no _ _ c))

      pub data_work : rec.data_len ≤ length work.now → r.now ≡ take rec.data_len work.now → r.ref_ptr ≡ start_at work 0 → DataAt run place work r
      data_work h n p =
          let c : leb (length f.of.content) (length work.now) ≡ true = le-leb (length f.of.content) (length work.now) (omega (arith, rlen)) in
          is (object f.of) f.read
          (n ∙ ap (λ (k : ℕ). take k work.now) rlen ∙ sym (pick_yes _ _ (sym rin ∙ i) ∙ pick_yes _ _ c), p ∙ sym (pick_yes _ _ (sym rin ∙ i) ∙ pick_yes _ _ c))

    pub data_run : rec.in_work ≡ false → place ≤ length run.now → r.now ≡ take rec.data_len (drop rec.data_at run.now) → r.ref_ptr ≡ start_at run rec.data_at → DataAt run place work r
    unfolding given_run
    data_run i h n p =
        let j : lies_in_work (drop place run.now) ≡ false = sym rin ∙ i in
        is (object f.of) f.read (
          n ∙ run_data run.now place work.now rec (given_run run.now place (length work.now) rec h f i) i ∙ sym (pick_no _ _ j),
          p ∙ ap (start_at run) (sym (ap (λ (x : DdmObject). x.data_at) f.is) ∙ pick_no _ _ j) ∙ sym (pick_no _ _ j),
        )
