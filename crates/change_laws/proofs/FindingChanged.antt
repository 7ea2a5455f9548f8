-- The value that was laid down is read back: `find_param` over the data after, by the contract that it has.
use Rattle.std.specs.Prelude.{Result, Ok}
use Prim.Native.Nat.{ℕ, ◌+◌, ◌-◌, ◌^◌, ◌≤◌, ◌<◌}
use native.Mathlib.Omega.{arith}
use mathlib.Core.Path.{◌≡◌, refl, sym, ◌∙◌, ap}
use mathlib.Core.Bool.{true, false}
use mathlib.Core.List.{List, [], ◌∷◌, ◌++◌}
use borrow.Author.Tests.{le-leb, eq-eqb, ne_eqb}
use lib.Dec.{eqb}
use lib.ListN.{length, take, drop, length-append}
use lib.Seq.{drop_at}
use Rattle.wire.specs.Bytes.{and, be16, laid}
use Rattle.wire.proofs.WireLaws.{pick_yes, pick_no, be16_front}
use Rattle.wire.proofs.Splicing.{laid_fits, splice_none}
use Rattle.ddm_length.specs.Markers.{has_markers}
use Rattle.ddm_builder.specs.Built.{built}
use Rattle.ddm_object.specs.Objects.{Object, parameters, parsed}
use Rattle.ddm_object.specs.ObjectCalls.{lies_in_work, work_of, object_record, given_object, find_from, work_found, FindsParam}
use Rattle.ddm_object.proofs.ObjectReads.{Reads}
use Rattle.ddm_object.proofs.DataLaws.{run_data}
use Rattle.ddm_object.specs.declared.DdmObject.{DdmObject}
use Rattle.ddm_laws.proofs.LayoutLaws.{built_reads}
use Rattle.ddm_laws.proofs.BuiltLists.{reached, pieces_reach}
use Rattle.change_laws.proofs.SoundData.{reads_raw, LacksParam}
use Rattle.change_laws.proofs.ChangedList.{ChangedAs, new_object, parameters_changed}
use Rattle.answer.specs.declared.Refused.{Refused}

-- the first with a code point is the one that is given
module _ (s : List ℕ) (cp : ℕ) (work : List ℕ) (o : Object) (after : List Object) (has : o.code_point ≡ cp) where
  find_there : (place : ℕ) (before : List Object) → LacksParam cp before
      → (find_from s place cp (length work) (before ++ (o ∷ after)) ≡ given_object s (place + reached before) 0 (length work) o)
      × (work_found s place cp work (before ++ (o ∷ after)) ≡ laid work 0 (work_of s (place + reached before) o))
  unfolding find_from work_found
  find_there place [] l =
      let t : eqb o.code_point cp ≡ true = eq-eqb o.code_point cp has in
      let z : place ≡ place + 0 = omega arith in (
        pick_yes _ _ t ∙ ap (λ (n : ℕ). given_object s n 0 (length work) o) z,
        pick_yes _ _ t ∙ ap (λ (n : ℕ). laid work 0 (work_of s n o)) z,
      )
  find_there place (x ∷ before) l =
      let t : eqb x.code_point cp ≡ false = ne_eqb x.code_point cp l.0 in
      let z : place + x.consumed + reached before ≡ place + (x.consumed + reached before) = omega arith in
      let r = find_there (place + x.consumed) before l.1 in (
        pick_no _ _ t ∙ r.0 ∙ ap (λ (n : ℕ). given_object s n 0 (length work) o) z,
        pick_no _ _ t ∙ r.1 ∙ ap (λ (n : ℕ). laid work 0 (work_of s n o)) z,
      )

-- a call gives a parameter at a place with its data where the record says, and leaves the work area
pub record Gets (s : List ℕ) (place cp : ℕ) (d work : List ℕ) (r : Result DdmObject Refused) (after : List ℕ) : Type 0 where
  pub one : DdmObject
  pub is : r ≡ Ok one
  pub code_point : one.code_point ≡ cp
  pub in_run : one.in_work ≡ false
  pub data_is : take one.data_len (drop one.data_at s) ≡ d
  pub data_behind : one.data_at ≡ place + (one.consumed - length d)
  pub work_is : after ≡ work

module _ (s p rest : List ℕ) (place : ℕ) (o : Object) (reads : Reads p o) (here : drop place s ≡ p ++ rest) (inside : place ≤ length s) (work : List ℕ) where
  not_in : lies_in_work (drop place s) ≡ false
  not_in =
      ap lies_in_work here
      ∙ ap (λ t. and t (has_markers (drop 4 (p ++ rest)))) (ne_eqb (be16 (p ++ rest) 0) 0x8004 (λ e. reads_raw reads (sym (be16_front p rest 0 (omega (arith, reads.four))) ∙ e)))

  no_work : work_of s place o ≡ []
  no_work = pick_no _ _ not_in

  pub gets : (r : Result DdmObject Refused) (after : List ℕ) → r ≡ given_object s place 0 (length work) o → after ≡ laid work 0 (work_of s place o)
      → Gets s place o.code_point o.content work r after
  gets r after e f =
      let fits : length (work_of s place o) ≤ length work = omega (arith, ap length no_work) in
      record {
        one = object_record s place o;
        is = e ∙ pick_yes _ _ (le-leb (length (work_of s place o)) (length work) fits);
        code_point = refl;
        in_run = not_in;
        data_is = run_data s place work (object_record s place o)
            (record { within = inside; of = record { of = o; read = ap (λ (x : List ℕ). parsed x place) here ∙ reads.back rest place; is = refl }; fits = fits }) not_in;
        data_behind = pick_no _ _ not_in;
        work_is = f ∙ ap (laid work 0) no_work ∙ laid_fits work 0 [] (omega arith) ∙ splice_none work 0;
      }

-- `find_param` over the data after gives the new bytes, where the old parameter stood
module _ (cp : ℕ) (new : List ℕ) (small : cp < 65536) (few : length new < 2 ^ 63) (d b : List ℕ) (c : ChangedAs d cp new b) where
  pub find_new : (work : List ℕ) (r : Result DdmObject Refused) (after : List ℕ) → FindsParam b cp work r after → Gets b (length c.at.head) cp new work r after
  find_new work r after p =
      let n : ℕ = 0 + reached c.at.before in
      let e : n ≡ length c.at.head = omega (arith, pieces_reach c.at.head_reads) in
      let l : parameters b ≡ c.at.before ++ (new_object cp new small few ∷ c.at.after) = (parameters_changed cp new small few d b c).1 in
      let t = find_there b cp work (new_object cp new small few) c.at.after refl 0 c.at.before c.at.lacks in
      gets b (built cp new) c.at.rest (length c.at.head) (new_object cp new small few) (built_reads cp new small few)
      (ap (drop (length c.at.head)) c.bytes ∙ drop_at c.at.head (built cp new ++ c.at.rest) (length c.at.head) refl)
      (omega (arith, ap length c.bytes, length-append c.at.head (built cp new ++ c.at.rest))) work r after
      (p.answers ∙ ap (find_from b 0 cp (length work)) l ∙ t.0 ∙ ap (λ (m : ℕ). given_object b m 0 (length work) (new_object cp new small few)) e)
      (p.work_is ∙ ap (work_found b 0 cp work) l ∙ t.1 ∙ ap (λ (m : ℕ). laid work 0 (work_of b m (new_object cp new small few))) e)
