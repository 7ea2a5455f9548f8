-- Where an object's data lie, from its record.
use Rattle.std.specs.Prelude.{Ok, Err}
use Prim.Native.Nat.{ℕ, ◌+◌, ◌-◌, ◌≤◌}
use native.Mathlib.Omega.{arith}
use mathlib.Core.Path.{◌≡◌, refl, sym, ◌∙◌, ap, ap₂}
use mathlib.Core.Bool.{false}
use mathlib.Core.List.{List, []}
use borrow.Author.Tests.{leb-true, leb-false, le-leb}
use lib.Dec.{leb}
use lib.ListN.{length, take, drop, length-drop}
use lib.Seq.{drop-drop}
use Rattle.wire.proofs.WireLaws.{picked, pick_yes, pick_no}
use Rattle.answer.specs.declared.Refused.{Refused}
use Rattle.ddm_length.proofs.TakenLengths.{TakenLength}
use Rattle.ddm_length.proofs.Fronts.{in_order}
use Rattle.ddm_object.specs.Objects.{Object, Parsed, object, refused, parsed}
use Rattle.ddm_object.specs.ObjectCalls.{lies_in_work, work_of, object_at, given_parsed}
use Rattle.ddm_object.proofs.DataParsed.{data_parsed}
use Rattle.ddm_object.proofs.ParamWalks.{Found, found}
use Rattle.ddm_object.proofs.ObjectRecords.{RecordOf, rec_in, rec_len, out_content, out_length, short_refused}
use Rattle.ddm_object.specs.declared.DdmObject.{DdmObject}

never : {P : Type 0} {rec : DdmObject} {r : Refused} → Ok rec ≡ Err r → P
never e = absurd (let z : ◌≡◌ {A = ℕ} 0 1 = cc in omega arith)

-- an object that was given, with its record, is within the run, and its data fit the work area
pub record Given (s : List ℕ) (place size : ℕ) (rec : DdmObject) : Type 0 where
  pub within : place ≤ length s
  pub of : RecordOf (drop place s) place rec
  pub fits : length (work_of s place of.of) ≤ size

pub given_of : (s : List ℕ) (place size : ℕ) (rec : DdmObject) → object_at s place size ≡ Ok rec → Given s place size rec
unfolding object_at
given_of s place size rec e =
    picked (leb place (length s)) e (λ c r. go (leb-true place (length s) c) (parsed (drop place s) place) refl r) (λ c r. never (sym r))
  where
    go : place ≤ length s → (p : Parsed) → parsed (drop place s) place ≡ p → given_parsed s place size p ≡ Ok rec → Given s place size rec
    go h (object o) q r =
        picked (leb (length (work_of s place o)) size) r
        (λ c k. record { within = h; of = record { of = o; read = q; is = cc }; fits = leb-true (length (work_of s place o)) size c })
        (λ c k. never (sym k))
    go h (refused x) q r = never (sym r)

-- one whose data lie in the run needs no work area
unfoldable pub given_run : (s : List ℕ) (place size : ℕ) (rec : DdmObject) → place ≤ length s → RecordOf (drop place s) place rec → rec.in_work ≡ false → Given s place size rec
given_run s place size rec h f i =
    record { within = h; of = f; fits = omega (arith, ap length (pick_no f.of.content [] (sym (rec_in (drop place s) place 0 [] rec f) ∙ i))) }

-- of a refused object there are none
pub refused_data : (s : List ℕ) (place size : ℕ) (x : Refused) → object_at s place size ≡ Err x → data_parsed s place size (parsed (drop place s) place) ≡ []
unfolding object_at
refused_data s place size x e =
    picked (leb place (length s)) e (λ c r. go (parsed (drop place s) place) r)
    (λ c r. ap (data_parsed s place size) (short_refused (drop place s) place (omega (arith, length-drop place s, leb-false place (length s) c))))
  where
    go : (p : Parsed) → given_parsed s place size p ≡ Err x → data_parsed s place size p ≡ []
    go (object o) r = picked (leb (length (work_of s place o)) size) r (λ c k. never k) (λ c k. pick_no _ _ c)
    go (refused y) r = refl

module _ (s : List ℕ) (place : ℕ) (work : List ℕ) (rec : DdmObject) (g : Given s place (length work) rec) where
  abbrev o : Object
  o = g.of.of

  -- what the data are
  pub data_is : data_parsed s place (length work) (parsed (drop place s) place) ≡ o.content
  data_is = ap (data_parsed s place (length work)) g.of.read ∙ pick_yes _ _ (le-leb (length (work_of s place o)) (length work) g.fits)

  rin : rec.in_work ≡ lies_in_work (drop place s)
  rin = rec_in (drop place s) place 0 work rec g.of

  rlen : rec.data_len ≡ length o.content
  rlen = rec_len (drop place s) place 0 work rec g.of

  -- in the run they are the object's last
  module _ (i : rec.in_work ≡ false) where
    abbrev f : Found (drop place s) o
    f = found (drop place s) place o g.of.read

    t : TakenLength (drop place s) o.consumed f.header
    t = f.taken

    l : length o.content ≡ o.consumed - f.header
    l = ap (λ (x : Object). length x.content) (sym f.is) ∙ out_length (drop place s) o.consumed f.header (sym rin ∙ i) t

    pub run_at : rec.data_at ≡ place + f.header
    run_at =
        let z : (4 ≤ f.header) × (f.header ≤ o.consumed) × (o.consumed ≤ length (drop place s)) = in_order t in
        sym (ap (λ (x : DdmObject). x.data_at) g.of.is) ∙ pick_no _ _ (sym rin ∙ i) ∙ omega (arith, l)

    pub run_room : rec.data_at + rec.data_len ≤ length s
    run_room =
        let z : (4 ≤ f.header) × (f.header ≤ o.consumed) × (o.consumed ≤ length (drop place s)) = in_order t in
        omega (arith, run_at, rlen, l, length-drop place s, g.within)

    pub run_data : take rec.data_len (drop rec.data_at s) ≡ o.content
    run_data =
        ap₂ (λ (n m : ℕ). take n (drop m s)) (rlen ∙ l) run_at
        ∙ ap (take (o.consumed - f.header)) (sym (drop-drop f.header place s))
        ∙ sym (out_content (drop place s) o.consumed f.header (sym rin ∙ i) t)
        ∙ ap (λ (x : Object). x.content) f.is
