-- `find_param` over parameters built one behind the other: the first with that code point, and 11 where there is none.
use Rattle.std.specs.Prelude.{Result, Ok, Err}
use Prim.Native.Nat.{ℕ, ◌+◌}
use native.Mathlib.Omega.{arith}
use mathlib.Core.Path.{◌≡◌, refl, sym, ap, ◌∙◌}
use mathlib.Core.Logic.{◌⊎◌, inl, inr}
use mathlib.Core.Bool.{true, false}
use mathlib.Core.List.{List, [], ◌∷◌, ◌++◌}
use borrow.Author.Tests.{le-leb, eq-eqb, ne_eqb, eqb-true, eqb-false}
use lib.Dec.{leb, eqb}
use lib.ListN.{length, drop, length-append}
use Rattle.wire.specs.Bytes.{laid}
use Rattle.wire.proofs.WireLaws.{by, pick_yes, pick_no}
use Rattle.wire.proofs.Places.{here_next}
use Rattle.ddm_builder.specs.Built.{built, built_all, Fit}
use Rattle.ddm_object.specs.ObjectCalls.{work_of, not_found, find_from, work_found, FindsParam}
use Rattle.ddm_object.proofs.ObjectReads.{made}
use Rattle.ddm_laws.proofs.BuiltLists.{objects_of, parameters_joined}
use Rattle.demands_ddm.specs.ReadingBack.{plain, data_of, built_header, ReadsAs, Lacks, First}
use Rattle.demands_ddm.proofs.LayoutRead.{nothing_laid, built_no_work, built_record}
use Rattle.ddm_object.specs.declared.DdmObject.{DdmObject}
use Rattle.answer.specs.declared.Refused.{Refused}

-- ---- none

lacking : (cp : ℕ) (l : List (ℕ × List ℕ)) → Lacks cp l → (s work : List ℕ) (place size : ℕ)
    → (find_from s place cp size (objects_of l) ≡ Err not_found) × (work_found s place cp work (objects_of l) ≡ work)
unfolding Lacks find_from work_found
lacking cp [] k s work place size = (refl, refl)
lacking cp (x ∷ l) k s work place size =
    let n : ℕ = length (built x.0 x.1) in
    let t : eqb x.0 cp ≡ false = ne_eqb x.0 cp k.0 in
    let r = lacking cp l k.1 s work (place + n) size in
    (pick_no _ _ t ∙ r.0, pick_no _ _ t ∙ r.1)

pub none_found : (cp : ℕ) (l : List (ℕ × List ℕ)) → Fit l → Lacks cp l → (work : List ℕ) (r : Result DdmObject Refused) (after : List ℕ)
    → FindsParam (built_all l) cp work r after → (r ≡ Err not_found) × (after ≡ work)
none_found cp l g k work r after p =
    let z = lacking cp l k (built_all l) work 0 (length work) in (
      p.answers ∙ ap (find_from (built_all l) 0 cp (length work)) (parameters_joined l g) ∙ z.0,
      p.work_is ∙ ap (work_found (built_all l) 0 cp work) (parameters_joined l g) ∙ z.1,
    )

-- ---- the first

-- from a place on, behind those that have another code point
reached : (cp : ℕ) (d : List ℕ) (before rest : List (ℕ × List ℕ)) → Fit (before ++ ((cp, d) ∷ rest)) → Lacks cp before → (s work : List ℕ) (place : ℕ)
    → drop place s ≡ built_all (before ++ ((cp, d) ∷ rest))
    → (find_from s place cp (length work) (objects_of (before ++ ((cp, d) ∷ rest))) ≡ Ok (plain (place + length (built_all before)) cp (built_header d) (length d)))
    × (data_of s (plain (place + length (built_all before)) cp (built_header d) (length d)) ≡ d)
    × (work_found s place cp work (objects_of (before ++ ((cp, d) ∷ rest))) ≡ work)
unfolding Lacks find_from work_found
reached cp d [] rest g k s work place e =
    let t : eqb cp cp ≡ true = eq-eqb cp cp refl in
    let b = built_record cp d g.0 g.1 s (built_all rest) place e in
    let w : work_of s place (made cp d (length (built cp d))) ≡ [] = built_no_work cp d g.0 g.1 s (built_all rest) place e in
    let z : place ≡ place + 0 = omega arith in (
      pick_yes _ _ t
          ∙ pick_yes _ _ (ap (λ (v : List ℕ). leb (length v) (length work)) w ∙ le-leb 0 (length work) (omega arith))
          ∙ ap Ok b.0
          ∙ ap (λ (n : ℕ). Ok (plain n cp (built_header d) (length d))) z,
      ap (λ (n : ℕ). data_of s (plain n cp (built_header d) (length d))) (sym z) ∙ b.1,
      pick_yes _ _ t ∙ ap (laid work 0) w ∙ nothing_laid work,
    )
reached cp d (x ∷ before) rest g k s work place e =
    let m : ℕ = length (built x.0 x.1) in
    let t : eqb x.0 cp ≡ false = ne_eqb x.0 cp k.0 in
    let more : List ℕ = built_all (before ++ ((cp, d) ∷ rest)) in
    let r = reached cp d before rest g.2 k.1 s work (place + m) (here_next s (built x.0 x.1) more place (place + m) e refl) in
    let z : place + m + length (built_all before) ≡ place + length (built x.0 x.1 ++ built_all before) = omega (arith, length-append (built x.0 x.1) (built_all before)) in (
      pick_no _ _ t ∙ r.0 ∙ ap (λ (n : ℕ). Ok (plain n cp (built_header d) (length d))) z,
      ap (λ (n : ℕ). data_of s (plain n cp (built_header d) (length d))) (sym z) ∙ r.1,
      pick_no _ _ t ∙ r.2,
    )

-- it stands behind those before it
pub first_found : (cp : ℕ) (d : List ℕ) (before rest : List (ℕ × List ℕ)) → let l = before ++ ((cp, d) ∷ rest) in Fit l → Lacks cp before
    → (work : List ℕ) (r : Result DdmObject Refused) (after : List ℕ) → FindsParam (built_all l) cp work r after
    → ReadsAs cp d (built_all l) (length (built_all before)) (built_header d) work r after
first_found cp d before rest g k work r after p =
    let l : List (ℕ × List ℕ) = before ++ ((cp, d) ∷ rest) in
    let z = reached cp d before rest g k (built_all l) work 0 refl in
    let o : 0 + length (built_all before) ≡ length (built_all before) = omega arith in
    record {
      is = p.answers ∙ ap (find_from (built_all l) 0 cp (length work)) (parameters_joined l g) ∙ z.0 ∙ ap (λ (n : ℕ). Ok (plain n cp (built_header d) (length d))) o;
      data_is = ap (λ (n : ℕ). data_of (built_all l) (plain n cp (built_header d) (length d))) (sym o) ∙ z.1;
      work_is = p.work_is ∙ ap (work_found (built_all l) 0 cp work) (parameters_joined l g) ∙ z.2;
    }

-- one or the other holds of every list
pub first_or_none : (cp : ℕ) (l : List (ℕ × List ℕ)) → First cp l ⊎ Lacks cp l
unfolding Lacks
first_or_none cp [] = inr tt
first_or_none cp (x ∷ l) =
    by (eqb x.0 cp)
    (λ t. inl (record { before = []; content = x.1; rest = l; is = ap (λ (n : ℕ). (n, x.1) ∷ l) (eqb-true x.0 cp t); lacks = tt }))
    (λ t. further (eqb-false x.0 cp t) (first_or_none cp l))
  where
    further : (x.0 ≡ cp → ⊥) → First cp l ⊎ Lacks cp l → First cp (x ∷ l) ⊎ Lacks cp (x ∷ l)
    further n (inl f) = inl (record { before = x ∷ f.before; content = f.content; rest = f.rest; is = ap (λ (m : List (ℕ × List ℕ)). x ∷ m) f.is; lacks = (n, f.lacks) })
    further n (inr k) = inr (n, k)
