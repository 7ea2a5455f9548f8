-- Data without a fault are parameters one behind the other up to the last byte, each of which says by its own bytes how long it is.
use Rattle.std.specs.Prelude.{Some, None}
use Prim.Native.Nat.{ℕ, ◌+◌, ◌≤◌}
use native.Mathlib.Omega.{arith}
use mathlib.Core.Path.{◌≡◌, refl, sym, ◌∙◌, ap, subst}
use mathlib.Core.Logic.{◌⊎◌, inl, inr}
use mathlib.Core.List.{List, [], ◌∷◌, ◌++◌, append_assoc}
use borrow.Author.Tests.{eqb-true, eqb-false, eq-eqb, ne_eqb}
use lib.Dec.{eqb}
use lib.ListN.{length, drop, length-append, length-drop, take-append-drop, drop_of_length-le}
use lib.Seq.{drop-drop}
use Rattle.wire.specs.Bytes.{be16}
use Rattle.wire.proofs.WireLaws.{by, pick_yes, pick_no, picked, be16_front}
use Rattle.ddm_length.proofs.MarkerPieces.{be16_drop}
use Rattle.ddm_object.specs.Objects.{Object, parameters}
use Rattle.ddm_object.proofs.ObjectReads.{Reads, past}
use Rattle.ddm_object.proofs.ParamWalks.{found, sized, front, takes_all, Walks, stop, step, walks}
use Rattle.ddm_laws.proofs.BuiltLists.{BuiltPieces, more, reached}
use Rattle.ddm_laws.proofs.BuiltLists as Lists
use Rattle.ddm_change.specs.Change.{fault_from, first_from}
use Rattle.ddm_change.specs.inner.Searching.{spot}

-- ---- raw lengths

-- what reads the same whatever follows does not take all that follows
pub reads_raw : {p : List ℕ} {o : Object} → Reads p o → ¬ (be16 p 0 ≡ 0x8004)
reads_raw {p} {o} r e =
    omega (
      arith,
      takes_all (found (p ++ (0 ∷ [])) 0 o (r.back (0 ∷ []) 0)) (be16_front p (0 ∷ []) 0 (omega (arith, r.four)) ∙ e),
      length-append p (0 ∷ []),
      r.whole,
    )

-- ---- no fault

never : {P : Type 0} {n : ℕ} → Some n ≡ None → P
never e = absurd (let z : ◌≡◌ {A = ℕ} 0 1 = cc in omega arith)

sound_from : (d : List ℕ) (place : ℕ) {b : List ℕ} {os : List Object} → drop place d ≡ b → place ≤ length d → Walks b os → fault_from d place os ≡ None → BuiltPieces b os
unfolding fault_from
sound_from d place q h (stop {b = b} r) e =
    picked (eqb place (length d)) e
    (λ t k. subst (λ (x : List ℕ). BuiltPieces x []) (sym (drop_of_length-le d {i = place} (omega (arith, eqb-true place (length d) t))) ∙ q) Lists.none)
    (λ t k. never k)
sound_from d place q h (step {b = b} {o = o} {os = os} f w) e =
    let c : ℕ = o.consumed in
    picked (eqb (be16 d place) 0x8004) e (λ t k. never k)
    (λ t k. subst (λ (x : List ℕ). BuiltPieces x (o ∷ os)) (take-append-drop c b)
    (more (front b o f (λ z. eqb-false (be16 d place) 0x8004 t (sym (be16_drop d place) ∙ ap (λ (x : List ℕ). be16 x 0) q ∙ z)))
    (sound_from d (place + c) (sym (drop-drop c place d) ∙ ap (drop c) q) (omega (arith, sized f, ap length q, length-drop place d)) w k)))

pub sound_pieces : (d : List ℕ) → fault_from d 0 (parameters d) ≡ None → BuiltPieces d (parameters d)
sound_pieces d e = sound_from d 0 refl (omega arith) (walks d) e

pub pieces_sound : (d : List ℕ) (place : ℕ) {s : List ℕ} {os : List Object} → drop place d ≡ s → place ≤ length d → BuiltPieces s os → fault_from d place os ≡ None
unfolding fault_from
pieces_sound d place q h Lists.none = pick_yes _ _ (eq-eqb place (length d) (omega (arith, ap length q, length-drop place d)))
pieces_sound d place q h (more {p = p} {s = s} {o = o} r ps) =
    let c : ℕ = o.consumed in
    pick_no _ _ (ne_eqb (be16 d place) 0x8004 (λ e. reads_raw r (sym (be16_front p s 0 (omega (arith, r.four))) ∙ sym (ap (λ (x : List ℕ). be16 x 0) q) ∙ be16_drop d place ∙ e)))
    ∙ pieces_sound d (place + c) (sym (drop-drop c place d) ∙ ap (drop c) q ∙ past r s) (omega (arith, r.whole, ap length q, length-append p s, length-drop place d)) ps

-- ---- the fault in document 02's words

-- none of them has raw length 0x8004
abbrev pub NoneRaw : List ℕ → ℕ → List Object → Type 0
NoneRaw d place [] = Unit {0}
NoneRaw d place (o ∷ os) = (¬ (be16 d place ≡ 0x8004)) × NoneRaw d (place + o.consumed) os

-- no fault: "the parameters ... reach the data's end", and none "has raw length 0x8004"
pub no_fault : (d : List ℕ) (place : ℕ) (os : List Object) → fault_from d place os ≡ None → (place + reached os ≡ length d) × NoneRaw d place os
unfolding fault_from
no_fault d place [] e = picked (eqb place (length d)) e (λ t k. (omega (arith, eqb-true place (length d) t), tt)) (λ t k. never k)
no_fault d place (o ∷ os) e =
    picked (eqb (be16 d place) 0x8004) e (λ t k. never k)
    (λ t k. let r = no_fault d (place + o.consumed) os k in (omega (arith, r.0), (eqb-false (be16 d place) 0x8004 t, r.1)))

pub fault_not : (d : List ℕ) (place : ℕ) (os : List Object) → place + reached os ≡ length d → NoneRaw d place os → fault_from d place os ≡ None
unfolding fault_from
fault_not d place [] e n = pick_yes _ _ (eq-eqb place (length d) (omega arith))
fault_not d place (o ∷ os) e n = pick_no _ _ (ne_eqb (be16 d place) 0x8004 n.0) ∙ fault_not d (place + o.consumed) os (omega arith) n.1

-- a fault: its place is where that raw length stands, or where the parameters stop short of the end
pub fault_at : (d : List ℕ) (place : ℕ) (os : List Object) (p : ℕ) → fault_from d place os ≡ Some p
    → (be16 d p ≡ 0x8004) ⊎ ((p ≡ place + reached os) × (¬ (p ≡ length d)))
unfolding fault_from
fault_at d place [] p e =
    picked (eqb place (length d)) e (λ t k. never (sym k))
    (λ t k. let z : place ≡ p = cc in inr (omega arith, λ q. eqb-false place (length d) t (z ∙ q)))
fault_at d place (o ∷ os) p e =
    picked (eqb (be16 d place) 0x8004) e
    (λ t k. let z : place ≡ p = cc in inl (ap (be16 d) (sym z) ∙ eqb-true (be16 d place) 0x8004 t))
    (λ t k. go (fault_at d (place + o.consumed) os p k))
  where
    go : (be16 d p ≡ 0x8004) ⊎ ((p ≡ place + o.consumed + reached os) × (¬ (p ≡ length d))) → (be16 d p ≡ 0x8004) ⊎ ((p ≡ place + (o.consumed + reached os)) × (¬ (p ≡ length d)))
    go (inl q) = inl q
    go (inr q) = inr (omega (arith, q.0), q.1)

-- ---- one behind the other

pub pieces_append : {s t : List ℕ} {os us : List Object} → BuiltPieces s os → BuiltPieces t us → BuiltPieces (s ++ t) (os ++ us)
pieces_append Lists.none ps = ps
pieces_append {t = t} {us = us} (more {p = p} {s = s} {o = o} {os = os} r qs) ps =
    subst (λ (x : List ℕ). BuiltPieces x (o ∷ (os ++ us))) (sym (append_assoc p s t)) (more r (pieces_append qs ps))

-- ---- the first with a code point

abbrev pub LacksParam : ℕ → List Object → Type 0
LacksParam cp [] = Unit {0}
LacksParam cp (o ∷ os) = (¬ (o.code_point ≡ cp)) × LacksParam cp os

-- parameters up to the first with the code point, that one, and those behind it
pub record Split (cp : ℕ) (d : List ℕ) (os : List Object) : Type 0 where
  pub head : List ℕ
  pub old : List ℕ
  pub rest : List ℕ
  pub before : List Object
  pub one : Object
  pub after : List Object
  pub bytes : d ≡ head ++ (old ++ rest)
  pub list : os ≡ before ++ (one ∷ after)
  pub head_reads : BuiltPieces head before
  pub old_reads : Reads old one
  pub rest_reads : BuiltPieces rest after
  pub lacks : LacksParam cp before
  pub has : one.code_point ≡ cp

pub split : (cp : ℕ) {s : List ℕ} {os : List Object} → BuiltPieces s os → Split cp s os ⊎ LacksParam cp os
split cp Lists.none = inr tt
split cp (more {p = p} {s = s} {o = o} {os = os} r ps) =
    by (eqb o.code_point cp)
    (λ t. inl (record {
      head = [];
      old = p;
      rest = s;
      before = [];
      one = o;
      after = os;
      bytes = refl;
      list = refl;
      head_reads = Lists.none;
      old_reads = r;
      rest_reads = ps;
      lacks = tt;
      has = eqb-true o.code_point cp t;
    }))
    (λ t. further (eqb-false o.code_point cp t) (split cp ps))
  where
    further : (o.code_point ≡ cp → ⊥) → Split cp s os ⊎ LacksParam cp os → Split cp (p ++ s) (o ∷ os) ⊎ LacksParam cp (o ∷ os)
    further n (inl f) =
        inl (record {
          head = p ++ f.head;
          old = f.old;
          rest = f.rest;
          before = o ∷ f.before;
          one = f.one;
          after = f.after;
          bytes = ap (λ (x : List ℕ). p ++ x) f.bytes ∙ sym (append_assoc p f.head (f.old ++ f.rest));
          list = ap (λ (x : List Object). o ∷ x) f.list;
          head_reads = more r f.head_reads;
          old_reads = f.old_reads;
          rest_reads = f.rest_reads;
          lacks = (n, f.lacks);
          has = f.has;
        })
    further n (inr k) = inr (n, k)

pub first_there : (cp place : ℕ) (before : List Object) (o : Object) (after : List Object) → LacksParam cp before → o.code_point ≡ cp
    → first_from cp place (before ++ (o ∷ after)) ≡ Some (spot (place + reached before) (place + reached before + o.consumed))
unfolding first_from
first_there cp place [] o after l e =
    let z : place ≡ place + 0 = omega arith in
    pick_yes _ _ (eq-eqb o.code_point cp e) ∙ ap (λ (n : ℕ). Some (spot n (n + o.consumed))) z
first_there cp place (x ∷ before) o after l e =
    let z : place + x.consumed + reached before ≡ place + (x.consumed + reached before) = omega arith in
    pick_no _ _ (ne_eqb x.code_point cp l.0) ∙ first_there cp (place + x.consumed) before o after l.1 e
    ∙ ap (λ (n : ℕ). Some (spot n (n + o.consumed))) z

pub first_Nowhere : (cp place : ℕ) (os : List Object) → LacksParam cp os → first_from cp place os ≡ None
unfolding first_from
first_Nowhere cp place [] l = refl
first_Nowhere cp place (x ∷ os) l = pick_no _ _ (ne_eqb x.code_point cp l.0) ∙ first_Nowhere cp (place + x.consumed) os l.1
