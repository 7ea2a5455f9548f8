-- One pass over the parameters, as a loop makes it: it stands at a place with no fault before it, and has met the first with the code
-- point or has not.
use Rattle.std.specs.Prelude.{Result, Ok, Err, Option, Some, None}
use Rattle.std.specs.Result.{result_ok}
use Rattle.ddm_length.specs.declared.Marshaled.{Marshaled}
use Prim.Native.Nat.{ℕ, ◌+◌, ◌≤◌, ◌<◌}
use native.Mathlib.Omega.{arith}
use mathlib.Core.Path.{◌≡◌, refl, sym, ◌∙◌, ap}
use mathlib.Core.List.{List, []}
use borrow.Author.Tests.{eqb-true, eqb-false, eq-eqb, ne_eqb}
use lib.Dec.{eqb}
use lib.ListN.{length, drop, length-drop, drop_of_length-le}
use Rattle.wire.specs.Bytes.{pick, be16}
use Rattle.wire.proofs.WireLaws.{by, pick_yes, pick_no, picked}
use Rattle.answer.specs.declared.Refused.{Refused}
use Rattle.ddm_length.specs.Lengths.{measured}
use Rattle.ddm_length.proofs.TakenLengths.{measured_taken}
use Rattle.ddm_length.proofs.Fronts.{in_order}
use Rattle.ddm_length.proofs.MarkerPieces.{be16_drop}
use Rattle.ddm_object.specs.Objects.{Object, Parsed, object, refused, object_of, parsed, parameters}
use Rattle.ddm_object.proofs.ParamWalks.{Found, found, again, sized, Walks, stop, step, walks, parameters_stop}
use Rattle.ddm_object.proofs.ObjectRecords.{short_refused}
use Rattle.ddm_object.proofs.FindingParams.{params_here}
use Rattle.ddm_change.specs.Change.{fault_from, first_from, faulty, rewritten_at, unless_faulty, change_of, unsound, no_such, needed_at, needed_unless, needed_of}
use Rattle.ddm_change.specs.inner.Searching.{taken, param_of, or_else, meets, searched_as, searched, found_as}
use Rattle.ddm_change.specs.declared.Param.{Param}
use Rattle.ddm_change.specs.declared.Spot.{Spot}
use Rattle.ddm_change.specs.inner.Searching.{param, spot}
use Rattle.ddm_length.specs.Lengths.{takes}

-- ---- one parameter

never : {P : Type 0} {x : Param} → None ≡ Some x → P
never e = absurd (let z : ◌≡◌ {A = ℕ} 0 1 = cc in omega arith)

-- what is no fault is an object with that code point and length, and not of raw length 0x8004
pub record Sane (b : List ℕ) (cp total : ℕ) : Type 0 where
  pub one : Object
  pub reads : Found b one
  pub code : one.code_point ≡ cp
  pub takes : one.consumed ≡ total
  pub plain : ¬ (be16 b 0 ≡ 0x8004)

pub sane : (b : List ℕ) (x : Param) → param_of b ≡ Some x → Sane b x.code_point x.total
unfolding param_of
sane b x e =
    picked (eqb (be16 b 0) 0x8004) e (λ t k. never k)
    (λ t k. go (eqb-false (be16 b 0) 0x8004 t) (parsed b 0) refl k)
  where
    go : ¬ (be16 b 0 ≡ 0x8004) → (p : Parsed) → parsed b 0 ≡ p → taken p ≡ Some x → Sane b x.code_point x.total
    go n (object o) q k =
        let z : param o.code_point o.consumed ≡ x = cc in
        record {
          one = o;
          reads = found b 0 o q;
          code = ap (λ (y : Param). y.code_point) z;
          takes = ap (λ (y : Param). y.total) z;
          plain = n;
        }
    go n (refused r) q k = never k

pub param_refused : (b : List ℕ) (r : Refused) → measured b 0 ≡ Err r → param_of b ≡ None
unfolding param_of parsed
param_refused b r e =
    by (eqb (be16 b 0) 0x8004) (λ t. pick_yes _ _ t) (λ t. pick_no _ _ t ∙ ap (λ m. taken (object_of b m)) e)

pub is_ok : (m : Result Marshaled Refused) (x : Marshaled) → result_ok m ≡ Some x → m ≡ Ok x
is_ok (Ok y) x e = let z : y ≡ x = cc in ap Ok z
is_ok (Err r) x e = absurd (let z : ◌≡◌ {A = ℕ} 0 1 = cc in omega arith)

pub param_lacks : (b : List ℕ) (m : Result Marshaled Refused) → measured b 0 ≡ m → result_ok m ≡ None → param_of b ≡ None
param_lacks b (Ok y) i e = absurd (let z : ◌≡◌ {A = ℕ} 0 1 = cc in omega arith)
param_lacks b (Err r) i e = param_refused b r i

pub param_raw : (b : List ℕ) → be16 b 0 ≡ 0x8004 → param_of b ≡ None
unfolding param_of
param_raw b e = pick_yes _ _ (eq-eqb (be16 b 0) 0x8004 e)

pub param_takes : (b : List ℕ) (total header : ℕ) → measured b 0 ≡ Ok (takes total header) → ¬ (be16 b 0 ≡ 0x8004) → param_of b ≡ Some (param (be16 b 2) total)
unfolding param_of parsed
param_takes b total header e n = pick_no _ _ (ne_eqb (be16 b 0) 0x8004 n) ∙ ap (λ m. taken (object_of b m)) e

-- what is measured has four bytes
pub measured_four : (b : List ℕ) (total header : ℕ) → measured b 0 ≡ Ok (takes total header) → 4 ≤ length b
measured_four b total header e = omega (arith, in_order (measured_taken b total header 0 e))

-- ---- what has been met

pub meets_yes : (wanted cp at total : ℕ) → cp ≡ wanted → meets None wanted cp at total ≡ Some (spot at (at + total))
meets_yes wanted cp at total e = pick_yes _ _ (eq-eqb cp wanted e)

pub meets_no : (wanted cp at total : ℕ) → ¬ (cp ≡ wanted) → meets None wanted cp at total ≡ None
meets_no wanted cp at total n = pick_no _ _ (ne_eqb cp wanted n)

-- ---- the walk

pub record Searching (d : List ℕ) (cp at : ℕ) (met : Option Spot) : Type 0 where
  pub within : at ≤ length d
  pub fault : fault_from d 0 (parameters d) ≡ fault_from d at (parameters (drop at d))
  pub first : first_from cp 0 (parameters d) ≡ or_else met (first_from cp at (parameters (drop at d)))

pub searching_start : (d : List ℕ) (cp : ℕ) → Searching d cp 0 None
searching_start d cp = record { within = omega arith; fault = refl; first = refl }

-- what the walk's end, or a fault, makes of it
pub searched_fault : (d : List ℕ) (cp place : ℕ) → fault_from d 0 (parameters d) ≡ Some place → searched d cp ≡ Err place
unfolding searched
searched_fault d cp place e = ap (λ x. searched_as x (first_from cp 0 (parameters d))) e

module _ (d : List ℕ) (cp at : ℕ) (met : Option Spot) (k : Searching d cp at met) where
  -- on behind a parameter
  pub searching_step : (q total : ℕ) → Sane (drop at d) q total → Searching d cp (at + total) (meets met cp q at total)
  unfolding fault_from first_from
  searching_step q total s =
      let o : Object = s.one in
      let e : parsed (drop at d) at ≡ object o = again s.reads at in
      let n : ¬ (be16 d at ≡ 0x8004) = λ z. s.plain (be16_drop d at ∙ z) in
      let there : Searching d cp (at + o.consumed) (meets met cp o.code_point at o.consumed) =
      record {
        within = omega (arith, sized s.reads, length-drop at d, k.within);
        fault = k.fault ∙ ap (fault_from d at) (params_here d at o e) ∙ pick_no _ _ (ne_eqb (be16 d at) 0x8004 n);
        first = k.first ∙ ap (λ l. or_else met (first_from cp at l)) (params_here d at o e) ∙ go o _ met;
      } in
      rw (← s.code, ← s.takes) there
    where
      go : (o : Object) (rest m : Option Spot)
          → (let here : Option Spot = Some (spot at (at + o.consumed)) in
          or_else m (pick (eqb o.code_point cp) here rest) ≡ or_else (or_else m (pick (eqb o.code_point cp) here None)) rest)
      go o rest None =
          let here : Option Spot = Some (spot at (at + o.consumed)) in
          by (eqb o.code_point cp) (λ t. pick_yes here rest t ∙ sym (ap (λ x. or_else x rest) (pick_yes here None t)))
          (λ t. pick_no here rest t ∙ sym (ap (λ x. or_else x rest) (pick_no here None t)))
      go o rest (Some x) = refl

  -- a parameter at fault
  pub searching_fault : at < length d → param_of (drop at d) ≡ None → searched d cp ≡ Err at
  unfolding param_of fault_from
  searching_fault h e = searched_fault d cp at (k.fault ∙ go (parsed (drop at d) 0) refl)
    where
      short : (r : Refused) → parsed (drop at d) 0 ≡ refused r → fault_from d at (parameters (drop at d)) ≡ Some at
      short r q = ap (fault_from d at) (parameters_stop (drop at d) 0 r q) ∙ pick_no _ _ (ne_eqb at (length d) (omega arith))

      raw : (o : Object) → parsed (drop at d) 0 ≡ object o → be16 (drop at d) 0 ≡ 0x8004 → fault_from d at (parameters (drop at d)) ≡ Some at
      raw o q z =
          ap (fault_from d at) (params_here d at o (again (found (drop at d) 0 o q) at)) ∙ pick_yes _ _ (eq-eqb (be16 d at) 0x8004 (sym (be16_drop d at) ∙ z))

      go : (p : Parsed) → parsed (drop at d) 0 ≡ p → fault_from d at (parameters (drop at d)) ≡ Some at
      go (refused r) q = short r q
      go (object o) q =
          picked (eqb (be16 (drop at d) 0) 0x8004) e (λ t _. raw o q (eqb-true (be16 (drop at d) 0) 0x8004 t))
          (λ t z. never (sym z ∙ ap taken q))

  -- the end: what was met
  pub searching_end : at ≡ length d → searched d cp ≡ Ok met
  unfolding searched fault_from first_from
  searching_end q =
      let nothing : drop at d ≡ [] = drop_of_length-le d {i = at} (omega arith) in
      let stops : parameters (drop at d) ≡ [] = parameters_stop (drop at d) 0 _ (short_refused (drop at d) 0 (omega (arith, ap length nothing))) in
      ap (λ x. searched_as x (first_from cp 0 (parameters d))) (k.fault ∙ ap (fault_from d at) stops ∙ pick_yes _ _ (eq-eqb at (length d) q))
      ∙ ap Ok (k.first ∙ ap (λ l. or_else met (first_from cp at l)) stops ∙ go met)
    where
      go : (m : Option Spot) → or_else m None ≡ m
      go None = refl
      go (Some x) = refl

-- ---- what a search says of the change

module _ (d : List ℕ) (cp : ℕ) where
  no_fault : (f : Option ℕ) (x y : Option Spot) → searched_as f x ≡ Ok y → (f ≡ None) × (x ≡ y)
  no_fault None x y e = (refl, cc)
  no_fault (Some p) x y e = absurd (let z : ◌≡◌ {A = ℕ} 0 1 = cc in omega arith)

  fault_at : (f : Option ℕ) (x : Option Spot) (place : ℕ) → searched_as f x ≡ Err place → f ≡ Some place
  fault_at None x place e = absurd (let z : ◌≡◌ {A = ℕ} 0 1 = cc in omega arith)
  fault_at (Some p) x place e = ap Some (cc)

  module _ (x : Option Spot) (e : searched d cp ≡ Ok x) where
    sound_both : (fault_from d 0 (parameters d) ≡ None) × (first_from cp 0 (parameters d) ≡ x)
    unfolding searched
    sound_both = no_fault (fault_from d 0 (parameters d)) (first_from cp 0 (parameters d)) x e

    pub change_sound : (new : List ℕ) → change_of d cp new ≡ rewritten_at d cp new x
    unfolding change_of
    change_sound new =
        ap (λ f. unless_faulty f (rewritten_at d cp new (first_from cp 0 (parameters d)))) sound_both.0 ∙ ap (rewritten_at d cp new) sound_both.1

    pub needed_sound : (n : ℕ) → needed_of d cp n ≡ needed_at d n x
    unfolding needed_of
    needed_sound n = ap (λ f. needed_unless f (needed_at d n (first_from cp 0 (parameters d)))) sound_both.0 ∙ ap (needed_at d n) sound_both.1

  module _ (place : ℕ) (e : searched d cp ≡ Err place) where
    at_fault : fault_from d 0 (parameters d) ≡ Some place
    unfolding searched
    at_fault = fault_at (fault_from d 0 (parameters d)) (first_from cp 0 (parameters d)) place e

    pub change_fault : (new : List ℕ) → change_of d cp new ≡ faulty place
    unfolding change_of
    change_fault new = ap (λ f. unless_faulty f (rewritten_at d cp new (first_from cp 0 (parameters d)))) at_fault

    pub needed_fault : (n : ℕ) → needed_of d cp n ≡ Err (unsound place)
    unfolding needed_of
    needed_fault n = ap (λ f. needed_unless f (needed_at d n (first_from cp 0 (parameters d)))) at_fault

-- ---- where the first one stands

lost : {P : Type 0} {x : Spot} → None ≡ Some x → P
lost q = absurd (let z : ◌≡◌ {A = ℕ} 0 1 = cc in omega arith)

spot_within : (cp place : ℕ) (x : Spot) {b : List ℕ} {os : List Object} → Walks b os → first_from cp place os ≡ Some x
    → (place ≤ x.from) × (x.from + 4 ≤ x.to) × (x.to ≤ place + length b)
unfolding first_from
spot_within cp place x (stop r) q = lost q
spot_within cp place x (step {b = b} {o = o} {os = os} f w) q =
    picked (eqb o.code_point cp) q
    (λ t k. let z : spot place (place + o.consumed) ≡ x = cc in
    let a : place ≡ x.from = ap (λ (y : Spot). y.from) z in
    let e : place + o.consumed ≡ x.to = ap (λ (y : Spot). y.to) z in
    (omega arith, omega (arith, sized f), omega (arith, sized f)))
    (λ t k. let r = spot_within cp (place + o.consumed) x w k in
    (omega (arith, r), omega (arith, r), omega (arith, r, sized f, length-drop o.consumed b)))

pub found_within : (d : List ℕ) (cp : ℕ) (x : Spot) → searched d cp ≡ Ok (Some x) → (x.from + 4 ≤ x.to) × (x.to ≤ length d)
found_within d cp x q =
    let r = spot_within cp 0 x (walks d) (sound_both d cp (Some x) q).1 in
    (omega (arith, r), omega (arith, r))

-- ---- what the first one, or why not, says of the search

pub found_is : (m : Result (Option Spot) ℕ) (x : Spot) → found_as m ≡ Ok x → m ≡ Ok (Some x)
found_is (Ok (Some y)) x e = let z : y ≡ x = cc in ap (λ (s : Spot). Ok (Some s)) z
found_is (Ok None) x e = absurd (let z : ◌≡◌ {A = ℕ} 0 1 = cc in omega arith)
found_is (Err p) x e = absurd (let z : ◌≡◌ {A = ℕ} 0 1 = cc in omega arith)

-- there is none, or one is at fault
pub not_found {ℓ} : {P : Type ℓ} (m : Result (Option Spot) ℕ) (r : Refused) → found_as m ≡ Err r
    → (m ≡ Ok None → no_such ≡ r → P) → ((p : ℕ) → m ≡ Err p → unsound p ≡ r → P) → P
not_found (Ok (Some y)) r e f g = absurd (let z : ◌≡◌ {A = ℕ} 0 1 = cc in omega arith)
not_found (Ok None) r e f g = f refl (cc)
not_found (Err p) r e f g = g p refl (cc)
