-- What is known of a request before it is laid down: the parameter in its object's data.
use Rattle.std.specs.Prelude.{Ok, Err, Option, Some, None}
use Prim.Native.Nat.{ℕ, ◌+◌, ◌-◌, ◌≤◌}
use native.Mathlib.Omega.{arith}
use mathlib.Core.Path.{◌≡◌, refl, sym, ap, ap₂, ◌∙◌}
use mathlib.Core.List.{List, ◌++◌}
use lib.Dec.{eqb}
use lib.ListN.{length, take, drop, length-drop}
use lib.Seq.{drop-drop}
use Rattle.wire.specs.Bytes.{be16}
use Rattle.wire.proofs.WireLaws.{picked}
use Rattle.ddm_builder.specs.Built.{built}
use Rattle.ddm_object.specs.Objects.{Object, parameters}
use Rattle.ddm_object.proofs.ParamWalks.{Walks, stop, step, walks, sized}
use Rattle.ddm_change.specs.Change.{changed, fault_from, first_from, unsound, no_such}
use Rattle.ddm_change.specs.Request.{refuses_it, request_of}
use Rattle.ddm_change.specs.inner.Carried.{carried, place_of}
use Rattle.ddm_change.specs.inner.Searching.{searched_as, searched}
use Rattle.ddm_change.proofs.SearchLaws.{change_sound, change_fault, found_within}
use Rattle.ddm_change.specs.inner.Planning.{outcome, OneObject, FoundParam}
use Rattle.ddm_change.specs.declared.Carriage.{Carriage}
use Rattle.ddm_change.specs.declared.Spot.{Spot}

none_some : {P : Type 0} {p : ℕ} → ◌≡◌ {A = Option ℕ} None (Some p) → P
none_some q = absurd (let z : ◌≡◌ {A = ℕ} 0 1 = cc in omega arith)

sound_fault : {P : Type 0} {p : ℕ} {x : Option Spot} → Ok x ≡ Err p → P
sound_fault q = absurd (let z : ◌≡◌ {A = ℕ} 0 1 = cc in omega arith)

fault_inside : (d : List ℕ) (place p : ℕ) {b : List ℕ} {os : List Object} → Walks b os
    → place + length b ≡ length d → fault_from d place os ≡ Some p → p ≤ length d
unfolding fault_from
fault_inside d place p (stop {b = b} r) h q =
    picked (eqb place (length d)) q (λ t k. none_some k) (λ t k. let x : place ≡ p = cc in omega arith)
fault_inside d place p (step {b = b} {o = o} {os = os} f w) h q =
    picked (eqb (be16 d place) 0x8004) q (λ t k. let x : place ≡ p = cc in omega arith)
    (λ t k. fault_inside d (place + o.consumed) p w (omega (arith, sized f, length-drop o.consumed b)) k)

-- a fault is in the data, or at their end
pub fault_within : (d : List ℕ) (cp p : ℕ) → searched d cp ≡ Err p → p ≤ length d
unfolding searched
fault_within d cp p q = go (fault_from d 0 (parameters d)) refl q
  where
    go : (f : Option ℕ) → fault_from d 0 (parameters d) ≡ f → searched_as f (first_from cp 0 (parameters d)) ≡ Err p → p ≤ length d
    go None i k = sound_fault k
    go (Some x) i k = fault_inside d 0 p (walks d) (omega arith) (i ∙ ap Some (cc))

module _ (s : List ℕ) (c : Carriage) (first : ℕ) (o : OneObject s c first) where
  -- the data
  module _ (cp : ℕ) where
    abbrev v : List ℕ
    v = carried c s

    pub search_found : (x : Spot) → searched (drop first v) cp ≡ Ok (Some x) → FoundParam s c first (first + x.from) (first + x.to) cp
    search_found x q =
        let k : (x.from + 4 ≤ x.to) × (x.to ≤ length (drop first v)) = found_within (drop first v) cp x q in
        let z : first + x.from - first ≡ x.from = omega arith in
        record {
          one = o;
          behind = omega arith;
          ordered = omega (arith, k);
          inside = omega (arith, k, length-drop first v, o.within);
          there = λ new.
              change_sound (drop first v) cp (Some x) q new
              ∙ ap₂ (λ (f r : List ℕ). changed (f ++ (built cp new ++ r))) (ap (λ (n : ℕ). take n (drop first v)) (sym z)) (drop-drop x.to first v);
        }

    -- 11
    pub search_nowhere : searched (drop first v) cp ≡ Ok None → (new : List ℕ) → request_of s cp new ≡ refuses_it no_such
    search_nowhere q new = o.comes cp new ∙ ap (outcome s c first) (change_sound (drop first v) cp None q new)

    -- 17
    pub search_fault : (p : ℕ) → searched (drop first v) cp ≡ Err p → (new : List ℕ) → request_of s cp new ≡ refuses_it (unsound (place_of c (first + p)))
    search_fault p q new = o.comes cp new ∙ ap (outcome s c first) (change_fault (drop first v) cp p q new)

    pub fault_place : (p : ℕ) → searched (drop first v) cp ≡ Err p → first + p ≤ length v
    fault_place p q = omega (arith, fault_within (drop first v) cp p q, length-drop first v, o.within)
