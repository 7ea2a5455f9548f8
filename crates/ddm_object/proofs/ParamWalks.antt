-- The walk over parameters with its fuel and its places gone.
use Rattle.std.specs.Prelude.{Result, Ok, Err}
use Prim.Native.Nat.{ℕ, zero, suc, ◌+◌, ◌-◌, ◌≤◌, ◌<◌}
use native.Mathlib.Omega.{arith}
use mathlib.Core.Path.{◌≡◌, refl, sym, ◌∙◌, ap, subst}
use mathlib.Core.List.{List, [], ◌∷◌, ◌++◌}
use lib.ListN.{length, take, drop, length-drop, take-append-drop}
use lib.Seq.{length-take-le}
use Rattle.answer.specs.declared.Refused.{Refused}
use Rattle.wire.specs.Bytes.{be16}
use Rattle.ddm_length.specs.Lengths.{measured}
use Rattle.ddm_object.specs.Objects.{Object, Parsed, object, refused, object_of, content_of, up_to, parsed, parameters_fuel, parameters}
use Rattle.ddm_length.proofs.TakenLengths.{TakenLength, inline, all, wide, measured_taken}
use Rattle.wire.proofs.WireLaws.{part_front, be16_front}
use Rattle.ddm_length.proofs.Fronts.{in_order, shrink}
use Rattle.ddm_object.proofs.ObjectReads.{made, taken_parsed, content_plain, Reads, past, own_reads}
use Rattle.ddm_object.specs.inner.Walked.{Refuses}
use Rattle.ddm_length.specs.declared.Marshaled.{Marshaled}

never : {P : Type 0} {r : Refused} {o : Object} → refused r ≡ object o → P
never e = absurd (let z : ◌≡◌ {A = ℕ} 0 1 = cc in omega arith)

-- what was read, with what its length says
pub record Found (b : List ℕ) (o : Object) : Type 0 where
  pub header : ℕ
  pub taken : TakenLength b o.consumed header
  pub is : made (be16 b 2) (content_of b o.consumed header) o.consumed ≡ o

pub found : (b : List ℕ) (place : ℕ) (o : Object) → parsed b place ≡ object o → Found b o
unfolding parsed
found b place o e = go (measured b place) refl e
  where
    go : (m : Result Marshaled Refused) → measured b place ≡ m → object_of b m ≡ object o → Found b o
    go (Ok m) q r =
        let same : made (be16 b 2) (content_of b m.total m.header) m.total ≡ o = cc in
        subst (Found b) same (record { header = m.header; taken = measured_taken b m.total m.header place q; is = refl })
    go (Err x) q r = never r

module _ {b : List ℕ} {o : Object} (f : Found b o) where
  -- the place does not matter
  pub again : (place : ℕ) → parsed b place ≡ object o
  again place = taken_parsed b o.consumed f.header place f.taken ∙ ap object f.is

  pub sized : (4 ≤ o.consumed) × (o.consumed ≤ length b)
  sized = let k : (4 ≤ f.header) × (f.header ≤ o.consumed) × (o.consumed ≤ length b) = in_order f.taken in omega arith

  pub left : length (drop o.consumed b) < length b
  left = omega (arith, sized, length-drop o.consumed b)

-- nor does what stands behind, but for the raw length 0x8004
pub own : (p s : List ℕ) (o : Object) → Found (p ++ s) o → o.consumed ≡ length p → ¬ (be16 p 0 ≡ 0x8004) → Reads p o
own p s o f e n = subst (Reads p) same (own_reads p h (be16 p 2) (take (length p - h) (drop h p)) k n refl refl)
  where
    h : ℕ
    h = f.header

    t : TakenLength (p ++ s) (length p) h
    t = subst (λ (j : ℕ). TakenLength (p ++ s) j h) e f.taken

    k : TakenLength p (length p) h
    k = shrink p s (length p) h (omega arith) n t

    order : (4 ≤ h) × (h ≤ length p) × (length p ≤ length p)
    order = in_order k

    other : ¬ (be16 (p ++ s) 0 ≡ 0x8004)
    other q = n (sym (be16_front p s 0 (omega (arith, order))) ∙ q)

    contents : take (length p - h) (drop h p) ≡ content_of (p ++ s) o.consumed h
    contents = sym (part_front p s h (length p - h) (omega (arith, order))) ∙ sym (content_plain (p ++ s) (length p) h other) ∙ ap (λ (j : ℕ). content_of (p ++ s) j h) (sym e)

    same : made (be16 p 2) (take (length p - h) (drop h p)) (length p) ≡ o
    same = (λ i. made (sym (be16_front p s 2 (omega (arith, order))) i) (contents i) (sym e i)) ∙ f.is

pub front : (b : List ℕ) (o : Object) → Found b o → ¬ (be16 b 0 ≡ 0x8004) → Reads (take o.consumed b) o
front b o f n =
    let p : List ℕ = take o.consumed b in
    let s : List ℕ = drop o.consumed b in
    let z : (4 ≤ o.consumed) × (o.consumed ≤ length b) = sized f in
    let l : length p ≡ o.consumed = length-take-le o.consumed b z.1 in
    let e : p ++ s ≡ b = take-append-drop o.consumed b in
    own p s o (subst (λ (x : List ℕ). Found x o) (sym e) f) (sym l)
    (λ q. n (ap (λ (x : List ℕ). be16 x 0) (sym e) ∙ be16_front p s 0 (omega arith) ∙ q))

-- raw 0x8004 takes all
pub takes_all : {b : List ℕ} {o : Object} → Found b o → be16 b 0 ≡ 0x8004 → o.consumed ≡ length b
takes_all {b} {o} f e = go f.taken
  where
    go : {h : ℕ} → TakenLength b o.consumed h → o.consumed ≡ length b
    go (inline et eh lo hi fits) = absurd (omega arith)
    go (all four raw et eh) = et
    go (wide raw lo et hi fits) = absurd (omega arith)

pub refuses : (b : List ℕ) (place : ℕ) (r : Refused) → parsed b place ≡ refused r → Refuses b
refuses b place r e next = go (parsed b next) refl
  where
    go : (x : Parsed) → parsed b next ≡ x → (r : Refused) × (parsed b next ≡ refused r)
    go (object o) q = never (sym e ∙ again (found b next o q) place)
    go (refused r) q = (r, q)

pub data Walks : List ℕ → List Object → Type 0 where
  stop : {b : List ℕ} → Refuses b → Walks b []
  step : {b : List ℕ} {o : Object} {os : List Object} → Found b o → Walks (drop o.consumed b) os → Walks b (o ∷ os)

-- bytes that read as an object, in front of a walk
pub reads_step : {p s : List ℕ} {o : Object} {os : List Object} → Reads p o → Walks s os → Walks (p ++ s) (o ∷ os)
reads_step {p} {s} {o} {os} r w = step (found (p ++ s) 0 o (r.back s 0)) (subst (λ (x : List ℕ). Walks x os) (sym (past r s)) w)

walks_fuel : (f : ℕ) (b : List ℕ) (place : ℕ) → length b < f → Walks b (parameters_fuel f b place)
unfolding parameters_fuel
walks_fuel zero b place h = absurd (omega arith)
walks_fuel (suc f) b place h = go (parsed b place) refl (λ n l. walks_fuel f (drop n b) (place + n) (omega arith))
  where
    go : (x : Parsed) → parsed b place ≡ x → ((n : ℕ) → length (drop n b) < length b → Walks (drop n b) (parameters_fuel f (drop n b) (place + n)))
        → Walks b (up_to x (λ n. parameters_fuel f (drop n b) (place + n)))
    go (object o) q ih = step (found b place o q) (ih o.consumed (left (found b place o q)))
    go (refused r) q ih = stop (refuses b place r q)

is_fuel : (f place : ℕ) {b : List ℕ} {os : List Object} → Walks b os → length b < f → parameters_fuel f b place ≡ os
unfolding parameters_fuel
is_fuel zero place w h = absurd (omega arith)
is_fuel (suc f) place (stop {b = b} r) h = ap (λ x. up_to x (λ n. parameters_fuel f (drop n b) (place + n))) (r place).1
is_fuel (suc f) place (step {b = b} {o = o} k w) h =
    ap (λ x. up_to x (λ n. parameters_fuel f (drop n b) (place + n))) (again k place)
    ∙ ap (λ l. o ∷ l) (is_fuel f (place + o.consumed) w (omega (arith, left k)))

-- the parameters are what a walk meets, and nothing else is
pub walks : (b : List ℕ) → Walks b (parameters b)
unfolding parameters
walks b = walks_fuel (suc (length b)) b 0 (omega arith)

pub walks_parameters : {b : List ℕ} {os : List Object} → Walks b os → parameters b ≡ os
unfolding parameters
walks_parameters {b} w = is_fuel (suc (length b)) 0 w (omega arith)

-- the equations of `parameters`
pub parameters_stop : (b : List ℕ) (place : ℕ) (r : Refused) → parsed b place ≡ refused r → parameters b ≡ []
parameters_stop b place r e = walks_parameters (stop (refuses b place r e))

pub parameters_step : (b : List ℕ) (place : ℕ) (o : Object) → parsed b place ≡ object o → parameters b ≡ o ∷ parameters (drop o.consumed b)
parameters_step b place o e = walks_parameters (step (found b place o e) (walks (drop o.consumed b)))
