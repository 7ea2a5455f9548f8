-- What a length field says and what then fits, as relations: their three cases, each way.
use Rattle.std.specs.Prelude.{Result, Ok, Err}
use Prim.Native.Nat.{ℕ, ◌+◌, ◌-◌, ◌^◌, ◌≤◌, ◌<◌}
use native.Mathlib.Omega.{arith}
use mathlib.Core.Path.{◌≡◌, refl, sym, ap, subst, ◌∙◌}
use mathlib.Core.Bool.{false}
use mathlib.Core.List.{List}
use borrow.Author.Tests.{ltb-true, ltb-false, leb-true, eqb-true, eqb-false, le-leb, lt-ltb, le-ltb, eq-eqb, ne_eqb}
use lib.Dec.{leb, ltb, eqb}
use lib.ListN.{length, take, drop}
use Rattle.answer.specs.declared.Refused.{Refused}
use Rattle.wire.specs.Bytes.{be16, spelled}
use Rattle.ddm_length.specs.Lengths.{marshaled, measured, fitting, extended_total, extended}
use Rattle.wire.proofs.WireLaws.{picked, pick_yes, pick_no}
use Rattle.ddm_length.specs.declared.Marshaled.{Marshaled}
use Rattle.ddm_length.specs.Lengths.{takes}

-- an object at the front of b takes t bytes, of which h are its header
pub data TakenLength (b : List ℕ) (t h : ℕ) : Type 0 where
  inline : t ≡ be16 b 0 → h ≡ 4 → 4 ≤ t → t < 0x8000 → t ≤ length b → TakenLength b t h
  all : 4 ≤ length b → be16 b 0 ≡ 0x8004 → t ≡ length b → h ≡ 4 → TakenLength b t h
  wide : be16 b 0 ≡ 0x8000 + h → 4 < h → t ≡ h + spelled 0 (take (h - 4) (drop 4 b)) → t < 2 ^ 64 → t ≤ length b → TakenLength b t h

-- what the length field says, whatever then fits: the same three cases
pub data LengthSays (b : List ℕ) (t h : ℕ) : Type 0 where
  says_inline : 4 ≤ length b → t ≡ be16 b 0 → h ≡ 4 → t < 0x8000 → LengthSays b t h
  says_all : 4 ≤ length b → be16 b 0 ≡ 0x8004 → t ≡ length b → h ≡ 4 → LengthSays b t h
  says_wide : be16 b 0 ≡ 0x8000 + h → 4 < h → h ≤ length b → t ≡ h + spelled 0 (take (h - 4) (drop 4 b)) → t < 2 ^ 64 → LengthSays b t h

-- a total and a header that are said alike
taken_alike : (x y t h : ℕ) → ◌≡◌ {A = Result Marshaled Refused} (Ok (takes x y)) (Ok (takes t h)) → (t ≡ x) × (h ≡ y)
taken_alike x y t h e = let m : takes x y ≡ takes t h = cc in (ap (λ (k : Marshaled). k.total) (sym m), ap (λ (k : Marshaled). k.header) (sym m))

never : {P : Type 0} (r : Refused) (t h : ℕ) → Err r ≡ Ok (takes t h) → P
never r t h e = absurd (let z : ◌≡◌ {A = ℕ} 0 1 = cc in omega arith)

pub says_marshaled : (b : List ℕ) (t h place : ℕ) → LengthSays b t h → marshaled b place ≡ Ok (takes t h)
unfolding marshaled
says_marshaled b t h place (says_inline four et eh hi) =
    pick_no _ _ (le-ltb (length b) 4 four)
    ∙ pick_no _ _ (ne_eqb (be16 b 0) 0x8004 (omega arith))
    ∙ pick_yes _ _ (lt-ltb (be16 b 0) 0x8000 (omega arith))
    ∙ cc
says_marshaled b t h place (says_all four raw et eh) =
    pick_no _ _ (le-ltb (length b) 4 four)
    ∙ pick_yes _ _ (eq-eqb (be16 b 0) 0x8004 raw)
    ∙ cc
says_marshaled b t h place (says_wide raw lo there et hi) =
    pick_no _ _ (le-ltb (length b) 4 (omega arith))
    ∙ pick_no _ _ (ne_eqb (be16 b 0) 0x8004 (omega arith))
    ∙ pick_no _ _ (le-ltb (be16 b 0) 0x8000 (omega arith))
    ∙ rw is
    (pick_no _ _ (le-ltb h 4 (omega arith))
    ∙ pick_yes _ _ (le-leb h (length b) there)
    ∙ pick_yes _ _ (lt-ltb (h + spelled 0 (take (h - 4) (drop 4 b))) (2 ^ 64) (omega arith))
    ∙ cc)
  where
    is : be16 b 0 - 0x8000 ≡ h
    is = omega arith

module _ (b : List ℕ) (t h place : ℕ) where
  under : (header total : ℕ) → extended_total place header total ≡ Ok (takes t h) → (t ≡ total) × (h ≡ header) × (total < 2 ^ 64)
  under header total e =
      picked (ltb total (2 ^ 64)) e (λ c r. let p = taken_alike total header t h r in (p.0, p.1, ltb-true total (2 ^ 64) c)) (λ c r. never _ t h r)

  beyond : (header : ℕ) → extended b place header ≡ Ok (takes t h)
      → (t ≡ header + spelled 0 (take (header - 4) (drop 4 b))) × (h ≡ header) × (h ≤ length b) × (t < 2 ^ 64) × (4 ≤ header)
  beyond header e =
      picked (ltb header 4) e (λ c r. never _ t h r) (λ c r. picked (leb header (length b)) r
      (λ d r. let f = under header (header + spelled 0 (take (header - 4) (drop 4 b))) r in
      let l : header ≤ length b = leb-true header (length b) d in
      (f.0, f.1, omega arith, omega arith, ltb-false header 4 c))
      (λ d r. never _ t h r))

pub marshaled_says : (b : List ℕ) (t h place : ℕ) → marshaled b place ≡ Ok (takes t h) → LengthSays b t h
unfolding marshaled
marshaled_says b t h place e =
    picked (ltb (length b) 4) e (λ c r. never _ t h r)
    (λ c r. picked (eqb (be16 b 0) 0x8004) r (λ d r. let p = taken_alike (length b) 4 t h r in says_all (ltb-false (length b) 4 c) (eqb-true (be16 b 0) 0x8004 d) p.0 p.1)
    (λ d r. picked (ltb (be16 b 0) 0x8000) r
    (λ g r. let small : be16 b 0 < 0x8000 = ltb-true (be16 b 0) 0x8000 g in
    let p = taken_alike (be16 b 0) 4 t h r in says_inline (ltb-false (length b) 4 c) p.0 p.1 (omega arith))
    (λ g r. high d g (beyond b t h place (be16 b 0 - 0x8000) r))))
  where
    high : eqb (be16 b 0) 0x8004 ≡ false → ltb (be16 b 0) 0x8000 ≡ false → (t ≡ be16 b 0 - 0x8000 + spelled 0 (take ((be16 b 0 - 0x8000) - 4) (drop 4 b))) × (h ≡ be16 b 0 - 0x8000) × (h ≤ length b) × (t < 2 ^ 64) × (4 ≤ be16 b 0 - 0x8000) → LengthSays b t h
    high d g f =
        let large : 0x8000 ≤ be16 b 0 = ltb-false (be16 b 0) 0x8000 g in
        let other : ¬ (be16 b 0 ≡ 0x8004) = eqb-false (be16 b 0) 0x8004 d in
        says_wide (omega arith) (omega arith) f.2 (rw f.1 f.0) f.3

-- ---- what fits

taken_says : (b : List ℕ) (t h : ℕ) → TakenLength b t h → LengthSays b t h × (h ≤ t) × (t ≤ length b)
taken_says b t h (inline et eh lo hi fits) = (says_inline (omega arith) et eh hi, omega arith, fits)
taken_says b t h (all four raw et eh) = (says_all four raw et eh, omega arith, omega arith)
taken_says b t h (wide raw lo et hi fits) = (says_wide raw lo (omega arith) et hi, omega arith, fits)

says_taken : (b : List ℕ) (t h : ℕ) → LengthSays b t h → h ≤ t → t ≤ length b → TakenLength b t h
says_taken b t h (says_inline four et eh hi) lo fits = inline et eh (omega arith) hi fits
says_taken b t h (says_all four raw et eh) lo fits = all four raw et eh
says_taken b t h (says_wide raw lo there et hi) l fits = wide raw lo et hi fits

pub taken_measured : (b : List ℕ) (t h place : ℕ) → TakenLength b t h → measured b place ≡ Ok (takes t h)
unfolding measured
taken_measured b t h place k =
    let w = taken_says b t h k in
    ap (fitting b place) (says_marshaled b t h place w.0)
    ∙ pick_no _ _ (le-ltb t h w.1)
    ∙ pick_yes _ _ (le-leb t (length b) w.2)

pub measured_taken : (b : List ℕ) (t h place : ℕ) → measured b place ≡ Ok (takes t h) → TakenLength b t h
unfolding measured
measured_taken b t h place e = go (marshaled b place) refl e
  where
    same : (m : Marshaled) → m ≡ takes t h → LengthSays b m.total m.header → m.header ≤ m.total → m.total ≤ length b → TakenLength b t h
    same m r w l f = subst (λ (n : Marshaled). TakenLength b n.total n.header) r (says_taken b m.total m.header w l f)

    back : (m : Marshaled) → ◌≡◌ {A = Result Marshaled Refused} (Ok m) (Ok (takes t h)) → m ≡ takes t h
    back m r = cc

    go : (m : Result Marshaled Refused) → marshaled b place ≡ m → fitting b place m ≡ Ok (takes t h) → TakenLength b t h
    go (Ok m) q r =
        picked (ltb m.total m.header) r (λ c r. never _ t h r)
        (λ c r. picked (leb m.total (length b)) r (λ d r. same m (back m r) (marshaled_says b m.total m.header place q) (ltb-false m.total m.header c) (leb-true m.total (length b) d)) (λ d r. never _ t h r))
    go (Err r') q r = never r' t h r
