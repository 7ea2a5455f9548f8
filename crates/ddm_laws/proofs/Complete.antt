-- What reads as an object has the layout: the other way of `Layout`, for the lengths that the volume knows.
use Prim.Native.Nat.{ℕ, ◌+◌, ◌-◌, ◌≤◌, ◌<◌}
use native.Mathlib.Omega.{arith}
use mathlib.Core.Path.{◌≡◌, sym, ◌∙◌, ap, ap₂, subst, subst₂}
use mathlib.Core.Bool.{false}
use borrow.Author.Tests.{eq-eqb}
use mathlib.Core.List.{List, [], ◌∷◌, ◌++◌, append-nil}
use lib.ListN.{length, take, drop, length-drop, take-append-drop}
use lib.Seq.{take_all, drop-drop, length-take-le}
use Rattle.wire.specs.Bytes.{two, be16, Octets}
use Rattle.ddm_object.specs.Objects.{Object, object, parsed}
use Rattle.layouts.specs.DdmLayout.{Width, Documented, short, long, to_end, Ddm, inline, extended, streamed, Streamed}
use Rattle.ddm_laws.proofs.FormLaws.{some_bytes}
use Rattle.ddm_length.proofs.TakenLengths.{TakenLength, all, wide}
use Rattle.wire.proofs.WireLaws.{be16_front, pick_yes}
use Rattle.ddm_object.proofs.ObjectReads.{Reads, content_plain}
use Rattle.wire.proofs.OctetLaws.{octets_take}
use Rattle.ddm_object.proofs.ParamWalks.{Found, found, front, sized, takes_all}
use Rattle.ddm_length.specs.Markers.{has_markers}
use Rattle.ddm_laws.proofs.LayoutLaws.{no_markers}

-- raw lengths of an object that has an end of its own
data Own : ℕ → Type 0 where
  low : {raw : ℕ} → raw < 0x8000 → Own raw
  high : {raw k : ℕ} → Width k → raw ≡ 0x8004 + k → Own raw

not_all : {raw : ℕ} → Own raw → ¬ (raw ≡ 0x8004)
not_all (low h) = λ e. omega arith
not_all (high w q) = λ e. let b = some_bytes w in omega arith

-- four bytes are two numbers
pub head_is : (p : List ℕ) → 4 ≤ length p → Octets p → two (be16 p 0) ++ (two (be16 p 2) ++ drop 4 p) ≡ p
head_is [] h o = absurd (omega arith)
head_is (a ∷ []) h o = absurd (omega arith)
head_is (a ∷ b ∷ []) h o = absurd (omega arith)
head_is (a ∷ b ∷ c ∷ []) h o = absurd (omega arith)
head_is (a ∷ b ∷ c ∷ e ∷ r) h o = four (omega (arith, o 0, o 1)) (omega (arith, o 1)) (omega (arith, o 2, o 3)) (omega (arith, o 3))
  where
    four : {a' b' c' e' : ℕ} → a' ≡ a → b' ≡ b → c' ≡ c → e' ≡ e → ◌≡◌ {A = List ℕ} (a' ∷ b' ∷ c' ∷ e' ∷ r) (a ∷ b ∷ c ∷ e ∷ r)
    four p q s t = λ i. p i ∷ q i ∷ s i ∷ t i ∷ r

module _ (p : List ℕ) (o : Octets p) where
  layout_of : (t h : ℕ) → t ≡ length p → Own (be16 p 0) → TakenLength p t h → Ddm (be16 p 2) (take (t - h) (drop h p)) p
  layout_of t h e q (all four raw et eh) = absurd (not_all q raw)
  layout_of t h e (high w q) (TakenLength.inline et eh lo hi fits) = absurd (omega arith)
  layout_of t h e (low q) (wide raw lo et hi fits) = absurd (omega arith)
  layout_of t h e (low q) (TakenLength.inline et eh lo hi fits) =
      let d : List ℕ = take (t - h) (drop h p) in
      let dd : d ≡ drop 4 p = ap (λ (j : ℕ). take (t - j) (drop j p)) eh ∙ take_all (t - 4) (drop 4 p) (omega (arith, length-drop 4 p)) in
      let l : length d + 4 ≡ be16 p 0 = omega (arith, ap length dd, length-drop 4 p) in
      subst (Ddm (be16 p 2) d) (ap₂ (λ (n : ℕ) (s : List ℕ). two n ++ (two (be16 p 2) ++ s)) l dd ∙ head_is p (omega arith) o) (inline (omega arith))
  layout_of t h e (high {k = k} w q) (wide raw lo et hi fits) =
      let d : List ℕ = take (t - h) (drop h p) in
      let ls : List ℕ = take (h - 4) (drop 4 p) in
      let five : h ≡ 4 + (h - 4) = omega arith in
      let dd : d ≡ drop (h - 4) (drop 4 p) =
      take_all (t - h) (drop h p) (omega (arith, length-drop h p)) ∙ ap (λ (j : ℕ). drop j p) five ∙ sym (drop-drop (h - 4) 4 p) in
      let ll : length ls ≡ k = length-take-le (h - 4) (drop 4 p) (omega (arith, length-drop 4 p)) ∙ omega arith in
      subst (Ddm (be16 p 2) d)
      (ap₂ (λ (n : ℕ) (s : List ℕ). two n ++ (two (be16 p 2) ++ s)) (sym q) (ap (λ (s : List ℕ). ls ++ s) dd ∙ take-append-drop (h - 4) (drop 4 p)) ∙ head_is p (omega arith) o)
      (extended k ls w ll (omega (arith, ap length dd, length-drop (h - 4) (drop 4 p), length-drop 4 p)))

own_ddm : (b : List ℕ) (place : ℕ) (o : Object) → Octets b → parsed b place ≡ object o → Own (be16 b 0) → Ddm o.code_point o.content (take o.consumed b)
own_ddm b place o oct e q =
    subst₂ (λ (c : ℕ) (d : List ℕ). Ddm c d p) (ap (λ x. x.code_point) f.is)
    (sym (content_plain p o.consumed f.header (not_all q')) ∙ ap (λ x. x.content) f.is)
    (layout_of p (octets_take o.consumed b oct) o.consumed f.header r.whole q' f.taken)
  where
    p : List ℕ
    p = take o.consumed b

    r : Reads p o
    r = front b o (found b place o e) (not_all q)

    f : Found p o
    f = found p 0 o (ap (λ (x : List ℕ). parsed x 0) (sym (append-nil p)) ∙ r.back [] 0)

    q' : Own (be16 p 0)
    q' =
        subst Own (ap (λ (x : List ℕ). be16 x 0) (sym (take-append-drop o.consumed b)) ∙ be16_front p (drop o.consumed b) 0 (omega (arith, r.four))) q

-- all that is left
all_ddm : (b : List ℕ) (place : ℕ) (o : Object) → Octets b → parsed b place ≡ object o → Streamed b → has_markers (drop 4 b) ≡ false
    → Ddm o.code_point o.content (take o.consumed b)
all_ddm b place o oct e raw plain =
    let f : Found b o = found b place o e in
    let z : (4 ≤ o.consumed) × (o.consumed ≤ length b) = sized f in
    let c : o.content ≡ drop 4 b = ap (λ x. x.content) (sym f.is) ∙ pick_yes _ _ (eq-eqb (be16 b 0) 0x8004 raw) ∙ no_markers (drop 4 b) plain in
    let t : b ≡ take o.consumed b = sym (take_all o.consumed b (omega (arith, takes_all f raw))) in
    let h : two 0x8004 ++ (two (be16 b 2) ++ drop 4 b) ≡ take o.consumed b =
    ap (λ (n : ℕ). two n ++ (two (be16 b 2) ++ drop 4 b)) (sym raw) ∙ head_is b (omega arith) oct ∙ t in
    subst₂ (λ (n : ℕ) (d : List ℕ). Ddm n d (take o.consumed b)) (ap (λ x. x.code_point) f.is) (sym c)
    (subst (Ddm (be16 b 2) (drop 4 b)) h streamed)

-- the bytes taken have the layout of the object read
pub read_ddm : (b : List ℕ) (place : ℕ) (o : Object) → Octets b → parsed b place ≡ object o → Documented (be16 b 0) → (Streamed b → has_markers (drop 4 b) ≡ false)
    → Ddm o.code_point o.content (take o.consumed b)
read_ddm b place o oct e (short h) plain = own_ddm b place o oct e (low h)
read_ddm b place o oct e (long w q) plain = own_ddm b place o oct e (high w q)
read_ddm b place o oct e (to_end raw) plain = all_ddm b place o oct e raw (plain raw)
