-- The laws of a frame while it absorbs: what its state in code is of, and what each look makes of it.
use Rattle.std.specs.Prelude.{None, Some, Result, Ok, Err}
use Prim.Native.Nat.{ℕ, ◌+◌, ◌-◌, ◌≤◌}
use native.Mathlib.Nat.{add-zero}
use native.Mathlib.Omega.{arith}
use mathlib.Core.Path.{◌≡◌, refl, sym, ap, ap₂, ◌∙◌}
use mathlib.Core.Bool.{Bool}
use mathlib.Core.List.{List, [], ◌∷◌, ◌++◌}
use lib.Dec.{ltb, leb, eqb}
use lib.ListN.{length, length-append}
use borrow.Author.Tests.{ltb-false, leb-true}
use Rattle.wire.specs.Bytes.{and, be16, part, marker}
use Rattle.wire.proofs.WireLaws.{pick_by, and_split, part_length}
use Rattle.answer.specs.declared.Refused.{Refused}
use Rattle.dss_head.specs.Heads.{head_at}
use Rattle.dss_head.specs.declared.DssType.{DssType}
use Rattle.dss_head.specs.declared.DssHeader.{DssHeader}
use Rattle.dss_frame.specs.declared.Rules.{Rules}
use Rattle.dss_frame.specs.declared.Rules.TheVariants.{Reader, Salvage}
use Rattle.dss_frame.specs.Segments.{Segment, first, payload_of, end_of}
use Rattle.dss_frame.specs.Reading.{Look, finished, absorbs, refuses, refusal, look, look_at, follows, own_object, dropped_at, starts_extended, Read, with_chained, absorb}
use Rattle.dss_laws.proofs.Ends.{end_snoc, payload_one, payload_snoc}
use Rattle.dss_laws.proofs.Looking.{absorb_finished, absorb_absorbs, absorb_refuses}
use Rattle.dss_measure.specs.declared.Absorbed.{Absorbed}
use Rattle.dss_measure.specs.declared.PayloadSoFar.{PayloadSoFar}
use Rattle.dss_measure.specs.inner.Walking.{looked_of, payload_so_far, extended_by}
use Rattle.dss_measure.specs.Measure.{measured_of}

-- ---- what a look absorbs

-- the segment that a look at q absorbs: so many marker bytes are dropped, and it ends at e
abbrev pub behind_at : ℕ → ℕ → ℕ → Segment
behind_at q d e = record { at = q; framing = 6; dropped = d; end = e }

-- a look that absorbs absorbs what starts there, and holds what it drops
data Shape (s : List ℕ) (q : ℕ) : Look → Type 0 where
  finishes : Shape s q finished
  takes : (d e : ℕ) (c : Bool) → q + 6 + d ≤ e → e ≤ length s → Shape s q (absorbs (behind_at q d e) c)
  stops : (r : Refused) → Shape s q (refuses r)

shape_refusal : (rules : Rules) (s : List ℕ) (q : ℕ) (r : Refused) → Shape s q (refusal rules r)
shape_refusal Reader s q r = stops r
shape_refusal Salvage s q r = finishes

dropped_room : (s : List ℕ) (extended : Bool) (q : ℕ) → 6 ≤ be16 s q → 6 + dropped_at s extended q ≤ be16 s q
dropped_room s extended q h =
    pick_by (λ (d : ℕ). 6 + d ≤ be16 s q) (and extended (and (leb 8 (be16 s q)) (marker (be16 s (q + 6))))) 2 0
    (λ t. let e = (and_split extended (and (leb 8 (be16 s q)) (marker (be16 s (q + 6)))) t).1 in
    omega (arith, leb-true 8 (be16 s q) (and_split (leb 8 (be16 s q)) (marker (be16 s (q + 6))) e).0))
    (λ t. omega arith)

shape_at : (rules : Rules) (s : List ℕ) (t : DssType) (extended : Bool) (q : ℕ) (f : Result DssHeader Refused) → 6 ≤ length s - q → Shape s q (look_at rules s t extended q f)
shape_at rules s t extended q (Err r) l = shape_refusal rules s q r
shape_at rules s t extended q (Ok h) l =
    pick_by (Shape s q) (eqb (be16 s q) 65535) _ _ (λ e. finishes)
    (λ e. pick_by (Shape s q) h.flags.same_correlation _ _
    (λ e₁. pick_by (Shape s q) (follows t h.dss_type) _ _
    (λ e₂. pick_by (Shape s q) (leb (be16 s q) (length s - q)) _ _
    (λ e₃. pick_by (Shape s q) (ltb (be16 s q) 6) _ _ (λ e₄. shape_refusal rules s q _)
    (λ e₄. pick_by (Shape s q) (own_object s q) _ _ (λ e₅. finishes)
    (λ e₅. let i : be16 s q ≤ length s - q = leb-true _ _ e₃ in
    let j : 6 ≤ be16 s q = ltb-false _ _ e₄ in
    takes (dropped_at s extended q) (q + be16 s q) _ (omega (arith, dropped_room s extended q j)) (omega arith))))
    (λ e₃. finishes))
    (λ e₂. finishes))
    (λ e₁. finishes))

look_shape : (rules : Rules) (s : List ℕ) (t : DssType) (extended : Bool) (q : ℕ) → Shape s q (look rules s t extended q)
unfolding look
look_shape rules s t extended q = pick_by (Shape s q) _ _ _ (λ e. finishes) (λ e. shape_at rules s t extended q (head_at s q) (ltb-false _ _ e))

-- what the code's answer says of the look
pub record Absorbs (s : List ℕ) (q : ℕ) (a : Absorbed) (l : Look) : Type 0 where
  pub is : l ≡ absorbs (behind_at q a.dropped a.end) a.chained
  pub room : q + 6 + a.dropped ≤ a.end
  pub there : a.end ≤ length s

is_absorbed : (s : List ℕ) (q : ℕ) (a : Absorbed) (l : Look) → Shape s q l → looked_of l ≡ Ok (Some a) → Absorbs s q a l
is_absorbed s q a l finishes k = let z : ◌≡◌ {A = ℕ} 0 1 = cc in absurd (omega arith)
is_absorbed s q a l (takes d' e' c' i j) k =
    let x : d' ≡ a.dropped = cc in
    let y : e' ≡ a.end = cc in
    let z : c' ≡ a.chained = cc in
    record { is = λ i. absorbs (behind_at q (x i) (y i)) (z i); room = omega arith; there = omega arith }
is_absorbed s q a l (stops r) k = let z : ◌≡◌ {A = ℕ} 0 1 = cc in absurd (omega arith)

is_finished : (l : Look) → looked_of l ≡ Ok None → l ≡ finished
is_finished finished k = refl
is_finished (absorbs g c) k = let z : ◌≡◌ {A = ℕ} 0 1 = cc in absurd (omega arith)
is_finished (refuses r) k = let z : ◌≡◌ {A = ℕ} 0 1 = cc in absurd (omega arith)

is_refused : (l : Look) (r : Refused) → looked_of l ≡ Err r → l ≡ refuses r
is_refused finished r k = let z : ◌≡◌ {A = ℕ} 0 1 = cc in absurd (omega arith)
is_refused (absorbs g c) r k = let z : ◌≡◌ {A = ℕ} 0 1 = cc in absurd (omega arith)
is_refused (refuses r') r k = cc

-- ---- the state

-- The reading at p comes to what is read on from a state: its head, and a count, an end and a payload so far that are those of
-- some segments.
pub record Absorbing (rules : Rules) (s : List ℕ) (p : ℕ) (read : Read) (h : DssHeader) (k e : ℕ) (v : PayloadSoFar) : Type 0 where
  pub segments : List Segment
  pub same : read ≡ absorb rules s p h segments
  pub counted : k ≡ length segments
  pub ends : e ≡ end_of p segments
  pub holds : v ≡ payload_so_far (payload_of s segments)

-- it starts with one segment of n bytes
pub absorbing_one : (rules : Rules) (s : List ℕ) (p n : ℕ) (h : DssHeader) (v : PayloadSoFar) → v ≡ payload_so_far (part s (p + 6) (p + n))
    → Absorbing rules s p (absorb rules s p h (first p n ∷ [])) h 1 (p + n) v
unfolding end_of
absorbing_one rules s p n h v e =
    record {
      segments = first p n ∷ [];
      same = refl;
      counted = refl;
      ends = refl;
      holds = e ∙ ap payload_so_far (ap (λ (a : ℕ). part s a (p + n)) (sym (add-zero (p + 6))) ∙ sym (payload_one s (first p n)));
    }

module _ (rules : Rules) (s : List ℕ) (p : ℕ) (read : Read) (h : DssHeader) (k e : ℕ) (v : PayloadSoFar) (x : Bool) (w : Absorbing rules s p read h k e v) (z : x ≡ extended_by v) where
  -- the look in code is the definition's
  looks : look rules s h.dss_type (starts_extended (payload_of s w.segments)) (end_of p w.segments) ≡ look rules s h.dss_type x e
  looks = ap₂ (λ (b : Bool) (q : ℕ). look rules s h.dss_type b q) (sym (z ∙ ap extended_by w.holds)) (sym w.ends)

  -- finished: the state is the measure
  pub absorbing_finished : looked_of (look rules s h.dss_type x e) ≡ Ok None
      → measured_of s p read ≡ Ok (record { header = h; payload_len = v.len; segments = k; end = e })
  absorbing_finished l =
      ap (measured_of s p) (w.same ∙ absorb_finished rules s p h w.segments (looks ∙ is_finished _ l))
      ∙ sym (λ i. Ok (record { header = h; payload_len = (w.holds i).len; segments = w.counted i; end = w.ends i }))

  -- refused
  pub absorbing_refused : (r : Refused) → looked_of (look rules s h.dss_type x e) ≡ Err r → measured_of s p read ≡ Err r
  absorbing_refused r l = ap (measured_of s p) (w.same ∙ absorb_refuses rules s p h w.segments r (looks ∙ is_refused _ r l))

  -- absorbed: where that segment lies
  pub absorbing_there : (a : Absorbed) → looked_of (look rules s h.dss_type x e) ≡ Ok (Some a) → (e + 6 + a.dropped ≤ a.end) × (a.end ≤ length s)
  absorbing_there a l =
      let b : Absorbs s e a (look rules s h.dss_type x e) = is_absorbed s e a _ (look_shape rules s h.dss_type x e) l in
      (b.room, b.there)

  -- how long the payload is with it
  pub absorbing_len : (a n : ℕ) (u : PayloadSoFar) → n ≤ length s → ((payload : List ℕ) → v ≡ payload_so_far payload → u ≡ payload_so_far (payload ++ part s a n)) → u.len ≡ v.len + (n - a)
  absorbing_len a n u i grows =
      let payload = payload_of s w.segments in
      ap (λ (y : PayloadSoFar). y.len) (grows payload w.holds)
      ∙ length-append payload (part s a n)
      ∙ ap₂ (λ (l m : ℕ). l + m) (sym (ap (λ (y : PayloadSoFar). y.len) w.holds)) (part_length s a n i)

  -- and the state with it
  pub absorbing_more : (a : Absorbed) (u : PayloadSoFar) → looked_of (look rules s h.dss_type x e) ≡ Ok (Some a)
      → ((payload : List ℕ) → v ≡ payload_so_far payload → u ≡ payload_so_far (payload ++ part s (e + 6 + a.dropped) a.end))
      → Absorbing rules s p read (with_chained h a.chained) (k + 1) a.end u
  absorbing_more a u l grows =
      let b : Absorbs s e a (look rules s h.dss_type x e) = is_absorbed s e a _ (look_shape rules s h.dss_type x e) l in
      let g : Segment = behind_at e a.dropped a.end in
      record {
        segments = w.segments ++ (g ∷ []);
        same = w.same ∙ absorb_absorbs rules s p h w.segments g a.chained (looks ∙ b.is);
        counted = ap (λ (m : ℕ). m + 1) w.counted ∙ sym (length-append w.segments (g ∷ []));
        ends = sym (end_snoc p w.segments g);
        holds = grows (payload_of s w.segments) w.holds ∙ ap payload_so_far (sym (payload_snoc s w.segments g));
      }
