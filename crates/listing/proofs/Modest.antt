-- What a reading gives is small: the numbers of its line are below 100,000 where the run is at most 65,536 bytes.
use Rattle.std.specs.Prelude.{Result, Ok, Err}
use Prim.Native.Nat.{ℕ, zero, suc, ◌+◌, ◌-◌, ◌≤◌, ◌<◌}
use native.Mathlib.Omega.{arith}
use mathlib.Core.Path.{◌≡◌, refl}
use mathlib.Core.Bool.{Bool}
use mathlib.Core.List.{List, [], ◌∷◌, ◌++◌}
use lib.Dec.{ltb, leb, eqb}
use lib.ListN.{length, get_or, length-append}
use borrow.Author.Tests.{ltb-true, leb-false}
use Rattle.wire.specs.Bytes.{be16, Octets}
use Rattle.wire.proofs.WireLaws.{pick_by}
use Rattle.answer.specs.Numbers.{number_of, values_of}
use Rattle.answer.specs.declared.Refusal.TheVariants.{Incomplete, LengthTooShort, DeadContinuation}
use Rattle.answer.specs.declared.Refused.{Refused}
use Rattle.dss_head.specs.Heads.{head_with, head_at}
use Rattle.dss_head.proofs.TypeLaws.{type_by}
use Rattle.dss_head.specs.declared.DssType.{DssType}
use Rattle.dss_head.specs.declared.DssHeader.{DssHeader}
use Rattle.dss_frame.specs.declared.Rules.{Rules}
use Rattle.dss_frame.specs.declared.Rules.TheVariants.{Reader, Salvage}
use Rattle.dss_frame.specs.Segments.{Segment, Walk, whole, behind, continuation, first, continuations, frame_walk, payload_of, end_of}
use Rattle.dss_frame.specs.Reading.{Look, finished, absorbs, refuses, refusal, look, look_at, follows, own_object, Frame, Read, frame, refused, with_chained, behind_frame, absorb, absorb_fuel, read_head, read_walk, read_at, starts_extended}
use Rattle.dss_laws.proofs.Ends.{end_snoc}
use Rattle.dss_laws.proofs.DeadLengths.{OfDead, dead_at, Inside, frame_dead}
use Rattle.dss_laws.proofs.Looking.{SoundLook, finishes, takes, stops, TakenLook, look_sound}
use Rattle.dss_laws.proofs.WalkCases.{continuations_by, frame_by}
use Rattle.dss_laws.proofs.Bounds.{OfWhole, is_whole, is_short, is_dead, Six, walk_six}

-- ---- segments

-- each segment behind the first takes a byte at least
abbrev Few : ℕ → List Segment → Type 0
Few p gs = p + length gs ≤ end_of p gs + 1

few_one : (p n : ℕ) (g : Segment) → g.end ≡ p + n → OfWhole (Few p) (whole (g ∷ []))
unfolding end_of
few_one p n g e = is_whole (g ∷ []) (omega arith)

few_behind : (p : ℕ) (g : Segment) (w : Walk) → p + 1 ≤ g.end → OfWhole (Few g.end) w → OfWhole (Few p) (behind g w)
unfolding end_of
few_behind p g w h (is_whole gs k) = is_whole (g ∷ gs) (omega arith)
few_behind p g w h is_short = is_short
few_behind p g w h (is_dead d) = is_dead d

few_snoc : (p : ℕ) (gs : List Segment) (g : Segment) → Few p gs → end_of p gs + 1 ≤ g.end → Few p (gs ++ (g ∷ []))
few_snoc p gs g k h = omega (arith, length-append gs (g ∷ []), end_snoc p gs g)

continuations_few : (rules : Rules) (s : List ℕ) (q : ℕ) → OfWhole (Few q) (continuations rules s q)
continuations_few rules s =
    continuations_by rules s (λ q w. OfWhole (Few q) w) (λ q. is_short) (λ q l. is_dead q) (λ q l c h. few_one q (be16 s q) (continuation q (be16 s q)) refl)
    (λ q w l k. few_behind q (continuation q 32767) w (omega arith) k)

frame_few : (rules : Rules) (s : List ℕ) (p : ℕ) → OfWhole (Few p) (frame_walk rules s p)
frame_few rules s p =
    frame_by rules s (OfWhole (Few p)) p is_short (λ l h. few_one p (be16 s p) (first p (be16 s p)) refl)
    (λ l. few_behind p (first p 32767) _ (omega arith) (continuations_few rules s (p + 32767)))

-- ---- refusals and heads

-- a refusal of two digits, at a place of the run, with a value of at most five digits
pub record Small (s : List ℕ) (r : Refused) : Type 0 where
  pub number : number_of r.why < 100
  pub place : r.place ≤ length s
  pub value : get_or (values_of r.why) 0 0 < 100000

-- what holds of a head that is found, or of its refusal
data OfHead (s : List ℕ) : Result DssHeader Refused → Type 0 where
  a_head : (h : DssHeader) → h.correlation_id < 65536 → OfHead s (Ok h)
  no_head : (r : Refused) → Small s r → OfHead s (Err r)

-- what holds of a look, if it refuses
abbrev OfLook : List ℕ → Look → Type 0
OfLook s finished = Unit {0}
OfLook s (absorbs g c) = Unit {0}
OfLook s (refuses r) = Small s r

-- what a reading gives
pub data Modest (s : List ℕ) (p : ℕ) : Read → Type 0 where
  a_frame : (f : Frame) → f.head.correlation_id < 65536 → p + length f.segments ≤ end_of p f.segments + 1 → Modest s p (frame f)
  a_refusal : (r : Refused) → Small s r → Modest s p (refused r)

refusal_small : (rules : Rules) (s : List ℕ) (r : Refused) → Small s r → OfLook s (refusal rules r)
refusal_small Reader s r k = k
refusal_small Salvage s r k = tt

module _ (s : List ℕ) (o : Octets s) where
  -- a length below 6
  low_small : (q : ℕ) → q ≤ length s → be16 s q < 6 → Small s (record { why = LengthTooShort (be16 s q); place = q })
  low_small q h k = record { number = omega arith; place = h; value = omega arith }

  head_typed : (at : ℕ) (t : DssType) → OfHead s (head_with s at (Ok t))
  head_typed at t = let z : be16 s (at + 4) < 65536 = omega (arith, o (at + 4), o (at + 4 + 1)) in a_head _ z

  head_of : (at : ℕ) → at ≤ length s → OfHead s (head_at s at)
  head_of at h =
      let format : ℕ = get_or s (at + 3) 0 in
      pick_by (OfHead s) (ltb (length s - at) 6) _ _ (λ e. no_head _ (record { number = omega arith; place = h; value = omega arith }))
      (λ e. pick_by (OfHead s) (eqb (get_or s (at + 2) 0) 0xD0) _ _
      (λ e₁. type_by (λ (t : Result DssType Refused). OfHead s (head_with s at t)) format at (λ t _. head_typed at t)
      (λ _. no_head _ (record { number = omega arith; place = h; value = omega arith })))
      (λ e₁. no_head _ (record { number = omega arith; place = h; value = omega (arith, o (at + 2)) })))

  -- ---- a look

  look_at_lem : (rules : Rules) (t : DssType) (extended : Bool) (q : ℕ) (h : Result DssHeader Refused) → q ≤ length s → OfHead s h → OfLook s (look_at rules s t extended q h)
  look_at_lem rules t extended q h i (no_head r k) = refusal_small rules s r k
  look_at_lem rules t extended q h i (a_head head k) =
      pick_by (OfLook s) (eqb (be16 s q) 65535) _ _ (λ e. tt)
      (λ e. pick_by (OfLook s) head.flags.same_correlation _ _
      (λ e₁. pick_by (OfLook s) (follows t head.dss_type) _ _
      (λ e₂. pick_by (OfLook s) (leb (be16 s q) (length s - q)) _ _
      (λ e₃. pick_by (OfLook s) (ltb (be16 s q) 6) _ _ (λ e₄. refusal_small rules s _ (low_small q i (ltb-true _ _ e₄))) (λ e₄. pick_by (OfLook s) (own_object s q) _ _ (λ e₅. tt) (λ e₅. tt)))
      (λ e₃. tt))
      (λ e₂. tt))
      (λ e₁. tt))

  look_small : (rules : Rules) (t : DssType) (extended : Bool) (q : ℕ) → q ≤ length s → OfLook s (look rules s t extended q)
  unfolding look
  look_small rules t extended q i = pick_by (OfLook s) (ltb (length s - q) 6) _ _ (λ e. tt) (λ e. look_at_lem rules t extended q (head_at s q) i (head_of q i))

  -- ---- a reading

  absorb_modest : (k : ℕ) (rules : Rules) (p : ℕ) (h : DssHeader) (gs : List Segment) → h.correlation_id < 65536 → Few p gs → end_of p gs ≤ length s
      → Modest s p (absorb_fuel k rules s p h gs)
  unfolding absorb_fuel
  absorb_modest zero rules p h gs a b c = a_frame _ a b
  absorb_modest (suc k) rules p h gs a b c =
      by_look (look rules s h.dss_type (starts_extended (payload_of s gs)) (end_of p gs)) (look_sound rules s h.dss_type (starts_extended (payload_of s gs)) (end_of p gs))
      (look_small rules h.dss_type (starts_extended (payload_of s gs)) (end_of p gs) c)
      (λ g c t. absorb_modest k rules p (with_chained h c) (gs ++ (g ∷ [])) a (few_snoc p gs g b (omega arith)) (rw end_snoc (omega arith)))
    where
      by_look : (l : Look) → SoundLook s (end_of p gs) l → OfLook s l
          → ((g : Segment) (c : Bool) → TakenLook s (end_of p gs) g → Modest s p (absorb_fuel k rules s p (with_chained h c) (gs ++ (g ∷ []))))
          → Modest s p (behind_frame h gs l (λ h' gs'. absorb_fuel k rules s p h' gs'))
      by_look l finishes i go = a_frame _ a b
      by_look l (takes g c t) i go = go g c t
      by_look l (stops r) i go = a_refusal r i

  head_modest : (rules : Rules) (p : ℕ) (gs : List Segment) (h : Result DssHeader Refused) → p ≤ length s → OfHead s h → Few p gs → end_of p gs ≤ length s → Modest s p (read_head rules s p gs h)
  unfolding absorb
  head_modest rules p gs h i (no_head r k) b c = a_refusal r k
  head_modest rules p gs h i (a_head head k) b c =
      pick_by (Modest s p) (ltb (be16 s p) 6) _ _ (λ e. a_refusal _ (low_small p i (ltb-true _ _ e)))
      (λ e. pick_by (Modest s p) (eqb (be16 s p) 65535) _ _ (λ e₁. a_frame _ k b) (λ e₁. absorb_modest (length s) rules p head gs k b c))

  pub read_modest : (rules : Rules) (p : ℕ) → p ≤ length s → Modest s p (read_at rules s p)
  unfolding read_at
  read_modest rules p h =
      pick_by (Modest s p) (leb p (length s)) _ _ (λ e. by_walk (frame_walk rules s p) (frame_few rules s p) (walk_six rules s p) (frame_dead rules s p))
      (λ e. absurd (omega (arith, leb-false p (length s) e)))
    where
      not_whole_lem : Small s (record { why = Incomplete; place = p })
      not_whole_lem = record { number = omega arith; place = h; value = omega arith }

      never_whole : (q : ℕ) → q ≤ length s → Small s (record { why = DeadContinuation; place = q })
      never_whole q i = record { number = omega arith; place = i; value = omega arith }

      by_walk : (w : Walk) → OfWhole (Few p) w → OfWhole (Six s p) w → OfDead (Inside s p) w → Modest s p (read_walk rules s p w)
      by_walk w (is_whole gs k) (is_whole gs₁ six) d = head_modest rules p gs (head_at s p) h (head_of p h) k six.1
      by_walk w is_short six d = a_refusal _ not_whole_lem
      by_walk w (is_dead q) six (dead_at q₁ k) = a_refusal _ (never_whole q₁ (omega (arith, k)))
