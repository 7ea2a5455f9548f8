-- What becomes of an answer over a longer run: a refusal of a head stays, a settled frame stays, any other frame grows or is
-- refused behind its end; and only a frame that wasn't whole may come to anything.
use Rattle.std.specs.Prelude.{Result}
use Prim.Native.Nat.{ℕ, zero, suc, ◌-◌, ◌≤◌}
use native.Mathlib.Omega.{arith}
use mathlib.Core.Path.{◌≡◌, refl, sym, ap, subst, ◌∙◌}
use mathlib.Core.Logic.{inl, inr}
use mathlib.Core.Bool.{Bool, false}
use mathlib.Core.List.{List, [], ◌∷◌, ◌++◌, append_assoc, append-nil}
use lib.Dec.{ltb, leb, eqb}
use lib.ListN.{length, length-append}
use borrow.Author.Tests.{ltb-true, ltb-false, leb-true, eqb-false, le-leb}
use Rattle.wire.specs.Bytes.{be16, or}
use Rattle.wire.proofs.WireLaws.{by, picked, pick_yes, true_false, be16_front}
use Rattle.answer.specs.Numbers.{number_of, not_whole}
use Rattle.answer.specs.Rooms.{out_of_bounds}
use Rattle.answer.specs.declared.Refusal.TheVariants.{Incomplete, LengthTooShort}
use Rattle.answer.specs.declared.Refused.{Refused}
use Rattle.dss_head.specs.Heads.{head_at}
use Rattle.dss_head.specs.declared.DssHeader.{DssHeader}
use Rattle.dss_frame.specs.declared.Rules.{Rules}
use Rattle.dss_frame.specs.Segments.{Segment, payload_of, end_of, Walk, dead, frame_walk}
use Rattle.dss_frame.specs.Reading.{Look, look, Read, frame, refused, Frame, starts_extended, with_chained, behind_frame, absorb, absorb_fuel, read_head, read_walk, read_at}
use Rattle.demands.specs.Longer.{Unsettled, few_left, Settled, OfHead, Final, RefusalsStay, SettledStay, Grown, goes_on, refused_behind, FramesGrow, DeadStays}
use Rattle.dss_laws.proofs.Ends.{end_snoc, payload_append}
use Rattle.dss_laws.proofs.Looking.{TakenLook, absorb_step}
use Rattle.demands.proofs.LongerRuns.{picks, SameBytes, same_snoc, head_longer, HeadSays, finds, refuses_head, head_says, walk_few, Stays, stays_whole, stays_dead, was_short, frame_stays}
use Rattle.demands.proofs.LongerLooks.{Looks, finishes, takes, stops, unsettled, look_longer}

-- such a refusal says nothing of a frame that isn't whole
pub head_refuses : (r : Refused) → OfHead r → not_whole r.why ≡ false
head_refuses r (inl e) = ap (λ (n : ℕ). or (eqb n 1) (eqb n 16)) e
head_refuses r (inr (inl e)) = ap (λ (n : ℕ). or (eqb n 1) (eqb n 16)) e
head_refuses r (inr (inr e)) = ap (λ (n : ℕ). or (eqb n 1) (eqb n 16)) e

-- ---- absorbing goes on from where it is

pub data On (p : ℕ) (h : DssHeader) (gs : List Segment) : Read → Type 0 where
  on_frame : (c : Bool) (more : List Segment) → On p h gs (frame (record { head = with_chained h c; segments = gs ++ more }))
  on_refused : (r : Refused) → OfHead r → end_of p gs ≤ r.place → On p h gs (refused r)

on_here : (p : ℕ) (h : DssHeader) (gs : List Segment) → On p h gs (frame (record { head = h; segments = gs }))
on_here p h gs = subst (λ (l : List Segment). On p h gs (frame (record { head = h; segments = l }))) (append-nil gs) (on_frame h.flags.chained [])

on_more : (p : ℕ) (h : DssHeader) (gs : List Segment) (g : Segment) (c : Bool) → end_of p gs ≤ g.end → (x : Read) → On p (with_chained h c) (gs ++ (g ∷ [])) x → On p h gs x
on_more p h gs g c l x (on_frame d more) =
    subst (λ (l : List Segment). On p h gs (frame (record { head = with_chained h d; segments = l }))) (sym (append_assoc gs (g ∷ []) more)) (on_frame d (g ∷ more))
on_more p h gs g c l x (on_refused r n k) = on_refused r n (omega (arith, end_snoc p gs g))

-- a look's own run is a longer one with nothing behind
pub absorb_on : (k : ℕ) (rules : Rules) (s : List ℕ) (p : ℕ) (h : DssHeader) (gs : List Segment) → On p h gs (absorb_fuel k rules s p h gs)
unfolding absorb_fuel
absorb_on zero rules s p h gs = on_here p h gs
absorb_on (suc k) rules s p h gs =
    by_look (look rules s h.dss_type (starts_extended (payload_of s gs)) (end_of p gs)) _ (look_longer rules s [] h.dss_type (starts_extended (payload_of s gs)) (end_of p gs))
    (λ g c. absorb_on k rules s p (with_chained h c) (gs ++ (g ∷ [])))
  where
    by_look : (l l' : Look) → Looks s h.dss_type (end_of p gs) l l'
        → ((g : Segment) (c : Bool) → On p (with_chained h c) (gs ++ (g ∷ [])) (absorb_fuel k rules s p (with_chained h c) (gs ++ (g ∷ []))))
        → On p h gs (behind_frame h gs l (λ h' gs'. absorb_fuel k rules s p h' gs'))
    by_look l l' finishes go = on_here p h gs
    by_look l l' (takes g c w) go = on_more p h gs g c (omega arith) _ (go g c)
    by_look l l' (stops r n e) go = on_refused r n (omega arith)
    by_look l l' (unsettled u x) go = on_here p h gs

grown : (s t : List ℕ) (p : ℕ) (h : DssHeader) (gs : List Segment) → SameBytes s t gs → (x : Read) → On p h gs x → Grown s t p (record { head = h; segments = gs }) x
grown s t p h gs e x (on_frame c more) = goes_on c more (payload_append (s ++ t) gs more ∙ ap (λ (l : List ℕ). l ++ payload_of (s ++ t) more) e)
grown s t p h gs e x (on_refused r n l) = refused_behind r n l

pub absorb_grown : (rules : Rules) (s t : List ℕ) (p : ℕ) (h : DssHeader) (gs : List Segment) → SameBytes s t gs → Grown s t p (record { head = h; segments = gs }) (absorb rules (s ++ t) p h gs)
unfolding absorb
absorb_grown rules s t p h gs e = grown s t p h gs e _ (absorb_on (length (s ++ t)) rules (s ++ t) p h gs)

-- ---- what becomes of an answer

-- a refusal other than 1 stays, a frame stays, or it is unsettled and absorbing goes on behind it; and 1 may come to anything
pub data Becomes (rules : Rules) (s t : List ℕ) (p : ℕ) : Read → Read → Type 0 where
  same_refusal : (r : Refused) → Final r → Becomes rules s t p (refused r) (refused r)
  same_frame : (f : Frame) → SameBytes s t f.segments → Becomes rules s t p (frame f) (frame f)
  open_frame : (f : Frame) (x : Read) → (be16 s p ≡ 0xFFFF → ⊥) → Unsettled s f.head.dss_type (end_of p f.segments) → SameBytes s t f.segments
      → x ≡ absorb rules (s ++ t) p f.head f.segments → Becomes rules s t p (frame f) x
  not_whole_lem : (x : Read) → Becomes rules s t p (refused (record { why = Incomplete; place = p })) x

absorb_becomes : (k : ℕ) (rules : Rules) (s t : List ℕ) (p : ℕ) (h : DssHeader) (gs : List Segment) → (be16 s p ≡ 0xFFFF → ⊥) → length s - end_of p gs ≤ k → SameBytes s t gs
    → Becomes rules s t p (absorb_fuel k rules s p h gs) (absorb rules (s ++ t) p h gs)
unfolding absorb_fuel
absorb_becomes zero rules s t p h gs ne l e =
    open_frame (record { head = h; segments = gs }) _ ne (few_left (omega arith)) e refl
absorb_becomes (suc k) rules s t p h gs ne l e =
    let q : ℕ = end_of p gs in
    by_look (look rules s h.dss_type (starts_extended (payload_of s gs)) q) (look rules (s ++ t) h.dss_type (starts_extended (payload_of s gs)) q)
    (look_longer rules s t h.dss_type (starts_extended (payload_of s gs)) q)
    (absorb_step rules (s ++ t) p h gs ∙ ap (λ (b : List ℕ). behind_frame h gs (look rules (s ++ t) h.dss_type (starts_extended b) q) (absorb rules (s ++ t) p)) e)
    (λ g c w. absorb_becomes k rules s t p (with_chained h c) (gs ++ (g ∷ [])) ne (rw end_snoc (omega arith)) (same_snoc s t gs g w.there e))
  where
    by_look : (l₁ l₂ : Look) → Looks s h.dss_type (end_of p gs) l₁ l₂ → absorb rules (s ++ t) p h gs ≡ behind_frame h gs l₂ (absorb rules (s ++ t) p)
        → ((g : Segment) (c : Bool) → TakenLook s (end_of p gs) g
        → Becomes rules s t p (absorb_fuel k rules s p (with_chained h c) (gs ++ (g ∷ []))) (absorb rules (s ++ t) p (with_chained h c) (gs ++ (g ∷ []))))
        → Becomes rules s t p (behind_frame h gs l₁ (λ h' gs'. absorb_fuel k rules s p h' gs')) (absorb rules (s ++ t) p h gs)
    by_look l₁ l₂ finishes step go = subst (Becomes rules s t p _) (sym step) (same_frame (record { head = h; segments = gs }) e)
    by_look l₁ l₂ (takes g c w) step go = subst (Becomes rules s t p _) (sym step) (go g c w)
    by_look l₁ l₂ (stops r n k) step go = subst (Becomes rules s t p _) (sym step) (same_refusal r (inr n))
    by_look l₁ l₂ (unsettled u x) step go = open_frame (record { head = h; segments = gs }) _ ne u e refl

head_becomes : (rules : Rules) (s t : List ℕ) (p : ℕ) (gs : List Segment) (x : Result DssHeader Refused) → 6 ≤ length s - p → SameBytes s t gs → HeadSays p x
    → Becomes rules s t p (read_head rules s p gs x) (read_head rules (s ++ t) p gs x)
unfolding absorb
head_becomes rules s t p gs x l e (refuses_head r n k) = same_refusal r (inr n)
head_becomes rules s t p gs x l e (finds h) =
    let raw : be16 (s ++ t) p ≡ be16 s p = be16_front s t p (omega arith) in
    picks (Becomes rules s t p) (ltb (be16 s p) 6) (ltb (be16 (s ++ t) p) 6) (ap (λ (n : ℕ). ltb n 6) (sym raw))
    (λ e₁. subst (λ (n : ℕ). Becomes rules s t p (refused (record { why = LengthTooShort (be16 s p); place = p })) (refused (record { why = LengthTooShort n; place = p }))) (sym raw)
    (same_refusal _ (inr (inr (inr refl)))))
    (λ e₁. picks (Becomes rules s t p) (eqb (be16 s p) 65535) (eqb (be16 (s ++ t) p) 65535) (ap (λ (n : ℕ). eqb n 65535) (sym raw))
    (λ e₂. same_frame (record { head = h; segments = gs }) e)
    (λ e₂. absorb_becomes (length s) rules s t p h gs (eqb-false _ _ e₂) (omega arith) e))

pub read_becomes : (rules : Rules) (s t : List ℕ) (p : ℕ) → p ≤ length s → Becomes rules s t p (read_at rules s p) (read_at rules (s ++ t) p)
unfolding read_at
read_becomes rules s t p i =
    picks (Becomes rules s t p) (leb p (length s)) (leb p (length (s ++ t))) (le-leb p (length s) i ∙ sym (le-leb p (length (s ++ t)) (omega (arith, length-append s t))))
    (λ e. by (ltb (length s - p) 6)
    (λ k. subst (λ (w : Walk). Becomes rules s t p (read_walk rules s p w) (read_walk rules (s ++ t) p (frame_walk rules (s ++ t) p))) (sym (walk_few rules s p (ltb-true _ _ k))) (not_whole_lem _))
    (λ k. by_walk (frame_walk rules s p) (frame_walk rules (s ++ t) p) (frame_stays rules s t p) (ltb-false _ _ k)))
    (λ e. absurd (true_false (leb p (length s)) (le-leb p (length s) i) e))
  where
    by_walk : (v w : Walk) → Stays s t v w → 6 ≤ length s - p → Becomes rules s t p (read_walk rules s p v) (read_walk rules (s ++ t) p w)
    by_walk v w (stays_whole gs e) l =
        subst (λ (x : Result DssHeader Refused). Becomes rules s t p (read_head rules s p gs (head_at s p)) (read_head rules (s ++ t) p gs x)) (sym (head_longer s t p l))
        (head_becomes rules s t p gs (head_at s p) l e (head_says s p l))
    by_walk v w (stays_dead q) l = same_refusal _ (inl refl)
    by_walk v w (was_short x) l = not_whole_lem _

-- ---- the statements

pub frame_refused : (f : Frame) (r : Refused) → frame f ≡ refused r → ⊥
frame_refused f r e = let z : ◌≡◌ {A = ℕ} 0 1 = cc in omega arith

pub same_refused : (r x : Refused) → refused r ≡ refused x → r ≡ x
same_refused r x e = cc

pub same_framed : (f g : Frame) → frame f ≡ frame g → f ≡ g
same_framed f g e = cc

pub refusals_stay : (rules : Rules) → RefusalsStay (read_at rules)
refusals_stay rules s t p r i e ne = go (read_at rules s p) (read_at rules (s ++ t) p) (read_becomes rules s t p i) e
  where
    go : (x y : Read) → Becomes rules s t p x y → x ≡ refused r → Final r × (y ≡ refused r)
    go x y (same_refusal r₁ n) k = (subst Final (same_refused r₁ r k) n, k)
    go x y (same_frame f b) k = absurd (frame_refused f r k)
    go x y (open_frame f z u v b w) k = absurd (frame_refused f r k)
    go x y (not_whole_lem z) k = absurd (ne (ap (λ (w : Refused). number_of w.why) (sym (same_refused _ r k))))

-- a frame is read inside the run
pub inside : (rules : Rules) (s : List ℕ) (p : ℕ) (f : Frame) → read_at rules s p ≡ frame f → p ≤ length s
unfolding read_at
inside rules s p f e = picked (leb p (length s)) e (λ k j. leb-true p (length s) k) (λ k j. absurd (frame_refused f (out_of_bounds p (length s)) (sym j)))

-- a settled frame is not unsettled
clash : (s : List ℕ) (p : ℕ) (f : Frame) → Settled s p f → (be16 s p ≡ 0xFFFF → ⊥) → Unsettled s f.head.dss_type (end_of p f.segments) → ⊥
clash s p f (inl e) ne u = ne e
clash s p f (inr k) ne u = k u

pub settled_stay : (rules : Rules) → SettledStay (read_at rules)
settled_stay rules s t p f e st = go (read_at rules s p) (read_at rules (s ++ t) p) (read_becomes rules s t p (inside rules s p f e)) e
  where
    go : (x y : Read) → Becomes rules s t p x y → x ≡ frame f → (y ≡ frame f) × SameBytes s t f.segments
    go x y (same_refusal r n) k = absurd (frame_refused f r (sym k))
    go x y (same_frame g b) k = (k, subst (λ (h : Frame). SameBytes s t h.segments) (same_framed g f k) b)
    go x y (open_frame g z u v b w) k =
        absurd (clash s p f st u (subst (λ (h : Frame). Unsettled s h.head.dss_type (end_of p h.segments)) (same_framed g f k) v))
    go x y (not_whole_lem z) k = absurd (frame_refused f _ (sym k))

pub frames_grow : (rules : Rules) → FramesGrow (read_at rules)
frames_grow rules s t p f e = go (read_at rules s p) (read_at rules (s ++ t) p) (read_becomes rules s t p (inside rules s p f e)) e
  where
    go : (x y : Read) → Becomes rules s t p x y → x ≡ frame f → Grown s t p f y
    go x y (same_refusal r n) k = absurd (frame_refused f r (sym k))
    go x y (same_frame g b) k = subst (λ (h : Frame). Grown s t p h (frame g)) (same_framed g f k) (grown s t p g.head g.segments b _ (on_here p g.head g.segments))
    go x y (open_frame g z u v b w) k =
        subst (λ (h : Frame). Grown s t p h z) (same_framed g f k) (subst (Grown s t p g) (sym w) (absorb_grown rules s t p g.head g.segments b))
    go x y (not_whole_lem z) k = absurd (frame_refused f _ (sym k))

pub dead_stays : (rules : Rules) → DeadStays rules (read_at rules)
unfolding read_at
dead_stays rules s t p q i e =
    pick_yes _ _ (le-leb p (length (s ++ t)) (omega (arith, length-append s t))) ∙ ap (read_walk rules (s ++ t) p) (go (frame_walk rules s p) (frame_walk rules (s ++ t) p) (frame_stays rules s t p) e)
  where
    go : (v w : Walk) → Stays s t v w → v ≡ dead q → w ≡ dead q
    go v w (stays_whole gs b) k = absurd (let z : ◌≡◌ {A = ℕ} 0 1 = cc in omega arith)
    go v w (stays_dead x) k = k
    go v w (was_short x) k = absurd (let z : ◌≡◌ {A = ℕ} 0 1 = cc in omega arith)
