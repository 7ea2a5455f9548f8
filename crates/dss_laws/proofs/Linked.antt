-- The segments of a frame that is read follow each other from its first byte to its end, so that its payload comes from there.
use Rattle.std.specs.Prelude.{Result, Ok, Err}
use Prim.Native.Nat.{ℕ, zero, suc, ◌+◌, ◌-◌, ◌≤◌}
use native.Mathlib.Omega.{arith}
use mathlib.Core.Path.{◌≡◌, refl, sym, subst, ◌∙◌}
use mathlib.Core.Bool.{Bool}
use mathlib.Core.List.{List, [], ◌∷◌, ◌++◌}
use lib.Dec.{ltb, leb, eqb}
use lib.ListN.{length, take, drop}
use lib.Seq.{drop-cons}
use borrow.Author.Tests.{leb-true, leb-false}
use Rattle.wire.specs.Bytes.{be16}
use Rattle.wire.proofs.WireLaws.{by, pick_by}
use Rattle.answer.specs.declared.Refused.{Refused}
use Rattle.dss_head.specs.Heads.{head_at}
use Rattle.dss_head.specs.declared.DssType.{DssType}
use Rattle.dss_head.specs.declared.DssHeader.{DssHeader}
use Rattle.dss_frame.specs.declared.Rules.{Rules}
use Rattle.dss_frame.specs.declared.Rules.TheVariants.{Reader, Salvage}
use Rattle.dss_frame.specs.Segments.{Segment, segment_bytes, Walk, whole, behind, continuation, first, continuations, frame_walk, payload_of, end_of}
use Rattle.dss_frame.specs.Reading.{Look, finished, absorbs, refuses, refusal, look, look_at, follows, own_object, Frame, Read, with_chained, behind_frame, absorb, absorb_fuel, read_head, read_walk, read_at, starts_extended}
use Rattle.dss_frame.specs.Following.{Follow, ComesFrom}
use Rattle.dss_laws.proofs.Ends.{end_snoc}
use Rattle.dss_laws.proofs.Looking.{SoundLook, finishes, takes, stops, look_sound}
use Rattle.dss_laws.proofs.WalkCases.{continuations_by, frame_by}
use Rattle.dss_laws.proofs.Bounds.{OfWhole, is_whole, is_short, is_dead, OfFrame, is_frame, is_refused, Past, read_past}

-- ---- stretches

-- one more behind those that follow each other
pub follow_snoc : {A : Type 0} (from to : A → ℕ) (xs : List A) (x : A) (p t : ℕ) → Follow from to p xs t → from x ≡ t → from x ≤ to x → Follow from to p (xs ++ (x ∷ [])) (to x)
unfolding Follow
follow_snoc from to [] x p t k e h = (e ∙ sym k, h, refl)
follow_snoc from to (y ∷ ys) x p t k e h = (k.0, k.1, follow_snoc from to ys x (to y) t k.2 e h)

-- they end no sooner than they start
pub follow_on : {A : Type 0} (from to : A → ℕ) (xs : List A) (p t : ℕ) → Follow from to p xs t → p ≤ t
unfolding Follow
follow_on from to [] p t k = omega arith
follow_on from to (x ∷ xs) p t k = omega (arith, k.0, k.1, follow_on from to xs (to x) t k.2)

-- segments follow each other, from p to where they end
abbrev pub Linked : ℕ → List Segment → Type 0
Linked p gs = Follow (λ (g : Segment). g.at) (λ (g : Segment). g.end) p gs (end_of p gs)

-- ---- one segment more

linked_none : (p : ℕ) → Linked p []
unfolding Follow end_of
linked_none p = refl

linked_cons : (g : Segment) (gs : List Segment) → g.at ≤ g.end → Linked g.end gs → Linked g.at (g ∷ gs)
unfolding Follow end_of
linked_cons g gs h k = (refl, h, k)

linked_snoc : (p : ℕ) (gs : List Segment) (g : Segment) → Linked p gs → g.at ≡ end_of p gs → g.at ≤ g.end → Linked p (gs ++ (g ∷ []))
linked_snoc p gs g k e h =
    subst (λ (t : ℕ). Follow (λ (x : Segment). x.at) (λ (x : Segment). x.end) p (gs ++ (g ∷ [])) t) (sym (end_snoc p gs g))
    (follow_snoc (λ (x : Segment). x.at) (λ (x : Segment). x.end) gs g p (end_of p gs) k e h)

-- ---- a frame's own segments

behind_linked : (g : Segment) (w : Walk) → g.at ≤ g.end → OfWhole (Linked g.end) w → OfWhole (Linked g.at) (behind g w)
behind_linked g w h (is_whole gs k) = is_whole (g ∷ gs) (linked_cons g gs h k)
behind_linked g w h is_short = is_short
behind_linked g w h (is_dead d) = is_dead d

one_linked : (g : Segment) → g.at ≤ g.end → OfWhole (Linked g.at) (whole (g ∷ []))
one_linked g h = is_whole (g ∷ []) (linked_cons g [] h (linked_none g.end))

continuations_linked : (rules : Rules) (s : List ℕ) (q : ℕ) → OfWhole (Linked q) (continuations rules s q)
continuations_linked rules s =
    continuations_by rules s (λ q w. OfWhole (Linked q) w) (λ q. is_short) (λ q l. is_dead q) (λ q l c h. one_linked (continuation q (be16 s q)) (omega arith))
    (λ q w l k. behind_linked (continuation q 32767) w (omega arith) k)

frame_linked : (rules : Rules) (s : List ℕ) (p : ℕ) → OfWhole (Linked p) (frame_walk rules s p)
frame_linked rules s p =
    frame_by rules s (OfWhole (Linked p)) p is_short (λ l h. one_linked (first p (be16 s p)) (omega arith))
    (λ l. behind_linked (first p 32767) _ (omega arith) (continuations_linked rules s (p + 32767)))

-- ---- and those that it absorbs

-- a look absorbs what starts where it looks
abbrev Starts : ℕ → Look → Type 0
Starts q finished = Unit {0}
Starts q (absorbs g c) = g.at ≡ q
Starts q (refuses r) = Unit {0}

starts_refusal : (rules : Rules) (q : ℕ) (r : Refused) → Starts q (refusal rules r)
starts_refusal Reader q r = tt
starts_refusal Salvage q r = tt

starts_at : (rules : Rules) (s : List ℕ) (t : DssType) (extended : Bool) (q : ℕ) (h : Result DssHeader Refused) → Starts q (look_at rules s t extended q h)
starts_at rules s t extended q (Err r) = starts_refusal rules q r
starts_at rules s t extended q (Ok h) =
    pick_by (Starts q) (eqb (be16 s q) 65535) _ _ (λ e. tt)
    (λ e. pick_by (Starts q) h.flags.same_correlation _ _
    (λ e₁. pick_by (Starts q) (follows t h.dss_type) _ _
    (λ e₂. pick_by (Starts q) (leb (be16 s q) (length s - q)) _ _
    (λ e₃. pick_by (Starts q) (ltb (be16 s q) 6) _ _ (λ e₄. starts_refusal rules q _) (λ e₄. pick_by (Starts q) (own_object s q) _ _ (λ e₅. tt) (λ e₅. refl)))
    (λ e₃. tt))
    (λ e₂. tt))
    (λ e₁. tt))

look_starts : (rules : Rules) (s : List ℕ) (t : DssType) (extended : Bool) (q : ℕ) → Starts q (look rules s t extended q)
unfolding look
look_starts rules s t extended q = pick_by (Starts q) (ltb (length s - q) 6) _ _ (λ e. tt) (λ e. starts_at rules s t extended q (head_at s q))

-- ---- a frame that is read

abbrev pub LinkedFrame : ℕ → Frame → Type 0
LinkedFrame p f = Linked p f.segments

absorb_linked : (k : ℕ) (rules : Rules) (s : List ℕ) (p : ℕ) (h : DssHeader) (gs : List Segment) → Linked p gs → OfFrame (LinkedFrame p) (absorb_fuel k rules s p h gs)
unfolding absorb_fuel
absorb_linked zero rules s p h gs l = is_frame _ l
absorb_linked (suc k) rules s p h gs l =
    by_look (look rules s h.dss_type (starts_extended (payload_of s gs)) (end_of p gs)) (look_sound rules s h.dss_type (starts_extended (payload_of s gs)) (end_of p gs))
    (look_starts rules s h.dss_type (starts_extended (payload_of s gs)) (end_of p gs))
    (λ g c e i. absorb_linked k rules s p (with_chained h c) (gs ++ (g ∷ [])) (linked_snoc p gs g l e i))
  where
    by_look : (l : Look) → SoundLook s (end_of p gs) l → Starts (end_of p gs) l
        → ((g : Segment) (c : Bool) → g.at ≡ end_of p gs → g.at ≤ g.end → OfFrame (LinkedFrame p) (absorb_fuel k rules s p (with_chained h c) (gs ++ (g ∷ []))))
        → OfFrame (LinkedFrame p) (behind_frame h gs l (λ h' gs'. absorb_fuel k rules s p h' gs'))
    by_look l₁ finishes e go = is_frame _ l
    by_look l₁ (takes g c t) e go = go g c e (omega arith)
    by_look l₁ (stops r) e go = is_refused r

head_linked : (rules : Rules) (s : List ℕ) (p : ℕ) (gs : List Segment) (h : Result DssHeader Refused) → Linked p gs → OfFrame (LinkedFrame p) (read_head rules s p gs h)
unfolding absorb
head_linked rules s p gs (Err r) k = is_refused r
head_linked rules s p gs (Ok h) k =
    pick_by (OfFrame (LinkedFrame p)) (ltb (be16 s p) 6) _ _ (λ e. is_refused _)
    (λ e. pick_by (OfFrame (LinkedFrame p)) (eqb (be16 s p) 65535) _ _ (λ e₁. is_frame _ k) (λ e₁. absorb_linked (length s) rules s p h gs k))

pub read_linked : (rules : Rules) (s : List ℕ) (p : ℕ) → OfFrame (LinkedFrame p) (read_at rules s p)
unfolding read_at
read_linked rules s p = pick_by (OfFrame (LinkedFrame p)) (leb p (length s)) _ _ (λ e. by_walk (frame_walk rules s p) (frame_linked rules s p)) (λ e. is_refused _)
  where
    by_walk : (w : Walk) → OfWhole (Linked p) w → OfFrame (LinkedFrame p) (read_walk rules s p w)
    by_walk w (is_whole gs k) = head_linked rules s p gs (head_at s p) k
    by_walk w is_short = is_refused _
    by_walk w (is_dead q) = is_refused _

-- ---- the bytes of its payload

module _ (s : List ℕ) where
  -- what comes from a stretch comes from one that starts sooner
  comes_sooner : (b : List ℕ) (p m e : ℕ) → p ≤ m → ComesFrom s m e b → ComesFrom s p e b
  unfolding ComesFrom
  comes_sooner [] p m e h k = omega arith
  comes_sooner (x ∷ xs) p m e h k = record { place = k.place; from = omega (arith, k.from); is = k.is; others = k.others }

  comes_append : (a b : List ℕ) (p m e : ℕ) → ComesFrom s p m a → ComesFrom s m e b → ComesFrom s p e (a ++ b)
  unfolding ComesFrom
  comes_append [] b p m e h k = comes_sooner b p m e h k
  comes_append (x ∷ xs) b p m e h k = record { place = h.place; from = h.from; is = h.is; others = comes_append xs b (h.place + 1) m e h.others k }

  -- so many bytes of the run, from a on
  comes_part : (n p a e : ℕ) → p ≤ a → a + n ≤ length s → a + n ≤ e → ComesFrom s p e (take n (drop a s))
  unfolding ComesFrom
  comes_part zero p a e h k l = omega arith
  comes_part (suc n) p a e h k l =
      subst (λ (x : List ℕ). ComesFrom s p e (take (suc n) x)) (sym (drop-cons s a 0 (omega arith)))
      (record { place = a; from = h; is = refl; others = comes_part n (a + 1) (suc a) e (omega arith) (omega arith) (omega arith) })

  bytes_come : (g : Segment) → g.at ≤ g.end → g.end ≤ length s → ComesFrom s g.at g.end (segment_bytes s g)
  bytes_come g h k =
      let a : ℕ = g.at + g.framing + g.dropped in
      by (leb a g.end)
      (λ t. comes_part (g.end - a) g.at a g.end (omega arith) (omega (arith, leb-true a g.end t)) (omega (arith, leb-true a g.end t)))
      (λ t. let z : 0 ≡ g.end - a = omega (arith, leb-false a g.end t) in
      subst (λ (n : ℕ). ComesFrom s g.at g.end (take n (drop a s))) z (comes_part 0 g.at g.at g.end (omega arith) (omega arith) (omega arith)))

  -- the payload of segments that follow each other comes from the stretch that they take
  pub payload_comes : (gs : List Segment) (p : ℕ) → Linked p gs → end_of p gs ≤ length s → ComesFrom s p (end_of p gs) (payload_of s gs)
  unfolding Follow end_of payload_of ComesFrom
  payload_comes [] p k h = omega arith
  payload_comes (g ∷ gs) p k h =
      let t : g.end ≤ end_of g.end gs = follow_on (λ (x : Segment). x.at) (λ (x : Segment). x.end) gs g.end (end_of g.end gs) k.2 in
      comes_append (segment_bytes s g) (payload_of s gs) p g.end (end_of g.end gs)
      (comes_sooner (segment_bytes s g) p g.at g.end (omega (arith, k.0)) (bytes_come g k.1 (omega arith)))
      (payload_comes gs g.end k.2 h)

-- "every byte of a frame's payload" comes from where it stood
pub read_comes : (rules : Rules) (s : List ℕ) (p : ℕ) → OfFrame (λ (f : Frame). ComesFrom s p (end_of p f.segments) (payload_of s f.segments)) (read_at rules s p)
read_comes rules s p = both (read_at rules s p) (read_linked rules s p) (read_past rules s p)
  where
    both : (r : Read) → OfFrame (LinkedFrame p) r → OfFrame (Past s p (p + 6)) r → OfFrame (λ (f : Frame). ComesFrom s p (end_of p f.segments) (payload_of s f.segments)) r
    both r (is_frame f k) (is_frame f₁ l) = is_frame f (payload_comes s f.segments p k l.1)
    both r (is_refused x) l = is_refused x
