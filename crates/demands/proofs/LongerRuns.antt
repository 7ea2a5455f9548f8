-- What stands inside a run stands there over a longer run too: parts, payloads, heads, and the walk over a frame's segments.
use Rattle.std.specs.Prelude.{Result, Ok, Err}
use Prim.Native.Nat.{ℕ, zero, suc, ◌+◌, ◌-◌, ◌/◌, ◌≤◌, ◌<◌}
use native.Mathlib.Omega.{arith}
use native.Mathlib.Decide.{dec_le}
use mathlib.Core.Path.{◌≡◌, refl, sym, ap, ap₂, subst, ◌∙◌}
use mathlib.Core.Logic.{inl, inr}
use mathlib.Core.Bool.{Bool, true, false}
use mathlib.Core.List.{List, [], ◌∷◌, ◌++◌, append-nil}
use lib.Dec.{ltb, leb, eqb}
use lib.ListN.{length, get_or, take, drop, length-append, length-drop}
use lib.Seq.{drop-append-le}
use borrow.Author.Tests.{ltb-true, ltb-false, leb-true, le-ltb, lt-ltb, le-leb}
use Rattle.wire.specs.Bytes.{pick, be16, part}
use Rattle.wire.proofs.WireLaws.{pick_by, pick_yes, pick_no, be16_front, part_front}
use Rattle.answer.specs.declared.Refused.{Refused}
use Rattle.dss_head.specs.Heads.{head_at, head_with, type_at}
use Rattle.dss_head.proofs.TypeLaws.{type_by}
use Rattle.dss_head.specs.declared.Chunk.{Chunk}
use Rattle.dss_head.specs.declared.Chunk.TheVariants.{Dead, Last, Full}
use Rattle.dss_head.specs.declared.DssHeader.{DssHeader}
use Rattle.dss_frame.specs.Rules.{chunk_under}
use Rattle.dss_frame.specs.declared.Rules.{Rules}
use Rattle.dss_frame.specs.Segments.{Segment, payload_of, Walk, whole, short, dead, behind, continuation, first, step, walk_fuel, continuations, frame_walk}
use Rattle.demands.specs.Longer.{OfHead}
use Rattle.dss_laws.proofs.Ends.{payload_append}
use Rattle.dss_laws.proofs.HeadFields.{head_moved}
use Rattle.dss_laws.proofs.Continuations.{continuations_step}
use Rattle.dss_head.specs.declared.DssType.{DssType}

-- ---- two choices, related where each test picks

-- by tests that say the same
pub picks : {X : Type 0} (R : X → X → Type 0) (a b : Bool) {x x' y y' : X} → a ≡ b → (a ≡ true → R x x') → (a ≡ false → R y y') → R (pick a x y) (pick b x' y')
picks R true b {x} {x'} {y} {y'} e f g = subst (λ (c : Bool). R x (pick c x' y')) e (f refl)
picks R false b {x} {x'} {y} {y'} e f g = subst (λ (c : Bool). R y (pick c x' y')) e (g refl)

-- by a test that may come to hold
pub picks_later : {X : Type 0} (R : X → X → Type 0) (a b : Bool) {x x' y : X} → (a ≡ true → b ≡ true) → (a ≡ true → R x x') → (a ≡ false → (z : X) → R y z) → R (pick a x y) (pick b x' y)
picks_later R true b {x} {x'} {y} e f g = subst (λ (c : Bool). R x (pick c x' y)) (sym (e refl)) (f refl)
picks_later R false b {x} {x'} {y} e f g = g refl (pick b x' y)

-- what fits from q on fits in the longer run
pub fits_longer : (s t : List ℕ) (m n q : ℕ) → m ≡ n → leb n (length s - q) ≡ true → leb m (length (s ++ t) - q) ≡ true
fits_longer s t m n q k e = le-leb m (length (s ++ t) - q) (omega (arith, leb-true n (length s - q) e, length-append s t))

-- ---- parts and payloads

part_longer : (s t : List ℕ) (a e : ℕ) → e ≤ length s → part (s ++ t) a e ≡ part s a e
part_longer s t a e h =
    elim (dec_le a e) [
      | yes k ↦ part_front s t a (e - a) (omega arith)
      | no k ↦ let z : e - a ≡ 0 = omega arith in ap (λ (n : ℕ). take n (drop a (s ++ t))) z ∙ sym (ap (λ (n : ℕ). take n (drop a s)) z)
    ]

-- segments hold the same bytes over the longer run
abbrev pub SameBytes : List ℕ → List ℕ → List Segment → Type 0
SameBytes s t gs = payload_of (s ++ t) gs ≡ payload_of s gs

same_cons : (s t : List ℕ) (g : Segment) (gs : List Segment) → g.end ≤ length s → SameBytes s t gs → SameBytes s t (g ∷ gs)
unfolding payload_of
same_cons s t g gs h e = ap₂ (λ (x y : List ℕ). x ++ y) (part_longer s t (g.at + g.framing + g.dropped) g.end h) e

same_one : (s t : List ℕ) (g : Segment) → g.end ≤ length s → SameBytes s t (g ∷ [])
unfolding payload_of
same_one s t g h = same_cons s t g [] h refl

pub same_snoc : (s t : List ℕ) (gs : List Segment) (g : Segment) → g.end ≤ length s → SameBytes s t gs → SameBytes s t (gs ++ (g ∷ []))
same_snoc s t gs g h e =
    payload_append (s ++ t) gs (g ∷ []) ∙ ap₂ (λ (x y : List ℕ). x ++ y) e (same_one s t g h) ∙ sym (payload_append s gs (g ∷ []))

-- ---- heads

pub head_longer : (s t : List ℕ) (q : ℕ) → 6 ≤ length s - q → head_at (s ++ t) q ≡ head_at s q
head_longer s t q h =
    let l : 6 ≤ length (drop q s) = omega (arith, length-drop q s) in
    head_moved (s ++ t) (drop q s) t q (drop-append-le q s t (omega arith)) l ∙ sym (head_moved s (drop q s) [] q (sym (append-nil (drop q s))) l)

-- where six bytes are, a head is found, or refused there
pub data HeadSays (q : ℕ) : Result DssHeader Refused → Type 0 where
  finds : (h : DssHeader) → HeadSays q (Ok h)
  refuses_head : (r : Refused) → OfHead r → r.place ≡ q → HeadSays q (Err r)

type_says : (s : List ℕ) (q b : ℕ) → HeadSays q (head_with s q (type_at b q))
type_says s q b =
    type_by (λ (x : Result DssType Refused). HeadSays q (head_with s q x)) b q (λ t _. finds _) (λ _. refuses_head _ (inr (inl refl)) refl)

pub head_says : (s : List ℕ) (q : ℕ) → 6 ≤ length s - q → HeadSays q (head_at s q)
head_says s q l =
    pick_by (HeadSays q) (ltb (length s - q) 6) _ _ (λ e. absurd (omega (arith, ltb-true (length s - q) 6 e)))
    (λ e. pick_by (HeadSays q) (eqb (get_or s (q + 2) 0) 0xD0) _ _ (λ e₁. type_says s q (get_or s (q + 3) 0)) (λ e₁. refuses_head _ (inl refl) refl))

-- ---- walks

-- fewer than six bytes are left
pub walk_few : (rules : Rules) (s : List ℕ) (p : ℕ) → length s - p < 6 → frame_walk rules s p ≡ short
unfolding frame_walk
walk_few rules s p h = pick_yes _ _ (lt-ltb (length s - p) 6 h)

-- a walk that is short may come to anything; any other stays, and its segments hold the same bytes
pub data Stays (s t : List ℕ) : Walk → Walk → Type 0 where
  stays_whole : (gs : List Segment) → SameBytes s t gs → Stays s t (whole gs) (whole gs)
  stays_dead : (q : ℕ) → Stays s t (dead q) (dead q)
  was_short : (w : Walk) → Stays s t short w

stays_behind : (s t : List ℕ) (g : Segment) (v w : Walk) → g.end ≤ length s → Stays s t v w → Stays s t (behind g v) (behind g w)
stays_behind s t g v w h (stays_whole gs e) = stays_whole (g ∷ gs) (same_cons s t g gs h e)
stays_behind s t g v w h (stays_dead q) = stays_dead q
stays_behind s t g v w h (was_short x) = was_short (behind g x)

walk_stays : (f : ℕ) (rules : Rules) (s t : List ℕ) (q : ℕ) → Stays s t (walk_fuel f rules s q) (continuations rules (s ++ t) q)
unfolding walk_fuel
walk_stays zero rules s t q = was_short _
walk_stays (suc f) rules s t q =
    pick_by (λ (w : Walk). Stays s t w (continuations rules (s ++ t) q)) (ltb (length s - q) 2) _ _ (λ e. was_short _)
    (λ e. let l : 2 ≤ length s - q = ltb-false _ _ e in
    let raw : be16 (s ++ t) q ≡ be16 s q = be16_front s t q (omega arith) in
    subst (Stays s t (step s q (chunk_under rules (be16 s q)) (λ r. walk_fuel f rules s r)))
    (sym (continuations_step rules (s ++ t) q (omega (arith, length-append s t)) ∙ ap (λ (n : ℕ). step (s ++ t) q (chunk_under rules n) (continuations rules (s ++ t))) raw))
    (by_chunk (chunk_under rules (be16 s q)) l raw (walk_stays f rules s t (q + 32767))))
  where
    by_chunk : (c : Chunk) → 2 ≤ length s - q → be16 (s ++ t) q ≡ be16 s q → Stays s t (walk_fuel f rules s (q + 32767)) (continuations rules (s ++ t) (q + 32767))
        → Stays s t (step s q c (λ r. walk_fuel f rules s r)) (step (s ++ t) q c (continuations rules (s ++ t)))
    by_chunk Dead l raw k = stays_dead q
    by_chunk Last l raw k =
        picks_later (Stays s t) (leb (be16 s q) (length s - q)) (leb (be16 (s ++ t) q) (length (s ++ t) - q))
        (fits_longer s t (be16 (s ++ t) q) (be16 s q) q raw)
        (λ e. subst (λ (n : ℕ). Stays s t (whole (continuation q (be16 s q) ∷ [])) (whole (continuation q n ∷ []))) (sym raw)
        (stays_whole _ (same_one s t (continuation q (be16 s q)) (omega (arith, leb-true (be16 s q) (length s - q) e)))))
        (λ e. was_short)
    by_chunk Full l raw k =
        picks_later (Stays s t) (leb 32767 (length s - q)) (leb 32767 (length (s ++ t) - q))
        (fits_longer s t 32767 32767 q refl)
        (λ e. stays_behind s t (continuation q 32767) _ _ (omega (arith, leb-true 32767 (length s - q) e)) k)
        (λ e. was_short)

pub frame_stays : (rules : Rules) (s t : List ℕ) (p : ℕ) → Stays s t (frame_walk rules s p) (frame_walk rules (s ++ t) p)
unfolding frame_walk continuations
frame_stays rules s t p =
    pick_by (λ (w : Walk). Stays s t w (frame_walk rules (s ++ t) p)) (ltb (length s - p) 6) _ _ (λ e. was_short _)
    (λ e. let l : 6 ≤ length s - p = ltb-false _ _ e in
    let raw : be16 (s ++ t) p ≡ be16 s p = be16_front s t p (omega arith) in
    subst (Stays s t _) (sym (pick_no _ _ (le-ltb (length (s ++ t) - p) 6 (omega (arith, length-append s t)))))
    (picks (Stays s t) (eqb (be16 s p) 65535) (eqb (be16 (s ++ t) p) 65535) (ap (λ (n : ℕ). eqb n 65535) (sym raw))
    (λ e₁. picks_later (Stays s t) (leb 32767 (length s - p)) (leb 32767 (length (s ++ t) - p))
    (fits_longer s t 32767 32767 p refl)
    (λ e₂. stays_behind s t (first p 32767) _ _ (omega (arith, leb-true 32767 (length s - p) e₂)) (walk_stays (suc ((length s - (p + 32767)) / 32767)) rules s t (p + 32767)))
    (λ e₂. was_short))
    (λ e₁. picks_later (Stays s t) (leb (be16 s p) (length s - p)) (leb (be16 (s ++ t) p) (length (s ++ t) - p))
    (fits_longer s t (be16 (s ++ t) p) (be16 s p) p raw)
    (λ e₂. subst (λ (n : ℕ). Stays s t (whole (first p (be16 s p) ∷ [])) (whole (first p n ∷ []))) (sym raw)
    (stays_whole _ (same_one s t (first p (be16 s p)) (omega (arith, leb-true (be16 s p) (length s - p) e₂)))))
    (λ e₂. was_short))))
