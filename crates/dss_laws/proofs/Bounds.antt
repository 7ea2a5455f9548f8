-- A frame that is read takes six bytes at least and ends inside the run: what a salvage reading's count and cover rest on.
use Rattle.std.specs.Prelude.{Result, Ok, Err}
use Prim.Native.Nat.{ℕ, zero, suc, ◌+◌, ◌-◌, ◌≤◌}
use native.Mathlib.Omega.{arith}
use mathlib.Core.Bool.{Bool}
use mathlib.Core.List.{List, [], ◌∷◌, ◌++◌}
use lib.Dec.{ltb, leb, eqb}
use lib.ListN.{length}
use borrow.Author.Tests.{ltb-false}
use Rattle.wire.specs.Bytes.{be16}
use Rattle.wire.proofs.WireLaws.{pick_by}
use Rattle.answer.specs.declared.Refused.{Refused}
use Rattle.dss_head.specs.Heads.{head_at}
use Rattle.dss_head.specs.declared.DssHeader.{DssHeader}
use Rattle.dss_frame.specs.declared.Rules.{Rules}
use Rattle.dss_frame.specs.Segments.{Segment, Walk, whole, short, dead, behind, continuation, first, continuations, frame_walk, payload_of, end_of}
use Rattle.dss_frame.specs.Reading.{Look, look, Read, frame, refused, Frame, with_chained, behind_frame, absorb, absorb_fuel, read_head, read_walk, read_at, starts_extended}
use Rattle.dss_laws.proofs.Ends.{end_snoc}
use Rattle.dss_laws.proofs.WalkCases.{continuations_by, frame_by}
use Rattle.dss_laws.proofs.Looking.{SoundLook, finishes, takes, stops, TakenLook, look_sound}

-- what holds of the segments of a walk, if it is whole
pub data OfWhole (P : List Segment → Type 0) : Walk → Type 0 where
  is_whole : (gs : List Segment) → P gs → OfWhole P (whole gs)
  is_short : OfWhole P short
  is_dead : (q : ℕ) → OfWhole P (dead q)

abbrev pub Between : ℕ → ℕ → ℕ → Type 0
Between a b n = (a ≤ n) × (n ≤ b)

-- a list of segments ends at q or later and inside the run, wherever it starts
abbrev Reaches : List ℕ → ℕ → List Segment → Type 0
Reaches s q gs = (x : ℕ) → Between q (length s) (end_of x gs)

reaches_behind : (s : List ℕ) (q r : ℕ) (g : Segment) (w : Walk) → q ≤ r → OfWhole (Reaches s r) w → OfWhole (Reaches s q) (behind g w)
unfolding end_of
reaches_behind s q r g w l (is_whole gs k) = is_whole (g ∷ gs) (λ x. omega (arith, k g.end))
reaches_behind s q r g w l is_short = is_short
reaches_behind s q r g w l (is_dead d) = is_dead d

reaches_one : (s : List ℕ) (q n : ℕ) → q + n ≤ length s → Reaches s q (continuation q n ∷ [])
unfolding end_of
reaches_one s q n h x = omega arith

continuations_reach : (rules : Rules) (s : List ℕ) (q : ℕ) → OfWhole (Reaches s q) (continuations rules s q)
continuations_reach rules s =
    continuations_by rules s (λ q w. OfWhole (Reaches s q) w) (λ q. is_short) (λ q l. is_dead q) (λ q l c h. is_whole _ (reaches_one s q (be16 s q) (omega arith)))
    (λ q w l k. reaches_behind s q (q + 32767) (continuation q 32767) w (omega arith) k)

-- a frame's walk takes six bytes, if its length says so, and ends inside the run
abbrev pub Six : List ℕ → ℕ → List Segment → Type 0
Six s p gs = (6 ≤ be16 s p → p + 6 ≤ end_of p gs) × (end_of p gs ≤ length s)

six_one : (s : List ℕ) (p : ℕ) → 6 ≤ length s - p → be16 s p ≤ length s - p → Six s p (first p (be16 s p) ∷ [])
unfolding end_of
six_one s p l h = omega arith

six_behind : (s : List ℕ) (p : ℕ) (w : Walk) → OfWhole (Reaches s (p + 32767)) w → OfWhole (Six s p) (behind (first p 32767) w)
unfolding end_of
six_behind s p w (is_whole gs k) = is_whole (first p 32767 ∷ gs) ((λ h. omega (arith, k (p + 32767))), (k (p + 32767)).1)
six_behind s p w is_short = is_short
six_behind s p w (is_dead d) = is_dead d

pub walk_six : (rules : Rules) (s : List ℕ) (p : ℕ) → OfWhole (Six s p) (frame_walk rules s p)
walk_six rules s p =
    frame_by rules s (OfWhole (Six s p)) p is_short (λ l h. is_whole _ (six_one s p l h)) (λ l. six_behind s p _ (continuations_reach rules s (p + 32767)))

-- what holds of a frame, if one is read
pub data OfFrame (P : Frame → Type 0) : Read → Type 0 where
  is_frame : (f : Frame) → P f → OfFrame P (frame f)
  is_refused : (r : Refused) → OfFrame P (refused r)

-- a frame ends at q or later, and inside the run
abbrev pub Past : List ℕ → ℕ → ℕ → Frame → Type 0
Past s p q f = Between q (length s) (end_of p f.segments)

absorb_past : (k : ℕ) (rules : Rules) (s : List ℕ) (p q : ℕ) (h : DssHeader) (gs : List Segment) → Between q (length s) (end_of p gs)
    → OfFrame (Past s p q) (absorb_fuel k rules s p h gs)
unfolding absorb_fuel
absorb_past zero rules s p q h gs l = is_frame _ l
absorb_past (suc k) rules s p q h gs l =
    by_look (look rules s h.dss_type (starts_extended (payload_of s gs)) (end_of p gs)) (look_sound rules s h.dss_type (starts_extended (payload_of s gs)) (end_of p gs))
    (λ g c t. absorb_past k rules s p q (with_chained h c) (gs ++ (g ∷ [])) (rw end_snoc (omega arith)))
  where
    by_look : (l : Look) → SoundLook s (end_of p gs) l
        → ((g : Segment) (c : Bool) → TakenLook s (end_of p gs) g → OfFrame (Past s p q) (absorb_fuel k rules s p (with_chained h c) (gs ++ (g ∷ []))))
        → OfFrame (Past s p q) (behind_frame h gs l (λ h' gs'. absorb_fuel k rules s p h' gs'))
    by_look l₁ finishes go = is_frame _ l
    by_look l₁ (takes g c t) go = go g c t
    by_look l₁ (stops r) go = is_refused r

head_past : (rules : Rules) (s : List ℕ) (p : ℕ) (gs : List Segment) (h : Result DssHeader Refused) → Six s p gs → OfFrame (Past s p (p + 6)) (read_head rules s p gs h)
unfolding absorb
head_past rules s p gs (Err r) k = is_refused r
head_past rules s p gs (Ok h) k =
    pick_by (OfFrame (Past s p (p + 6))) (ltb (be16 s p) 6) _ _ (λ e. is_refused _)
    (λ e. pick_by (OfFrame (Past s p (p + 6))) (eqb (be16 s p) 65535) _ _ (λ e₁. is_frame _ (k.0 (ltb-false _ _ e), k.1))
    (λ e₁. absorb_past (length s) rules s p (p + 6) h gs (k.0 (ltb-false _ _ e), k.1)))

-- a frame that is read ends six bytes on at least, and inside the run
pub read_past : (rules : Rules) (s : List ℕ) (p : ℕ) → OfFrame (Past s p (p + 6)) (read_at rules s p)
unfolding read_at
read_past rules s p = pick_by (OfFrame (Past s p (p + 6))) (leb p (length s)) _ _ (λ e. by_walk (frame_walk rules s p) (walk_six rules s p)) (λ e. is_refused _)
  where
    by_walk : (w : Walk) → OfWhole (Six s p) w → OfFrame (Past s p (p + 6)) (read_walk rules s p w)
    by_walk w (is_whole gs k) = head_past rules s p gs (head_at s p) k
    by_walk w is_short = is_refused _
    by_walk w (is_dead q) = is_refused _
