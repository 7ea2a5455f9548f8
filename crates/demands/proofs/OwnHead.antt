-- W-208: under salvage's rules no head is refused but the frame's own, so that every refusal leaves the position where it was.
use Rattle.std.specs.Prelude.{Result, Ok, Err}
use Prim.Native.Nat.{ℕ, zero, suc, ◌-◌}
use mathlib.Core.Path.{◌≡◌, refl, sym, subst}
use mathlib.Core.Bool.{Bool}
use mathlib.Core.List.{List}
use lib.Dec.{ltb, leb, eqb}
use lib.ListN.{length, drop}
use Rattle.wire.specs.Bytes.{be16}
use Rattle.wire.proofs.WireLaws.{by, pick_yes, pick_no, pick_by}
use Rattle.answer.specs.Numbers.{number_of}
use Rattle.answer.specs.declared.Refusal.{Refusal}
use Rattle.answer.specs.declared.Refusal.TheVariants.{Incomplete, LengthTooShort, OutOfBounds}
use Rattle.answer.specs.declared.Refused.{Refused}
use Rattle.dss_head.specs.Heads.{head_at}
use Rattle.dss_head.proofs.HeadLaws.{moved_to, head_placed}
use Rattle.dss_head.specs.declared.DssType.{DssType}
use Rattle.dss_head.specs.declared.DssHeader.{DssHeader}
use Rattle.dss_frame.specs.declared.Rules.TheVariants.{Salvage}
use Rattle.dss_frame.specs.Segments.{Segment, Walk, whole, short, dead, payload_of, end_of, frame_walk}
use Rattle.dss_frame.specs.Reading.{Look, finished, absorbs, refuses, look, look_at, follows, own_object, starts_extended, Read, frame, refused, behind_frame, absorb_fuel, absorb, read_head, read_walk, read_at, position_left}
use Rattle.dss_measure.specs.Measure.{measured_at}
use Rattle.dss_measure.proofs.Measures.{measured_not}

-- a refusal leaves the position at p
abbrev Stays : ℕ → Read → Type 0
Stays p (frame f) = Unit
Stays p (refused r) = position_left p r ≡ p

at_place : (p : ℕ) (y : Refusal) → position_left p (record { why = y; place = p }) ≡ p
at_place p y = by (eqb (number_of y) 16) (λ t. pick_yes _ _ t) (λ t. pick_no _ _ t)

-- ---- a look refuses nothing

abbrev Quiet : Look → Type 0
Quiet finished = Unit
Quiet (absorbs g c) = Unit
Quiet (refuses r) = ⊥

quiet_at : (s : List ℕ) (t : DssType) (x : Bool) (q : ℕ) (f : Result DssHeader Refused) → Quiet (look_at Salvage s t x q f)
quiet_at s t x q (Err r) = tt
quiet_at s t x q (Ok h) =
    pick_by Quiet (eqb (be16 s q) 65535) _ _ (λ _. tt)
    (λ _. pick_by Quiet h.flags.same_correlation _ _
    (λ _. pick_by Quiet (follows t h.dss_type) _ _
    (λ _. pick_by Quiet (leb (be16 s q) (length s - q)) _ _
    (λ _. pick_by Quiet (ltb (be16 s q) 6) _ _ (λ _. tt) (λ _. pick_by Quiet (own_object s q) _ _ (λ _. tt) (λ _. tt)))
    (λ _. tt))
    (λ _. tt))
    (λ _. tt))

quiet : (s : List ℕ) (t : DssType) (x : Bool) (q : ℕ) → Quiet (look Salvage s t x q)
unfolding look
quiet s t x q = pick_by Quiet (ltb (length s - q) 6) _ _ (λ _. tt) (λ _. quiet_at s t x q (head_at s q))

-- so what is absorbed is a frame
absorb_stays : (k : ℕ) (s : List ℕ) (p : ℕ) (h : DssHeader) (gs : List Segment) → Stays p (absorb_fuel k Salvage s p h gs)
unfolding absorb_fuel
absorb_stays zero s p h gs = tt
absorb_stays (suc k) s p h gs =
    by_look (look Salvage s h.dss_type (starts_extended (payload_of s gs)) (end_of p gs)) (quiet s h.dss_type (starts_extended (payload_of s gs)) (end_of p gs))
    (λ h' gs'. absorb_stays k s p h' gs')
  where
    by_look : (l : Look) → Quiet l → ((h' : DssHeader) (gs' : List Segment) → Stays p (absorb_fuel k Salvage s p h' gs')) → Stays p (behind_frame h gs l (λ h' gs'. absorb_fuel k Salvage s p h' gs'))
    by_look finished w go = tt
    by_look (absorbs g c) w go = go _ _
    by_look (refuses r) w go = absurd w

-- ---- the frame's own head is at p

head_stays : (s : List ℕ) (p : ℕ) (gs : List Segment) (f : Result DssHeader Refused) → Stays p (read_head Salvage s p gs (moved_to p f))
unfolding absorb
head_stays s p gs (Err r) = at_place p r.why
head_stays s p gs (Ok h) =
    pick_by (Stays p) (ltb (be16 s p) 6) _ _ (λ _. at_place p (LengthTooShort (be16 s p)))
    (λ _. pick_by (Stays p) (eqb (be16 s p) 65535) _ _ (λ _. tt) (λ _. absorb_stays (length s) s p h gs))

read_stays : (s : List ℕ) (p : ℕ) → Stays p (read_at Salvage s p)
unfolding read_at
read_stays s p = pick_by (Stays p) (leb p (length s)) _ _ (λ _. by_walk (frame_walk Salvage s p)) (λ _. at_place p (OutOfBounds p (length s)))
  where
    by_walk : (w : Walk) → Stays p (read_walk Salvage s p w)
    by_walk short = at_place p Incomplete
    by_walk (dead q) = refl
    by_walk (whole gs) = subst (λ (f : Result DssHeader Refused). Stays p (read_head Salvage s p gs f)) (sym (head_placed s p)) (head_stays s p gs (head_at (drop p s) 0))

pub own_head : (s : List ℕ) (p : ℕ) (why : Refused) → measured_at Salvage s p ≡ Err why → position_left p why ≡ p
own_head s p why e = subst (Stays p) (measured_not Salvage s p why e) (read_stays s p)
