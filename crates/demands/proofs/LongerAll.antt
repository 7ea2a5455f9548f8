-- Where all frames are read, a refusal stays over a longer run: a frame before the refused head is settled, for behind an
-- unsettled one no frame is whole, and there the reading ends and refuses nothing.
use Prim.Native.Nat.{ℕ, zero, suc, ◌+◌, ◌≤◌}
use native.Mathlib.Omega.{arith}
use mathlib.Core.Path.{◌≡◌, refl, sym, ap, subst, ◌∙◌}
use mathlib.Core.Logic.{inl, inr}
use mathlib.Core.Bool.{false}
use mathlib.Core.List.{List, [], ◌∷◌, ◌++◌}
use lib.Dec.{eqb}
use lib.ListN.{length}
use borrow.Author.Tests.{le-leb}
use Rattle.wire.specs.Bytes.{or}
use Rattle.wire.proofs.WireLaws.{picked, pick_yes, pick_no}
use Rattle.answer.specs.Numbers.{not_whole}
use Rattle.answer.specs.declared.Refusal.TheVariants.{Incomplete}
use Rattle.answer.specs.declared.Refused.{Refused}
use Rattle.dss_head.specs.declared.DssType.{DssType}
use Rattle.dss_frame.specs.declared.Rules.TheVariants.{Reader}
use Rattle.dss_frame.specs.Segments.{end_of}
use Rattle.dss_frame.specs.Reading.{Read, frame, refused, Frame, read_walk, read_at}
use Rattle.dss_frame.specs.Frames.{AllRead, frames, refused_all, before, and_on, frames_fuel, all_frames}
use Rattle.demands.specs.Longer.{Unsettled, AllRefusalsStay}
use Rattle.dss_laws.proofs.Bounds.{OfFrame, is_frame, is_refused, Past, read_past}
use Rattle.dss_laws.proofs.FramesLaws.{frames_more, frames_refused}
use Rattle.demands.proofs.LongerLooks.{unsettled_short}
use Rattle.demands.proofs.Longer.{head_refuses, Becomes, same_refusal, same_frame, open_frame, not_whole_lem, read_becomes}

pub frames_refusal : (fs : List Frame) (q : ℕ) (r : Refused) → frames fs q ≡ refused_all r → ⊥
frames_refusal fs q r e = let z : ◌≡◌ {A = ℕ} 0 1 = cc in omega arith

-- a refusal behind a frame is one of the rest
pub rest_refused : (f : Frame) (x : AllRead) (r : Refused) → before f x ≡ refused_all r → x ≡ refused_all r
rest_refused f (frames fs q) r e = absurd (frames_refusal (f ∷ fs) q r e)
rest_refused f (refused_all x) r e = e

-- a refusal of the call is never 1 or 16, at which the reading ends
final_fuel : (k : ℕ) (s : List ℕ) (p : ℕ) (r : Refused) → frames_fuel k s p ≡ refused_all r → not_whole r.why ≡ false
unfolding frames_fuel
final_fuel zero s p r e = absurd (frames_refusal [] p r e)
final_fuel (suc k) s p r e = go (read_at Reader s p) e (λ q. final_fuel k s q r)
  where
    go : (x : Read) → and_on p x (λ q. frames_fuel k s q) ≡ refused_all r → ((q : ℕ) → frames_fuel k s q ≡ refused_all r → not_whole r.why ≡ false) → not_whole r.why ≡ false
    go (frame f) i more = more (end_of p f.segments) (rest_refused f (frames_fuel k s (end_of p f.segments)) r i)
    go (refused y) i more =
        picked (not_whole y.why) i (λ t j. absurd (frames_refusal [] p r j))
        (λ t j. let z : y ≡ r = cc in subst (λ (w : Refused). not_whole w.why ≡ false) z t)

pub all_final : (s : List ℕ) (p : ℕ) (r : Refused) → all_frames s p ≡ refused_all r → not_whole r.why ≡ false
unfolding all_frames
all_final s p r e = final_fuel (suc (length s)) s p r e

past : (s : List ℕ) (p : ℕ) (f : Frame) (x : Read) → OfFrame (Past s p (p + 6)) x → x ≡ frame f → end_of p f.segments ≤ length s
past s p f x (is_frame g k) e = let z : g ≡ f = cc in subst (λ (h : Frame). end_of p h.segments ≤ length s) z k.1
past s p f x (is_refused r) e = absurd (let z : ◌≡◌ {A = ℕ} 0 1 = cc in omega arith)

-- behind an unsettled frame the reading ends
unsettled_read : (s : List ℕ) (type : DssType) (q : ℕ) → q ≤ length s → Unsettled s type q → read_at Reader s q ≡ refused (record { why = Incomplete; place = q })
unfolding read_at
unsettled_read s type q i u = pick_yes _ _ (le-leb q (length s) i) ∙ ap (read_walk Reader s q) (unsettled_short Reader s type q u)

ends : (k : ℕ) (s : List ℕ) (q : ℕ) → read_at Reader s q ≡ refused (record { why = Incomplete; place = q }) → frames_fuel k s q ≡ frames [] q
unfolding frames_fuel
ends zero s q e = refl
ends (suc k) s q e = ap (λ (x : Read). and_on q x (λ r. frames_fuel k s r)) e

stay : (k : ℕ) (s t : List ℕ) (p : ℕ) (r : Refused) → p ≤ length s → frames_fuel k s p ≡ refused_all r → all_frames (s ++ t) p ≡ refused_all r
unfolding frames_fuel
stay zero s t p r i e = absurd (frames_refusal [] p r e)
stay (suc k) s t p r i e =
    go (read_at Reader s p) (read_at Reader (s ++ t) p) (read_becomes Reader s t p i) (λ f j. past s p f (read_at Reader s p) (read_past Reader s p) j) refl e
    (λ q j h. stay k s t q r j h)
  where
    go : (x y : Read) → Becomes Reader s t p x y → ((f : Frame) → x ≡ frame f → end_of p f.segments ≤ length s) → read_at Reader (s ++ t) p ≡ y
        → and_on p x (λ q. frames_fuel k s q) ≡ refused_all r → ((q : ℕ) → q ≤ length s → frames_fuel k s q ≡ refused_all r → all_frames (s ++ t) q ≡ refused_all r)
        → all_frames (s ++ t) p ≡ refused_all r
    go x y (same_refusal r₁ (inl n)) in_run reads is more = absurd (frames_refusal [] p r (sym (pick_yes _ _ (ap (λ (k : ℕ). or (eqb k 1) (eqb k 16)) n)) ∙ is))
    go x y (same_refusal r₁ (inr n)) in_run reads is more =
        frames_refused (s ++ t) p r₁ reads (head_refuses r₁ n) ∙ sym (pick_no _ _ (head_refuses r₁ n)) ∙ is
    go x y (same_frame f b) in_run reads is more =
        let q : ℕ = end_of p f.segments in
        frames_more (s ++ t) p f reads ∙ ap (before f) (more q (in_run f refl) (rest_refused f (frames_fuel k s q) r is))
    go x y (open_frame f z ne u b w) in_run reads is more =
        let q : ℕ = end_of p f.segments in
        absurd (frames_refusal (f ∷ []) q r (sym (ap (before f) (ends k s q (unsettled_read s f.head.dss_type q (in_run f refl) u))) ∙ is))
    go x y (not_whole_lem z) in_run reads is more = absurd (frames_refusal [] p r is)

pub all_refusals_stay : AllRefusalsStay all_frames
unfolding all_frames
all_refusals_stay s t p r i e = stay (suc (length s)) s t p r i e
