-- The equations of the reading of all frames, with the count gone.
use Prim.Native.Nat.{ℕ, zero, suc, ◌+◌, ◌-◌, ◌≤◌, ◌<◌}
use native.Mathlib.Omega.{arith}
use mathlib.Core.Path.{◌≡◌, refl, sym, ap, ◌∙◌}
use mathlib.Core.Bool.{true, false}
use mathlib.Core.List.{List, []}
use lib.ListN.{length}
use borrow.Author.Tests.{lt-ltb, le-leb}
use Rattle.wire.proofs.WireLaws.{pick_yes, pick_no}
use Rattle.answer.specs.Numbers.{not_whole}
use Rattle.answer.specs.declared.Refusal.TheVariants.{Incomplete}
use Rattle.answer.specs.declared.Refused.{Refused}
use Rattle.dss_frame.specs.declared.Rules.TheVariants.{Reader}
use Rattle.dss_frame.specs.Segments.{end_of, frame_walk}
use Rattle.dss_frame.specs.Reading.{Frame, Read, frame, refused, read_walk, read_at}
use Rattle.dss_frame.specs.Frames.{AllRead, frames, refused_all, before, and_on, frames_fuel, all_frames}
use Rattle.dss_laws.proofs.Bounds.{OfFrame, is_frame, is_refused, Past, read_past}

-- at a place inside the run with fewer than six bytes left, a frame isn't whole
short_read : (s : List ℕ) (p : ℕ) → p ≤ length s → length s - p < 6 → read_at Reader s p ≡ refused (record { why = Incomplete; place = p })
unfolding read_at frame_walk
short_read s p i h = pick_yes _ _ (le-leb p (length s) i) ∙ ap (read_walk Reader s p) (pick_yes _ _ (lt-ltb (length s - p) 6 h))

same_step : (s : List ℕ) (p : ℕ) (r : Read) (more less : ℕ → AllRead) → OfFrame (Past s p (p + 6)) r
    → ((q : ℕ) → p + 6 ≤ q → q ≤ length s → more q ≡ less q) → and_on p r more ≡ and_on p r less
same_step s p r more less (is_frame f l) h = ap (before f) (h (end_of p f.segments) l.0 l.1)
same_step s p r more less (is_refused x) h = refl

ended : (f : ℕ) (s : List ℕ) (p : ℕ) → p ≤ length s → length s - p < 6 → frames_fuel f s p ≡ frames [] p
unfolding frames_fuel
ended zero s p i h = refl
ended (suc f) s p i h = ap (λ (r : Read). and_on p r (λ q. frames_fuel f s q)) (short_read s p i h)

-- fuel that suffices is as good as any other that does
enough : (f g : ℕ) (s : List ℕ) (p : ℕ) → p ≤ length s → length s - p ≤ f → length s - p ≤ g → frames_fuel f s p ≡ frames_fuel g s p
unfolding frames_fuel
enough zero g s p i h k = sym (ended g s p i (omega arith))
enough (suc f) zero s p i h k = ended (suc f) s p i (omega arith)
enough (suc f) (suc g) s p i h k =
    same_step s p (read_at Reader s p) (λ q. frames_fuel f s q) (λ q. frames_fuel g s q) (read_past Reader s p)
    (λ q l m. enough f g s q m (omega arith) (omega arith))

-- ---- the equations that a reader expects

-- what is read at a place, and on from there
pub frames_step : (s : List ℕ) (p : ℕ) → all_frames s p ≡ and_on p (read_at Reader s p) (all_frames s)
unfolding all_frames frames_fuel
frames_step s p =
    same_step s p (read_at Reader s p) (λ q. frames_fuel (length s) s q) (all_frames s) (read_past Reader s p)
    (λ q l m. enough (length s) (suc (length s)) s q m (omega arith) (omega arith))

-- "frame": it comes first, and its end is where the others start
pub frames_more : (s : List ℕ) (p : ℕ) (f : Frame) → read_at Reader s p ≡ frame f → all_frames s p ≡ before f (all_frames s (end_of p f.segments))
frames_more s p f e = frames_step s p ∙ ap (λ (r : Read). and_on p r (all_frames s)) e

-- "reads until 1", or 16
pub frames_end : (s : List ℕ) (p : ℕ) (r : Refused) → read_at Reader s p ≡ refused r → not_whole r.why ≡ true → all_frames s p ≡ frames [] p
frames_end s p r e k = frames_step s p ∙ ap (λ (x : Read). and_on p x (all_frames s)) e ∙ pick_yes _ _ k

-- any other refusal refuses the call
pub frames_refused : (s : List ℕ) (p : ℕ) (r : Refused) → read_at Reader s p ≡ refused r → not_whole r.why ≡ false → all_frames s p ≡ refused_all r
frames_refused s p r e k = frames_step s p ∙ ap (λ (x : Read). and_on p x (all_frames s)) e ∙ pick_no _ _ k
