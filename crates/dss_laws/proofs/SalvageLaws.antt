-- The equations of the salvage reading, with the count gone.
use Prim.Native.Nat.{ℕ, zero, suc, ◌+◌, ◌-◌, ◌≤◌, ◌<◌}
use native.Mathlib.Omega.{arith}
use mathlib.Core.Path.{◌≡◌, refl, sym, ap, ◌∙◌}
use mathlib.Core.List.{List}
use lib.Dec.{ltb}
use lib.ListN.{length}
use borrow.Author.Tests.{lt-ltb, le-ltb, ltb-false}
use Rattle.wire.specs.Bytes.{be16}
use Rattle.answer.specs.declared.Refused.{Refused}
use Rattle.dss_frame.specs.declared.Rules.TheVariants.{Salvage}
use Rattle.dss_frame.specs.Segments.{Segment, Walk, whole, short, dead, end_of, frame_walk}
use Rattle.dss_frame.specs.Reading.{Read, frame, refused, Frame, read_at}
use Rattle.dss_frame.specs.Salvage.{Salvaged, entry, stop, onward, at_walk, salvage_fuel, salvaged}
use Rattle.wire.proofs.WireLaws.{pick_yes, pick_no, pick_same}
use Rattle.dss_laws.proofs.Bounds.{OfWhole, is_whole, is_short, is_dead, Six, walk_six, OfFrame, is_frame, is_refused, Past, read_past}

-- what a step needs of the count
same_onward : (s : List ℕ) (p : ℕ) (gs : List Segment) (r : Read) (more less : ℕ → Salvaged) → Six s p gs → OfFrame (Past s p (p + 6)) r
    → ((q : ℕ) → p + 6 ≤ q → more q ≡ less q) → onward s p gs r more ≡ onward s p gs r less
same_onward s p gs r more less k (is_frame f l) h = ap (entry p (end_of p f.segments) (frame f)) (h (end_of p f.segments) l.0)
same_onward s p gs r more less k (is_refused x) h =
    pick_same (ltb (be16 s p) 6) (λ e. refl) (λ e. ap (entry p (end_of p gs) (refused x)) (h (end_of p gs) (k.0 (ltb-false _ _ e))))

same_walk : (s : List ℕ) (p : ℕ) (w : Walk) (r : Read) (more less : ℕ → Salvaged) → OfWhole (Six s p) w → OfFrame (Past s p (p + 6)) r
    → ((q : ℕ) → p + 6 ≤ q → more q ≡ less q) → at_walk s p w r more ≡ at_walk s p w r less
same_walk s p w r more less (is_whole gs k) l h = same_onward s p gs r more less k l h
same_walk s p w r more less is_short l h = refl
same_walk s p w r more less (is_dead q) l h = refl

same_step : (s : List ℕ) (p : ℕ) (more less : ℕ → Salvaged) → ((q : ℕ) → p + 6 ≤ q → more q ≡ less q)
    → at_walk s p (frame_walk Salvage s p) (read_at Salvage s p) more ≡ at_walk s p (frame_walk Salvage s p) (read_at Salvage s p) less
same_step s p more less h = same_walk s p (frame_walk Salvage s p) (read_at Salvage s p) more less (walk_six Salvage s p) (read_past Salvage s p) h

-- past the end nothing is read
nothing : (s : List ℕ) (p : ℕ) → length s - p < 6 → frame_walk Salvage s p ≡ short
unfolding frame_walk
nothing s p h = pick_yes _ _ (lt-ltb (length s - p) 6 h)

ended : (f : ℕ) (s : List ℕ) (p : ℕ) → length s - p < 6 → salvage_fuel f s p ≡ stop p
unfolding salvage_fuel
ended zero s p h = refl
ended (suc f) s p h = ap (λ (w : Walk). at_walk s p w (read_at Salvage s p) (λ q. salvage_fuel f s q)) (nothing s p h)

-- fuel that suffices is as good as any other that does
enough : (f g : ℕ) (s : List ℕ) (p : ℕ) → length s - p ≤ f → length s - p ≤ g → salvage_fuel f s p ≡ salvage_fuel g s p
unfolding salvage_fuel
enough zero g s p h k = sym (ended g s p (omega arith))
enough (suc f) zero s p h k = ended (suc f) s p (omega arith)
enough (suc f) (suc g) s p h k = same_step s p (λ q. salvage_fuel f s q) (λ q. salvage_fuel g s q) (λ q l. enough f g s q (omega arith) (omega arith))

-- the salvage reading from a place on
unfoldable pub salvaged_from : List ℕ → ℕ → Salvaged
unfolding salvage_fuel
salvaged_from s p = salvage_fuel (suc (length s)) s p

pub salvaged_from_lem : (s : List ℕ) → salvaged s ≡ salvaged_from s 0
unfolding salvaged salvaged_from
salvaged_from_lem s = refl

pub salvaged_step : (s : List ℕ) (p : ℕ) → salvaged_from s p ≡ at_walk s p (frame_walk Salvage s p) (read_at Salvage s p) (salvaged_from s)
unfolding salvaged_from salvage_fuel
salvaged_step s p = same_step s p (λ q. salvage_fuel (length s) s q) (salvaged_from s) (λ q l. enough (length s) (suc (length s)) s q (omega arith) (omega arith))

-- "stop": the tail
pub salvaged_short : (s : List ℕ) (p : ℕ) → frame_walk Salvage s p ≡ short → salvaged_from s p ≡ stop p
salvaged_short s p e = salvaged_step s p ∙ ap (λ (w : Walk). at_walk s p w (read_at Salvage s p) (salvaged_from s)) e

pub salvaged_dead : (s : List ℕ) (p q : ℕ) → frame_walk Salvage s p ≡ dead q → salvaged_from s p ≡ stop p
salvaged_dead s p q e = salvaged_step s p ∙ ap (λ (w : Walk). at_walk s p w (read_at Salvage s p) (salvaged_from s)) e

pub salvaged_end : (s : List ℕ) (p : ℕ) → length s - p < 6 → salvaged_from s p ≡ stop p
salvaged_end s p h = salvaged_short s p (nothing s p h)

whole_as : (s : List ℕ) (p : ℕ) (gs : List Segment) (r : Read) → frame_walk Salvage s p ≡ whole gs → read_at Salvage s p ≡ r → salvaged_from s p ≡ onward s p gs r (salvaged_from s)
whole_as s p gs r e k = salvaged_step s p ∙ ap (λ (w : Walk). at_walk s p w (read_at Salvage s p) (salvaged_from s)) e ∙ ap (λ (x : Read). onward s p gs x (salvaged_from s)) k

-- "frame": an entry, and on behind it
pub salvaged_frame : (s : List ℕ) (p : ℕ) (gs : List Segment) (f : Frame) → frame_walk Salvage s p ≡ whole gs → read_at Salvage s p ≡ frame f
    → salvaged_from s p ≡ entry p (end_of p f.segments) (frame f) (salvaged_from s (end_of p f.segments))
salvaged_frame s p gs f e k = whole_as s p gs (frame f) e k

-- "refused": an entry, and on behind the frame that was refused; or, at a length below 6, the end
pub salvaged_refused : (s : List ℕ) (p : ℕ) (gs : List Segment) (r : Refused) → frame_walk Salvage s p ≡ whole gs → read_at Salvage s p ≡ refused r → 6 ≤ be16 s p
    → salvaged_from s p ≡ entry p (end_of p gs) (refused r) (salvaged_from s (end_of p gs))
salvaged_refused s p gs r e k h =
    whole_as s p gs (refused r) e k ∙ pick_no _ _ (le-ltb (be16 s p) 6 h)

pub salvaged_refused_end : (s : List ℕ) (p : ℕ) (gs : List Segment) (r : Refused) → frame_walk Salvage s p ≡ whole gs → read_at Salvage s p ≡ refused r → be16 s p < 6
    → salvaged_from s p ≡ entry p p (refused r) (stop p)
salvaged_refused_end s p gs r e k h =
    whole_as s p gs (refused r) e k ∙ pick_yes _ _ (lt-ltb (be16 s p) 6 h)
