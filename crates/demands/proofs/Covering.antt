-- The entries of a salvage reading follow each other without gap or overlap from byte 0 to the tail, whatever the run.
use Prim.Native.Nat.{ℕ, zero, suc, ◌+◌, ◌≤◌}
use native.Mathlib.Omega.{arith}
use mathlib.Core.Path.{refl}
use mathlib.Core.List.{List}
use lib.Dec.{ltb}
use lib.ListN.{length}
use borrow.Author.Tests.{ltb-false}
use Rattle.wire.specs.Bytes.{be16}
use Rattle.dss_frame.specs.declared.Rules.TheVariants.{Salvage}
use Rattle.dss_frame.specs.Segments.{Walk, end_of, frame_walk}
use Rattle.dss_frame.specs.Reading.{Read, read_at}
use Rattle.dss_frame.specs.Salvage.{Salvaged, entry, stop, at_walk, salvage_fuel, salvaged}
use Rattle.demands.specs.Demands.{Gapless, InOrder, Covered, Covers}
use Rattle.wire.proofs.WireLaws.{pick_by}
use Rattle.dss_laws.proofs.Bounds.{OfWhole, is_whole, is_short, is_dead, Six, walk_six, OfFrame, is_frame, is_refused, Past, read_past}

stopped : (s : List ℕ) (p : ℕ) → p ≤ length s → Covered s p (stop p)
unfolding Gapless InOrder
stopped s p h = record { gapless = refl; in_order = tt; inside = h }

entered : (s : List ℕ) (p q : ℕ) (r : Read) (x : Salvaged) → p ≤ q → Covered s q x → Covered s p (entry p q r x)
unfolding Gapless InOrder
entered s p q r x h c = record { gapless = (refl, c.gapless); in_order = (h, c.in_order); inside = c.inside }

fuel_covers : (f : ℕ) (s : List ℕ) (p : ℕ) → p ≤ length s → Covered s p (salvage_fuel f s p)
unfolding salvage_fuel
fuel_covers zero s p h = stopped s p h
fuel_covers (suc f) s p h = by_walk (frame_walk Salvage s p) (read_at Salvage s p) (walk_six Salvage s p) (read_past Salvage s p) (λ q l. fuel_covers f s q l)
  where
    by_walk : (w : Walk) (r : Read) → OfWhole (Six s p) w → OfFrame (Past s p (p + 6)) r → ((q : ℕ) → q ≤ length s → Covered s q (salvage_fuel f s q))
        → Covered s p (at_walk s p w r (λ q. salvage_fuel f s q))
    by_walk w r is_short k go = stopped s p h
    by_walk w r (is_dead q) k go = stopped s p h
    by_walk w r (is_whole gs a) (is_frame g k) go = entered s p _ _ _ (omega (arith, k)) (go _ k.1)
    by_walk w r (is_whole gs a) (is_refused x) go =
        pick_by (Covered s p) (ltb (be16 s p) 6) _ _ (λ e. entered s p p _ _ (omega arith) (stopped s p h))
        (λ e. entered s p (end_of p gs) _ _ (omega (arith, a.0 (ltb-false _ _ e))) (go (end_of p gs) a.1))

-- every run, whatever its bytes
pub covers : Covers salvaged
unfolding salvaged
covers s = fuel_covers (suc (length s)) s 0 (omega arith)
