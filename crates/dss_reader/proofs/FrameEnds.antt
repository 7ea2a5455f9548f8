-- The laws of a frame's end, one for each answer of the walk.
use Rattle.std.specs.Prelude.{Ok, Err}
use Prim.Native.Nat.{ℕ, ◌≤◌, ◌<◌}
use native.Mathlib.Omega.{arith}
use mathlib.Core.Path.{◌≡◌, ◌∙◌}
use mathlib.Core.List.{List}
use lib.ListN.{length}
use borrow.Author.Tests.{le-leb, lt-leb}
use Rattle.wire.proofs.WireLaws.{pick_yes, pick_no}
use Rattle.answer.specs.Rooms.{out_of_bounds}
use Rattle.answer.specs.declared.Refused.{Refused}
use Rattle.dss_frame.specs.Segments.{Walk, whole, short, dead, frame_walk}
use Rattle.dss_frame.specs.declared.Rules.TheVariants.{Reader}
use Rattle.dss_measure.specs.declared.Walked.{Walked}
use Rattle.dss_measure.specs.inner.Walking.{walked_of, walked_at}
use Rattle.dss_reader.specs.Reader.{end_found, frame_end}

module _ (s : List ℕ) (p : ℕ) where
  -- "10"
  pub end_beyond : length s < p → frame_end s p ≡ Err (out_of_bounds p (length s))
  unfolding frame_end
  end_beyond h = pick_no _ _ (lt-leb p (length s) h)

  of_whole : (w : Walk) (m : Walked) → walked_of s p w ≡ Ok m → end_found p w ≡ Ok m.end
  of_whole (whole gs) m i = cc
  of_whole short m i = let z : ◌≡◌ {A = ℕ} 0 1 = cc in absurd (omega arith)
  of_whole (dead q) m i = let z : ◌≡◌ {A = ℕ} 0 1 = cc in absurd (omega arith)

  of_not : (w : Walk) (r : Refused) → walked_of s p w ≡ Err r → end_found p w ≡ Err r
  of_not (whole gs) r i = let z : ◌≡◌ {A = ℕ} 0 1 = cc in absurd (omega arith)
  of_not short r i = cc
  of_not (dead q) r i = cc

  module _ (h : p ≤ length s) where
    walks : frame_end s p ≡ end_found p (frame_walk Reader s p)
    unfolding frame_end
    walks = pick_yes _ _ (le-leb p (length s) h)

    -- the end offset
    pub end_whole : (w : Walked) → walked_at Reader s p ≡ Ok w → frame_end s p ≡ Ok w.end
    unfolding walked_at
    end_whole w i = walks ∙ of_whole (frame_walk Reader s p) w i

    -- or "not whole": 1, or 16
    pub end_not : (r : Refused) → walked_at Reader s p ≡ Err r → frame_end s p ≡ Err r
    unfolding walked_at
    end_not r i = walks ∙ of_not (frame_walk Reader s p) r i
