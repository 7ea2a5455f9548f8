-- Reading all frames of a run back, as a statement about any writer and any reader of all frames.
use Rattle.std.specs.Prelude.{ℕ, ◌≡◌, List, [], ◌∷◌, length}
use Rattle.dss_frame.specs.Reading.{Frame}
use Rattle.dss_frame.specs.Frames.{AllRead, frames}
use Rattle.dss_frame.specs.Written.{Sent}
use Rattle.demands.specs.Demands.{Writer, Sendable, Unreadable, Gives, Stands}
use Rattle.wire.specs.Bytes.{joined}

-- reads all frames of a run, from a place on
abbrev pub AllReader : Type 0
AllReader = List ℕ → ℕ → AllRead

-- a frame that can be sent, has a size that reads back, and stands by itself
pub record Alone (f : Sent) : Type 0 where
  pub sendable : Sendable f
  pub readable : Unreadable f → ⊥
  pub stands : Stands f

unfoldable pub AllAlone : List Sent → Type 0
AllAlone [] = Unit {0}
AllAlone (f ∷ fs) = Alone f × AllAlone fs

-- as many frames as were sent, in order, each saying over the run what its own says
unfoldable pub AllGive : List ℕ → List Sent → List Frame → Type 0
AllGive s [] [] = Unit {0}
AllGive s [] (g ∷ gs) = ⊥
AllGive s (f ∷ fs) [] = ⊥
AllGive s (f ∷ fs) (g ∷ gs) = Gives f s g × AllGive s fs gs

-- A run of written frames that stand by themselves reads back as their list, and is wholly consumed.
abbrev pub ReadsAll : Writer → AllReader → Type 0
ReadsAll writes reads =
    (fs : List Sent) → AllAlone fs →
    record { read : List Frame; is : reads (joined writes fs) 0 ≡ frames read (length (joined writes fs)); gives : AllGive (joined writes fs) fs read }
