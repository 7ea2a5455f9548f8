-- The removal of continuation markers, over its call's contract: what is laid down is the data without markers, in order; every marker
-- that was put where markers stand is gone; and data without a marker at the first such place stay as they are.
use Rattle.std.specs.Prelude.{Result}
use Prim.Native.Nat.{ℕ, ◌≤◌}
use mathlib.Core.Path.{◌≡◌, subst}
use mathlib.Core.Bool.{false}
use mathlib.Core.Logic.{◌⊎◌, inl, inr}
use mathlib.Core.List.{List, ◌++◌}
use lib.ListN.{length, drop}
use Rattle.answer.specs.Rooms.{Lays}
use Rattle.ddm_length.specs.Markers.{marker_first, unmarked, Marked}
use Rattle.ddm_length.proofs.MarkerLaws.{Without, unmarked_without, unmarked_marked, short_unmarked, plain_unmarked}
use Rattle.demands_ddm.specs.ReadingBack.{LaidFirst}
use Rattle.demands_ddm.proofs.Building.{lays_first}
use Rattle.answer.specs.declared.Refused.{Refused}

-- what is laid down is the data without some markers of two bytes, and every other byte in its order
pub record Stripped (d work : List ℕ) (r : Result ℕ Refused) (after : List ℕ) : Type 0 where
  pub kept : List ℕ
  pub without : Without d kept
  pub laid : LaidFirst kept work r after

pub strips : (d work : List ℕ) (r : Result ℕ Refused) (after : List ℕ) → length (unmarked d) ≤ length work → Lays (unmarked d) work r after → Stripped d work r after
strips d work r after h p = record { kept = unmarked d; without = unmarked_without d; laid = lays_first (unmarked d) work r after h p }

-- as what, once it is known
strips_as : (d k work : List ℕ) (r : Result ℕ Refused) (after : List ℕ) → unmarked d ≡ k → length k ≤ length work → Lays (unmarked d) work r after → LaidFirst k work r after
strips_as d k work r after e h p = lays_first k work r after h (subst (λ (x : List ℕ). Lays x work r after) e p)

-- what the markers were put into comes back: 32,757 bytes, and then a marker before each 32,764 or what is left
pub strips_marked : (a s m work : List ℕ) (r : Result ℕ Refused) (after : List ℕ) → length a ≡ 32757 → Marked s m → length (a ++ m) ≤ length work
    → Lays (unmarked (a ++ s)) work r after → LaidFirst (a ++ m) work r after
strips_marked a s m work r after l w h p = strips_as (a ++ s) (a ++ m) work r after (unmarked_marked a l w) h p

-- "data up to 32,759 bytes, or without 7FFE or 7FFF at offset 32,757, are unchanged"
pub strips_nothing : (d work : List ℕ) (r : Result ℕ Refused) (after : List ℕ) → (length d ≤ 32759) ⊎ (marker_first (drop 32757 d) ≡ false) → length d ≤ length work
    → Lays (unmarked d) work r after → LaidFirst d work r after
strips_nothing d work r after (inl s) h p = strips_as d d work r after (short_unmarked d s) h p
strips_nothing d work r after (inr m) h p = strips_as d d work r after (plain_unmarked d m) h p
