-- W-210: a head that says a type of no frame, and that every reading of it is refused.
use Rattle.std.specs.Prelude.{ℕ, ◌≤◌, ◌%◌, ◌≡◌, ◌⊎◌, ◌↔◌, List, length, get_or, Result, Err}
use Rattle.answer.specs.declared.Refused.{Refused}
use Rattle.dss_head.specs.declared.DssHeader.{DssHeader}

-- of bytes that have a head's six: their magic byte isn't D0, or their type isn't one of 1 to 5
abbrev pub SpoiltHead : List ℕ → Type 0
SpoiltHead b = (get_or b 2 0 ≡ 0xD0 → ⊥) ⊎ (1 ≤ get_or b 3 0 % 16 → get_or b 3 0 % 16 ≤ 5 → ⊥)

-- a head is refused exactly then
abbrev pub RefusesSpoilt : (List ℕ → ℕ → Result DssHeader Refused) → Type 0
RefusesSpoilt heads = (b : List ℕ) → 6 ≤ length b → record { reason : Refused; is : heads b 0 ≡ Err reason } ↔ SpoiltHead b
