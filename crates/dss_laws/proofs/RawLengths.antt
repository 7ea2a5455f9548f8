-- What a continuation's raw length says under either's rules. Every law of `chunk_under` is here.
use Prim.Native.Nat.{ℕ, ◌≤◌, ◌<◌}
use native.Mathlib.Omega.{arith}
use mathlib.Core.Path.{◌≡◌, refl, ap, ◌∙◌}
use mathlib.Core.Logic.{◌⊎◌, inl, inr}
use lib.Dec.{eqb}
use borrow.Author.Tests.{le-ltb, lt-ltb, ne_eqb, eqb-false}
use Rattle.dss_head.specs.Heads.{chunk_of}
use Rattle.dss_head.proofs.HeadLaws.{chunk_by}
use Rattle.dss_head.specs.declared.Chunk.{Chunk}
use Rattle.dss_head.specs.declared.Chunk.TheVariants.{Dead, Last, Full}
use Rattle.dss_frame.specs.Rules.{chunk_under}
use Rattle.dss_frame.specs.declared.Rules.{Rules}
use Rattle.dss_frame.specs.declared.Rules.TheVariants.{Reader, Salvage}
use Rattle.wire.proofs.WireLaws.{pick_yes, pick_no, pick_by}

dead : (n : ℕ) → n < 2 → chunk_of n ≡ Dead
dead n h = pick_yes _ _ (lt-ltb n 2 h)

low : (n : ℕ) → 2 ≤ n → n < 0x7FFF → chunk_of n ≡ Last
low n h k = pick_no _ _ (le-ltb n 2 h) ∙ pick_yes _ _ (lt-ltb n 0x7FFF k)

high : (n : ℕ) → 0x8000 ≤ n → n < 0xFFFF → chunk_of n ≡ Last
high n h k =
    pick_no _ _ (le-ltb n 2 (omega arith))
    ∙ pick_no _ _ (le-ltb n 0x7FFF (omega arith))
    ∙ pick_no _ _ (ne_eqb n 0x7FFF (omega arith))
    ∙ pick_yes _ _ (lt-ltb n 0xFFFF k)

-- ---- under either's rules

-- the two are one but for 0x7FFF
pub chunk_same : (n : ℕ) → (n ≡ 0x7FFF → ⊥) → chunk_under Salvage n ≡ chunk_under Reader n
chunk_same n h = pick_no _ _ (ne_eqb n 0x7FFF h)

-- 0 and 1: never whole
pub chunk_dead : (rules : Rules) (n : ℕ) → n < 2 → chunk_under rules n ≡ Dead
chunk_dead Reader n h = dead n h
chunk_dead Salvage n h = chunk_same n (λ e. omega arith) ∙ dead n h

-- 2 to 0x7FFE: the last
pub chunk_last : (rules : Rules) (n : ℕ) → 2 ≤ n → n < 0x7FFF → chunk_under rules n ≡ Last
chunk_last Reader n h k = low n h k
chunk_last Salvage n h k = chunk_same n (λ e. omega arith) ∙ low n h k

-- 0x8000 to 0xFFFE: the last
pub chunk_last_high : (rules : Rules) (n : ℕ) → 0x8000 ≤ n → n < 0xFFFF → chunk_under rules n ≡ Last
chunk_last_high Reader n h k = high n h k
chunk_last_high Salvage n h k = chunk_same n (λ e. omega arith) ∙ high n h k

-- 0xFFFF: full, and another must follow
pub chunk_full : (rules : Rules) (n : ℕ) → n ≡ 0xFFFF → chunk_under rules n ≡ Full
chunk_full Reader n e = ap chunk_of e
chunk_full Salvage n e = ap (chunk_under Salvage) e

-- 0x7FFF, which alone the two part at: full for the reader, and another must follow; for salvage the last, as all below it
pub chunk_full_low : (n : ℕ) → n ≡ 0x7FFF → chunk_under Reader n ≡ Full
chunk_full_low n e = ap chunk_of e

pub chunk_last_full : (n : ℕ) → 2 ≤ n → n ≤ 0x7FFF → chunk_under Salvage n ≡ Last
chunk_last_full n h k =
    pick_by (λ (c : Chunk). c ≡ Last) (eqb n 0x7FFF) Last (chunk_of n) (λ e. refl) (λ e. low n h (omega (arith, eqb-false n 0x7FFF e)))

-- what may be a last continuation's length, of those up to 0x7FFF
abbrev pub MayEnd : Rules → ℕ → Type 0
MayEnd Reader n = n ≡ 0x7FFF → ⊥
MayEnd Salvage n = Unit {0}

pub chunk_ends : (rules : Rules) (n : ℕ) → 2 ≤ n → n ≤ 0x7FFF → MayEnd rules n → chunk_under rules n ≡ Last
chunk_ends Reader n h k u = low n h (omega (arith, u))
chunk_ends Salvage n h k u = chunk_last_full n h k

-- 2 or more: the last, or full
alive : (n : ℕ) → 2 ≤ n → (chunk_of n ≡ Last) ⊎ (chunk_of n ≡ Full)
alive n h = chunk_by (λ (c : Chunk). (c ≡ Last) ⊎ (c ≡ Full)) n (λ l. absurd (omega arith)) (λ l k e. inl refl) (λ e. inr refl) (λ l. inr refl)

pub chunk_alive : (rules : Rules) (n : ℕ) → 2 ≤ n → (chunk_under rules n ≡ Last) ⊎ (chunk_under rules n ≡ Full)
chunk_alive Reader n h = alive n h
chunk_alive Salvage n h =
    pick_by (λ (c : Chunk). (c ≡ Last) ⊎ (c ≡ Full)) (eqb n 0x7FFF) Last (chunk_of n) (λ e. inl refl) (λ e. alive n h)

-- full for the reader, and not 0x7FFF: 0xFFFF (or above, which no two bytes say)
pub full_above : (n : ℕ) → chunk_under Reader n ≡ Full → (n ≡ 0x7FFF → ⊥) → 0xFFFF ≤ n
full_above n e ne =
    chunk_by (λ (c : Chunk). c ≡ Full → 0xFFFF ≤ n) n (λ _ k. let z : ◌≡◌ {A = ℕ} 0 1 = cc in absurd (omega arith))
    (λ _ _ _ k. let z : ◌≡◌ {A = ℕ} 0 1 = cc in absurd (omega arith)) (λ k _. absurd (ne k)) (λ l _. l) e

full_above_met : (chunk_under Reader 0xFFFF ≡ Full) × (0xFFFF ≤ 0xFFFF)
full_above_met = (refl, omega arith)
