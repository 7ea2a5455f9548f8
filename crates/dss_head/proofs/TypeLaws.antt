-- The laws of types. What is proved by going through the types one by one is proved here, and cited elsewhere.
use Rattle.std.specs.Prelude.{Result, Ok, Err}
use Prim.Native.Nat.{ℕ, ◌%◌, ◌≤◌}
use native.Mathlib.Omega.{arith}
use mathlib.Core.Path.{◌≡◌, refl, sym, ap, ◌∙◌}
use mathlib.Core.Bool.{Bool, true}
use lib.Dec.{leb, eqb}
use borrow.Author.Tests.{leb-true, eqb-true, eqb-false}
use Rattle.wire.specs.Bytes.{pick, and}
use Rattle.wire.proofs.WireLaws.{pick_by, and_split}
use Rattle.answer.specs.declared.Refusal.TheVariants.{InvalidDssType}
use Rattle.dss_head.specs.declared.DssType.{DssType}
use Rattle.dss_head.specs.declared.DssType.TheVariants.{Request, Reply, Object, Communication, NoReply}
use Rattle.dss_head.specs.Heads.{type_at, type_byte}
use Rattle.answer.specs.declared.Refused.{Refused}

-- ---- one by one

-- a test of each type
abbrev pub of_each : (DssType → Bool) → Bool
of_each f = and (f Request) (and (f Reply) (and (f Object) (and (f Communication) (f NoReply))))

-- the numbers of the types go from 1 to this one
abbrev pub last_type : ℕ
last_type = 5

-- what a byte says that says no type
abbrev pub no_type : ℕ → ℕ → Result DssType Refused
no_type b place = Err (record { why = InvalidDssType (b % 16); place = place })

-- a test that each passes, every one passes
pub every_type : (f : DssType → Bool) → of_each f ≡ true → (t : DssType) → f t ≡ true
every_type f e t =
    let a = and_split (f Request) _ e in
    let b = and_split (f Reply) _ a.1 in
    let c = and_split (f Object) _ b.1 in
    let d = and_split (f Communication) _ c.1 in
    elim t as (λ (u : DssType). f u ≡ true) [
      | Request ↦ a.0
      | Reply ↦ b.0
      | Object ↦ c.0
      | Communication ↦ d.0
      | NoReply ↦ d.1
    ]

-- a type's number reads as that type
pub type_back : (t : DssType) (b place : ℕ) → b % 16 ≡ type_byte t → type_at b place ≡ Ok t
type_back Request b place e = rw e
type_back Reply b place e = rw e
type_back Object b place e = rw e
type_back Communication b place e = rw e
type_back NoReply b place e = rw e

-- what holds of the type of each number, and of the refusal of every other, holds of what a byte says
pub type_by {κ} : (P : Result DssType Refused → Type κ) (b place : ℕ) → ((t : DssType) → b % 16 ≡ type_byte t → P (Ok t))
    → ((1 ≤ b % 16 → b % 16 ≤ last_type → ⊥) → P (no_type b place)) → P (type_at b place)
type_by P b place is none =
    or_else Request (λ a. or_else Reply (λ c. or_else Object (λ d. or_else Communication (λ e. or_else NoReply (λ f. none (λ l h. omega arith))))))
  where
    or_else : (t : DssType) {x : Result DssType Refused} → ((b % 16 ≡ type_byte t → ⊥) → P x) → P (pick (eqb (b % 16) (type_byte t)) (Ok t) x)
    or_else t more = pick_by P (eqb (b % 16) (type_byte t)) _ _ (λ e. is t (eqb-true (b % 16) (type_byte t) e)) (λ e. more (eqb-false (b % 16) (type_byte t) e))

-- ---- what follows for every type

pub type_range : (t : DssType) → (1 ≤ type_byte t) × (type_byte t ≤ last_type)
type_range t = (
  leb-true 1 (type_byte t) (every_type (λ (u : DssType). leb 1 (type_byte u)) refl t),
  leb-true (type_byte t) last_type (every_type (λ (u : DssType). leb (type_byte u) last_type) refl t),
)

-- types are equal where their numbers are
pub type_same : (t u : DssType) → type_byte t ≡ type_byte u → t ≡ u
type_same t u e =
    let low : type_byte t % 16 ≡ type_byte t = omega (arith, type_range t) in
    let z : Ok t ≡ Ok u = sym (type_back t (type_byte t) 0 low) ∙ type_back u (type_byte t) 0 (low ∙ e) in
    cc

type_same_met : type_byte NoReply ≡ type_byte NoReply
type_same_met = refl

-- the low four bits of a byte that says a type are its number
pub type_read : (b place : ℕ) (t : DssType) → type_at b place ≡ Ok t → b % 16 ≡ type_byte t
type_read b place t =
    type_by (λ (x : Result DssType Refused). x ≡ Ok t → b % 16 ≡ type_byte t) b place (λ u e k. let z : u ≡ t = cc in e ∙ ap type_byte z)
    (λ _ k. absurd (let z : ◌≡◌ {A = ℕ} 0 1 = cc in omega arith))

type_read_met : (type_at 0xF5 7 ≡ Ok NoReply) × (0xF5 % 16 ≡ type_byte NoReply)
type_read_met = (refl, refl)

-- a byte says no type where its low four bits are no type's number
pub type_none : (b place : ℕ) → (1 ≤ b % 16 → b % 16 ≤ last_type → ⊥) → type_at b place ≡ no_type b place
type_none b place h =
    type_by (λ (x : Result DssType Refused). x ≡ no_type b place) b place (λ t e. absurd (h (omega (arith, type_range t)) (omega (arith, type_range t)))) (λ _. refl)

type_none_met : (1 ≤ 0xF6 % 16 → 0xF6 % 16 ≤ last_type → ⊥) × (type_at 0xF6 7 ≡ Err (record { why = InvalidDssType 6; place = 7 }))
type_none_met = (λ l h. omega arith, refl)

-- each number from 1 on is a type's, up to the last
pub type_known : (n : ℕ) → 1 ≤ n → n ≤ last_type → record { type : DssType; is : type_byte type ≡ n }
type_known n l h =
    let z : n % 16 ≡ n = omega arith in
    type_by (λ _. record { type : DssType; is : type_byte type ≡ n }) n 0 (λ t e. record { type = t; is = omega arith })
    (λ k. absurd (k (omega arith) (omega arith)))

type_known_met : (1 ≤ 5) × (5 ≤ last_type) × (type_byte NoReply ≡ 5)
type_known_met = (omega arith, omega arith, refl)
