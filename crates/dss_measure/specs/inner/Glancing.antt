-- What a glance at the bytes behind a frame tells: a frame that stands apart, or one that is measured by its head alone.
use Rattle.std.specs.Prelude.{ℕ, ◌+◌, ◌-◌, ◌≤◌, ◌≡◌, Bool, List, length, get_or, Ok}
use Rattle.wire.specs.Bytes.{be16}
use Rattle.dss_head.specs.Heads.{flags_of, head_at}
use Rattle.dss_head.specs.declared.DssType.{DssType}
use Rattle.dss_head.specs.declared.DssHeader.{DssHeader}
use Rattle.dss_frame.specs.declared.Rules.{Rules}
use Rattle.dss_frame.specs.Reading.{finished, look}

pub record Headed (s : List ℕ) (q : ℕ) : Type 0 where
  pub head : DssHeader
  pub six : 6 ≤ length s - q
  pub found : Ok head ≡ head_at s q
  pub flagged : head.flags ≡ flags_of (get_or s (q + 3) 0)

-- whatever frame ends there, a look says that it is finished
abbrev pub StandsApart : List ℕ → ℕ → Type 0
StandsApart s q = (rules : Rules) (t : DssType) (extended : Bool) → look rules s t extended q ≡ finished

-- it has a head, n bytes and nothing behind it that can belong to it
pub record Lone (s : List ℕ) (p n : ℕ) : Type 0 where
  pub headed : Headed s p
  pub raw_is : n ≡ be16 s p
  pub one : n ≡ 65535 → ⊥
  pub six : 6 ≤ n
  pub there : n ≤ length s - p
  pub apart : StandsApart s (p + n)
