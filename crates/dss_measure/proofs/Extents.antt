-- What an extent says of the measure that it is of.
use Rattle.std.specs.Prelude.{Result, Ok, Err}
use Prim.Native.Nat.{ℕ}
use native.Mathlib.Omega.{arith}
use mathlib.Core.Path.{◌≡◌, refl, ap}
use Rattle.answer.specs.declared.Refused.{Refused}
use Rattle.dss_measure.specs.declared.Extent.{Extent}
use Rattle.dss_measure.specs.declared.FrameMeasure.{FrameMeasure}
use Rattle.dss_measure.specs.Measure.{extent, extent_of}

-- the measure of a frame whose payload has n bytes and which ends at e
pub record Spanned (n e : ℕ) (x : Result FrameMeasure Refused) : Type 0 where
  pub measure : FrameMeasure
  pub is : x ≡ Ok measure
  pub long : n ≡ measure.payload_len
  pub ends : e ≡ measure.end

pub spanned : (n e : ℕ) (x : Result FrameMeasure Refused) → extent_of x ≡ Ok (extent n e) → Spanned n e x
spanned n e (Ok m) k =
    let z : extent n e ≡ extent m.payload_len m.end = cc in
    record { measure = m; is = refl; long = ap (λ (x : Extent). x.payload_len) z; ends = ap (λ (x : Extent). x.end) z }
spanned n e (Err r) k = let z : ◌≡◌ {A = ℕ} 0 1 = cc in absurd (omega arith)

pub not_spanned : (r : Refused) (x : Result FrameMeasure Refused) → extent_of x ≡ Err r → x ≡ Err r
not_spanned r (Ok m) k = let z : ◌≡◌ {A = ℕ} 0 1 = cc in absurd (omega arith)
not_spanned r (Err x) k = cc
