-- What measuring answers in cases of document 01: the definitions that the contracts cite aren't empty.
use Rattle.std.specs.Prelude.{Result, Ok, Err}
use Prim.Native.Nat.{ℕ}
use native.Mathlib.Omega.{arith}
use mathlib.Core.Path.{◌≡◌, refl}
use mathlib.Core.Bool.{Bool, true, false}
use mathlib.Core.List.{List, [], ◌∷◌, ◌++◌}
use Rattle.answer.specs.declared.Refusal.{Refusal}
use Rattle.answer.specs.declared.Refusal.TheVariants.{Incomplete, InvalidMagic, LengthTooShort, OutOfBounds}
use Rattle.dss_head.specs.declared.DssType.{DssType}
use Rattle.dss_head.specs.declared.DssType.TheVariants.{Reply, Object}
use Rattle.dss_frame.specs.declared.Rules.TheVariants.{Reader, Salvage}
use Rattle.dss_measure.specs.Measure.{measured_at, extent_of}
use Rattle.dss_measure.proofs.GlanceLaws.{headed, apart_nothing, apart_clear}
use Rattle.dss_measure.specs.inner.Glancing.{Lone}
use Rattle.dss_measure.specs.declared.FrameMeasure.{FrameMeasure}
use Rattle.answer.specs.declared.Refused.{Refused}
use Rattle.dss_measure.specs.Measure.{extent}

-- a measure: the head's length, type, chained and same-correlation flags and correlation; payload length, segments, end
frame : ℕ → DssType → Bool → ℕ → ℕ → ℕ → ℕ → Result FrameMeasure Refused
frame l t c id n k e =
    Ok (record { header = record { length = l; dss_type = t; flags = record { chained = c; continue_on_error = false; same_correlation = false }; correlation_id = id }; payload_len = n; segments = k; end = e })

refuses : Refusal → ℕ → Result FrameMeasure Refused
refuses why place = Err (record { why = why; place = place })

p2 : List ℕ
p2 = 0x00 ∷ 0x06 ∷ 0xD0 ∷ 0x02 ∷ 0x00 ∷ 0x07 ∷ []

p8 : List ℕ
p8 = p2 ++ (0 ∷ 0 ∷ 0 ∷ 0 ∷ 0 ∷ 0 ∷ [])

p9 : List ℕ
p9 = 0x00 ∷ 0x07 ∷ 0xD0 ∷ 0x03 ∷ 0x00 ∷ 0x01 ∷ 0xAA ∷ 0x00 ∷ 0x07 ∷ 0xD0 ∷ 0x53 ∷ 0x00 ∷ 0x01 ∷ 0xBB ∷ []

p10 : List ℕ
p10 = 0x00 ∷ 0x06 ∷ 0xD0 ∷ 0x02 ∷ 0x00 ∷ 0x01 ∷ 0x00 ∷ 0x0A ∷ 0xD0 ∷ 0x13 ∷ 0x00 ∷ 0x01 ∷ 0x00 ∷ 0x04 ∷ 0x24 ∷ 0x14 ∷ []

p11 : List ℕ
p11 = 0x00 ∷ 0x06 ∷ 0xD0 ∷ 0x02 ∷ 0x00 ∷ 0x01 ∷ 0x00 ∷ 0x0B ∷ 0xD0 ∷ 0x13 ∷ 0x00 ∷ 0x01 ∷ 0x00 ∷ 0x05 ∷ 0x24 ∷ 0x14 ∷ 0xC1 ∷ []

p12 : List ℕ
p12 = 0x00 ∷ 0x0A ∷ 0xD0 ∷ 0x03 ∷ 0x00 ∷ 0x01 ∷ 0x80 ∷ 0x04 ∷ 0x24 ∷ 0x1B ∷ 0x00 ∷ 0x09 ∷ 0xD0 ∷ 0x13 ∷ 0x00 ∷ 0x01 ∷ 0x7F ∷ 0xFE ∷ 0xC1 ∷ []

-- 80 04 over three segments, the middle one empty, then two bytes more, then a segment with a marker
split : List ℕ
split =
    (0x00 ∷ 0x07 ∷ 0xD0 ∷ 0x03 ∷ 0x00 ∷ 0x01 ∷ 0x80 ∷ [])
    ++ (0x00 ∷ 0x06 ∷ 0xD0 ∷ 0x13 ∷ 0x00 ∷ 0x01 ∷ [])
    ++ (0x00 ∷ 0x07 ∷ 0xD0 ∷ 0x13 ∷ 0x00 ∷ 0x01 ∷ 0x04 ∷ [])
    ++ (0x00 ∷ 0x08 ∷ 0xD0 ∷ 0x13 ∷ 0x00 ∷ 0x01 ∷ 0x24 ∷ 0x1B ∷ [])
    ++ (0x00 ∷ 0x09 ∷ 0xD0 ∷ 0x53 ∷ 0x00 ∷ 0x01 ∷ 0x7F ∷ 0xFE ∷ 0xC1 ∷ [])

-- the same with one byte less before the marker: the payload so far has three bytes, and the marker stays
three : List ℕ
three =
    (0x00 ∷ 0x07 ∷ 0xD0 ∷ 0x03 ∷ 0x00 ∷ 0x01 ∷ 0x80 ∷ [])
    ++ (0x00 ∷ 0x06 ∷ 0xD0 ∷ 0x13 ∷ 0x00 ∷ 0x01 ∷ [])
    ++ (0x00 ∷ 0x07 ∷ 0xD0 ∷ 0x13 ∷ 0x00 ∷ 0x01 ∷ 0x04 ∷ [])
    ++ (0x00 ∷ 0x07 ∷ 0xD0 ∷ 0x13 ∷ 0x00 ∷ 0x01 ∷ 0x24 ∷ [])
    ++ (0x00 ∷ 0x09 ∷ 0xD0 ∷ 0x53 ∷ 0x00 ∷ 0x01 ∷ 0x7F ∷ 0xFE ∷ 0xC1 ∷ [])

-- a length of 5 behind a frame
five : List ℕ
five = p2 ++ (0x00 ∷ 0x05 ∷ 0xD0 ∷ 0x12 ∷ 0x00 ∷ 0x07 ∷ [])

cases : (measured_at Reader p2 7 ≡ refuses (OutOfBounds 7 6) 7)
    × (measured_at Reader [] 0 ≡ refuses Incomplete 0)
    × (measured_at Reader p2 0 ≡ frame 6 Reply false 7 0 1 6)
    × (measured_at Reader p8 0 ≡ refuses (InvalidMagic 0) 6)
    × (measured_at Salvage p8 0 ≡ frame 6 Reply false 7 0 1 6)
    × (measured_at Reader p9 0 ≡ frame 7 Object true 1 2 2 14)
    × (measured_at Reader p10 0 ≡ frame 6 Reply false 1 4 2 16)
    × (measured_at Reader p11 0 ≡ frame 6 Reply false 1 0 1 6)
    × (measured_at Reader p12 0 ≡ frame 10 Object false 1 5 2 19)
    × (measured_at Reader split 0 ≡ frame 7 Object true 1 5 5 37)
    × (measured_at Reader three 0 ≡ frame 7 Object true 1 6 5 36)
    × (measured_at Reader five 0 ≡ refuses (LengthTooShort 5) 6)
    × (measured_at Salvage five 0 ≡ frame 6 Reply false 7 0 1 6)
unfolding measured_at frame refuses p2 p8 p9 p10 p11 p12 split three five
cases = (refl, refl, refl, refl, refl, refl, refl, refl, refl, refl, refl, refl, refl)

-- ---- at a glance

-- a frame alone, and one before another whose same correlation is clear
alone : Lone p2 0 6
unfolding p2
alone =
    record {
      headed = headed p2 0 (omega arith) refl (omega arith) (omega arith);
      raw_is = refl;
      one = λ e. omega arith;
      six = omega arith;
      there = omega arith;
      apart = apart_nothing p2 6 (omega arith);
    }

before_another : Lone (p2 ++ p2) 0 6
unfolding p2
before_another =
    record {
      headed = headed (p2 ++ p2) 0 (omega arith) refl (omega arith) (omega arith);
      raw_is = refl;
      one = λ e. omega arith;
      six = omega arith;
      there = omega arith;
      apart = apart_clear (p2 ++ p2) 6 (headed (p2 ++ p2) 6 (omega arith) refl (omega arith) (omega arith)) refl;
    }

extents : (extent_of (measured_at Reader p9 0) ≡ Ok (extent 2 14)) × (extent_of (measured_at Reader five 0) ≡ Err (record { why = LengthTooShort 5; place = 6 }))
unfolding measured_at p2 p9 five
extents = (refl, refl)
