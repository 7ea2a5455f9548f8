-- What taking answers and leaves in the room in cases of document 01: the definitions that the contract cites aren't empty.
use Rattle.std.specs.Prelude.{Result, Err}
use Prim.Native.Nat.{ℕ}
use mathlib.Core.Path.{◌≡◌, refl}
use mathlib.Core.List.{List, [], ◌∷◌, ◌++◌}
use lib.ListN.{length, replicate}
use Rattle.wire.specs.Bytes.{splice, laid}
use Rattle.answer.specs.declared.Refusal.TheVariants.{InvalidMagic, NoRoom}
use Rattle.dss_frame.specs.declared.Rules.{Rules}
use Rattle.dss_frame.specs.declared.Rules.TheVariants.{Reader, Salvage}
use Rattle.dss_frame.specs.Segments.{payload_of}
use Rattle.dss_frame.specs.Reading.{read_at}
use Rattle.dss_take.specs.Take.{taken_of, room_read}
use Rattle.dss_measure.specs.declared.FrameMeasure.{FrameMeasure}
use Rattle.answer.specs.declared.Refused.{Refused}

answer : Rules → List ℕ → List ℕ → Result FrameMeasure Refused
answer rules s room = taken_of s 0 (length room) (read_at rules s 0)

after : Rules → List ℕ → List ℕ → List ℕ
after rules s room = room_read s room (read_at rules s 0)

-- P2 and six zero bytes
p8 : List ℕ
p8 = 0x00 ∷ 0x06 ∷ 0xD0 ∷ 0x02 ∷ 0x00 ∷ 0x07 ∷ replicate 6 0

p9 : List ℕ
p9 = 0x00 ∷ 0x07 ∷ 0xD0 ∷ 0x03 ∷ 0x00 ∷ 0x01 ∷ 0xAA ∷ 0x00 ∷ 0x07 ∷ 0xD0 ∷ 0x53 ∷ 0x00 ∷ 0x01 ∷ 0xBB ∷ []

p12 : List ℕ
p12 = 0x00 ∷ 0x0A ∷ 0xD0 ∷ 0x03 ∷ 0x00 ∷ 0x01 ∷ 0x80 ∷ 0x04 ∷ 0x24 ∷ 0x1B ∷ 0x00 ∷ 0x09 ∷ 0xD0 ∷ 0x13 ∷ 0x00 ∷ 0x01 ∷ 0x7F ∷ 0xFE ∷ 0xC1 ∷ []

-- 80 and 04 24 in two segments, so that the payload so far has three bytes before the marker: it stays
three : List ℕ
three =
    (0x00 ∷ 0x07 ∷ 0xD0 ∷ 0x03 ∷ 0x00 ∷ 0x01 ∷ 0x80 ∷ [])
    ++ (0x00 ∷ 0x08 ∷ 0xD0 ∷ 0x13 ∷ 0x00 ∷ 0x01 ∷ 0x04 ∷ 0x24 ∷ [])
    ++ (0x00 ∷ 0x09 ∷ 0xD0 ∷ 0x13 ∷ 0x00 ∷ 0x01 ∷ 0x7F ∷ 0xFE ∷ 0xC1 ∷ [])

-- payload 32,762: FFFF, 32,761 bytes, 0003 and one
large : List ℕ
large = 0xFF ∷ 0xFF ∷ 0xD0 ∷ 0x01 ∷ 0x00 ∷ 0x01 ∷ (replicate 32761 5 ++ (0x00 ∷ 0x03 ∷ 0xC1 ∷ []))

-- each with a room that is larger than the payload by one byte, which stays, or smaller by one, which then stays whole
cases : (after Reader p9 (replicate 3 9) ≡ 0xAA ∷ 0xBB ∷ 9 ∷ [])
    × (after Reader p9 (9 ∷ []) ≡ 9 ∷ [])
    × (after Reader p12 (replicate 6 9) ≡ 0x80 ∷ 0x04 ∷ 0x24 ∷ 0x1B ∷ 0xC1 ∷ 9 ∷ [])
    × (after Reader p12 (replicate 4 9) ≡ replicate 4 9)
    × (answer Reader p12 (replicate 4 9) ≡ Err (record { why = NoRoom 5 0; place = 0 }))
    × (after Reader three (replicate 7 9) ≡ 0x80 ∷ 0x04 ∷ 0x24 ∷ 0x7F ∷ 0xFE ∷ 0xC1 ∷ 9 ∷ [])
    × (after Reader p8 (9 ∷ []) ≡ 9 ∷ [])
    × (answer Reader p8 (9 ∷ []) ≡ Err (record { why = InvalidMagic 0; place = 6 }))
    × (after Salvage p8 (9 ∷ []) ≡ 9 ∷ [])
    × (after Reader large (replicate 32763 9) ≡ replicate 32761 5 ++ (0xC1 ∷ 9 ∷ []))
    × (answer Reader large (replicate 32761 9) ≡ Err (record { why = NoRoom 32762 0; place = 0 }))
unfolding answer after p8 p9 p12 three large read_at payload_of laid splice
cases = (refl, refl, refl, refl, refl, refl, refl, refl, refl, refl, refl)
