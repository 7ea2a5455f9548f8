-- What the salvage reading answers and leaves in cases of document 01: the definitions that its contract cites aren't empty.
use Rattle.std.specs.Prelude.{Result, Ok, Err}
use Prim.Native.Nat.{ℕ}
use mathlib.Core.Path.{◌≡◌, refl}
use mathlib.Core.Bool.{Bool, true, false}
use mathlib.Core.List.{List, [], ◌∷◌, ◌++◌}
use lib.ListN.{length, replicate}
use Rattle.wire.specs.Bytes.{splice, landed}
use Rattle.answer.specs.declared.Refusal.{Refusal}
use Rattle.answer.specs.declared.Refusal.TheVariants.{InvalidMagic, InvalidDssType, LengthTooShort, NoRoom}
use Rattle.dss_head.specs.declared.DssType.{DssType}
use Rattle.dss_head.specs.declared.DssType.TheVariants.{Reply, Object, Communication}
use Rattle.dss_frame.specs.Segments.{payload_of, end_of}
use Rattle.dss_frame.specs.Salvage.{salvaged}
use Rattle.dss_salvage.specs.declared.SalvageEntry.{SalvageEntry}
use Rattle.dss_salvage.specs.declared.Entry.TheVariants.{Frame, Refused as Refuses}
use Rattle.dss_salvage.specs.SalvageEntries.{salvaged_bytes, salvaged_row}
use Rattle.dss_salvage_call.specs.SalvageCall.{entries_fit, given_entries}
use Rattle.answer.specs.declared.Refused.{Refused}
use Rattle.dss_salvage.specs.declared.Salvaging.{Salvaging}
use Rattle.dss_salvage.specs.inner.SalvageMeasure.{counted}

-- ---- the runs

p2 : List ℕ
p2 = 0x00 ∷ 0x06 ∷ 0xD0 ∷ 0x02 ∷ 0x00 ∷ 0x07 ∷ []

p8 : List ℕ
p8 = p2 ++ replicate 6 0

-- P9, whose second segment the first absorbs
p9 : List ℕ
p9 = 0x00 ∷ 0x07 ∷ 0xD0 ∷ 0x03 ∷ 0x00 ∷ 0x01 ∷ 0xAA ∷ 0x00 ∷ 0x07 ∷ 0xD0 ∷ 0x53 ∷ 0x00 ∷ 0x01 ∷ 0xBB ∷ []

-- P2, a frame of eight bytes with no type, P9, and three bytes more
spoilt : List ℕ
spoilt = p2 ++ (0x00 ∷ 0x08 ∷ 0xD0 ∷ 0x06 ∷ 0x00 ∷ 0x07 ∷ 0xC1 ∷ 0xC2 ∷ []) ++ p9 ++ (0x00 ∷ 0x06 ∷ 0xD0 ∷ [])

-- P2, and a length of five with a good frame behind it, which isn't reached
five : List ℕ
five = p2 ++ (0x00 ∷ 0x05 ∷ 0xD0 ∷ 0x02 ∷ 0x00 ∷ 0x07 ∷ []) ++ p2

-- ---- records

framed : ℕ → DssType → Bool → ℕ → ℕ → ℕ → ℕ → ℕ → ℕ → SalvageEntry
framed l t c id a n k p e =
    record {
      entry =
          Frame (record {
            header = record { length = l; dss_type = t; flags = record { chained = c; continue_on_error = false; same_correlation = false }; correlation_id = id };
            payload_at = a;
            payload_len = n;
            segments = k;
            at = p;
            end = e;
          });
    }

refusal : Refusal → ℕ → ℕ → SalvageEntry
refusal why p e = record { entry = Refuses (record { why = why; place = p }) p e }

-- one that stands in a row
blank : SalvageEntry
blank = framed 0 Communication true 9 9 9 9 9 9

-- ---- what is answered, and what room and row then hold

answer : List ℕ → ℕ → ℕ → Result Salvaging Refused
answer s size rows = given_entries s size rows (salvaged s)

room_of : List ℕ → List ℕ → ℕ → List ℕ
room_of s room rows = landed (entries_fit s (salvaged s).entries (length room) rows) room (salvaged_bytes s (salvaged s).entries)

row_of : List ℕ → ℕ → List SalvageEntry → List SalvageEntry
row_of s size row = landed (entries_fit s (salvaged s).entries size (length row)) row (salvaged_row s 0 (salvaged s).entries)

-- P8; a spoilt frame between good ones, and a tail; a length below 6; no bytes; a room or a row too small
cases : (answer p8 0 2 ≡ Ok (counted 2 0 6))
    × (row_of p8 0 (blank ∷ blank ∷ []) ≡ framed 6 Reply false 7 0 0 1 0 6 ∷ refusal (InvalidMagic 0) 6 6 ∷ [])
    × (answer spoilt 2 3 ≡ Ok (counted 3 2 28))
    × (room_of spoilt (replicate 3 9) 4 ≡ 0xAA ∷ 0xBB ∷ 9 ∷ [])
    × (row_of spoilt 3 (replicate 4 blank) ≡ framed 6 Reply false 7 0 0 1 0 6 ∷ refusal (InvalidDssType 6) 6 14 ∷ framed 7 Object true 1 0 2 2 14 28 ∷ blank ∷ [])
    × (answer five 0 2 ≡ Ok (counted 2 0 6))
    × (row_of five 0 (blank ∷ blank ∷ []) ≡ framed 6 Reply false 7 0 0 1 0 6 ∷ refusal (LengthTooShort 5) 6 6 ∷ [])
    × (answer [] 0 0 ≡ Ok (counted 0 0 0))
    × (answer spoilt 1 3 ≡ Err (record { why = NoRoom 2 3; place = 0 }))
    × (answer spoilt 2 2 ≡ Err (record { why = NoRoom 2 3; place = 0 }))
    × (room_of spoilt (replicate 3 9) 2 ≡ replicate 3 9)
    × (row_of spoilt 1 (replicate 4 blank) ≡ replicate 4 blank)
unfolding p2 p8 p9 spoilt five framed refusal blank answer room_of row_of salvaged payload_of end_of salvaged_bytes salvaged_row splice
cases = (refl, refl, refl, refl, refl, refl, refl, refl, refl, refl, refl, refl)
