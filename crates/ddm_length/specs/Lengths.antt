-- The length of a DDM object or parameter: document 01, "DDM", "Object, order". `b` is all that stands from its first byte
-- on, and `place` where that is. In two steps, as the Rust has them: what the length field says, then whether that fits.
use Rattle.std.specs.Prelude.{ℕ, ◌+◌, ◌-◌, ◌^◌, List, ltb, leb, eqb, length, take, drop, Result, Ok, Err}
use Rattle.wire.specs.Bytes.{pick, be16, spelled}
use Rattle.answer.specs.declared.Refusal.{Refusal}
use Rattle.answer.specs.declared.Refusal.TheVariants.{BufferTooShort, InlineTooShort, HeaderTooShort, LengthTooLarge}
use Rattle.ddm_length.specs.declared.Marshaled.{Marshaled}
use Rattle.answer.specs.declared.Refused.{Refused}

abbrev pub takes : ℕ → ℕ → Marshaled
takes total header = record { total = total; header = header }

abbrev pub refuse : ℕ → Refusal → Result Marshaled Refused
refuse place why = Err (record { why = why; place = place })

-- ---- `parse_marshaled_length`

-- "8 when the number in all length bytes plus header length exceeds 2^64 - 1"; "The extended number counts data only"
abbrev pub extended_total : ℕ → ℕ → ℕ → Result Marshaled Refused
extended_total place header total = pick (ltb total (2 ^ 64)) (Ok (takes total header)) (refuse place (LengthTooLarge header))

-- "raw 0x8000 to 0x8003: 6; extended header (raw less 0x8000) longer than the bytes: 4"
abbrev pub extended : List ℕ → ℕ → ℕ → Result Marshaled Refused
extended b place header =
    pick (ltb header 4) (refuse place (HeaderTooShort header))
    (pick (leb header (length b)) (extended_total place header (header + spelled 0 (take (header - 4) (drop 4 b))))
    (refuse place (BufferTooShort header (length b))))

-- "4 (four bytes); raw 0x8004 takes all remaining bytes as data"
unfoldable pub marshaled : List ℕ → ℕ → Result Marshaled Refused
unfolding spelled
marshaled b place =
    pick (ltb (length b) 4) (refuse place (BufferTooShort 4 (length b)))
    (pick (eqb (be16 b 0) 0x8004) (Ok (takes (length b) 4))
    (pick (ltb (be16 b 0) 0x8000) (Ok (takes (be16 b 0) 4))
    (extended b place (be16 b 0 - 0x8000))))

-- ---- what an object or a parameter takes

-- "inline length below 4: 5; total longer than the bytes: 4"
abbrev pub fitting : List ℕ → ℕ → Result Marshaled Refused → Result Marshaled Refused
fitting b place (Ok m) =
    pick (ltb m.total m.header) (refuse place (InlineTooShort m.total (be16 b 2)))
    (pick (leb m.total (length b)) (Ok m) (refuse place (BufferTooShort m.total (length b))))
fitting b place (Err r) = Err r

unfoldable pub measured : List ℕ → ℕ → Result Marshaled Refused
unfolding marshaled
measured b place = fitting b place (marshaled b place)
