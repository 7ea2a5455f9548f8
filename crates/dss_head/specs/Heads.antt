-- Document 01, module 1, "Lengths and flags": lengths, the format byte, heads, over a list of bytes.
use Rattle.std.specs.Prelude.{ℕ, ◌+◌, ◌-◌, ◌/◌, ◌%◌, Bool, false, List, ◌∷◌, ◌++◌, ltb, eqb, length, get_or, Result, Ok, Err}
use Rattle.wire.specs.Bytes.{pick, or, be16, two}
use Rattle.answer.specs.declared.Refusal.TheVariants.{InvalidMagic, InvalidDssType, BufferTooShort}
use Rattle.dss_head.specs.declared.DssType.{DssType}
use Rattle.dss_head.specs.declared.DssType.TheVariants.{Request, Reply, Object, Communication, NoReply}
use Rattle.dss_head.specs.declared.DssFlags.{DssFlags}
use Rattle.dss_head.specs.declared.DssHeader.{DssHeader}
use Rattle.dss_head.specs.declared.Chunk.{Chunk}
use Rattle.dss_head.specs.declared.Chunk.TheVariants.{Dead, Last, Full}
use Rattle.answer.specs.declared.Refused.{Refused}

-- ---- lengths

-- "Raw 0xFFFF reads as length 32,767, every other raw length as itself, also 0x8000 to 0xFFFE"
abbrev pub length_of : ℕ → ℕ
length_of raw = pick (eqb raw 0xFFFF) 32767 raw

-- "0x7FFF and 0xFFFF take 32,767 bytes and another must follow"
abbrev pub is_full : ℕ → Bool
is_full raw = or (eqb raw 0xFFFF) (eqb raw 0x7FFF)

abbrev pub continuation_length : ℕ → ℕ
continuation_length raw = pick (is_full raw) 32767 raw

-- "The decision by raw continuation length: 0 and 1 are never whole; 2 to 0x7FFE and 0x8000 to 0xFFFE are the last;
-- 0x7FFF and 0xFFFF take 32,767 bytes and another must follow"
abbrev pub chunk_of : ℕ → Chunk
chunk_of raw =
    pick (ltb raw 2) Dead
    (pick (ltb raw 0x7FFF) Last
    (pick (eqb raw 0x7FFF) Full
    (pick (ltb raw 0xFFFF) Last Full)))

-- ---- the format byte

-- "low four bits the type (1 request, 2 reply, 3 object, 4 communication)"; W-210: "the no-reply request DSS, type 5 of DRDA
-- volume 3. The type reading accepts 1 to 5". 3 is any other, "the low four bits"
abbrev pub type_at : ℕ → ℕ → Result DssType Refused
type_at format place =
    pick (eqb (format % 16) 1) (Ok Request)
    (pick (eqb (format % 16) 2) (Ok Reply)
    (pick (eqb (format % 16) 3) (Ok Object)
    (pick (eqb (format % 16) 4) (Ok Communication)
    (pick (eqb (format % 16) 5) (Ok NoReply)
    (Err (record { why = InvalidDssType (format % 16); place = place }))))))

abbrev pub type_byte : DssType → ℕ
type_byte Request = 1
type_byte Reply = 2
type_byte Object = 3
type_byte Communication = 4
type_byte NoReply = 5

-- whether the bit of that weight is set
abbrev pub bit : ℕ → ℕ → Bool
bit weight b = eqb (b / weight % 2) 1

-- "0x40 chained, 0x20 continue on error, 0x10 same correlation; 0x80 is dropped"
abbrev pub flags_of : ℕ → DssFlags
flags_of b = record { chained = bit 0x40 b; continue_on_error = bit 0x20 b; same_correlation = bit 0x10 b }

abbrev pub flags_byte : DssFlags → ℕ
flags_byte f = pick f.chained 0x40 0 + pick f.continue_on_error 0x20 0 + pick f.same_correlation 0x10 0

abbrev pub no_flags : DssFlags
no_flags = record { chained = false; continue_on_error = false; same_correlation = false }

-- ---- heads

-- the head that a type makes of the six bytes at a place
abbrev pub head_with : List ℕ → ℕ → Result DssType Refused → Result DssHeader Refused
head_with s at (Ok t) =
    Ok (record { length = length_of (be16 s at); dss_type = t; flags = flags_of (get_or s (at + 3) 0); correlation_id = be16 s (at + 4) })
head_with s at (Err r) = Err r

-- "Parsing a head checks 4 (six bytes), 2, 3"
abbrev pub head_at : List ℕ → ℕ → Result DssHeader Refused
head_at s at =
    pick (ltb (length s - at) 6) (Err (record { why = BufferTooShort 6 (length s - at); place = at }))
    (pick (eqb (get_or s (at + 2) 0) 0xD0) (head_with s at (type_at (get_or s (at + 3) 0) at))
    (Err (record { why = InvalidMagic (get_or s (at + 2) 0); place = at })))

-- "Writing a head lays down its length as given"
abbrev pub head_bytes : DssHeader → List ℕ
head_bytes h = two h.length ++ (0xD0 ∷ (type_byte h.dss_type + flags_byte h.flags) ∷ two h.correlation_id)
