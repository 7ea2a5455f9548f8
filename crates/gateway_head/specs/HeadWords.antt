-- Module 1 for a caller in C or Rust: what its functions answer in words, and what the lent room then holds.
use Rattle.std.specs.Prelude.{ℕ, List, length, Result, Ok, Err}
use Rattle.wire.specs.Bytes.{laid}
use Rattle.answer.specs.Rooms.{laid_at_start}
use Rattle.dss_head.specs.Heads.{type_byte, flags_byte, flags_of, head_bytes}
use Rattle.dss_head.specs.declared.Chunk.{Chunk}
use Rattle.dss_head.specs.declared.Chunk.TheVariants.{Dead, Last, Full}
use Rattle.gateway_words.specs.AnswerWords.{refusal_words, done_words, laid_words}
use Rattle.dss_head.specs.declared.DssHeader.{DssHeader}
use Rattle.dss_head.specs.declared.DssType.{DssType}
use Rattle.answer.specs.declared.Refused.{Refused}

-- a type: its byte
abbrev pub type_words : Result DssType Refused → List ℕ
type_words (Ok t) = done_words (type_byte t) 0 0 0
type_words (Err r) = refusal_words r

-- a head: length, the type's byte, the flags' byte, correlation
abbrev pub head_words : Result DssHeader Refused → List ℕ
head_words (Ok h) = done_words h.length (type_byte h.dss_type) (flags_byte h.flags) h.correlation_id
head_words (Err r) = refusal_words r

-- a continuation's raw length: 0 dead, 1 the last, 2 full
abbrev pub chunk_number : Chunk → ℕ
chunk_number Dead = 0
chunk_number Last = 1
chunk_number Full = 2

-- writing a head whose type was given as a byte: the type's refusal, then that of the lent room
abbrev pub written_words : Result DssType Refused → List ℕ → List ℕ
written_words (Ok t) room = laid_words (laid_at_start 0 (length room) 6)
written_words (Err r) room = refusal_words r

-- and what the room then holds, of a length, a flags' byte and a correlation
abbrev pub written_room : ℕ → Result DssType Refused → ℕ → ℕ → List ℕ → List ℕ
written_room n (Ok t) flags correlation room =
    laid room 0 (head_bytes (record { length = n; dss_type = t; flags = flags_of flags; correlation_id = correlation }))
written_room n (Err r) flags correlation room = room
