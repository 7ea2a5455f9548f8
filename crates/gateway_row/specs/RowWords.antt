-- How a frame, and a row of records, go to a caller in C or Rust: a frame in an answer's eight words, a record of a row in ten, one
-- record behind the other.
use Rattle.std.specs.Prelude.{ℕ, ◌+◌, ◌/◌, zero, suc, List, [], ◌∷◌, ◌++◌, length, take, drop}
use Rattle.answer.specs.declared.Refused.{Refused}
use Rattle.dss_head.specs.Heads.{type_byte, flags_byte}
use Rattle.dss_head.specs.declared.DssHeader.{DssHeader}
use Rattle.dss_frame.specs.declared.DssFrame.{DssFrame}
use Rattle.gateway_words.specs.AnswerWords.{answer_len, refusal_words}

-- a head's format byte: the type's byte and the flags'
abbrev pub format_byte : DssHeader → ℕ
format_byte h = type_byte h.dss_type + flags_byte h.flags

-- a frame: 0, a place, length, the format byte, correlation, the payload's length, segments, and a last number
abbrev pub frame_at : ℕ → ℕ → DssFrame → List ℕ
frame_at place last f =
    0
    ∷ place
    ∷ f.header.length
    ∷ format_byte f.header
    ∷ f.header.correlation_id
    ∷ f.payload_len
    ∷ f.segments
    ∷ last
    ∷ []

-- W-201, "the first byte and the byte after the last one in the run": the two words that stand behind a record's eight
abbrev pub stretch : ℕ → ℕ → List ℕ
stretch first end = first ∷ end ∷ []

-- a frame's record in a row: the place is its payload's in the room, and the last of the eight is 0
abbrev pub record_words : DssFrame → List ℕ
record_words f = frame_at f.payload_at 0 f ++ stretch f.at f.end

-- "salvage entries that are refusals gain the same two"
abbrev pub refused_words : Refused → ℕ → ℕ → List ℕ
refused_words r first end = refusal_words r ++ stretch first end

-- how many words a row's record has, and how many records a row has place for
abbrev pub record_len : ℕ
record_len = answer_len + 2

abbrev pub places : List ℕ → ℕ
places row = length row / record_len

-- so many records of so many words each, from a row's start on
unfoldable pub cut : ℕ → ℕ → List ℕ → List (List ℕ)
cut width zero row = []
cut width (suc n) row = take width row ∷ cut width n (drop width row)
