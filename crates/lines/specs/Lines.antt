-- The lines of `framelist` and `salvagelist`: document 01, the last part of "Both sides of each edge".
use Rattle.std.specs.Prelude.{ℕ, Bool, List, [], ◌∷◌, ◌++◌, get_or}
use Prim.Native.Char.{Char, code}
use Prim.Native.String.{String}
use Rattle.wire.specs.Bytes.{pick}
use Rattle.answer.specs.Numbers.{number_of, values_of}
use Rattle.answer.specs.declared.Refused.{Refused}
use Rattle.text.specs.Texts.{text, together, decimal}
use Rattle.dss_head.specs.declared.DssType.{DssType}
use Rattle.dss_head.specs.declared.DssType.TheVariants.{Request, Reply, Object, Communication, NoReply}
use Rattle.dss_head.specs.declared.DssFlags.{DssFlags}
use Rattle.dss_head.specs.declared.DssHeader.{DssHeader}

abbrev pub type_text : DssType → List ℕ
type_text Request = text "request"
type_text Reply = text "reply"
type_text Object = text "object"
type_text Communication = text "communication"
type_text NoReply = text "noreply"

-- "flags (c, e, s or -)"
abbrev pub letter_of : Bool → Char → ℕ
letter_of set letter = code (pick set letter "-")

abbrev pub flags_text : DssFlags → List ℕ
flags_text f = letter_of f.chained "c" ∷ letter_of f.continue_on_error "e" ∷ letter_of f.same_correlation "s" ∷ []

-- a number, with a word before it
abbrev pub numbered : String → ℕ → List ℕ
numbered word n = text word ++ decimal n

-- "Fields: first byte, type, flags, correlation, segments, payload length"
unfoldable pub frame_text : ℕ → DssHeader → ℕ → ℕ → List ℕ
unfolding together decimal
frame_text first h segments bytes =
    together
    (numbered "at " first
    ∷ text " " ∷ type_text h.dss_type
    ∷ text " " ∷ flags_text h.flags
    ∷ numbered " corr " h.correlation_id
    ∷ numbered " seg " segments
    ∷ numbered " bytes " bytes
    ∷ text "\n" ∷ [])

-- "then position and bytes left"
unfoldable pub end_text : ℕ → ℕ → List ℕ
unfolding together decimal
end_text position left = together (numbered "end " position ∷ numbered " left " left ∷ text "\n" ∷ [])

-- "`refused N at POSITION value V`": its number, its place, which is where the position then stands, and its first value
unfoldable pub refused_text : Refused → List ℕ
unfolding together decimal
refused_text r =
    together
    (numbered "refused " (number_of r.why) ∷ numbered " at " r.place ∷ numbered " value " (get_or (values_of r.why) 0 0) ∷ text "\n" ∷ [])
