-- What `framelist` and `salvagelist` write of an input: document 01, the last part of "Both sides of each edge".
use Rattle.std.specs.Prelude.{ℕ, zero, suc, ◌-◌, List, [], ◌∷◌, ◌++◌, leb, length}
use Rattle.wire.specs.Bytes.{pick}
use Rattle.answer.specs.Numbers.{not_whole}
use Rattle.text.specs.Texts.{text}
use Rattle.dss_frame.specs.declared.Rules.{Rules}
use Rattle.dss_frame.specs.declared.Rules.TheVariants.{Reader, Salvage}
use Rattle.dss_frame.specs.Segments.{payload_of, end_of}
use Rattle.dss_frame.specs.Reading.{Frame, Read, frame, refused, read_at}
use Rattle.dss_frame.specs.Salvage.{Entry, Salvaged, salvaged}
use Rattle.lines.specs.Lines.{frame_text, end_text, refused_text}

-- the line of a frame that was read at p
abbrev pub frame_line : List ℕ → ℕ → Frame → List ℕ
frame_line s p f = frame_text p f.head (length f.segments) (length (payload_of s f.segments))

-- the last line: a position, and the bytes that are left from there on
abbrev pub end_line : List ℕ → ℕ → List ℕ
end_line s p = end_text p (length s - p)

-- ---- framelist

-- "frame by frame": a frame's line, and on from its end. "Answer 1 leads to the end line", as does 16; "any other refusal prints .. in its place"
abbrev pub line_on : List ℕ → ℕ → Read → (ℕ → List ℕ) → List ℕ
line_on s p (frame f) more = frame_line s p f ++ more (end_of p f.segments)
line_on s p (refused r) more = pick (not_whole r.why) (end_line s p) (refused_text r)

unfoldable pub lines_fuel : ℕ → List ℕ → ℕ → List ℕ
unfolding payload_of end_of read_at frame_text end_text refused_text
lines_fuel zero s p = end_line s p
lines_fuel (suc fuel) s p = line_on s p (read_at Reader s p) (λ q. lines_fuel fuel s q)

-- from a place on; each frame takes six bytes at least
unfoldable pub lines_from : List ℕ → ℕ → List ℕ
unfolding lines_fuel
lines_from s p = lines_fuel (suc (length s)) s p

unfoldable pub frames_text : List ℕ → List ℕ
unfolding lines_from
frames_text s = lines_from s 0

-- ---- salvagelist

-- "framelist's line for each frame, `refused N at PLACE value V` for each refused entry"
abbrev pub entry_line : List ℕ → ℕ → Read → List ℕ
entry_line s p (frame f) = frame_line s p f
entry_line s p (refused r) = refused_text r

unfoldable pub entry_lines : List ℕ → List Entry → List ℕ
unfolding payload_of frame_text refused_text
entry_lines s [] = []
entry_lines s (e ∷ es) = entry_line s e.at e.read ++ entry_lines s es

-- "and last `end TAIL left BYTES`"
abbrev pub salvaged_text : List ℕ → Salvaged → List ℕ
salvaged_text s x = entry_lines s x.entries ++ end_line s x.tail

unfoldable pub salvage_text : List ℕ → List ℕ
unfolding salvaged entry_lines end_text
salvage_text s = salvaged_text s (salvaged s)

-- ---- both

abbrev pub lines_under : Rules → List ℕ → List ℕ
lines_under Reader s = frames_text s
lines_under Salvage s = salvage_text s

-- "at most 65,536 bytes (else the one line `input too long`)"
unfoldable pub list_text : Rules → List ℕ → List ℕ
unfolding frames_text salvage_text
list_text rules s = pick (leb (length s) 65536) (lines_under rules s) (text "input too long\n")
