-- Demand 2, of DDM: each ported call "meets the DSS and DDM layouts of The Open Group's DRDA volume 3, with differences listed".
-- As statements about any builder, any parser and any layout.
use Rattle.std.specs.Prelude.{ℕ, ◌+◌, ◌^◌, ◌<◌, ◌≡◌, false, List, [], ◌++◌, length, take, drop}
use Rattle.wire.specs.Bytes.{be16, two, spelled, Octets}
use Rattle.layouts.specs.DdmLayout.{Documented, Ddm, Streamed}
use Rattle.ddm_length.specs.Markers.{has_markers, unmarked}
use Rattle.ddm_object.specs.Objects.{Object, Parsed, object}

-- makes an object's bytes of its code point and its data
abbrev pub Builder : Type 0
Builder = ℕ → List ℕ → List ℕ

-- reads the object at the front of bytes that stand at a place
abbrev pub Parser : Type 0
Parser = List ℕ → ℕ → Parsed

-- says which bytes are laid out for a code point and data
abbrev pub Layout : Type 1
Layout = ℕ → List ℕ → List ℕ → Type 0

-- A code point of sixteen bits, and data that a machine of 64 bits can hold.
abbrev pub FitsWidth : ℕ → List ℕ → Type 0
FitsWidth cp d = (cp < 65536) × (length d < 2 ^ 63)

-- an object as read: its code point, its data, and how many bytes it takes
abbrev pub read_as : ℕ → List ℕ → ℕ → Parsed
read_as cp d n = object (record { code_point = cp; content = d; consumed = n })

-- "meets the ... layouts": what is built has the layout, and an end of its own.
abbrev pub BuildsLayout : Builder → Type 0
BuildsLayout builds = (cp : ℕ) (d : List ℕ) → FitsWidth cp d → Ddm cp d (builds cp d) × (Streamed (builds cp d) → ⊥)

-- "meets the ... layouts, with differences listed": what has the layout is read as it says, whatever stands behind it. An object
-- without an end of its own is read so where it has the end of what carries it; and, which is the difference, where no markers
-- stand in its data.
abbrev pub ReadsDdmLayout : Parser → Type 0
ReadsDdmLayout parses =
    (cp : ℕ) (d p behind : List ℕ) (place : ℕ) → FitsWidth cp d → Ddm cp d p → (Streamed p → behind ≡ []) → (Streamed p → has_markers d ≡ false)
    → parses (p ++ behind) place ≡ read_as cp d (length p)

-- The difference: raw 0x8004 takes all that is left, and what looks like a continuation marker at a marker's place is removed, be
-- it data or not.
abbrev pub RemovesMarkers : Parser → Type 0
RemovesMarkers parses = (cp : ℕ) (d : List ℕ) (place : ℕ) → cp < 65536 → parses (two 0x8004 ++ (two cp ++ d)) place ≡ read_as cp (unmarked d) (4 + length d)

-- A further difference: any other number of length bytes is read as well, though the volume has four, six and eight.
abbrev pub ReadsOtherWidths : Parser → Type 0
ReadsOtherWidths parses =
    (cp : ℕ) (d ls behind : List ℕ) (place : ℕ) → FitsWidth cp d → (0 < length ls) × (length ls < 0x7FFC) → spelled 0 ls ≡ length d
    → parses ((two (0x8004 + length ls) ++ (two cp ++ (ls ++ d))) ++ behind) place ≡ read_as cp d (4 + length ls + length d)

-- The other way: of bytes with a raw length of the volume, and no markers where it is 0x8004, what is read is what they are laid
-- out for.
abbrev pub ReadHasLayout : Parser → Type 0
ReadHasLayout parses =
    (b : List ℕ) (place : ℕ) (o : Object) → Octets b → Documented (be16 b 0) → (Streamed b → has_markers (drop 4 b) ≡ false) → parses b place ≡ object o
    → Ddm o.code_point o.content (take o.consumed b)

-- A layout fixes its object: bytes that are laid out for two are laid out for equal ones.
abbrev pub FixesObject : Layout → Type 0
FixesObject layout =
    (cp cp' : ℕ) (d d' p : List ℕ) → cp < 65536 → cp' < 65536 → layout cp d p → layout cp' d' p → (cp ≡ cp') × (d ≡ d')
