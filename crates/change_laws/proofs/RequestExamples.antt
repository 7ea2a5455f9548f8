-- Values of `request_of`, computed: each refusal with its place and its rank, and frames of two segments at their real sizes.
use Prim.Native.Nat.{ℕ, ◌+◌}
use mathlib.Core.Path.{◌≡◌, refl}
use mathlib.Core.Bool.{Bool, true, false}
use mathlib.Core.List.{List, [], ◌∷◌, ◌++◌}
use lib.Dec.{eqb}
use lib.ListN.{length, replicate}
use Rattle.wire.specs.Bytes.{and, two}
use Rattle.answer.specs.declared.Refusal.{Refusal}
use Rattle.answer.specs.declared.Refusal.TheVariants.{Incomplete, DeadContinuation, InvalidMagic, InvalidDssType, LengthTooShort, NotFound, UnsoundData, UnreadableSize, BufferTooShort, InlineTooShort, HeaderTooShort, LengthTooLarge}
use Rattle.dss_head.specs.declared.DssType.TheVariants.{Request}
use Rattle.dss_frame.specs.Written.{written}
use Rattle.ddm_builder.specs.Built.{built}
use Rattle.ddm_object.specs.Objects.{parameters}
use Rattle.ddm_change.specs.Request.{Changed, lays_frame, refuses_it, request_of}

abbrev no : Refusal → ℕ → Changed
no why place = refuses_it (record { why = why; place = place })

-- a frame of one segment, by its format byte
abbrev framed : ℕ → List ℕ → List ℕ
framed format payload = two (length payload + 6) ++ (0xD0 ∷ format ∷ 0 ∷ 3 ∷ payload)

-- a small object with such data
abbrev object : List ℕ → List ℕ
object d = two (length d + 4) ++ (0x20 ∷ 0x0D ∷ d)

-- its parameter 0x2110 with data 7
abbrev seven : List ℕ
seven = 0 ∷ 5 ∷ 0x21 ∷ 0x10 ∷ 7 ∷ []

-- ---- the frame's own: 1, 2, 3, 7, each at 0, and 16 at the length

-- 1: a byte is missing, and it comes before 2 and 3; five bytes are no frame. 16: a continuation length of 1 is never whole,
-- which comes before 2 and 3 as well
cut : (request_of (0 ∷ 8 ∷ 0xD1 ∷ 0 ∷ 0 ∷ 3 ∷ 0 ∷ []) 0x2110 [] ≡ no Incomplete 0)
    × (request_of (0 ∷ 5 ∷ 0xD0 ∷ 1 ∷ 0 ∷ []) 0x2110 [] ≡ no Incomplete 0)
    × (request_of (0xFF ∷ 0xFF ∷ 0xD0 ∷ 1 ∷ replicate 32763 0 ++ (0 ∷ 1 ∷ [])) 0x2110 [] ≡ no DeadContinuation 32767)
    × (request_of (0xFF ∷ 0xFF ∷ 0xD1 ∷ 0 ∷ replicate 32763 0 ++ (0 ∷ 0 ∷ [])) 0x2110 [] ≡ no DeadContinuation 32767)
unfolding request_of parameters
cut = (refl, refl, refl, refl)

-- 2 comes before 3, 3 before 7, and 7 before 17 for the byte behind the frame
heads : (request_of (0 ∷ 6 ∷ 0xD1 ∷ 0x16 ∷ 0 ∷ 3 ∷ []) 0x2110 [] ≡ no (InvalidMagic 0xD1) 0)
    × (request_of (0 ∷ 5 ∷ 0xD0 ∷ 0x16 ∷ 0 ∷ 3 ∷ []) 0x2110 [] ≡ no (InvalidDssType 6) 0)
    × (request_of (0 ∷ 5 ∷ 0xD0 ∷ 1 ∷ 0 ∷ 3 ∷ []) 0x2110 [] ≡ no (LengthTooShort 5) 0)
unfolding request_of parameters
heads = (refl, refl, refl)

-- ---- 17 for bytes left over: behind the frame; behind the object; behind both, which is at the first of them

behind : (request_of (framed 1 (object seven) ++ (0 ∷ [])) 0x2110 [] ≡ no UnsoundData 15)
    × (request_of (framed 1 (object seven ++ (0 ∷ 0 ∷ []))) 0x2110 [] ≡ no UnsoundData 15)
    × (request_of (framed 1 (object seven ++ (0 ∷ 0 ∷ [])) ++ (0 ∷ [])) 0x2110 [] ≡ no UnsoundData 15)
unfolding request_of parameters
behind = (refl, refl, refl)

-- behind the frame comes before the object's 5, and behind the object before a fault of its data
behind_first : (request_of (framed 1 (0 ∷ 3 ∷ 0x20 ∷ 0x0D ∷ []) ++ (0 ∷ [])) 0x2110 [] ≡ no UnsoundData 10)
    × (request_of (framed 1 (object (0 ∷ []) ++ (0 ∷ []))) 0x2110 [] ≡ no UnsoundData 11)
unfolding request_of parameters
behind_first = (refl, refl)

-- ---- the object's: 4, 5, 6, 8, each at 6; and 17 for its raw length 0x8004

objects : (request_of (framed 1 []) 0x2110 [] ≡ no (BufferTooShort 4 0) 6)
    × (request_of (framed 1 (0 ∷ 10 ∷ 0x20 ∷ 0x0D ∷ seven)) 0x2110 [] ≡ no (BufferTooShort 10 9) 6)
    × (request_of (framed 1 (0 ∷ 3 ∷ 0x20 ∷ 0x0D ∷ [])) 0x2110 [] ≡ no (InlineTooShort 3 0x200D) 6)
    × (request_of (framed 1 (0x80 ∷ 2 ∷ 0x20 ∷ 0x0D ∷ [])) 0x2110 [] ≡ no (HeaderTooShort 2) 6)
    × (request_of (framed 1 (0x80 ∷ 12 ∷ 0x20 ∷ 0x0D ∷ replicate 8 0xFF)) 0x2110 [] ≡ no (LengthTooLarge 12) 6)
unfolding request_of parameters
objects = (refl, refl, refl, refl, refl)

raw_object : request_of (framed 1 (0x80 ∷ 4 ∷ 0x20 ∷ 0x0D ∷ seven)) 0x2110 [] ≡ no UnsoundData 6
unfolding request_of parameters
raw_object = refl

-- ---- its data's: 17 at the parameter's byte, also where none has the code point; then 11 at 0

-- raw length 0x8004; one that is cut, behind an object's header of eight bytes
inside : (request_of (framed 1 (object (seven ++ (0x80 ∷ 4 ∷ 0x24 ∷ 0x14 ∷ [])))) 0x2110 [] ≡ no UnsoundData 15)
    × (request_of (framed 1 (0x80 ∷ 8 ∷ 0x20 ∷ 0x0D ∷ 0 ∷ 0 ∷ 0 ∷ 9 ∷ seven ++ (0 ∷ 5 ∷ 0x24 ∷ 0x14 ∷ []))) 0x9999 [] ≡ no UnsoundData 19)
unfolding request_of parameters
inside = (refl, refl)

lacks : request_of (framed 1 (object seven)) 0x2414 [] ≡ no NotFound 0
unfolding request_of parameters
lacks = refl

-- ---- the frame after

-- all four high bits of the format byte stay, and so does a reply's type, and that of a request that wants no reply
kept : (request_of (framed 0xF1 (object seven)) 0x2110 (8 ∷ 9 ∷ []) ≡ lays_frame (framed 0xF1 (object (0 ∷ 6 ∷ 0x21 ∷ 0x10 ∷ 8 ∷ 9 ∷ []))))
    × (request_of (framed 0xA2 (object seven)) 0x2110 [] ≡ lays_frame (framed 0xA2 (object (0 ∷ 4 ∷ 0x21 ∷ 0x10 ∷ []))))
    × (request_of (framed 0x75 (object seven)) 0x2110 [] ≡ lays_frame (framed 0x75 (object (0 ∷ 4 ∷ 0x21 ∷ 0x10 ∷ []))))
unfolding request_of parameters
kept = (refl, refl, refl)

-- a frame as it is written; of a request as it is built, whose parameter 0x2110 has n bytes: n + 8 in all up to n = 32,759
sent : List ℕ → List ℕ
unfolding written
sent payload = written (record { type = Request; chained = true; same = true; correlation = 0x1234; payload = payload })

asked : ℕ → List ℕ
unfolding sent built
asked n = sent (built 0x200D (built 0x2110 (replicate n 5)))

abbrev same : List ℕ → List ℕ → Bool
same [] [] = true
same [] (y ∷ ys) = false
same (x ∷ xs) [] = false
same (x ∷ xs) (y ∷ ys) = and (eqb x y) (same xs ys)

abbrev is : Changed → List ℕ → Bool
is (lays_frame b) after = same b after
is (refuses_it r) after = false

-- to m bytes, from n
goes : ℕ → ℕ → Bool
unfolding request_of parameters asked
goes n m = is (request_of (asked n) 0x2110 (replicate m 5)) (asked m)

as_written : goes 1 2 ≡ true
unfolding goes
as_written = refl

-- ---- two segments, above 32,761 bytes of payload

-- from one into two, and back
grows : goes 32753 32754 ≡ true
unfolding goes
grows = refl

shrinks : goes 32754 32753 ≡ true
unfolding goes
shrinks = refl

lengths : and (eqb (length (asked 32753)) 32767) (eqb (length (asked 32754)) 32770) ≡ true
unfolding asked
lengths = refl

-- 18 at 0: a payload after of 16 + 65,510 = 32,761 + 32,765 bytes; one less is written
unreadable : request_of (asked 1) 0x2110 (replicate 65510 5) ≡ no UnreadableSize 0
unfolding request_of parameters asked
unreadable = refl

readable : goes 1 65509 ≡ true
unfolding goes
readable = refl

-- a raw length 0x8004 at byte n + 8 of the payload: the last of the first segment, and the first of the second
fault : ℕ → Changed
unfolding request_of parameters sent
fault n = request_of (sent (built 0x200D (built 0x2110 (replicate n 5) ++ (0x80 ∷ 4 ∷ 0x24 ∷ 0x14 ∷ [])))) 0x2110 []

faults : (fault 32752 ≡ no UnsoundData 32766)
    × (fault 32753 ≡ no UnsoundData 32769)
unfolding fault
faults = (refl, refl)
