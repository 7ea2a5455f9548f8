-- Changing one parameter of a request already built, beyond document 02's W-204: a frame in, the frame with that value changed out. `s`
-- is the frame given, `cp` the code point, `new` the new bytes. A place is a byte of the frame given. Refusals, in this order: those of
-- reading the one frame, nothing absorbed; 17 for bytes left over; the object's; 17, 11, 18; 9.
use Rattle.std.specs.Prelude.{ℕ, ◌+◌, ◌-◌, ◌%◌, ◌≡◌, Bool, false, List, [], ◌∷◌, ltb, leb, eqb, length, Result, Err}
use Rattle.wire.specs.Bytes.{pick, and, be16, part, splice, laid}
use Rattle.answer.specs.Rooms.{laid_at_start}
use Rattle.answer.specs.declared.Refusal.TheVariants.{UnreadableSize}
use Rattle.answer.specs.declared.Refused.{Refused}
use Rattle.dss_head.specs.declared.DssType.TheVariants.{Request}
use Rattle.dss_frame.specs.declared.Rules.TheVariants.{Reader}
use Rattle.dss_frame.specs.Segments.{Segment, payload_of, end_of}
use Rattle.dss_frame.specs.Reading.{Read, frame, refused}
use Rattle.dss_frame.specs.Written.{written}
use Rattle.ddm_builder.specs.Built.{built}
use Rattle.ddm_object.specs.Objects.{Object, Parsed, object, parsed}
use Rattle.ddm_object.specs.Objects as ddm
use Rattle.ddm_change.specs.Alone.{alone_at}
use Rattle.ddm_change.specs.Change.{Change, changed, faulty, lacking, change_of, unsound, no_such}

-- ---- places

-- where a payload's byte i stands, the heads of continuations counted in; the segments follow `from`
unfoldable pub place_in : ℕ → List Segment → ℕ → ℕ
place_in from [] i = from + i
place_in from (g ∷ gs) i =
    pick (ltb i (g.end - (g.at + g.framing))) (g.at + g.framing + i)
    (place_in g.end gs (i - (g.end - (g.at + g.framing))))

-- ---- the frame after

-- what the writer lays down of a payload, with the four bytes that stand behind the given frame's length: magic, format byte and
-- correlation are copied as they are
unfoldable pub reframed : List ℕ → List ℕ → List ℕ
unfolding written splice
reframed s payload = splice (written (record { type = Request; chained = false; same = false; correlation = 0; payload = payload })) 2 (part s 2 6)

-- document 02, W-209: "32,761 plus one or more times 32,765"
abbrev pub unreadable : ℕ → Bool
unreadable n = and (ltb 32761 n) (eqb ((n - 32761) % 32765) 0)

-- ---- what changing comes to: the frame after it, or a refusal

pub data Changed : Type 0 where
  lays_frame : List ℕ → Changed
  refuses_it : Refused → Changed

-- 18 at 0, where the frame after would have such a payload
abbrev pub framed_of : List ℕ → List ℕ → Changed
framed_of s payload = pick (unreadable (length payload)) (refuses_it (record { why = UnreadableSize; place = 0 })) (lays_frame (reframed s payload))

-- 17, 11, 18: the object's data changed, and the object built of them; the data stand behind the object's header
abbrev pub built_of : List ℕ → List Segment → Object → Change → Changed
built_of s gs o (changed d) = framed_of s (built o.code_point d)
built_of s gs o (faulty place) = refuses_it (unsound (place_in 0 gs (o.consumed - length o.content + place)))
built_of s gs o lacking = refuses_it no_such

-- 17 where bytes are left over behind the frame
abbrev pub unless_behind : List ℕ → List Segment → Changed → Changed
unless_behind s gs c = pick (leb (length s) (end_of 0 gs)) c (refuses_it (unsound (end_of 0 gs)))

-- 17 where bytes are left over behind the one object or behind the frame, at the first of them; the object's own refusals, 4, 5, 6, 8; 17
-- for raw length 0x8004
abbrev pub request_object : List ℕ → ℕ → List ℕ → List Segment → Parsed → Changed
request_object s cp new gs (ddm.refused r) = unless_behind s gs (refuses_it r)
request_object s cp new gs (object o) =
    pick (ltb o.consumed (length (payload_of s gs))) (refuses_it (unsound (place_in 0 gs o.consumed)))
    (unless_behind s gs
    (pick (eqb (be16 (payload_of s gs) 0) 0x8004) (refuses_it (unsound (place_in 0 gs 0)))
    (built_of s gs o (change_of o.content cp new))))

-- by the reader's rules: 1 or 16, 2, 3, 7
abbrev pub request_read : List ℕ → ℕ → List ℕ → Read → Changed
request_read s cp new (refused r) = refuses_it r
request_read s cp new (frame f) = request_object s cp new f.segments (parsed (payload_of s f.segments) (place_in 0 f.segments 0))

unfoldable pub request_of : List ℕ → ℕ → List ℕ → Changed
unfolding place_in reframed payload_of end_of alone_at change_of built parsed
request_of s cp new = request_read s cp new (alone_at Reader s 0)

-- ---- the call

-- 9 with the bytes needed, at 0
abbrev pub request_answer : Changed → ℕ → Result ℕ Refused
request_answer (lays_frame b) size = laid_at_start 0 size (length b)
request_answer (refuses_it r) size = Err r

-- nothing is written unless the answer is 0
abbrev pub request_room : Changed → List ℕ → List ℕ
request_room (lays_frame b) room = laid room 0 b
request_room (refuses_it r) room = room

-- `change_request`
pub record ChangesRequest (s : List ℕ) (cp : ℕ) (new room : List ℕ) (r : Result ℕ Refused) (after : List ℕ) : Type 0 where
  pub answers : r ≡ request_answer (request_of s cp new) (length room)
  pub room_is : after ≡ request_room (request_of s cp new) room
