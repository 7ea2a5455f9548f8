-- Reading one frame: document 01, "Reading". The rules are the reader's or salvage's.
use Rattle.std.specs.Prelude.{ℕ, zero, suc, ◌+◌, ◌-◌, Bool, List, [], ◌∷◌, ◌++◌, ltb, leb, eqb, length, Result, Ok, Err}
use Rattle.answer.specs.Numbers.{number_of}
use Rattle.answer.specs.Rooms.{out_of_bounds}
use Rattle.answer.specs.declared.Refusal.TheVariants.{Incomplete, LengthTooShort, DeadContinuation}
use Rattle.answer.specs.declared.Refused.{Refused}
use Rattle.wire.specs.Bytes.{pick, and, or, be16, marker}
use Rattle.dss_head.specs.Heads.{head_at, type_byte}
use Rattle.dss_head.specs.declared.DssType.{DssType}
use Rattle.dss_head.specs.declared.DssType.TheVariants.{Request, Reply, Object, NoReply}
use Rattle.dss_head.specs.declared.DssHeader.{DssHeader}
use Rattle.dss_frame.specs.declared.Rules.{Rules}
use Rattle.dss_frame.specs.declared.Rules.TheVariants.{Reader, Salvage}
use Rattle.dss_frame.specs.Segments.{Segment, Walk, whole, short, dead, payload_of, end_of, frame_walk}

-- a frame as read: its head, with the last segment's chained flag, and its segments
pub record Frame : Type 0 where
  pub head : DssHeader
  pub segments : List Segment

pub data Read : Type 0 where
  frame : Frame → Read
  refused : Refused → Read

-- types are equal where their numbers are (`Types`, `type_same`)
abbrev pub same_type : DssType → DssType → Bool
same_type t u = eqb (type_byte t) (type_byte u)

-- "the type equals the first frame's, or is object after a first reply or request"; W-210: "an object may follow a first type 5
-- as it follows a request"
abbrev pub follows : DssType → DssType → Bool
follows t next = or (same_type next t) (and (same_type next Object) (or (same_type t Reply) (or (same_type t Request) (same_type t NoReply))))

-- "Length above 10, bytes 3 and 4 of its payload above 0x0100 as a number, and bytes 1 and 2 at most length - 2"
abbrev pub own_object : List ℕ → ℕ → Bool
own_object s q = and (ltb 10 (be16 s q)) (and (ltb 0x0100 (be16 s (q + 8))) (leb (be16 s (q + 6)) (be16 s q - 2)))

-- "If the payload so far has at least four bytes and starts 80 04"
abbrev pub starts_extended : List ℕ → Bool
starts_extended payload = and (leb 4 (length payload)) (eqb (be16 payload 0) 0x8004)

-- "and this payload starts 7F FE or 7F FF, those two are dropped"
abbrev pub dropped_at : List ℕ → Bool → ℕ → ℕ
dropped_at s extended q = pick (and extended (and (leb 8 (be16 s q)) (marker (be16 s (q + 6))))) 2 0

-- what a look at what follows a frame says
pub data Look : Type 0 where
  finished : Look
  absorbs : Segment → Bool → Look
  refuses : Refused → Look

-- a head refused while looking ahead refuses the call, and under salvage's rules closes the frame
abbrev pub refusal : Rules → Refused → Look
refusal Reader r = refuses r
refusal Salvage r = finished

abbrev pub look_at : Rules → List ℕ → DssType → Bool → ℕ → Result DssHeader Refused → Look
look_at rules s t extended q (Err r) = refusal rules r
look_at rules s t extended q (Ok h) =
    pick (eqb (be16 s q) 0xFFFF) finished
    (pick h.flags.same_correlation
    (pick (follows t h.dss_type)
    (pick (leb (be16 s q) (length s - q))
    (pick (ltb (be16 s q) 6) (refusal rules (record { why = LengthTooShort (be16 s q); place = q }))
    (pick (own_object s q) finished
    (absorbs (record { at = q; framing = 6; dropped = dropped_at s extended q; end = q + be16 s q }) h.flags.chained)))
    finished)
    finished)
    finished)

-- at q, after a first head of type t; whether the payload so far starts an extended object
unfoldable pub look : Rules → List ℕ → DssType → Bool → ℕ → Look
look rules s t extended q = pick (ltb (length s - q) 6) finished (look_at rules s t extended q (head_at s q))

abbrev pub with_chained : DssHeader → Bool → DssHeader
with_chained h c =
    record { length = h.length; dss_type = h.dss_type; flags = record { chained = c; continue_on_error = h.flags.continue_on_error; same_correlation = h.flags.same_correlation }; correlation_id = h.correlation_id }

abbrev pub behind_frame : DssHeader → List Segment → Look → (DssHeader → List Segment → Read) → Read
behind_frame h gs finished more = frame (record { head = h; segments = gs })
behind_frame h gs (absorbs g c) more = more (with_chained h c) (gs ++ (g ∷ []))
behind_frame h gs (refuses r) more = refused r

-- "Any other frame then looks at what follows, again and again", at most `fuel` times
unfoldable pub absorb_fuel : ℕ → Rules → List ℕ → ℕ → DssHeader → List Segment → Read
unfolding payload_of end_of look
absorb_fuel zero rules s p h gs = frame (record { head = h; segments = gs })
absorb_fuel (suc fuel) rules s p h gs =
    behind_frame h gs (look rules s h.dss_type (starts_extended (payload_of s gs)) (end_of p gs)) (λ h' gs'. absorb_fuel fuel rules s p h' gs')

-- each takes six bytes at least
unfoldable pub absorb : Rules → List ℕ → ℕ → DssHeader → List Segment → Read
unfolding absorb_fuel
absorb rules s p h gs = absorb_fuel (length s) rules s p h gs

abbrev pub read_head : Rules → List ℕ → ℕ → List Segment → Result DssHeader Refused → Read
read_head rules s p gs (Err r) = refused r
read_head rules s p gs (Ok h) =
    pick (ltb (be16 s p) 6) (refused (record { why = LengthTooShort (be16 s p); place = p }))
    (pick (eqb (be16 s p) 0xFFFF) (frame (record { head = h; segments = gs })) (absorb rules s p h gs))

-- W-203, "16 says a continuation length of 0 or 1 was reached in an otherwise present frame, with the place of that length; 1
-- remains for all else": what becomes of a walk from p, by what is done with a refusal and with the segments
abbrev pub if_whole : {A : Type 0} → ℕ → (Refused → A) → (List Segment → A) → Walk → A
if_whole p not_whole_lem is_whole short = not_whole_lem (record { why = Incomplete; place = p })
if_whole p not_whole_lem is_whole (dead q) = not_whole_lem (record { why = DeadContinuation; place = q })
if_whole p not_whole_lem is_whole (whole gs) = is_whole gs

abbrev pub read_walk : Rules → List ℕ → ℕ → Walk → Read
read_walk rules s p = if_whole p refused (λ gs. read_head rules s p gs (head_at s p))

-- "`next_frame`, order: 10, 1, then head 2, 3, 7"; W-203: "16 takes 1's place in the order"
unfoldable pub read_at : Rules → List ℕ → ℕ → Read
unfolding absorb frame_walk
read_at rules s p =
    pick (leb p (length s)) (read_walk rules s p (frame_walk rules s p))
    (refused (out_of_bounds p (length s)))

-- where a refusal leaves the position: at the refused head for 2, 3 and 7, else where it was. The place says both, but for
-- 16, whose place is that of a length inside the frame
abbrev pub position_left : ℕ → Refused → ℕ
position_left p r = pick (eqb (number_of r.why) 16) p r.place

abbrev pub position_after : ℕ → Read → ℕ
position_after p (frame f) = end_of p f.segments
position_after p (refused r) = position_left p r
