-- With a longer run lent, what was answered at a position stays, as far as document 01's rules of reading allow: "`extend`
-- becomes lending a longer run with the same position". Statements about any reader.
use Rattle.std.specs.Prelude.{ℕ, ◌-◌, ◌≤◌, ◌<◌, ◌≡◌, Bool, true, false, ◌⊎◌, List, ◌++◌, length, Ok}
use Rattle.wire.specs.Bytes.{be16}
use Rattle.answer.specs.Numbers.{number_of}
use Rattle.answer.specs.declared.Refusal.TheVariants.{DeadContinuation}
use Rattle.answer.specs.declared.Refused.{Refused}
use Rattle.dss_head.specs.Heads.{head_at}
use Rattle.dss_head.specs.declared.DssType.{DssType}
use Rattle.dss_head.specs.declared.DssHeader.{DssHeader}
use Rattle.dss_frame.specs.declared.Rules.{Rules}
use Rattle.dss_frame.specs.Segments.{Segment, payload_of, end_of, dead, frame_walk}
use Rattle.dss_frame.specs.Reading.{Read, frame, refused, Frame, follows, own_object, with_chained}
use Rattle.dss_frame.specs.Frames.{refused_all}
use Rattle.demands.specs.Demands.{Reader}
use Rattle.demands.specs.AllFrames.{AllReader}

-- the two reasons to be finished at q that more bytes can do away with, behind a first frame of a type: "Fewer than six bytes
-- left", and, where no reason before it holds, "Length beyond the run"
pub data Unsettled (s : List ℕ) (type : DssType) (q : ℕ) : Type 0 where
  few_left : length s - q < 6 → Unsettled s type q
  beyond : (h : DssHeader) → head_at s q ≡ Ok h → (be16 s q ≡ 0xFFFF → ⊥) → h.flags.same_correlation ≡ true → follows type h.dss_type ≡ true
      → length s - q < be16 s q → Unsettled s type q

-- a frame that no more bytes can change: one in several segments of its own, or one at whose end neither reason holds
abbrev pub Settled : List ℕ → ℕ → Frame → Type 0
Settled s p f = (be16 s p ≡ 0xFFFF) ⊎ (Unsettled s f.head.dss_type (end_of p f.segments) → ⊥)

-- what refuses a head: 2, 3 or 7
abbrev pub OfHead : Refused → Type 0
OfHead r = (number_of r.why ≡ 2) ⊎ ((number_of r.why ≡ 3) ⊎ (number_of r.why ≡ 7))

-- what no further bytes can mend: such a refusal, or 16
abbrev pub Final : Refused → Type 0
Final r = (number_of r.why ≡ 16) ⊎ OfHead r

-- A refusal other than 1 is 16, 2, 3 or 7, and stays as it is.
abbrev pub RefusalsStay : Reader → Type 0
RefusalsStay reads =
    (s t : List ℕ) (p : ℕ) (r : Refused) → p ≤ length s → reads s p ≡ refused r → (number_of r.why ≡ 1 → ⊥) → Final r × (reads (s ++ t) p ≡ refused r)

-- A settled frame stays as it is, and so does its payload.
abbrev pub SettledStay : Reader → Type 0
SettledStay reads =
    (s t : List ℕ) (p : ℕ) (f : Frame) → reads s p ≡ frame f → Settled s p f → (reads (s ++ t) p ≡ frame f) × (payload_of (s ++ t) f.segments ≡ payload_of s f.segments)

-- what may become of a frame over a longer run: a frame with its segments first and its head but for the chained flag, so
-- that the bytes handed out before are the first of those handed out after; or a head at its end, or behind it, is refused
pub data Grown (s t : List ℕ) (p : ℕ) (f : Frame) : Read → Type 0 where
  goes_on : (chained : Bool) (more : List Segment) → payload_of (s ++ t) (f.segments ++ more) ≡ payload_of s f.segments ++ payload_of (s ++ t) more
      → Grown s t p f (frame (record { head = with_chained f.head chained; segments = f.segments ++ more }))
  refused_behind : (r : Refused) → OfHead r → end_of p f.segments ≤ r.place → Grown s t p f (refused r)

-- Any frame stays the beginning of what is read, unless a head behind it is refused.
abbrev pub FramesGrow : Reader → Type 0
FramesGrow reads = (s t : List ℕ) (p : ℕ) (f : Frame) → reads s p ≡ frame f → Grown s t p f (reads (s ++ t) p)

-- W-203: a frame with "0 and 1", which "are never whole", for a continuation length is refused with 16 and the place of that
-- length, and stays so.
abbrev pub DeadStays : Rules → Reader → Type 0
DeadStays rules reads = (s t : List ℕ) (p q : ℕ) → p ≤ length s → frame_walk rules s p ≡ dead q → reads (s ++ t) p ≡ refused (record { why = DeadContinuation; place = q })

-- Where all frames are read, a refusal stays as it is: a frame before a refused head is settled by it.
abbrev pub AllRefusalsStay : AllReader → Type 0
AllRefusalsStay reads = (s t : List ℕ) (p : ℕ) (r : Refused) → p ≤ length s → reads s p ≡ refused_all r → reads (s ++ t) p ≡ refused_all r

-- ---- when a frame may be taken while bytes still come in

-- says whether a whole frame stands at a place of a run, as `has_complete_frame` does
abbrev pub Complete : Type 0
Complete = List ℕ → ℕ → Bool

-- A frame with a whole frame behind it is settled.
abbrev pub WholeBehindSettles : Complete → Type 0
WholeBehindSettles complete = (s : List ℕ) (p : ℕ) (f : Frame) → complete s (end_of p f.segments) ≡ true → Settled s p f

-- The rule "a frame is taken once a whole frame stands behind it": it then stays as it is whatever bytes follow, and so does
-- its payload.
abbrev pub TakenStay : Reader → Complete → Type 0
TakenStay reads complete =
    (s t : List ℕ) (p : ℕ) (f : Frame) → reads s p ≡ frame f → complete s (end_of p f.segments) ≡ true
    → (reads (s ++ t) p ≡ frame f) × (payload_of (s ++ t) f.segments ≡ payload_of s f.segments)

-- a frame read in s is the beginning of one read over a longer run: type and correlation are the same, and its payload is the
-- first of the other's
pub record Begins (s t : List ℕ) (f g : Frame) : Type 0 where
  pub type : g.head.dss_type ≡ f.head.dss_type
  pub correlation : g.head.correlation_id ≡ f.head.correlation_id
  pub more : List ℕ
  pub payload : payload_of (s ++ t) g.segments ≡ payload_of s f.segments ++ more

-- What it costs to wait: nothing that was read. Asked again with more bytes, a frame that waits is the beginning of what is
-- read, or a head at its end or behind it is refused, 2, 3 or 7; it is never 1 again.
abbrev pub WaitingLosesNothing : Reader → Type 0
WaitingLosesNothing reads =
    (s t : List ℕ) (p : ℕ) (f : Frame) → reads s p ≡ frame f
    → ((g : Frame) → reads (s ++ t) p ≡ frame g → Begins s t f g) × ((r : Refused) → reads (s ++ t) p ≡ refused r → OfHead r × (end_of p f.segments ≤ r.place))

-- And where such a head is refused, what salvage reads at the same place is a frame that it is the beginning of. (A frame in
-- several segments of its own is settled, and doesn't wait.)
abbrev pub SalvageKeepsWaiting : Reader → Reader → Type 0
SalvageKeepsWaiting reads salvages =
    (s t : List ℕ) (p : ℕ) (f : Frame) → (be16 s p ≡ 0xFFFF → ⊥) → reads s p ≡ frame f
    → record { read : Frame; is : salvages (s ++ t) p ≡ frame read; begins : Begins s t f read }

-- what stands at q is no segment of a frame of that type before it, by document 01's list: "Raw 0xFFFF, or same correlation
-- clear", another type, or "an object of its own"
pub data Apart (s : List ℕ) (type : DssType) (q : ℕ) : Type 0 where
  continued : (h : DssHeader) → head_at s q ≡ Ok h → be16 s q ≡ 0xFFFF → Apart s type q
  clear : (h : DssHeader) → head_at s q ≡ Ok h → h.flags.same_correlation ≡ false → Apart s type q
  other_type : (h : DssHeader) → head_at s q ≡ Ok h → follows type h.dss_type ≡ false → Apart s type q
  own_object_is : (h : DssHeader) → head_at s q ≡ Ok h → own_object s q ≡ true → Apart s type q

-- A frame taken early is what would have been read, if what comes behind it is such.
abbrev pub EarlyStay : Reader → Type 0
EarlyStay reads =
    (s t : List ℕ) (p : ℕ) (f : Frame) → reads s p ≡ frame f → Apart (s ++ t) f.head.dss_type (end_of p f.segments)
    → (reads (s ++ t) p ≡ frame f) × (payload_of (s ++ t) f.segments ≡ payload_of s f.segments)
