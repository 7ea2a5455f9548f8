-- An answer over a run and over a longer one, by computation: what stays, what grows, and what may come to anything.
use Prim.Native.Nat.{ℕ}
use native.Mathlib.Omega.{arith}
use mathlib.Core.Path.{◌≡◌, refl}
use mathlib.Core.Logic.{inr}
use mathlib.Core.Bool.{Bool, true, false}
use mathlib.Core.List.{List, [], ◌∷◌, ◌++◌}
use Rattle.answer.specs.declared.Refusal.TheVariants.{Incomplete, InvalidMagic, OutOfBounds}
use Rattle.dss_head.specs.declared.DssType.TheVariants.{Reply, Object}
use Rattle.dss_frame.specs.declared.Rules.TheVariants.{Reader, Salvage}
use Rattle.dss_frame.specs.Segments.{Segment, payload_of, end_of, frame_walk, continuations, walk_fuel}
use Rattle.dss_frame.specs.Reading.{Frame, frame, refused, read_at, absorb, absorb_fuel, look}
use Rattle.dss_frame.specs.Frames.{refused_all, frames_fuel, all_frames}
use Rattle.demands.proofs.Table.{p2, p8}
use Rattle.demands.specs.Longer.{Unsettled, few_left, beyond, Settled}

-- the empty reply of P2
abbrev pub reply : Frame
reply = record {
  head = record { length = 6; dss_type = Reply; flags = record { chained = false; continue_on_error = false; same_correlation = false }; correlation_id = 7 };
  segments = record { at = 0; framing = 6; dropped = 0; end = 6 } ∷ [];
}

-- ---- a refusal other than 1 stays: P8, refused at 6

pub refused_before : read_at Reader p8 0 ≡ refused (record { why = InvalidMagic 0; place = 6 })
unfolding read_at absorb absorb_fuel look payload_of end_of frame_walk continuations walk_fuel
refused_before = refl

pub refused_after : read_at Reader (p8 ++ p2) 0 ≡ refused (record { why = InvalidMagic 0; place = 6 })
unfolding read_at absorb absorb_fuel look payload_of end_of frame_walk continuations walk_fuel
refused_after = refl

-- and where all frames are read
pub all_refused_before : all_frames p8 0 ≡ refused_all (record { why = InvalidMagic 0; place = 6 })
unfolding all_frames frames_fuel read_at absorb absorb_fuel look payload_of end_of frame_walk continuations walk_fuel
all_refused_before = refl

pub all_refused_after : all_frames (p8 ++ p2) 0 ≡ refused_all (record { why = InvalidMagic 0; place = 6 })
unfolding all_frames frames_fuel read_at absorb absorb_fuel look payload_of end_of frame_walk continuations walk_fuel
all_refused_after = refl

-- ---- a settled frame stays: a reply, and behind it another, with same correlation clear

pub settled : Settled (p2 ++ p2) 0 reply
unfolding end_of
settled = inr go
  where
    go : Unsettled (p2 ++ p2) Reply 6 → ⊥
    go (few_left h) = omega arith
    go (beyond h e ne same follow far) = omega arith

pub settled_before : read_at Reader (p2 ++ p2) 0 ≡ frame reply
unfolding read_at absorb absorb_fuel look payload_of end_of frame_walk continuations walk_fuel
settled_before = refl

pub settled_after : read_at Reader (p2 ++ p2 ++ p8) 0 ≡ frame reply
unfolding read_at absorb absorb_fuel look payload_of end_of frame_walk continuations walk_fuel
settled_after = refl

-- ---- an unsettled frame grows: P9, cut behind its first frame, and inside its second

abbrev object : List ℕ
object = 0x00 ∷ 0x07 ∷ 0xD0 ∷ 0x03 ∷ 0x00 ∷ 0x01 ∷ 0xAA ∷ []

-- the second frame but for its last byte
abbrev next : List ℕ
next = 0x00 ∷ 0x07 ∷ 0xD0 ∷ 0x53 ∷ 0x00 ∷ 0x01 ∷ []

abbrev handed : Bool → List Segment → Frame
handed chained gs = record {
  head = record { length = 7; dss_type = Object; flags = record { chained = chained; continue_on_error = false; same_correlation = false }; correlation_id = 1 };
  segments = record { at = 0; framing = 6; dropped = 0; end = 7 } ∷ gs;
}

-- "Fewer than six bytes left"
pub few_before : read_at Reader object 0 ≡ frame (handed false [])
unfolding read_at absorb absorb_fuel look payload_of end_of frame_walk continuations walk_fuel
few_before = refl

-- "Length beyond the run"
pub beyond_before : read_at Reader (object ++ next) 0 ≡ frame (handed false [])
unfolding read_at absorb absorb_fuel look payload_of end_of frame_walk continuations walk_fuel
beyond_before = refl

-- with the byte: two segments, and chained
pub grown_after : read_at Reader (object ++ next ++ (0xBB ∷ [])) 0 ≡ frame (handed true (record { at = 7; framing = 6; dropped = 0; end = 14 } ∷ []))
unfolding read_at absorb absorb_fuel look payload_of end_of frame_walk continuations walk_fuel
grown_after = refl

-- AA was handed out, and is now the beginning of AABB
pub bytes_before : payload_of (object ++ next) (handed false []).segments ≡ 0xAA ∷ []
unfolding payload_of
bytes_before = refl

pub bytes_after : payload_of (object ++ next ++ (0xBB ∷ [])) (handed true (record { at = 7; framing = 6; dropped = 0; end = 14 } ∷ [])).segments ≡ 0xAA ∷ 0xBB ∷ []
unfolding payload_of
bytes_after = refl

-- with a head that isn't one: refused behind the frame's end, and under salvage's rules the frame stays
pub refused_behind_after : read_at Reader (object ++ (0 ∷ 0 ∷ 0 ∷ 0 ∷ 0 ∷ 0 ∷ [])) 0 ≡ refused (record { why = InvalidMagic 0; place = 7 })
unfolding read_at absorb absorb_fuel look payload_of end_of frame_walk continuations walk_fuel
refused_behind_after = refl

pub closed_after : read_at Salvage (object ++ (0 ∷ 0 ∷ 0 ∷ 0 ∷ 0 ∷ 0 ∷ [])) 0 ≡ frame (handed false [])
unfolding read_at absorb absorb_fuel look payload_of end_of frame_walk continuations walk_fuel
closed_after = refl

-- ---- 1 may come to anything: two bytes, and then a frame, or a refusal

pub one_before : read_at Reader (0x00 ∷ 0x06 ∷ []) 0 ≡ refused (record { why = Incomplete; place = 0 })
unfolding read_at frame_walk
one_before = refl

pub one_frame : read_at Reader (0x00 ∷ 0x06 ∷ 0xD0 ∷ 0x02 ∷ 0x00 ∷ 0x07 ∷ []) 0 ≡ frame reply
unfolding read_at absorb absorb_fuel look payload_of end_of frame_walk continuations walk_fuel
one_frame = refl

pub one_refused : read_at Reader (0x00 ∷ 0x06 ∷ 0xD1 ∷ 0x02 ∷ 0x00 ∷ 0x07 ∷ []) 0 ≡ refused (record { why = InvalidMagic 0xD1; place = 0 })
unfolding read_at absorb absorb_fuel look payload_of end_of frame_walk continuations walk_fuel
one_refused = refl

-- ---- and so may 10

pub ten_before : read_at Reader [] 6 ≡ refused (record { why = OutOfBounds 6 0; place = 6 })
unfolding read_at
ten_before = refl

pub ten_one : read_at Reader p2 6 ≡ refused (record { why = Incomplete; place = 6 })
unfolding read_at frame_walk
ten_one = refl

pub ten_refused : read_at Reader p8 6 ≡ refused (record { why = InvalidMagic 0; place = 6 })
unfolding read_at absorb absorb_fuel look payload_of end_of frame_walk continuations walk_fuel
ten_refused = refl
