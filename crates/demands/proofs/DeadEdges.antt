-- Document 02, W-203, both sides of the edge, computed at real sizes: where a continuation length of 0 or 1 stands, 16 with its
-- place, and the position stays; where it isn't wholly there, 1; and a length of 2 is a frame's last.
use Rattle.std.specs.Prelude.{Err}
use Prim.Native.Nat.{ℕ, zero, suc}
use mathlib.Core.Path.{◌≡◌, refl}
use mathlib.Core.Bool.{false}
use mathlib.Core.List.{List, [], ◌∷◌, ◌++◌}
use lib.ListN.{length, replicate, take}
use Rattle.answer.specs.declared.Refusal.{Refusal}
use Rattle.answer.specs.declared.Refusal.TheVariants.{Incomplete, InvalidMagic, DeadContinuation}
use Rattle.dss_frame.specs.Segments.{payload_of, end_of, frame_walk, continuations, walk_fuel}
use Rattle.dss_frame.specs.Reading.{Read, frame, refused, read_at, absorb, absorb_fuel, look, position_after}
use Rattle.dss_frame.specs.Frames.{AllRead, frames, refused_all, frames_fuel, all_frames}
use Rattle.dss_frame.specs.Salvage.{salvage_fuel, salvaged}
use Rattle.dss_frame.specs.declared.Rules.TheVariants.{Reader, Salvage}
use Rattle.dss_reader.specs.Reader.{frame_end, is_end}
use Rattle.demands.proofs.Table.{p2}

-- so many full continuations, and what stands behind them
unfoldable pub fulls : ℕ → List ℕ → List ℕ
fulls zero rest = rest
fulls (suc k) rest = 0x7F ∷ 0xFF ∷ (replicate 32765 0xC1 ++ fulls k rest)

-- a frame in several segments, by its magic byte: a first of 32,767 bytes, so many full continuations, and what stands where the
-- next length is due
unfoldable pub several : ℕ → ℕ → List ℕ → List ℕ
unfolding fulls
several magic k rest = 0xFF ∷ 0xFF ∷ magic ∷ 0x03 ∷ 0x00 ∷ 0x01 ∷ (replicate 32761 0xC1 ++ fulls k rest)

-- what is read at its first byte
unfoldable pub reading : ℕ → ℕ → List ℕ → Read
unfolding several
reading magic k rest = read_at Reader (several magic k rest) 0

abbrev refuses : Refusal → ℕ → Read
refuses y q = refused (record { why = y; place = q })

-- 0, the end and the count of segments of a frame; or the refusal's place
abbrev ends_at : Read → List ℕ
ends_at (frame f) = 0 ∷ end_of 0 f.segments ∷ length f.segments ∷ []
ends_at (refused r) = r.place ∷ []

-- how many frames, and where the reading ends; or the refusal's place
abbrev counted : AllRead → List ℕ
counted (frames fs q) = length fs ∷ q ∷ []
counted (refused_all r) = r.place ∷ []

-- 0 and 1 as the first continuation's length, the last two bytes of the run; and with bytes behind them
pub first_dead : (reading 0xD0 0 (0 ∷ 0 ∷ []) ≡ refuses DeadContinuation 32767)
    × (reading 0xD0 0 (0 ∷ 1 ∷ []) ≡ refuses DeadContinuation 32767)
    × (reading 0xD0 0 (0 ∷ 1 ∷ 0xC1 ∷ 0xC1 ∷ 0xC1 ∷ []) ≡ refuses DeadContinuation 32767)
unfolding reading several fulls read_at frame_walk continuations walk_fuel
first_dead = (refl, refl, refl)

-- and as the third's
pub third_dead : (reading 0xD0 2 (0 ∷ 0 ∷ []) ≡ refuses DeadContinuation 98301)
    × (reading 0xD0 2 (0 ∷ 1 ∷ []) ≡ refuses DeadContinuation 98301)
    × (reading 0xD0 2 (0 ∷ 0 ∷ 0xC1 ∷ []) ≡ refuses DeadContinuation 98301)
unfolding reading several fulls read_at frame_walk continuations walk_fuel
third_dead = (refl, refl, refl)

-- one byte of the length, or none: 1, at the frame; so where a byte is missing in a segment before it
pub not_yet : (reading 0xD0 0 (0 ∷ []) ≡ refuses Incomplete 0)
    × (reading 0xD0 0 [] ≡ refuses Incomplete 0)
    × (reading 0xD0 2 (0 ∷ []) ≡ refuses Incomplete 0)
    × (read_at Reader (take 98300 (several 0xD0 2 (0 ∷ 1 ∷ []))) 0 ≡ refuses Incomplete 0)
unfolding reading several fulls read_at frame_walk continuations walk_fuel
not_yet = (refl, refl, refl, refl)

-- 2 is the last: a frame, and no byte of it is payload
pub two_ends : ends_at (reading 0xD0 0 (0 ∷ 2 ∷ [])) ≡ 0 ∷ 32769 ∷ 2 ∷ []
unfolding reading several fulls read_at end_of frame_walk continuations walk_fuel
two_ends = refl

-- 16 before 2: the magic is D1, which is answered once the frame is whole
pub before_magic : (reading 0xD1 0 (0 ∷ 1 ∷ []) ≡ refuses DeadContinuation 32767) × (reading 0xD1 0 (0 ∷ 2 ∷ []) ≡ refuses (InvalidMagic 0xD1) 0)
unfolding reading several fulls read_at frame_walk continuations walk_fuel
before_magic = (refl, refl)

-- ---- behind a reply of six bytes (P2)

unfoldable pub behind_reply : List ℕ
unfolding several
behind_reply = p2 ++ several 0xD0 0 (0 ∷ 1 ∷ [])

-- 16 at 6 + 32,767, and the reader stays at 6; salvage's rules say the same
pub stands_still : (read_at Reader behind_reply 6 ≡ refuses DeadContinuation 32773)
    × (position_after 6 (read_at Reader behind_reply 6) ≡ 6)
    × (read_at Salvage behind_reply 6 ≡ refuses DeadContinuation 32773)
unfolding behind_reply several fulls read_at frame_walk continuations walk_fuel
stands_still = (refl, refl, refl)

-- the frame's end is refused alike, and the yes-or-no call says no
pub no_end : (frame_end behind_reply 6 ≡ Err (record { why = DeadContinuation; place = 32773 })) × (is_end (frame_end behind_reply 6) ≡ false)
unfolding behind_reply several fulls frame_end frame_walk continuations walk_fuel
no_end = (refl, refl)

-- `read_all_frames` hands the reply out and ends at 6, and so does salvage
pub ends_there : (counted (all_frames behind_reply 0) ≡ 1 ∷ 6 ∷ []) × (length (salvaged behind_reply).entries ≡ 1) × ((salvaged behind_reply).tail ≡ 6)
unfolding behind_reply several fulls all_frames frames_fuel salvaged salvage_fuel read_at absorb absorb_fuel look payload_of end_of frame_walk continuations walk_fuel
ends_there = (refl, refl, refl)
