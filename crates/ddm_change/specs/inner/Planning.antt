-- What is known of a request before it is laid down. `s` is the frame given.
use Rattle.std.specs.Prelude.{ℕ, ◌+◌, ◌-◌, ◌≤◌, ◌≡◌, List, ◌++◌, length, drop, Result, Ok, Err}
use Rattle.wire.specs.Bytes.{part, be16}
use Rattle.answer.specs.Rooms.{capped}
use Rattle.dss_frame.specs.declared.Rules.TheVariants.{Reader}
use Rattle.dss_frame.specs.Segments.{end_of}
use Rattle.dss_frame.specs.Reading.{Frame, Read, frame, refused}
use Rattle.ddm_builder.specs.Built.{built, built_size}
use Rattle.ddm_change.specs.Alone.{alone_at}
use Rattle.ddm_change.specs.Change.{Change, changed, faulty, lacking, change_of, unsound, no_such}
use Rattle.ddm_change.specs.Request.{Changed, lays_frame, refuses_it, reframed, framed_of, request_of}
use Rattle.ddm_change.specs.inner.Carried.{carried, place_of}
use Rattle.ddm_change.specs.declared.Carriage.{Carriage}
use Rattle.ddm_change.specs.declared.Plan.{Plan}
use Rattle.ddm_change.specs.declared.Alone.{Alone}
use Rattle.answer.specs.declared.Refused.{Refused}

-- ---- the frame

-- its end, and how many segments it has
abbrev pub alone : ℕ → ℕ → Alone
alone end segments = record { end = end; segments = segments }

abbrev pub alone_of : Read → Result Alone Refused
alone_of (frame f) = Ok (alone (end_of 0 f.segments) (length f.segments))
alone_of (refused r) = Err r

-- the one frame stands there, up to `end`, in so many segments
pub record Standing (s : List ℕ) (end segments : ℕ) : Type 0 where
  pub one : Frame
  pub read : alone_at Reader s 0 ≡ frame one
  pub ends : end ≡ end_of 0 one.segments
  pub many : segments ≡ length one.segments

-- ---- its one object

-- what changing comes to, once the object's data are known to start at payload byte `first` and to reach the frame's end
abbrev pub outcome : List ℕ → Carriage → ℕ → Change → Changed
outcome s c first (changed d) = framed_of s (built (be16 (carried c s) 2) d)
outcome s c first (faulty place) = refuses_it (unsound (place_of c (first + place)))
outcome s c first lacking = refuses_it no_such

-- the request is that one frame with one object, and its data decide
pub record OneObject (s : List ℕ) (c : Carriage) (first : ℕ) : Type 0 where
  pub led : c.lead ≡ 6
  pub four : 4 ≤ first
  pub within : first ≤ length (carried c s)
  pub comes : (cp : ℕ) (new : List ℕ) → request_of s cp new ≡ outcome s c first (change_of (drop first (carried c s)) cp new)

-- ---- the parameter, from payload byte `from` up to `to`

pub record FoundParam (s : List ℕ) (c : Carriage) (first from to cp : ℕ) : Type 0 where
  pub one : OneObject s c first
  pub behind : first ≤ from
  pub ordered : from ≤ to
  pub inside : to ≤ length (carried c s)
  pub there : (new : List ℕ) → change_of (drop first (carried c s)) cp new ≡ changed (part (carried c s) first from ++ (built cp new ++ drop to (carried c s)))

-- ---- how it is laid down

abbrev pub payload_of_plan : Plan → List ℕ
payload_of_plan p = carried p.payload.by p.payload.run.now

-- the object with the parameter rewritten
abbrev pub payload_after : Plan → ℕ → List ℕ → List ℕ
payload_after p cp new = built p.code_point (part (payload_of_plan p) p.first p.from ++ (built cp new ++ drop p.to (payload_of_plan p)))

-- the bytes of its data, of n new ones
abbrev pub data_size : Plan → ℕ → ℕ
data_size p n = p.from - p.first + (length (payload_of_plan p) - p.to) + built_size n

pub record LayingRequest (s : List ℕ) (cp n : ℕ) (p : Plan) : Type 0 where
  pub frame_is : p.payload.run.now ≡ s
  pub led : p.payload.by.lead ≡ 6
  pub behind : p.first ≤ p.from
  pub ordered : p.from ≤ p.to
  pub inside : p.to ≤ length (payload_of_plan p)
  pub data_size_is : p.data_len ≡ capped (data_size p n)
  pub size : p.payload_len ≡ capped (built_size (data_size p n))
  pub comes : (new : List ℕ) → length new ≡ n → request_of s cp new ≡ lays_frame (reframed s (payload_after p cp new))

abbrev pub Plans : List ℕ → ℕ → ℕ → Result Plan Refused → Type 0
Plans s cp n (Ok p) = LayingRequest s cp n p
Plans s cp n (Err r) = (new : List ℕ) → length new ≡ n → request_of s cp new ≡ refuses_it r
