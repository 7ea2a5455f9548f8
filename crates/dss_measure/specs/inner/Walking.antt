-- What the functions inside measuring answer: the walk over segments, a look at what follows, the payload so far.
use Rattle.std.specs.Prelude.{ℕ, ◌+◌, ◌*◌, Bool, List, leb, eqb, length, get_or, Option, None, Some, Result, Ok, Err}
use Rattle.wire.specs.Bytes.{and}
use Rattle.answer.specs.declared.Refused.{Refused}
use Rattle.dss_frame.specs.Segments.{Walk, payload_of, end_of, frame_walk}
use Rattle.dss_frame.specs.Reading.{Look, finished, absorbs, refuses, if_whole}
use Rattle.dss_frame.specs.declared.Rules.{Rules}
use Rattle.dss_measure.specs.declared.Absorbed.{Absorbed}
use Rattle.dss_measure.specs.declared.PayloadSoFar.{PayloadSoFar}
use Rattle.dss_measure.specs.declared.Walked.{Walked}

abbrev pub walked : ℕ → ℕ → ℕ → Walked
walked end segments payload_len = record { end = end; segments = segments; payload_len = payload_len }

-- where the segments of a walk from q end, how many they are, and how long their payload is; or why the frame at p isn't whole
abbrev pub walked_from : List ℕ → ℕ → ℕ → Walk → Result Walked Refused
walked_from s p q = if_whole p Err (λ gs. Ok (walked (end_of q gs) (length gs) (length (payload_of s gs))))

-- a walk from the frame's first byte on
abbrev pub walked_of : List ℕ → ℕ → Walk → Result Walked Refused
walked_of s p = walked_from s p p

-- "The frame's end": under whose rules, of what run, from what place on
unfoldable pub walked_at : Rules → List ℕ → ℕ → Result Walked Refused
unfolding payload_of end_of frame_walk
walked_at rules s p = walked_of s p (frame_walk rules s p)

-- a walk behind so many segments with so much payload
abbrev pub adds : ℕ → ℕ → Result Walked Refused → Result Walked Refused
adds k n (Ok w) = Ok (walked w.end (k + w.segments) (n + w.payload_len))
adds k n (Err r) = Err r

abbrev pub absorbed : ℕ → ℕ → Bool → Absorbed
absorbed dropped end chained = record { dropped = dropped; end = end; chained = chained }

-- what a look says. The segment that it absorbs starts at the place looked at, with six bytes of framing
abbrev pub looked_of : Look → Result (Option Absorbed) Refused
looked_of finished = Ok None
looked_of (absorbs g c) = Ok (Some (absorbed g.dropped g.end c))
looked_of (refuses r) = Err r

-- a payload's length and its first two bytes
abbrev pub payload_so_far : List ℕ → PayloadSoFar
payload_so_far payload = record { len = length payload; first = get_or payload 0 0; second = get_or payload 1 0 }

-- "If the payload so far has at least four bytes and starts 80 04"
abbrev pub extended_by : PayloadSoFar → Bool
extended_by v = and (leb 4 v.len) (eqb (v.first * 256 + v.second) 0x8004)
