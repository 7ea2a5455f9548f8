-- One step of the salvage walk, computed from the definition's walk and reading: document 01, "Salvage reading".
use Rattle.std.specs.Prelude.{ℕ, List, ltb}
use Rattle.wire.specs.Bytes.{pick, be16}
use Rattle.answer.specs.declared.Refused.{Refused}
use Rattle.dss_frame.specs.declared.Rules.TheVariants.{Salvage}
use Rattle.dss_frame.specs.Segments.{Segment, Walk, whole, short, dead, payload_of, end_of, frame_walk}
use Rattle.dss_frame.specs.Reading.{Read, frame, refused, read_at}
use Rattle.dss_measure.specs.Measure.{measure_of}
use Rattle.dss_salvage.specs.declared.Step.{Step}
use Rattle.dss_salvage.specs.declared.Step.TheVariants.{Frame, Over, Last, End}

-- "A whole frame whose own head is refused becomes an entry with number and place, and is stepped over to its end; if its raw length
-- is below 6 the walk ends there"
abbrev pub step_on : List ℕ → ℕ → List Segment → Read → Step
step_on s p gs (frame f) = Frame (measure_of s p f)
step_on s p gs (refused r) = pick (ltb (be16 s p) 6) (Last r) (Over r (end_of p gs))

-- "Not whole ends the walk with no entry"
abbrev pub step_of : List ℕ → ℕ → Walk → Read → Step
step_of s p short r = End
step_of s p (dead q) r = End
step_of s p (whole gs) r = step_on s p gs r

-- what the reading there comes to
unfoldable pub step_at : List ℕ → ℕ → Step
unfolding payload_of end_of frame_walk read_at
step_at s p = step_of s p (frame_walk Salvage s p) (read_at Salvage s p)

-- and what a refusal there comes to
unfoldable pub over_at : List ℕ → ℕ → Refused → Step
unfolding end_of frame_walk
over_at s p r = step_of s p (frame_walk Salvage s p) (refused r)
