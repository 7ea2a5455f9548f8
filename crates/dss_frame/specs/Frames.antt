-- All frames of a run: document 01, "Reading": "`read_all_frames` reads until 1; 2, 3, 7 anywhere in the run come before 9."
use Rattle.std.specs.Prelude.{ℕ, zero, suc, List, [], ◌∷◌, length}
use Rattle.wire.specs.Bytes.{pick}
use Rattle.answer.specs.Numbers.{not_whole}
use Rattle.answer.specs.declared.Refused.{Refused}
use Rattle.dss_frame.specs.declared.Rules.TheVariants.{Reader}
use Rattle.dss_frame.specs.Segments.{end_of}
use Rattle.dss_frame.specs.Reading.{Frame, Read, frame, refused, read_at}

-- the frames in order, and where the reading ended; or the refusal
pub data AllRead : Type 0 where
  frames : List Frame → ℕ → AllRead
  refused_all : Refused → AllRead

abbrev pub before : Frame → AllRead → AllRead
before f (frames fs q) = frames (f ∷ fs) q
before f (refused_all r) = refused_all r

-- a frame, and more from its end on; 1 and 16 end the reading where it is, and any other refusal refuses the call
abbrev pub and_on : ℕ → Read → (ℕ → AllRead) → AllRead
and_on p (frame f) more = before f (more (end_of p f.segments))
and_on p (refused r) more = pick (not_whole r.why) (frames [] p) (refused_all r)

unfoldable pub frames_fuel : ℕ → List ℕ → ℕ → AllRead
unfolding end_of read_at
frames_fuel zero s p = frames [] p
frames_fuel (suc fuel) s p = and_on p (read_at Reader s p) (λ q. frames_fuel fuel s q)

-- each frame takes six bytes at least
unfoldable pub all_frames : List ℕ → ℕ → AllRead
unfolding frames_fuel
all_frames s p = frames_fuel (suc (length s)) s p
