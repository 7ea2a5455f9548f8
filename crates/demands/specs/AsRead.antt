-- Document 02, W-205, what stays as it was: a run that the reader reads without refusal, and in which no continuation that is
-- walked has length 0x7FFF, is salvaged as it is read; and where salvage ends, the frame's end still says why. Statements about any
-- reader of all frames, any salvage reading and any function that says a frame's end.
use Rattle.std.specs.Prelude.{ℕ, ◌+◌, ◌*◌, ◌≤◌, ◌≡◌, List, [], ◌∷◌, length, Result, Err}
use Rattle.wire.specs.Bytes.{be16}
use Rattle.answer.specs.declared.Refusal.TheVariants.{Incomplete, DeadContinuation}
use Rattle.dss_frame.specs.declared.Rules.TheVariants.{Salvage}
use Rattle.dss_frame.specs.Segments.{short, dead, end_of, frame_walk}
use Rattle.dss_frame.specs.Reading.{Frame, frame}
use Rattle.dss_frame.specs.Frames.{frames}
use Rattle.dss_frame.specs.Salvage.{Entry}
use Rattle.demands.specs.Demands.{Salvager}
use Rattle.demands.specs.AllFrames.{AllReader}
use Rattle.answer.specs.declared.Refused.{Refused}

-- the walk from p comes to a continuation of length 0x7FFF: the lengths before it, the frame's own first, are FFFF (of bytes, no
-- length is above that), and so each segment before it takes 32,767 bytes
pub record MeetsFull (s : List ℕ) (p : ℕ) : Type 0 where
  pub before : ℕ
  pub lengths : (i : ℕ) → i ≤ before → 0xFFFF ≤ be16 s (p + i * 32767)
  pub full : be16 s (p + (before + 1) * 32767) ≡ 0x7FFF

-- none does: of no frame, and not what is left behind the last, which isn't whole
unfoldable pub NoneFull : List ℕ → ℕ → List Frame → Type 0
NoneFull s p [] = MeetsFull s p → ⊥
NoneFull s p (f ∷ fs) = (MeetsFull s p → ⊥) × NoneFull s (end_of p f.segments) fs

-- frames one behind the other, from p on, as entries
unfoldable pub entries_of : ℕ → List Frame → List Entry
entries_of p [] = []
entries_of p (f ∷ fs) = record { at = p; end = end_of p f.segments; read = frame f } ∷ entries_of (end_of p f.segments) fs

abbrev pub SalvagesAsRead : AllReader → Salvager → Type 0
SalvagesAsRead reads salvages =
    (s : List ℕ) (fs : List Frame) (q : ℕ) → reads s 0 ≡ frames fs q → NoneFull s 0 fs → salvages s ≡ record { entries = entries_of 0 fs; tail = q }

-- says the end of the frame at a place of a run, as `frame_end` does
abbrev pub Ender : Type 0
Ender = List ℕ → ℕ → Result ℕ Refused

-- What isn't whole for salvage has no end for the reader either, and for the same reason: 1 where bytes are missing, 16 where a length
-- of 0 or 1 stands.
pub record TellsWhy (ends : Ender) : Type 0 where
  pub yet : (s : List ℕ) (p : ℕ) → p ≤ length s → frame_walk Salvage s p ≡ short → ends s p ≡ Err (record { why = Incomplete; place = p })
  pub never : (s : List ℕ) (p q : ℕ) → p ≤ length s → frame_walk Salvage s p ≡ dead q → ends s p ≡ Err (record { why = DeadContinuation; place = q })
