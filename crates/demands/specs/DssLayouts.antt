-- Demand 2's clause on layouts, "meets the DSS and DDM layouts of The Open Group's DRDA volume 3, with differences listed", for
-- frames (DSS): statements about any writer and any reader. The layout itself is `layouts/specs/DssLayout`; for objects (DDM) it
-- is `DdmLayout`, and their statements stand in `demands_ddm`.
use Rattle.std.specs.Prelude.{ℕ, ◌≡◌, false, List, length}
use Rattle.answer.specs.declared.Refusal.TheVariants.{Incomplete}
use Rattle.dss_head.specs.Heads.{type_byte}
use Rattle.dss_frame.specs.Segments.{payload_of, end_of}
use Rattle.dss_frame.specs.Reading.{frame, refused, Frame}
use Rattle.dss_frame.specs.Written.{Sent}
use Rattle.layouts.specs.DssLayout.{Structure, Allowed, Dss, FullLast}
use Rattle.demands.specs.Demands.{Reader, Writer}

-- a frame to be written, in the volume's words: "Continue on error is never set"
abbrev pub structure_of : Sent → Structure
structure_of f = record { type = type_byte f.type; chained = f.chained; on_error = false; same = f.same; correlation = f.correlation; payload = f.payload }

-- What is written has the volume's layout, where the caller asks for what the volume allows.
abbrev pub WritesLayout : Writer → Type 0
WritesLayout writes = (f : Sent) → Allowed (structure_of f) → Dss (structure_of f) (writes f)

-- what a frame handed out says, over the run that it was read from: type, three flags, correlation, payload
pub record SaysStructure (w : Structure) (run : List ℕ) (g : Frame) : Type 0 where
  pub type : type_byte g.head.dss_type ≡ w.type
  pub chained : g.head.flags.chained ≡ w.chained
  pub on_error_is : g.head.flags.continue_on_error ≡ w.on_error
  pub same : g.head.flags.same_correlation ≡ w.same
  pub correlation : g.head.correlation_id ≡ w.correlation
  pub payload : payload_of run g.segments ≡ w.payload

-- bytes read as a structure, and wholly consumed
pub record ReadAs (reads : Reader) (w : Structure) (b : List ℕ) : Type 0 where
  pub read : Frame
  pub is : reads b 0 ≡ frame read
  pub says : SaysStructure w b read
  pub consumed : end_of 0 read.segments ≡ length b

-- What has the layout is read as it says, of each of the volume's five types, but for one difference of the reader's: a full last
-- chunk.
abbrev pub ReadsDssLayout : Reader → Type 0
ReadsDssLayout reads = (w : Structure) (b : List ℕ) (l : Dss w b) → (FullLast l → ⊥) → ReadAs reads w b

-- The difference, "a full last chunk": the reader waits for another, and alone it isn't whole.
abbrev pub WaitsBehindFull : Reader → Type 0
WaitsBehindFull reads = (w : Structure) (b : List ℕ) (l : Dss w b) → FullLast l → reads b 0 ≡ refused (record { why = Incomplete; place = 0 })

-- W-205, "0x7FFF is a full last chunk": under salvage's rules the difference is gone, and all that has the layout is read.
abbrev pub ReadsFullLast : Reader → Type 0
ReadsFullLast reads = (w : Structure) (b : List ℕ) → Dss w b → ReadAs reads w b

-- A layout fixes its frame: bytes that are laid out for two structures are laid out for equal ones.
abbrev pub LayoutFixes : (Structure → List ℕ → Type 0) → Type 0
LayoutFixes Laid = (v w : Structure) (b : List ℕ) → Laid v b → Laid w b → v ≡ w

-- Bytes that no structure has for its layout: what can be written or read besides, and is no structure of the volume.
abbrev pub NoLayout : List ℕ → Type 0
NoLayout b = (w : Structure) → Dss w b → ⊥
