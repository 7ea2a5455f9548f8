-- Document 01, "Proved cases (hex)": P1 to P16 as one table, with one theorem. W-210: "Cases P4 and P7 become type 6."
use Rattle.std.specs.Prelude.{Result, Ok, Err}
use Prim.Native.Nat.{ℕ, ◌+◌}
use mathlib.Core.Path.{◌≡◌, refl}
use mathlib.Core.Bool.{Bool, true, false}
use mathlib.Core.List.{List, [], ◌∷◌, ◌++◌, map}
use lib.ListN.{length, replicate}
use Rattle.wire.specs.Bytes.{part, splice, laid, spelled}
use Rattle.answer.specs.Numbers.{number_of, values_of}
use Rattle.answer.specs.declared.Refused.{Refused}
use Rattle.dss_head.specs.declared.DssType.{DssType}
use Rattle.dss_head.specs.declared.DssType.TheVariants.{Reply, Object}
use Rattle.dss_frame.specs.Segments.{payload_of, end_of, frame_walk, continuations, walk_fuel}
use Rattle.dss_frame.specs.Reading.{read_at, absorb, absorb_fuel, look}
use Rattle.dss_frame.specs.Salvage.{salvaged, salvage_fuel}
use Rattle.dss_frame.specs.declared.Rules.TheVariants.{Reader}
use Rattle.dss_frame.specs.declared.DssFrame.{DssFrame}
use Rattle.dss_take.specs.Take.{room_read}
use Rattle.dss_reader.specs.Reader.{given_frame}
use Rattle.dss_salvage.specs.SalvageEntries.{salvaged_row, salvaged_bytes}
use Rattle.dss_salvage.specs.declared.SalvageEntry.{SalvageEntry}
use Rattle.dss_salvage.specs.declared.Entry.{Entry}
use Rattle.dss_salvage.specs.declared.Entry.TheVariants.{Frame as EntryFrame, Refused as EntryRefused}
use Rattle.ddm_length.specs.Lengths.{measured, marshaled}
use Rattle.ddm_length.specs.Markers.{unmarked, kept_fuel}
use Rattle.ddm_object.specs.Objects.{parsed}
use Rattle.ddm_object.specs.ObjectCalls.{object_at}
use Rattle.ddm_object.proofs.DataParsed.{data_parsed}
use Rattle.ddm_object.specs.declared.DdmObject.{DdmObject}
use Rattle.dss_reader.specs.declared.DssReader.{DssReader}

-- ---- what is asked, and what it comes to

pub data Asked : Type 0 where
  -- `next_frame` at the run's start, with room for as many bytes as the run has
  reads : List ℕ → Asked
  -- the salvage reading
  salvages : List ℕ → Asked
  -- `DdmObject::parse`
  parses : List ℕ → Asked

-- a frame's type, flags, correlation, length, payload and segments
pub record Handed : Type 0 where
  pub type : DssType
  pub chained : Bool
  pub continues : Bool
  pub same : Bool
  pub correlation : ℕ
  pub length : ℕ
  pub payload : List ℕ
  pub segments : ℕ

pub data Outcome : Type 0 where
  frame : Handed → Outcome
  -- a refusal: its number, its values and its place
  refused : ℕ → List ℕ → ℕ → Outcome
  -- an object: its code point and its data
  object : ℕ → List ℕ → Outcome

-- what comes out, and where that ends: the position after, the tail's place, or the bytes consumed
pub record Came : Type 0 where
  pub out : List Outcome
  pub end : ℕ

unfoldable pub handed : DssFrame → List ℕ → Handed
handed d room = record {
  type = d.header.dss_type;
  chained = d.header.flags.chained;
  continues = d.header.flags.continue_on_error;
  same = d.header.flags.same_correlation;
  correlation = d.header.correlation_id;
  length = d.header.length;
  payload = part room d.payload_at (d.payload_at + d.payload_len);
  segments = d.segments;
}

unfoldable pub of_refused : Refused → Outcome
of_refused r = refused (number_of r.why) (values_of r.why) r.place

unfoldable pub of_read : Result DssFrame Refused × DssReader → List ℕ → Came
unfolding handed of_refused
of_read (Ok d, reader) room = record { out = frame (handed d room) ∷ []; end = reader.position }
of_read (Err r, reader) room = record { out = of_refused r ∷ []; end = reader.position }

unfoldable pub of_entry : List ℕ → Entry → Outcome
unfolding handed of_refused
of_entry room (EntryFrame d) = frame (handed d room)
of_entry room (EntryRefused r p e) = of_refused r

unfoldable pub of_object : Result DdmObject Refused → List ℕ → Came
unfolding of_refused
of_object (Ok o) content = record { out = object o.code_point content ∷ []; end = o.consumed }
of_object (Err r) content = record { out = of_refused r ∷ []; end = 0 }

unfoldable pub blank : List ℕ → List ℕ
blank s = replicate (length s) 0

unfoldable pub came_of : Asked → Came
unfolding of_read of_entry of_object blank
came_of (reads s) = of_read (given_frame s 0 (length s) (read_at Reader s 0)) (room_read s (blank s) (read_at Reader s 0))
came_of (salvages s) =
    record { out = map (λ (e : SalvageEntry). of_entry (salvaged_bytes s (salvaged s).entries) e.entry) (salvaged_row s 0 (salvaged s).entries); end = (salvaged s).tail }
came_of (parses s) = of_object (object_at s 0 0) (data_parsed s 0 0 (parsed s 0))

-- ---- the table

pub record Case : Type 0 where
  pub p : ℕ
  pub asks : Asked
  pub gives : Came

abbrev pub one : Outcome → ℕ → Came
one o e = record { out = o ∷ []; end = e }

-- a frame with no flag set
abbrev pub plain_case : DssType → ℕ → ℕ → List ℕ → ℕ → Handed
plain_case t correlation n payload segments =
    record { type = t; chained = false; continues = false; same = false; correlation = correlation; length = n; payload = payload; segments = segments }

abbrev pub p2 : List ℕ
p2 = 0x00 ∷ 0x06 ∷ 0xD0 ∷ 0x02 ∷ 0x00 ∷ 0x07 ∷ []

abbrev pub p8 : List ℕ
p8 = p2 ++ (0 ∷ 0 ∷ 0 ∷ 0 ∷ 0 ∷ 0 ∷ [])

abbrev pub table : List Case
table =
    record { p = 1; asks = reads []; gives = one (refused 1 [] 0) 0 }
    ∷ record { p = 2; asks = reads p2; gives = one (frame (plain_case Reply 7 6 [] 1)) 6 }
    ∷ record { p = 3; asks = reads (0x00 ∷ 0x06 ∷ 0xD1 ∷ 0x02 ∷ 0x00 ∷ 0x07 ∷ []); gives = one (refused 2 (209 ∷ []) 0) 0 }
    ∷ record { p = 4; asks = reads (0x00 ∷ 0x06 ∷ 0xD0 ∷ 0x06 ∷ 0x00 ∷ 0x07 ∷ []); gives = one (refused 3 (6 ∷ []) 0) 0 }
    ∷ record { p = 5; asks = reads (0x00 ∷ 0x05 ∷ 0xD0 ∷ 0x02 ∷ 0x00 ∷ 0x07 ∷ []); gives = one (refused 7 (5 ∷ []) 0) 0 }
    ∷ record { p = 6; asks = reads (0x00 ∷ 0x05 ∷ 0xD1 ∷ 0x02 ∷ 0x00 ∷ 0x07 ∷ []); gives = one (refused 2 (209 ∷ []) 0) 0 }
    ∷ record { p = 7; asks = reads (0x00 ∷ 0x07 ∷ 0xD0 ∷ 0x06 ∷ 0x00 ∷ 0x07 ∷ []); gives = one (refused 1 [] 0) 0 }
    ∷ record { p = 8; asks = reads p8; gives = one (refused 2 (0 ∷ []) 6) 6 }
    ∷ record { p = 8; asks = salvages p8; gives = record { out = frame (plain_case Reply 7 6 [] 1) ∷ refused 2 (0 ∷ []) 6 ∷ []; end = 6 } }
    ∷ record {
      p = 9;
      asks = reads (0x00 ∷ 0x07 ∷ 0xD0 ∷ 0x03 ∷ 0x00 ∷ 0x01 ∷ 0xAA ∷ 0x00 ∷ 0x07 ∷ 0xD0 ∷ 0x53 ∷ 0x00 ∷ 0x01 ∷ 0xBB ∷ []);
      gives = one (frame (record { type = Object; chained = true; continues = false; same = false; correlation = 1; length = 7; payload = 0xAA ∷ 0xBB ∷ []; segments = 2 })) 14;
    }
    ∷ record {
      p = 10;
      asks = reads (0x00 ∷ 0x06 ∷ 0xD0 ∷ 0x02 ∷ 0x00 ∷ 0x01 ∷ 0x00 ∷ 0x0A ∷ 0xD0 ∷ 0x13 ∷ 0x00 ∷ 0x01 ∷ 0x00 ∷ 0x04 ∷ 0x24 ∷ 0x14 ∷ []);
      gives = one (frame (plain_case Reply 1 6 (0x00 ∷ 0x04 ∷ 0x24 ∷ 0x14 ∷ []) 2)) 16;
    }
    ∷ record {
      p = 11;
      asks = reads (0x00 ∷ 0x06 ∷ 0xD0 ∷ 0x02 ∷ 0x00 ∷ 0x01 ∷ 0x00 ∷ 0x0B ∷ 0xD0 ∷ 0x13 ∷ 0x00 ∷ 0x01 ∷ 0x00 ∷ 0x05 ∷ 0x24 ∷ 0x14 ∷ 0xC1 ∷ []);
      gives = one (frame (plain_case Reply 1 6 [] 1)) 6;
    }
    ∷ record {
      p = 12;
      asks = reads (0x00 ∷ 0x0A ∷ 0xD0 ∷ 0x03 ∷ 0x00 ∷ 0x01 ∷ 0x80 ∷ 0x04 ∷ 0x24 ∷ 0x1B ∷ 0x00 ∷ 0x09 ∷ 0xD0 ∷ 0x13 ∷ 0x00 ∷ 0x01 ∷ 0x7F ∷ 0xFE ∷ 0xC1 ∷ []);
      gives = one (frame (plain_case Object 1 10 (0x80 ∷ 0x04 ∷ 0x24 ∷ 0x1B ∷ 0xC1 ∷ []) 2)) 19;
    }
    ∷ record { p = 13; asks = parses (0x00 ∷ 0x04 ∷ 0x20 ∷ 0x0D ∷ []); gives = one (object 0x200D []) 4 }
    ∷ record { p = 14; asks = parses (0x80 ∷ 0x05 ∷ 0x24 ∷ 0x12 ∷ 0x01 ∷ 0xC1 ∷ []); gives = one (object 0x2412 (0xC1 ∷ [])) 6 }
    ∷ record { p = 15; asks = parses (0x80 ∷ 0x03 ∷ 0x24 ∷ 0x12 ∷ []); gives = one (refused 6 (3 ∷ []) 0) 0 }
    ∷ record { p = 16; asks = parses (0x00 ∷ 0x03 ∷ 0x24 ∷ 0x12 ∷ []); gives = one (refused 5 (3 ∷ 4 ∷ 0x2412 ∷ []) 0) 0 }
    ∷ []

-- what each case asks comes to what it gives
pub table_holds : map (λ (c : Case). came_of c.asks) table ≡ map (λ (c : Case). c.gives) table
unfolding came_of handed of_refused of_read of_entry of_object blank splice laid spelled read_at absorb absorb_fuel look payload_of end_of frame_walk continuations walk_fuel salvaged salvage_fuel salvaged_row salvaged_bytes object_at parsed measured marshaled unmarked kept_fuel
table_holds = refl
