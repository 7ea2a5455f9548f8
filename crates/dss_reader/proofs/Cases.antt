-- What the reader's calls answer and leave in cases of document 01: the definitions that the contracts cite aren't empty.
use Rattle.std.specs.Prelude.{Result, Ok, Err}
use Prim.Native.Nat.{ℕ}
use mathlib.Core.Path.{◌≡◌, refl, ap, ◌∙◌}
use mathlib.Core.Bool.{Bool, true, false}
use mathlib.Core.List.{List, [], ◌∷◌, ◌++◌}
use lib.Dec.{leb}
use lib.ListN.{length, drop, replicate}
use denote.Ref.{Bor}
use Rattle.wire.specs.Bytes.{pick, splice, laid}
use Rattle.wire.specs.Parts.{start_at, RestAt}
use Rattle.answer.specs.declared.Refusal.TheVariants.{Incomplete, InvalidMagic, LengthTooShort, NoRoom, OutOfBounds}
use Rattle.dss_head.specs.declared.DssType.{DssType}
use Rattle.dss_head.specs.declared.DssType.TheVariants.{Request, Reply, Object, Communication}
use Rattle.dss_frame.specs.declared.DssFrame.{DssFrame}
use Rattle.dss_frame.specs.declared.Rules.TheVariants.{Reader}
use Rattle.dss_frame.specs.Segments.{payload_of, end_of}
use Rattle.dss_frame.specs.Reading.{read_at}
use Rattle.dss_frame.specs.Frames.{all_frames}
use Rattle.dss_frame.specs.FrameRecords.{payloads_of, frame_records}
use Rattle.dss_take.specs.Take.{room_read}
use Rattle.dss_reader.specs.Reader.{stands_at, frame_end, given_frame, given_frames, room_all, row_all}
use Rattle.dss_reader.specs.declared.DssReader.{DssReader}
use Rattle.dss_reader.specs.declared.FramesRead.{FramesRead}
use Rattle.answer.specs.declared.Refused.{Refused}
use Rattle.dss_reader.specs.Reader.{frames_read}

-- ---- the runs

p2 : List ℕ
p2 = 0x00 ∷ 0x06 ∷ 0xD0 ∷ 0x02 ∷ 0x00 ∷ 0x07 ∷ []

p5 : List ℕ
p5 = 0x00 ∷ 0x05 ∷ 0xD0 ∷ 0x02 ∷ 0x00 ∷ 0x07 ∷ []

p7 : List ℕ
p7 = 0x00 ∷ 0x07 ∷ 0xD0 ∷ 0x06 ∷ 0x00 ∷ 0x07 ∷ []

p9 : List ℕ
p9 = 0x00 ∷ 0x07 ∷ 0xD0 ∷ 0x03 ∷ 0x00 ∷ 0x01 ∷ 0xAA ∷ 0x00 ∷ 0x07 ∷ 0xD0 ∷ 0x53 ∷ 0x00 ∷ 0x01 ∷ 0xBB ∷ []

-- document 01's input for `framelist`: a request with four bytes, and P2
two : List ℕ
two = (0x00 ∷ 0x0A ∷ 0xD0 ∷ 0x01 ∷ 0x00 ∷ 0x01 ∷ 0x00 ∷ 0x04 ∷ 0x20 ∷ 0x0D ∷ []) ++ p2

-- ---- records

frame : ℕ → DssType → Bool → ℕ → ℕ → ℕ → ℕ → ℕ → ℕ → DssFrame
frame l t c id a n k p e =
    record {
      header = record { length = l; dss_type = t; flags = record { chained = c; continue_on_error = false; same_correlation = false }; correlation_id = id };
      payload_at = a;
      payload_len = n;
      segments = k;
      at = p;
      end = e;
    }

-- one that stands in a row
blank : DssFrame
blank = frame 0 Communication true 9 9 9 9 9 9

-- the frame's end: a length below six as it is; one that isn't whole; a position beyond the run
ends : (frame_end p2 0 ≡ Ok 6)
    × (frame_end p5 0 ≡ Ok 5)
    × (frame_end p7 0 ≡ Err (record { why = Incomplete; place = 0 }))
    × (frame_end two 10 ≡ Ok 16)
    × (frame_end two 16 ≡ Err (record { why = Incomplete; place = 16 }))
    × (frame_end two 17 ≡ Err (record { why = OutOfBounds 17 16; place = 17 }))
unfolding p2 p5 p7 two frame_end end_of
ends = (refl, refl, refl, refl, refl, refl)

-- one frame, in rooms with a byte more and a byte less
next : List ℕ → ℕ → ℕ → Result DssFrame Refused × DssReader
next s p size = given_frame s p size (read_at Reader s p)

frames : (next p9 0 3 ≡ (Ok (frame 7 Object true 1 0 2 2 0 14), stands_at 14))
    × (room_read p9 (replicate 3 9) (read_at Reader p9 0) ≡ 0xAA ∷ 0xBB ∷ 9 ∷ [])
    × (next p9 0 1 ≡ (Err (record { why = NoRoom 2 0; place = 0 }), stands_at 0))
    × (room_read p9 (9 ∷ []) (read_at Reader p9 0) ≡ 9 ∷ [])
    × (next (p2 ++ replicate 6 0) 0 0 ≡ (Err (record { why = InvalidMagic 0; place = 6 }), stands_at 6))
    × (next p5 0 0 ≡ (Err (record { why = LengthTooShort 5; place = 0 }), stands_at 0))
    × (next p7 0 0 ≡ (Err (record { why = Incomplete; place = 0 }), stands_at 0))
    × (next two 17 0 ≡ (Err (record { why = OutOfBounds 17 16; place = 17 }), stands_at 17))
unfolding p2 p5 p7 p9 two next frame read_at payload_of end_of laid splice
frames = (refl, refl, refl, refl, refl, refl, refl, refl)

-- all frames: what stands behind the last, a row and a room with more than is needed, either too small, and 2 before 9
all : List ℕ → ℕ → ℕ → ℕ → Result FramesRead Refused × DssReader
all s p size rows = given_frames s p size rows (all_frames s p)

both : (all two 0 4 2 ≡ (Ok (frames_read 2 4), stands_at 16))
    × (all (two ++ (0x00 ∷ 0x06 ∷ 0xD0 ∷ [])) 0 4 2 ≡ (Ok (frames_read 2 4), stands_at 16))
    × (all two 10 0 1 ≡ (Ok (frames_read 1 0), stands_at 16))
    × (all two 16 0 0 ≡ (Ok (frames_read 0 0), stands_at 16))
    × (room_all two (replicate 5 9) 3 (all_frames two 0) ≡ 0x00 ∷ 0x04 ∷ 0x20 ∷ 0x0D ∷ 9 ∷ [])
    × (row_all two 0 5 (blank ∷ blank ∷ blank ∷ []) (all_frames two 0) ≡ frame 10 Request false 1 0 4 1 0 10 ∷ frame 6 Reply false 7 4 0 1 10 16 ∷ blank ∷ [])
    × (all two 0 4 1 ≡ (Err (record { why = NoRoom 4 2; place = 0 }), stands_at 0))
    × (all two 0 3 2 ≡ (Err (record { why = NoRoom 4 2; place = 0 }), stands_at 0))
    × (room_all two (replicate 5 9) 1 (all_frames two 0) ≡ replicate 5 9)
    × (row_all two 0 3 (blank ∷ blank ∷ []) (all_frames two 0) ≡ blank ∷ blank ∷ [])
    × (all (two ++ replicate 6 0) 0 0 0 ≡ (Err (record { why = InvalidMagic 0; place = 16 }), stands_at 16))
    × (all two 17 0 0 ≡ (Err (record { why = OutOfBounds 17 16; place = 17 }), stands_at 17))
unfolding p2 two all frame blank read_at all_frames payload_of payloads_of frame_records end_of splice
both = (refl, refl, refl, refl, refl, refl, refl, refl, refl, refl, refl, refl)

-- what isn't read yet of a run of two bytes, at 1, at its end and beyond it: its last byte, and none at its end
rests : (run r : Bor (List ℕ)) → run.now ≡ 7 ∷ 8 ∷ []
    → (RestAt run 1 r → (r.now ≡ 8 ∷ []) × (r.ref_ptr ≡ start_at run 1))
    × (RestAt run 2 r → (r.now ≡ []) × (r.ref_ptr ≡ start_at run 2))
    × (RestAt run 3 r → (r.now ≡ []) × (r.ref_ptr ≡ start_at run 2))
rests run r e = (λ p. (p.bytes_are ∙ ap (drop 1) e, p.starts ∙ ap (starts_of 1) e), λ p. (p.bytes_are ∙ ap (drop 2) e, p.starts ∙ ap (starts_of 2) e), λ p. (p.bytes_are ∙ ap (drop 3) e, p.starts ∙ ap (starts_of 3) e))
  where
    starts_of : ℕ → List ℕ → ℕ × ℕ
    starts_of at l = start_at run (pick (leb at (length l)) at (length l))
