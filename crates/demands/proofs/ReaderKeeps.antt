-- What demand 2 says of the reader's calls: whatever result and room their contracts allow, on a written frame alone and on a run
-- of written frames that stand by themselves, with enough room.
use Rattle.std.specs.Prelude.{Result, Ok, Err}
use Prim.Native.Nat.{ℕ, suc, ◌≤◌}
use native.Mathlib.Omega.{arith}
use mathlib.Core.Path.{◌≡◌, refl, ap, ap₂, subst, ◌∙◌}
use mathlib.Core.Bool.{true}
use mathlib.Core.List.{List, [], ◌∷◌, ◌++◌}
use lib.ListN.{length}
use borrow.Author.Tests.{le-leb}
use contract.Lifetimes.{Lfts}
use denote.Ref.{Bor, MutBor, at_last}
use Rattle.wire.specs.Bytes.{splice, laid, joined}
use Rattle.wire.proofs.WireLaws.{pick_yes, and_both}
use Rattle.wire.proofs.Splicing.{laid_fits}
use Rattle.answer.specs.declared.Refusal.TheVariants.{Incomplete}
use Rattle.dss_frame.specs.Segments.{payload_of}
use Rattle.dss_frame.specs.Reading.{Frame}
use Rattle.dss_frame.specs.FrameRecords.{frame_record, payloads_of}
use Rattle.dss_frame.specs.Written.{Sent, written}
use Rattle.dss_frame.specs.declared.DssFrame.{DssFrame}
use Rattle.dss_take.specs.Take.{room_read}
use Rattle.dss_reader.specs.Reader.{stands_at, given_frame, NextFrame, frames_fit, given_frames, room_all, row_all, ReadAllFrames}
use Rattle.dss_reader.specs.declared.DssReader.{DssReader}
use Rattle.dss_reader.proofs.DssReader.next_frame.Reads as next_frame
use Rattle.demands.specs.Demands.{Sendable, Unreadable, Gives}
use Rattle.demands.specs.AllFrames.{AllAlone, AllGive}
use Rattle.demands.proofs.ReadBack.{reads_back, not_whole_lem}
use Rattle.demands.proofs.AllFramesBack.{reads_all}
use Rattle.demands.specs.KeptLists.{AllBack, payloads}
use Rattle.dss_reader.specs.declared.FramesRead.{FramesRead}
use Rattle.answer.specs.declared.Refused.{Refused}
use Rattle.dss_reader.specs.Reader.{frames_read}

-- ---- one frame

-- the frame comes back, its payload at the room's start, the rest of the room as it was, and the run wholly consumed
pub record Back (f : Sent) (room : List ℕ) (r : Result DssFrame Refused × DssReader) (after : List ℕ) : Type 0 where
  pub read : Frame
  pub is : r ≡ (Ok (frame_record (written f) 0 0 read), stands_at (length (written f)))
  pub gives : Gives f (written f) read
  pub room_is : after ≡ splice room 0 f.payload

pub frame_back : (f : Sent) → Sendable f → (Unreadable f → ⊥) → (room : List ℕ) → length f.payload ≤ length room → (r : Result DssFrame Refused × DssReader) (after : List ℕ)
    → NextFrame (written f) 0 room r after → Back f room r after
frame_back f v u room h r after p =
    let b = reads_back f v u in
    let g = b.read in
    let e : payload_of (written f) g.segments ≡ f.payload = b.gives.payload in
    let fits : length (payload_of (written f) g.segments) ≤ length room = omega (arith, ap length e) in
    record {
      read = g;
      is =
          p.answers
          ∙ ap (given_frame (written f) 0 (length room)) b.is
          ∙ pick_yes _ _ (le-leb (length (payload_of (written f) g.segments)) (length room) fits)
          ∙ ap (λ (n : ℕ). (Ok (frame_record (written f) 0 0 g), stands_at n)) b.consumed;
      gives = b.gives;
      room_is =
          p.room_is
          ∙ ap (room_read (written f) room) b.is
          ∙ ap (laid room 0) e
          ∙ laid_fits room 0 f.payload (omega arith);
    }

-- "With a payload of 32,761 plus one or more times 32,765 bytes, the reader says it isn't whole", and leaves room and position
pub frame_not_whole : (f : Sent) → Sendable f → Unreadable f → (room : List ℕ) (r : Result DssFrame Refused × DssReader) (after : List ℕ)
    → NextFrame (written f) 0 room r after → (r ≡ (Err (record { why = Incomplete; place = 0 }), stands_at 0)) × (after ≡ room)
frame_not_whole f v u room r after p = (
  p.answers ∙ ap (given_frame (written f) 0 (length room)) (not_whole_lem f v u),
  p.room_is ∙ ap (room_read (written f) room) (not_whole_lem f v u),
)

-- ---- a run of them

pub given_payloads : (s : List ℕ) (fs : List Sent) (gs : List Frame) → AllGive s fs gs → (payloads_of s gs ≡ payloads fs) × (length gs ≡ length fs)
unfolding AllGive payloads payloads_of
given_payloads s [] [] a = (refl, refl)
given_payloads s [] (g ∷ gs) a = absurd a
given_payloads s (f ∷ fs) [] a = absurd a
given_payloads s (f ∷ fs) (g ∷ gs) a =
    let b = given_payloads s fs gs a.1 in
    (ap₂ (λ (x y : List ℕ). x ++ y) a.0.payload b.0, ap suc b.1)

pub frames_back : (fs : List Sent) → AllAlone fs → (room : List ℕ) (row : List DssFrame) → length (payloads fs) ≤ length room → length fs ≤ length row
    → (r : Result FramesRead Refused × DssReader) (roomAfter : List ℕ) (rowAfter : List DssFrame)
    → ReadAllFrames (joined written fs) 0 room row r roomAfter rowAfter → AllBack fs room row r roomAfter rowAfter
frames_back fs a room row h k r roomAfter rowAfter p =
    let s : List ℕ = joined written fs in
    let b = reads_all fs a in
    let gs = b.read in
    let e = given_payloads s fs gs b.gives in
    let fit : frames_fit s gs (length room) (length row) ≡ true =
    and_both _ _ (le-leb (length (payloads_of s gs)) (length room) (omega (arith, ap length e.0))) (le-leb (length gs) (length row) (omega (arith, e.1))) in
    record {
      read = gs;
      is =
          p.answers
          ∙ ap (given_frames s 0 (length room) (length row)) b.is
          ∙ pick_yes _ _ fit
          ∙ ap₂ (λ (n m : ℕ). (Ok (frames_read n m), stands_at (length s))) e.1 (ap length e.0);
      gives = b.gives;
      room_is = p.room_is ∙ ap (room_all s room (length row)) b.is ∙ pick_yes _ _ fit ∙ ap (splice room 0) e.0;
      row_is = p.row_is ∙ ap (row_all s 0 (length room) row) b.is ∙ pick_yes _ _ fit;
    }

-- ---- of the code

-- over the contract of `next_frame` itself: the run is a written frame, alone, and the reader stands at its first byte
pub next_frame_back : (κs : Lfts 2) (f : Sent) → Sendable f → (Unreadable f → ⊥) → (reader : DssReader) (run : Bor (List ℕ)) (room : MutBor (List ℕ)) (r : Result DssFrame Refused × DssReader) (after : List ℕ)
    → reader ≡ stands_at 0 → run.now ≡ written f → length f.payload ≤ length room.now
    → next_frame.Post κs (reader, (run, (room, tt))) r (reader, (run, (at_last room after, tt))) → Back f room.now r after
next_frame_back κs f v u reader run room r after e k h p =
    frame_back f v u room.now h r after
    (subst (λ (s : List ℕ). NextFrame s 0 room.now r after) k
    (subst (λ (d : DssReader). NextFrame run.now d.position room.now r after) e p))

pub next_frame_not_whole : (κs : Lfts 2) (f : Sent) → Sendable f → Unreadable f → (reader : DssReader) (run : Bor (List ℕ)) (room : MutBor (List ℕ)) (r : Result DssFrame Refused × DssReader) (after : List ℕ)
    → reader ≡ stands_at 0 → run.now ≡ written f
    → next_frame.Post κs (reader, (run, (room, tt))) r (reader, (run, (at_last room after, tt)))
    → (r ≡ (Err (record { why = Incomplete; place = 0 }), stands_at 0)) × (after ≡ room.now)
next_frame_not_whole κs f v u reader run room r after e k p =
    frame_not_whole f v u room.now r after
    (subst (λ (s : List ℕ). NextFrame s 0 room.now r after) k
    (subst (λ (d : DssReader). NextFrame run.now d.position room.now r after) e p))
