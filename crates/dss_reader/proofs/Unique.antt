-- Any two outcomes that a contract of this crate allows are equal: the answer, the position after, every byte of the room and every
-- record of the row. Each statement names the contract, and doesn't write it again. And one outcome is allowed, whatever is given.
use Rattle.std.specs.Prelude.{Result}
use Prim.Native.Nat.{ℕ, ◌-◌}
use mathlib.Core.Path.{◌≡◌, refl, sym, ◌∙◌}
use mathlib.Core.Bool.{Bool}
use mathlib.Core.List.{List}
use lib.Dec.{leb}
use lib.ListN.{length, drop}
use seplogic.Ra.Ura.{Ura}
use base.Logic.{SProp}
use prog.Memory.{Memory}
use prog.Routine.{Routine}
use types.Logic.{Logic}
use contract.Lifetimes.{Lfts}
use contract.Monad.{Fun, fact}
use denote.Ref.{Bor, MutBor, at_last}
use Rattle.wire.specs.Bytes.{pick}
use Rattle.wire.specs.Parts.{start_at}
use Rattle.dss_frame.specs.Frames.{all_frames}
use Rattle.dss_frame.specs.Reading.{read_at}
use Rattle.dss_frame.specs.declared.DssFrame.{DssFrame}
use Rattle.dss_frame.specs.declared.Rules.TheVariants.{Reader}
use Rattle.dss_reader.specs.declared.DssReader.{DssReader}
use Rattle.dss_take.specs.Take.{room_read}
use Rattle.dss_reader.specs.Reader.{stands_at, frame_end, is_end, given_frame, given_frames, room_all, row_all, ReadAllFrames}
use Rattle.dss_reader.proofs.DssReader.new.Reads as new
use Rattle.dss_reader.proofs.DssReader.remaining.Reads as remaining
use Rattle.dss_reader.proofs.DssReader.into_remaining.Reads as into_remaining
use Rattle.dss_reader.proofs.DssReader.complete_frame_len.Reads as complete_frame_len
use Rattle.dss_reader.proofs.DssReader.has_complete_frame.Reads as has_complete_frame
use Rattle.dss_reader.proofs.DssReader.first_complete_frame_len.Reads as first_complete_frame_len
use Rattle.dss_reader.proofs.DssReader.next_frame.Reads as next_frame
use Rattle.dss_reader.proofs.measure_frames.Reads as measure_frames
use Rattle.dss_reader.proofs.gather_frames.Reads as read_all
use Rattle.dss_reader.proofs.records_in.Reads as records_in
use Rattle.dss_reader.specs.contracts.DssReader.read_all_frames as read_all_frames
use Rattle.dss_reader.specs.declared.FramesRead.{FramesRead}
use Rattle.answer.specs.declared.Refused.{Refused}

pub new_one : (κs : Lfts 0) (r r' : DssReader) → new.Post κs tt r tt → new.Post κs tt r' tt → r ≡ r'
new_one κs r r' p q = p ∙ sym q

pub new_some : (κs : Lfts 0) → new.Post κs tt (stands_at 0) tt
new_some κs = refl

module _ (κs : Lfts 1) (d : DssReader) (run : Bor (List ℕ)) where
  pub remaining_one : (r r' : ℕ) → remaining.Post κs (d, (run, tt)) r (d, (run, tt)) → remaining.Post κs (d, (run, tt)) r' (d, (run, tt)) → r ≡ r'
  remaining_one r r' p q = p ∙ sym q

  pub remaining_some : remaining.Post κs (d, (run, tt)) (length run.now - d.position) (d, (run, tt))
  remaining_some = refl

  -- the part: its bytes, and where it starts
  pub into_remaining_one : (r r' : Bor (List ℕ)) → into_remaining.Post κs (d, (run, tt)) r (d, (run, tt)) → into_remaining.Post κs (d, (run, tt)) r' (d, (run, tt)) → (r.now ≡ r'.now) × (r.ref_ptr ≡ r'.ref_ptr)
  into_remaining_one r r' p q = (p.bytes_are ∙ sym q.bytes_are, p.starts ∙ sym q.starts)

  pub into_remaining_some : into_remaining.Post κs (d, (run, tt))
      (record { ref_ptr = start_at run (pick (leb d.position (length run.now)) d.position (length run.now)); now = drop d.position run.now }) (d, (run, tt))
  into_remaining_some = record { bytes_are = refl; starts = refl }

  pub complete_frame_len_one : (r r' : Result ℕ Refused) → complete_frame_len.Post κs (d, (run, tt)) r (d, (run, tt)) → complete_frame_len.Post κs (d, (run, tt)) r' (d, (run, tt)) → r ≡ r'
  complete_frame_len_one r r' p q = p ∙ sym q

  pub complete_frame_len_some : complete_frame_len.Post κs (d, (run, tt)) (frame_end run.now d.position) (d, (run, tt))
  complete_frame_len_some = refl

  pub has_complete_frame_one : (r r' : Bool) → has_complete_frame.Post κs (d, (run, tt)) r (d, (run, tt)) → has_complete_frame.Post κs (d, (run, tt)) r' (d, (run, tt)) → r ≡ r'
  has_complete_frame_one r r' p q = p ∙ sym q

  pub has_complete_frame_some : has_complete_frame.Post κs (d, (run, tt)) (is_end (frame_end run.now d.position)) (d, (run, tt))
  has_complete_frame_some = refl

  pub first_complete_frame_len_one : (r r' : Result ℕ Refused) → first_complete_frame_len.Post κs (run, tt) r (run, tt) → first_complete_frame_len.Post κs (run, tt) r' (run, tt) → r ≡ r'
  first_complete_frame_len_one r r' p q = p ∙ sym q

  pub first_complete_frame_len_some : first_complete_frame_len.Post κs (run, tt) (frame_end run.now 0) (run, tt)
  first_complete_frame_len_some = refl

module _ (κs : Lfts 1) (run : Bor (List ℕ)) (at size rows : ℕ) where
  pub measure_frames_one : (r r' : Result FramesRead Refused × DssReader) → measure_frames.Post κs (run, (at, (size, (rows, tt)))) r (run, (at, (size, (rows, tt)))) → measure_frames.Post κs (run, (at, (size, (rows, tt)))) r' (run, (at, (size, (rows, tt)))) → r ≡ r'
  measure_frames_one r r' p q = p ∙ sym q

  pub measure_frames_some : measure_frames.Post κs (run, (at, (size, (rows, tt)))) (given_frames run.now at size rows (all_frames run.now at)) (run, (at, (size, (rows, tt))))
  measure_frames_some = refl

module _ (κs : Lfts 2) (run : Bor (List ℕ)) (room : MutBor (List ℕ)) (at rows : ℕ) where
  pub read_all_one : (r r' : Result FramesRead Refused × DssReader) (l l' : List ℕ)
      → read_all.Post κs (run, (at, (room, (rows, tt)))) r (run, (at, (at_last room l, (rows, tt))))
      → read_all.Post κs (run, (at, (room, (rows, tt)))) r' (run, (at, (at_last room l', (rows, tt))))
      → (r ≡ r') × (l ≡ l')
  read_all_one r r' l l' p q = (p.answers ∙ sym q.answers, p.room_is ∙ sym q.room_is)

pub records_in_one : (κs : Lfts 0) (read : Result FramesRead Refused × DssReader) (r r' : ℕ) → records_in.Post κs (read, tt) r (read, tt) → records_in.Post κs (read, tt) r' (read, tt) → r ≡ r'
records_in_one κs read r r' p q = p ∙ sym q

module _ (κs : Lfts 2) (d : DssReader) (run : Bor (List ℕ)) (room : MutBor (List ℕ)) where
  -- the answer holds the position after
  pub next_frame_one : (r r' : Result DssFrame Refused × DssReader) (l l' : List ℕ)
      → next_frame.Post κs (d, (run, (room, tt))) r (d, (run, (at_last room l, tt)))
      → next_frame.Post κs (d, (run, (room, tt))) r' (d, (run, (at_last room l', tt)))
      → (r ≡ r') × (l ≡ l')
  next_frame_one r r' l l' p q = (p.answers ∙ sym q.answers, p.room_is ∙ sym q.room_is)

  pub next_frame_some : next_frame.Post κs (d, (run, (room, tt))) (given_frame run.now d.position (length room.now) (read_at Reader run.now d.position))
      (d, (run, (at_last room (room_read run.now room.now (read_at Reader run.now d.position)), tt)))
  next_frame_some = record { answers = refl; room_is = refl }

-- `read_all_frames` is named by its `clauses`: in any model they are the record.
pub read_all_frames_says : {M : Type 1} {𝓤 : Ura M} (𝓛 : Logic 𝓤) (mem : Memory → SProp 𝓤) (run : Routine → Fun 𝓤) (κs : Lfts 3) (d : DssReader) (s : Bor (List ℕ)) (room : MutBor (List ℕ)) (row : MutBor (List DssFrame)) (r : Result FramesRead Refused × DssReader) (l : List ℕ) (k : List DssFrame)
    → (read_all_frames.clauses 𝓛 mem run κs (d, (s, (room, (row, tt))))).ensures tt r (d, (s, (at_last room l, (at_last row k, tt)))) ≡ fact 𝓤 (ReadAllFrames s.now d.position room.now row.now r l k)
read_all_frames_says 𝓛 mem run κs d s room row r l k = refl

module _ (s : List ℕ) (p : ℕ) (room : List ℕ) (row : List DssFrame) where
  pub read_all_frames_one : (r r' : Result FramesRead Refused × DssReader) (l l' : List ℕ) (k k' : List DssFrame) → ReadAllFrames s p room row r l k → ReadAllFrames s p room row r' l' k' → (r ≡ r') × (l ≡ l') × (k ≡ k')
  read_all_frames_one r r' l l' k k' p q = (p.answers ∙ sym q.answers, p.room_is ∙ sym q.room_is, p.row_is ∙ sym q.row_is)

  pub read_all_frames_some : ReadAllFrames s p room row (given_frames s p (length room) (length row) (all_frames s p)) (room_all s room (length row) (all_frames s p)) (row_all s p (length room) row (all_frames s p))
  read_all_frames_some = record { answers = refl; room_is = refl; row_is = refl }
