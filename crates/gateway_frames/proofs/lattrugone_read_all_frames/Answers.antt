-- `gateway_frames::lattrugone_read_all_frames` meets its contract: what was answered, the frames that are taken, and the words that say so.
use Rattle.std.specs.Prelude.{ℕ, ◌≡◌, List, length, Result, Ok}
use native.Mathlib.Omega.{arith}
use mathlib.Core.Path.{ap, ◌∙◌}
use Rattle.answer.specs.declared.Refused.{Refused}
use Rattle.dss_frame.specs.Frames.{all_frames}
use Rattle.dss_reader.specs.declared.DssReader.{DssReader}
use Rattle.dss_reader.specs.declared.FramesRead.{FramesRead}
use Rattle.dss_reader.specs.Reader.{given_frames, records_in}
use Rattle.dss_reader.proofs.GatheredFrames.{Fitted, fitted, takes_asks, asks_counted, room_kept, room_taken}
use Rattle.gateway_row.specs.RowWords.{places}
use Rattle.gateway_frames.specs.inner.LaidRecords.{Asks}
use Rattle.gateway_frames.proofs.RecordLaws.{places_enough, row_filled, row_kept}
use Rattle.gateway_frames.proofs.lattrugone_read_all_frames.Goals as goal
use Rattle.gateway_frames.proofs.lattrugone_read_all_frames.Goals.{in-Ok, in_default}

-- an answer, by what was found
whole : (r : Result FramesRead Refused × DssReader) (o : Result FramesRead Refused) → r.0 ≡ o → r ≡ (o, r.1)
whole r o e = ap (λ (x : Result FramesRead Refused). (x, r.1)) e

module _ (s : List ℕ) (p : ℕ) (room row : List ℕ) (r : Result FramesRead Refused × DssReader) (g : r ≡ given_frames s p (length room) (places row) (all_frames s p)) (m : FramesRead) (e : r.0 ≡ Ok m) where
  found : Fitted s p (length room) (places row) m.count
  found = fitted s p (length room) (places row) r m.count m.bytes r.1 g (whole r (Ok m) e)

  counted : records_in r ≡ m.count
  counted = ap records_in (whole r (Ok m) e)

  asked : Asks s p m.count room row
  asked =
      record { payloads = takes_asks s p room (places row) found; counted = asks_counted s p room (places row) found; records = omega (arith, places_enough s p room (places row) r g, counted) }

pub take_frames-requires : goal.take_frames-requires
take_frames-requires c = let a = c.args in asked a.run.now a.at a.room.now a.row.now _ c.measure_frames-read.ensures c.in-Ok.found c.in-Ok.is

pub returns : goal.returns
returns c =
    let a = c.args in
    let m = c.measure_frames-read.ensures in
    let b = c.match-read.branch in
    record {
      answers = rw (← m) c.put_frames.ensures;
      room_is =
          elim b [
            | in-Ok w ↦ w.room-is ∙ room_taken _ _ _ _ (found a.run.now a.at a.room.now a.row.now _ m w.in-Ok.found w.in-Ok.is) _ w.take_frames.ensures.room_is
            | in_default w ↦ w.room-is ∙ room_kept _ _ _ _ _ _ _ m (whole _ _ w.in_default.is)
          ];
      row_is =
          elim b [
            | in-Ok w ↦ w.row-is ∙ row_filled a.run.now a.at a.room.now a.row.now _ _ _ m (counted a.run.now a.at a.room.now a.row.now _ m w.in-Ok.found w.in-Ok.is) w.take_frames.ensures.row_is
            | in_default w ↦ w.row-is ∙ row_kept a.run.now a.at a.room.now a.row.now _ m (ap records_in (whole _ _ w.in_default.is))
          ];
    }
