-- The writer's state, its calls' answers, and what the lent room holds after each: document 01, module 2.
use Rattle.std.specs.Prelude.{ℕ, ◌+◌, ◌%◌, ◌≡◌, Bool, List, [], leb, length, take, Result, Ok, Err}
use Rattle.std.specs.Borrow.{Bor}
use Rattle.wire.specs.Bytes.{pick, laid}
use Rattle.wire.specs.Parts.{start_at}
use Rattle.answer.specs.Rooms.{room_for}
use Rattle.dss_head.specs.declared.DssType.{DssType}
use Rattle.dss_frame.specs.Written.{Sent, written}
use Rattle.dss_writer.specs.declared.DssWriter.{DssWriter}
use Rattle.answer.specs.declared.Refused.{Refused}

-- ---- the state

abbrev pub fresh_writer : ℕ → DssWriter
fresh_writer correlation = record { correlation_id = correlation; fill = 0 }

-- "`finish` empties the writer and keeps the correlation"
abbrev pub finished : DssWriter → DssWriter
finished w = fresh_writer w.correlation_id

abbrev pub with_correlation : DssWriter → ℕ → DssWriter
with_correlation w correlation = record { correlation_id = correlation; fill = w.fill }

-- "`next_correlation_id` goes from 65,535 to 0"
abbrev pub next_correlation : DssWriter → DssWriter
next_correlation w = with_correlation w ((w.correlation_id + 1) % 65536)

-- what was written: the room up to the fill mark; of a mark beyond the room, nothing
abbrev pub filled : ℕ → List ℕ → List ℕ
filled fill room = pick (leb fill (length room)) (take fill room) []

-- which part of the room that is: the one at its start; of a mark beyond the room, the empty one at its end
pub record FilledAt (room : Bor (List ℕ)) (fill : ℕ) (r : Bor (List ℕ)) : Type 0 where
  pub bytes_are : r.now ≡ filled fill room.now
  pub starts : r.ref_ptr ≡ start_at room (pick (leb fill (length room.now)) 0 (length room.now))

-- ---- a frame

-- the frame that a writer sends: its correlation is the writer's
abbrev pub sent : ℕ → DssType → Bool → Bool → List ℕ → Sent
sent correlation t chained same payload = record { type = t; chained = chained; same = same; correlation = correlation; payload = payload }

abbrev pub wrote_by : DssWriter → ℕ → Result (Unit {0}) Refused → Result DssWriter Refused
wrote_by w n (Ok tt) = Ok (record { correlation_id = w.correlation_id; fill = w.fill + n })
wrote_by w n (Err r) = Err r

-- "Order: 10, 9"
abbrev pub wrote : DssWriter → ℕ → ℕ → Result DssWriter Refused
wrote w size n = wrote_by w n (room_for w.fill size n)

-- "Frames are laid into the lent room from the fill mark onward"
pub record Writes (w : DssWriter) (f : Sent) (room : List ℕ) (r : Result DssWriter Refused) (after : List ℕ) : Type 0 where
  pub answers : r ≡ wrote w (length room) (length (written f))
  pub room_is : after ≡ laid room w.fill (written f)

-- `build_dss_request` and `build_dss_object` are `Lays` of the written frame, at the room's first byte.
