-- A frame is written, then read, by the calls and by the exported functions: what the two are lent and what each comes to. A contract is
-- named, and not written again: `f.Post` is what f ensures of its arguments, its answer, and its arguments as they then are;
-- `at_last room l` is the room that then holds l.
use Rattle.std.specs.Prelude.{ℕ, ◌≤◌, ◌≡◌, Bool, List, length, take, Result, Ok}
use contract.Lifetimes.{Lfts}
use denote.Ref.{Bor, MutBor, at_last}
use Rattle.gateway_words.specs.AnswerWords.{answer_len}
use Rattle.dss_head.specs.Heads.{type_at, bit}
use Rattle.dss_head.specs.declared.DssType.{DssType}
use Rattle.dss_frame.specs.Written.{Sent}
use Rattle.dss_writer.specs.Writer.{sent}
use Rattle.dss_writer.specs.declared.DssWriter.{DssWriter}
use Rattle.dss_writer.proofs.DssWriter.write_dss_full.Reads as write_dss_full
use Rattle.dss_reader.specs.Reader.{stands_at}
use Rattle.dss_reader.proofs.DssReader.next_frame.Reads as next_frame
use Rattle.gateway_writer.proofs.lattrugone_write_dss_full.Reads as lattrugone_write_dss_full
use Rattle.gateway_reader.proofs.lattrugone_next_frame.Reads as lattrugone_next_frame
use Rattle.demands.specs.Demands.{Sendable}
use Rattle.demands.specs.KeptMeaning.{mark_behind}
use Rattle.dss_frame.specs.declared.DssFrame.{DssFrame}
use Rattle.dss_reader.specs.declared.DssReader.{DssReader}
use Rattle.answer.specs.declared.Refused.{Refused}

-- the frame that is asked for
abbrev pub asked_of : DssWriter → DssType → Bool → Bool → Bor (List ℕ) → Sent
asked_of w t chained same payload = sent w.correlation_id t chained same payload.now

-- It is written, then read: `write_dss_full` lays it into a room that has place for it, from any fill mark on; then `next_frame` is
-- lent the room's bytes up to the fill mark behind it, and stands where it starts.
pub record Calls (κs κs' : Lfts 2) (w : DssWriter) (t : DssType) (chained same : Bool) (payload : Bor (List ℕ)) (room : MutBor (List ℕ)) (wrote : Result DssWriter Refused) (laid : List ℕ) (lent : Bor (List ℕ)) (into : MutBor (List ℕ)) (r : Result DssFrame Refused × DssReader) (after : List ℕ) : Type 0 where
  pub sendable : Sendable (asked_of w t chained same payload)
  pub fits : mark_behind w.fill (asked_of w t chained same payload) ≤ length room.now
  pub writes : write_dss_full.Post κs (w, (t, (chained, (same, (payload, (room, tt)))))) wrote (w, (t, (chained, (same, (payload, (at_last room laid, tt))))))
  pub lent_is : lent.now ≡ take (mark_behind w.fill (asked_of w t chained same payload)) laid
  pub reads : next_frame.Post κs' (stands_at w.fill, (lent, (into, tt))) r (stands_at w.fill, (lent, (at_last into after, tt)))

-- The same of the exported functions, lent the words of an answer each. A writer is its correlation and its fill mark, a type a byte that
-- says it, flags a byte.
abbrev pub asked_in_words : ℕ → ℕ → Bor (List ℕ) → DssType → Sent
asked_in_words id flags payload t = sent id t (bit 0x40 flags) (bit 0x10 flags) payload.now

pub record ExportedCalls (κs κs' : Lfts 3) (id fill type flags : ℕ) (t : DssType) (payload : Bor (List ℕ)) (room words : MutBor (List ℕ)) (number : ℕ) (laid answer : List ℕ) (lent : Bor (List ℕ)) (into words' : MutBor (List ℕ)) (number' : ℕ) (after answer' : List ℕ) : Type 0 where
  pub typed : type_at type 0 ≡ Ok t
  pub sendable : Sendable (asked_in_words id flags payload t)
  pub fits : mark_behind fill (asked_in_words id flags payload t) ≤ length room.now
  pub eight : answer_len ≤ length words.now
  pub eight' : answer_len ≤ length words'.now
  pub writes : lattrugone_write_dss_full.Post κs (id, (fill, (type, (flags, (payload, (room, (words, tt))))))) number (id, (fill, (type, (flags, (payload, (at_last room laid, (at_last words answer, tt)))))))
  pub lent_is : lent.now ≡ take (mark_behind fill (asked_in_words id flags payload t)) laid
  pub reads : lattrugone_next_frame.Post κs' (lent, (fill, (into, (words', tt)))) number' (lent, (fill, (at_last into after, (at_last words' answer', tt))))
