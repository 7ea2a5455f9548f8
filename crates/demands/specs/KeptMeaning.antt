-- What the lines of Kept say holds after a call: in Rattle, of a record; for a caller in C or Rust, of the words that were lent.
use Rattle.std.specs.Prelude.{ℕ, ◌+◌, ◌*◌, ◌%◌, ◌≤◌, ◌<◌, ◌≡◌, false, List, [], ◌∷◌, length, get_or, take, drop, Result, Ok, Err}
use Rattle.wire.specs.Bytes.{part, splice, joined}
use Rattle.answer.specs.Numbers.{number_of}
use Rattle.answer.specs.declared.Refusal.TheVariants.{Incomplete}
use Rattle.answer.specs.declared.Refused.{Refused}
use Rattle.dss_head.specs.Heads.{type_at, flags_of}
use Rattle.dss_head.specs.declared.DssFlags.{DssFlags}
use Rattle.dss_frame.specs.Reading.{Frame, Read}
use Rattle.dss_frame.specs.Frames.{AllRead}
use Rattle.dss_frame.specs.FrameRecords.{frame_record}
use Rattle.dss_frame.specs.Written.{Sent, written}
use Rattle.dss_frame.specs.declared.DssFrame.{DssFrame}
use Rattle.dss_writer.specs.declared.DssWriter.{DssWriter}
use Rattle.dss_take.specs.Take.{room_read}
use Rattle.dss_reader.specs.Reader.{stands_at, given_frame, given_frames, room_all}
use Rattle.gateway_words.specs.AnswerWords.{refusal_words, done_words, Answered, answer_len}
use Rattle.gateway_reader.specs.ReaderWords.{frame_words}
use Rattle.gateway_frames.specs.FramesWords.{frames_words, frames_row}
use Rattle.gateway_row.specs.RowWords.{record_len, places, cut}
use Rattle.layouts.specs.DssLayout.{Structure, Dss}
use Rattle.demands.specs.Demands.{Item, good, spoilt, run, item_bytes}
use Rattle.demands.specs.DssLayouts.{SaysStructure}
use Rattle.demands.specs.KeptLists.{payloads, due_bytes, all_bytes}
use Rattle.dss_reader.specs.declared.DssReader.{DssReader}

-- ---- a frame that comes back

-- the flags of a frame that was sent: "Continue on error is never set"
abbrev pub flags_sent : Sent → DssFlags
flags_sent f = record { chained = f.chained; continue_on_error = false; same_correlation = f.same }

-- a record gives back "type, flags, correlation, payload": the payload is so many bytes at a place of the room
pub record IsFrame (f : Sent) (place : ℕ) (d : DssFrame) : Type 0 where
  pub type : d.header.dss_type ≡ f.type
  pub flags : d.header.flags ≡ flags_sent f
  pub correlation : d.header.correlation_id ≡ f.correlation
  pub payload_at : d.payload_at ≡ place
  pub payload_len : d.payload_len ≡ length f.payload

-- Words give it back: number 0, a place, type and flags in the format byte, correlation, the payload's length. The place is
-- the payload's in the room where the words are a row's, and the position behind the frame where they are an answer's.
pub record InWords (f : Sent) (place : ℕ) (w : List ℕ) : Type 0 where
  pub number : get_or w 0 0 ≡ 0
  pub place_is : get_or w 1 0 ≡ place
  pub type : type_at (get_or w 3 0) 0 ≡ Ok f.type
  pub flags : flags_of (get_or w 3 0) ≡ flags_sent f
  pub correlation : get_or w 4 0 ≡ f.correlation
  pub payload_len : get_or w 5 0 ≡ length f.payload

-- ---- written, then read

-- the byte behind a frame that is laid down from a fill mark on
abbrev pub mark_behind : ℕ → Sent → ℕ
mark_behind fill f = fill + length (written f)

-- the writer came back with its fill mark behind the frame
abbrev pub Written : DssWriter → Sent → Result DssWriter Refused → Type 0
Written w f wrote = wrote ≡ Ok (record { correlation_id = w.correlation_id; fill = mark_behind w.fill f })

-- "gives back type, flags, correlation, payload and is wholly consumed": the position is the fill mark behind the frame; the
-- payload stands at the room's start, and the rest of the room is as it was
pub record ReadAgain (w : DssWriter) (f : Sent) (wrote : Result DssWriter Refused) (room : List ℕ) (r : Result DssFrame Refused × DssReader) (after : List ℕ) : Type 0 where
  pub wrote_is : Written w f wrote
  pub frame : DssFrame
  pub read_is : r ≡ (Ok frame, stands_at (mark_behind w.fill f))
  pub gives : IsFrame f 0 frame
  pub room_is : after ≡ splice room 0 f.payload

-- 1, with the place where the reading started
abbrev pub not_yet : ℕ → Refused
not_yet p = record { why = Incomplete; place = p }

-- "the reader says it isn't whole", and position and room are as they were
pub record NotReadAgain (w : DssWriter) (f : Sent) (wrote : Result DssWriter Refused) (room : List ℕ) (r : Result DssFrame Refused × DssReader) (after : List ℕ) : Type 0 where
  pub wrote_is : Written w f wrote
  pub read_is : r ≡ (Err (not_yet w.fill), stands_at w.fill)
  pub room_is : after ≡ room

-- both in words: the two numbers returned, what the words of the two calls then start with, and the room
pub record ReadAgainInWords (f : Sent) (fill number : ℕ) (words : List ℕ) (room : List ℕ) (number' : ℕ) (words' after : List ℕ) : Type 0 where
  pub wrote : number ≡ 0
  pub wrote_says : take answer_len words ≡ done_words f.correlation (mark_behind fill f) 0 0
  pub read : number' ≡ 0
  pub read_says : InWords f (mark_behind fill f) (take answer_len words')
  pub room_is : after ≡ splice room 0 f.payload

pub record NotReadAgainInWords (f : Sent) (fill number : ℕ) (words : List ℕ) (room : List ℕ) (number' : ℕ) (words' after : List ℕ) : Type 0 where
  pub wrote : number ≡ 0
  pub wrote_says : take answer_len words ≡ done_words f.correlation (mark_behind fill f) 0 0
  pub read : number' ≡ 1
  pub read_says : take answer_len words' ≡ refusal_words (not_yet fill)
  pub room_is : after ≡ room

-- ---- the volume's layout

-- the structure comes back: its payload at the room's start, the rest of the room as it was, and the run wholly consumed
pub record StructureBack (w : Structure) (b room : List ℕ) (r : Result DssFrame Refused × DssReader) (after : List ℕ) : Type 0 where
  pub read : Frame
  pub is : r ≡ (Ok (frame_record b 0 0 read), stands_at (length b))
  pub says : SaysStructure w b read
  pub room_is : after ≡ splice room 0 w.payload

-- Eight words say a structure: number 0, the position behind it, type and three flags in the format byte, correlation, the payload's
-- length.
pub record StructureInWords (w : Structure) (position : ℕ) (words : List ℕ) : Type 0 where
  pub number : get_or words 0 0 ≡ 0
  pub position_is : get_or words 1 0 ≡ position
  pub type : get_or words 3 0 % 16 ≡ w.type
  pub flags : flags_of (get_or words 3 0) ≡ record { chained = w.chained; continue_on_error = w.on_error; same_correlation = w.same }
  pub correlation : get_or words 4 0 ≡ w.correlation
  pub payload_len : get_or words 5 0 ≡ length w.payload

-- it comes back in words, with the position at the run's end
pub record StructureBackInWords (w : Structure) (b room : List ℕ) (number : ℕ) (words after : List ℕ) : Type 0 where
  pub number_is : number ≡ 0
  pub says : StructureInWords w (length b) (take answer_len words)
  pub room_is : after ≡ splice room 0 w.payload

-- what a writer's call laid down from a fill mark on, up to the mark that its words say, has a structure's layout
pub record LaidInWords (w : Structure) (fill : ℕ) (words after : List ℕ) : Type 0 where
  pub mark : ℕ
  pub words_say : take answer_len words ≡ done_words w.correlation mark 0 0
  pub laid : Dss w (part after fill mark)

-- the answer is that refusal, number, place and values, and the room is as it was
pub record RefusedAs (why : Refused) (room : List ℕ) (number : ℕ) (words after : List ℕ) : Type 0 where
  pub number_is : number ≡ number_of why.why
  pub words_say : take answer_len words ≡ refusal_words why
  pub room_is : after ≡ room

-- ---- what a reading that isn't the port's would answer

-- `next_frame` answers and leaves in the room what it would, were this what is read
pub record AnsweredAs (s : List ℕ) (p : ℕ) (room : List ℕ) (read : Read) (r : Result DssFrame Refused × DssReader) (after : List ℕ) : Type 0 where
  pub answer_is : r ≡ given_frame s p (length room) read
  pub room_is : after ≡ room_read s room read

-- the same in words
pub record AnsweredInWordsAs (s : List ℕ) (p : ℕ) (room words : List ℕ) (read : Read) (number : ℕ) (after answer : List ℕ) : Type 0 where
  pub answer_is : Answered (frame_words (given_frame s p (length room) read)) words number answer
  pub room_is : after ≡ room_read s room read

-- the same of all frames
pub record AllAnsweredInWordsAs (s : List ℕ) (p : ℕ) (room row words : List ℕ) (read : AllRead) (number : ℕ) (room_after row_after answer : List ℕ) : Type 0 where
  pub answer_is : Answered (frames_words (given_frames s p (length room) (places row) read)) words number answer
  pub room_is : room_after ≡ room_all s room (places row) read
  pub row_is : row_after ≡ frames_row s p (length room) row read

-- ---- all frames, in words

-- a part of the room is a frame's payload
abbrev pub PayloadAt : List ℕ → ℕ → Sent → Type 0
PayloadAt room at f = part room at (at + length f.payload) ≡ f.payload

-- one record for each frame, in order, and its payload in the room where its words say
unfoldable pub AllInWords : List ℕ → ℕ → List Sent → List (List ℕ) → Type 0
AllInWords room at [] [] = Unit {0}
AllInWords room at [] (w ∷ ws) = ⊥
AllInWords room at (f ∷ fs) [] = ⊥
AllInWords room at (f ∷ fs) (w ∷ ws) = (InWords f at w × PayloadAt room at f) × AllInWords room (at + length f.payload) fs ws

-- the answer is 0, the position behind the run, how many frames and how many bytes; the payloads stand end to end at the room's
-- start, the records at the row's; all else is as it was
pub record AllBackInWords (fs : List Sent) (room row : List ℕ) (number : ℕ) (room_after row_after words : List ℕ) : Type 0 where
  pub number_is : number ≡ 0
  pub words_say : take answer_len words ≡ 0 ∷ length (joined written fs) ∷ length fs ∷ length (payloads fs) ∷ 0 ∷ 0 ∷ 0 ∷ 0 ∷ []
  pub room_is : room_after ≡ splice room 0 (payloads fs)
  pub row_says : AllInWords room_after 0 fs (cut record_len (length fs) row_after)
  pub row_rest : drop (length fs * record_len) row_after ≡ drop (length fs * record_len) row

-- ---- salvaged, in words

-- "every other frame ... exactly as written", its payload in the room where its words say, "and one refusal at the first byte of
-- each spoilt frame": the number, the place p and the values. "Demands 2 and 3 read over the old fields as before": a record's eight
abbrev pub ItemInWords : List ℕ → ℕ → ℕ → Item written → List ℕ → Type 0
ItemInWords room p at (good f _ _) w = InWords f at w × PayloadAt room at f
ItemInWords room p at (spoilt f _ _ b x) w = take answer_len w ≡ refusal_words (record { why = x.reason.why; place = p })

-- "in order", "and nothing else"
unfoldable pub ItemsInWords : List ℕ → ℕ → ℕ → List (Item written) → List (List ℕ) → Type 0
ItemsInWords room p at [] [] = Unit {0}
ItemsInWords room p at [] (w ∷ ws) = ⊥
ItemsInWords room p at (i ∷ is) [] = ⊥
ItemsInWords room p at (i ∷ is) (w ∷ ws) = ItemInWords room p at i w × ItemsInWords room (p + length (item_bytes i)) (at + length (due_bytes i)) is ws

-- the answer is 0, how many entries, how many bytes and the tail's place, which is the run's end; the payloads of the good frames
-- stand end to end at the room's start, one record for each item at the row's; all else is as it was
pub record RecoveredInWords (items : List (Item written)) (room row : List ℕ) (number : ℕ) (room_after row_after words : List ℕ) : Type 0 where
  pub number_is : number ≡ 0
  pub words_say : take answer_len words ≡ done_words (length items) (length (all_bytes items)) (length (run items)) 0
  pub room_is : room_after ≡ splice room 0 (all_bytes items)
  pub row_says : ItemsInWords room_after 0 0 items (cut record_len (length items) row_after)
  pub row_rest : drop (length items * record_len) row_after ≡ drop (length items * record_len) row

-- ---- salvaged as read, in words

-- Salvaging answers what reading all frames answers, a number, and leaves the same bytes in the room and the same records in the row.
-- With 0, both say so many frames, so many bytes and where they end, the one as a position, the other as the tail's place.
pub record SameInWords (count bytes end number : ℕ) (words room row : List ℕ) (number' : ℕ) (words' room' row' : List ℕ) : Type 0 where
  pub number_is : number' ≡ number
  pub room_is : room' ≡ room
  pub row_is : row' ≡ row
  pub words_say : number ≡ 0 → (take answer_len words ≡ 0 ∷ end ∷ count ∷ bytes ∷ 0 ∷ 0 ∷ 0 ∷ 0 ∷ []) × (take answer_len words' ≡ done_words count bytes end 0)

-- ---- a refusal, in words

-- "A refusal has a number and a place": its number is returned; where eight words were lent they say number, place and values, else
-- they are as they were
pub record RefusedInWords (words : List ℕ) (number : ℕ) (answer : List ℕ) : Type 0 where
  pub why : Refused
  pub number_is : number ≡ number_of why.why
  pub words_say : answer_len ≤ length words → take answer_len answer ≡ refusal_words why
  pub words_kept : length words < answer_len → answer ≡ words
