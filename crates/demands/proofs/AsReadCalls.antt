-- Salvaged as read, over the records that the contracts of the exported functions cite.
use Rattle.std.specs.Prelude.{Result, Ok, Err}
use Prim.Native.Nat.{ℕ, ◌≤◌}
use native.Mathlib.Omega.{arith}
use mathlib.Core.Path.{◌≡◌, refl, sym, ap, ap₂, subst, ◌∙◌}
use mathlib.Core.Bool.{Bool, true, false}
use mathlib.Core.List.{List, [], ◌∷◌}
use lib.ListN.{length, get_or, take}
use Rattle.wire.specs.Bytes.{pick, landed, joined}
use Rattle.answer.specs.Rooms.{no_room, both_fit}
use Rattle.dss_frame.specs.Reading.{Frame}
use Rattle.dss_frame.specs.Frames.{AllRead, frames, all_frames}
use Rattle.dss_frame.specs.FrameRecords.{payloads_of, frame_records}
use Rattle.dss_frame.specs.Salvage.{salvaged}
use Rattle.dss_frame.specs.Salvage as reading
use Rattle.dss_reader.specs.Reader.{stands_at, frames_fit, given_frames, room_all}
use Rattle.dss_salvage.specs.SalvageEntries.{salvaged_bytes, salvaged_row}
use Rattle.dss_salvage_call.specs.SalvageCall.{entries_fit, given_entries}
use Rattle.gateway_words.specs.AnswerWords.{done_words, Answered}
use Rattle.gateway_row.specs.RowWords.{record_words, places}
use Rattle.gateway_frames.specs.FramesWords.{frames_words, frames_row, ReadsAllFrames}
use Rattle.gateway_salvage.specs.SalvageWords.{entry_words, salvaged_words, SalvagesInWords}
use Rattle.demands.specs.AsRead.{NoneFull, entries_of}
use Rattle.demands.proofs.AsRead.{salvages_as_read, entries_counted, entries_bytes, entries_words}
use Rattle.demands.proofs.KeptFrame.{answer_says}
use Rattle.demands.specs.KeptMeaning.{SameInWords}
use Rattle.dss_reader.specs.declared.DssReader.{DssReader}
use Rattle.dss_reader.specs.declared.FramesRead.{FramesRead}
use Rattle.answer.specs.declared.Refused.{Refused}
use Rattle.dss_salvage.specs.declared.Salvaging.{Salvaging}
use Rattle.dss_salvage.specs.inner.SalvageMeasure.{counted}
use Rattle.dss_reader.specs.Reader.{frames_read}

-- what the two calls answer, by whether so many frames with so many bytes, read up to q, fit
abbrev reads : Bool → ℕ → ℕ → ℕ → Result FramesRead Refused × DssReader
reads fit count bytes q = pick fit (Ok (frames_read count bytes), stands_at q) (Err (no_room 0 bytes count), stands_at 0)

abbrev salvages : Bool → ℕ → ℕ → ℕ → Result Salvaging Refused
salvages fit count bytes q = pick fit (Ok (counted count bytes q)) (Err (no_room 0 bytes count))

same_number : (fit : Bool) (count bytes q : ℕ) → get_or (salvaged_words (salvages fit count bytes q)) 0 0 ≡ get_or (frames_words (reads fit count bytes q)) 0 0
same_number true count bytes q = refl
same_number false count bytes q = refl

same_words : (fit : Bool) (count bytes q : ℕ) (words words' : List ℕ) (n n' : ℕ) (answer answer' : List ℕ) → 8 ≤ length words → 8 ≤ length words'
    → Answered (frames_words (reads fit count bytes q)) words n answer → Answered (salvaged_words (salvages fit count bytes q)) words' n' answer' → n ≡ 0
    → (take 8 answer ≡ 0 ∷ q ∷ count ∷ bytes ∷ 0 ∷ 0 ∷ 0 ∷ 0 ∷ []) × (take 8 answer' ≡ done_words count bytes q 0)
same_words true count bytes q words words' n n' answer answer' h h' a b e = (answer_says refl h a, answer_says refl h' b)
same_words false count bytes q words words' n n' answer answer' h h' a b e = absurd (omega (arith, a.number_is))

module _ (s : List ℕ) (fs : List Frame) (q : ℕ) (room row words words' : List ℕ) (h : 8 ≤ length words) (h' : 8 ≤ length words') where
  abbrev fit : Bool
  fit = frames_fit s fs (length room) (places row)

  -- what salvage lays down of the reader's frames is what the reader does
  fits : entries_fit s (entries_of 0 fs) (length room) (places row) ≡ fit
  fits = ap₂ (λ (b : List ℕ) (n : ℕ). both_fit (length b) (length room) n (places row)) (entries_bytes s 0 fs) (entries_counted 0 fs)

  answered : given_entries s (length room) (places row) (record { entries = entries_of 0 fs; tail = q }) ≡ salvages fit (length fs) (length (payloads_of s fs)) q
  answered =
      ap₂ (λ (b : List ℕ) (n : ℕ). salvages (both_fit (length b) (length room) n (places row)) n (length b) q) (entries_bytes s 0 fs) (entries_counted 0 fs)

  roomed : landed (entries_fit s (entries_of 0 fs) (length room) (places row)) room (salvaged_bytes s (entries_of 0 fs)) ≡ landed fit room (payloads_of s fs)
  roomed = ap₂ (λ (b : Bool) (x : List ℕ). landed b room x) fits (entries_bytes s 0 fs)

  rowed : landed (entries_fit s (entries_of 0 fs) (length room) (places row)) row (joined entry_words (salvaged_row s 0 (entries_of 0 fs))) ≡ landed fit row (joined record_words (frame_records s 0 0 fs))
  rowed = ap₂ (λ (b : Bool) (x : List ℕ). landed b row x) fits (entries_words s 0 0 fs)

  pub as_read_words : all_frames s 0 ≡ frames fs q → NoneFull s 0 fs → (n n' : ℕ) (room_after row_after answer room-after' row-after' answer' : List ℕ)
      → ReadsAllFrames s 0 room row words n room_after row_after answer → SalvagesInWords s room row words' n' room-after' row-after' answer'
      → SameInWords (length fs) (length (payloads_of s fs)) q n answer room_after row_after n' answer' room-after' row-after'
  as_read_words e none n n' room_after row_after answer room-after' row-after' answer' a b =
      let x : salvaged s ≡ record { entries = entries_of 0 fs; tail = q } = salvages_as_read s fs q e none in
      let u : Answered (frames_words (reads fit (length fs) (length (payloads_of s fs)) q)) words n answer =
      subst (λ (y : AllRead). Answered (frames_words (given_frames s 0 (length room) (places row) y)) words n answer) e a.answers in
      let v : Answered (salvaged_words (salvages fit (length fs) (length (payloads_of s fs)) q)) words' n' answer' =
      subst (λ (y : Result Salvaging Refused). Answered (salvaged_words y) words' n' answer') (ap (given_entries s (length room) (places row)) x ∙ answered) b.answers in
      record {
        number_is = v.number_is ∙ same_number fit (length fs) (length (payloads_of s fs)) q ∙ sym u.number_is;
        room_is =
            b.room_is
            ∙ ap (λ (y : reading.Salvaged). landed (entries_fit s y.entries (length room) (places row)) room (salvaged_bytes s y.entries)) x
            ∙ roomed
            ∙ sym (a.room_is ∙ ap (room_all s room (places row)) e);
        row_is =
            b.row_is
            ∙ ap (λ (y : reading.Salvaged). landed (entries_fit s y.entries (length room) (places row)) row (joined entry_words (salvaged_row s 0 y.entries))) x
            ∙ rowed
            ∙ sym (a.row_is ∙ ap (frames_row s 0 (length room) row) e);
        words_say = same_words fit (length fs) (length (payloads_of s fs)) q words words' n n' answer answer' h h' u v;
      }
