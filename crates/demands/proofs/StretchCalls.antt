-- W-201 over the records that the contracts of the calls cite: whatever answer, room and row they allow on any run.
use Rattle.std.specs.Prelude.{Result, Ok, Err}
use Rattle.answer.specs.Rooms.{no_room}
use Prim.Native.Nat.{ℕ, ◌+◌, ◌≤◌, ◌<◌}
use native.Mathlib.Omega.{arith}
use mathlib.Core.Path.{◌≡◌, refl, sym, ap, ap₂, subst, ◌∙◌}
use mathlib.Core.List.{List, [], ◌∷◌, ◌++◌, map}
use lib.Dec.{leb}
use lib.ListN.{length, get_or, take, drop}
use lib.Seq.{get_or-take}
use borrow.Author.Tests.{leb-true}
use Rattle.wire.specs.Bytes.{splice}
use Rattle.wire.proofs.WireLaws.{by, picked, pick_yes, pick_no}
use Rattle.wire.proofs.Splicing.{splice_tail, laid_fits}
use Rattle.dss_frame.specs.declared.Rules.TheVariants.{Reader}
use Rattle.dss_frame.specs.declared.DssFrame.{DssFrame}
use Rattle.dss_frame.specs.Segments.{payload_of, end_of}
use Rattle.dss_frame.specs.Reading.{Frame, Read, frame, refused, read_at}
use Rattle.dss_frame.specs.Frames.{AllRead, frames, refused_all, all_frames}
use Rattle.dss_frame.specs.FrameRecords.{frame_record, frame_records, payloads_of}
use Rattle.dss_frame.specs.Salvage.{salvaged}
use Rattle.dss_frame.specs.Following.{Follow, ComesFrom, Each}
use Rattle.dss_take.specs.Take.{room_read}
use Rattle.dss_reader.specs.declared.DssReader.{DssReader}
use Rattle.dss_reader.specs.Reader.{stands_at, given_frame, NextFrame, frames_fit, given_frames, room_all, row_all, ReadAllFrames}
use Rattle.dss_salvage.specs.SalvageEntries.{starts_in, ends_in, salvaged_bytes, salvaged_row}
use Rattle.dss_salvage_call.specs.SalvageCall.{entries_fit}
use Rattle.dss_salvage.specs.declared.Entry.{Entry}
use Rattle.dss_salvage.specs.declared.Entry.TheVariants.{Frame as Framed, Refused as Refuses}
use Rattle.dss_salvage.specs.declared.SalvageEntry.{SalvageEntry}
use Rattle.gateway_words.specs.AnswerWords.{Answered}
use Rattle.gateway_row.specs.RowWords.{frame_at, record_words, record_len, places, cut}
use Rattle.gateway_row.proofs.RecordBack.{numbered, row_says}
use Rattle.gateway_reader.specs.ReaderWords.{frame_words, ReadsFrame}
use Rattle.gateway_frames.specs.FramesWords.{frames_words, frames_row, ReadsAllFrames}
use Rattle.gateway_salvage.specs.SalvageWords.{words_of, entry_words, salvaged_words, SalvagesInWords}
use Rattle.gateway_salvage.proofs.EntryBack.{entry_long}
use Rattle.demands.specs.Stretches.{FrameInside, FramesStood, EntryInside, EntriesStood, WordsInside, WordsStood, AnswerStood}
use Rattle.demands.proofs.Stretching.{row_first, stood_map, Whole, whole_read, payload_stood, frames_stood, salvaged_stood}
use Rattle.demands.proofs.KeptFrame.{answer_says}
use Rattle.demands.proofs.KeptRows.{records_long, row_long}
use Rattle.dss_reader.specs.declared.FramesRead.{FramesRead}
use Rattle.answer.specs.declared.Refused.{Refused}
use Rattle.dss_salvage.specs.declared.Salvaging.{Salvaging}
use Rattle.dss_reader.specs.Reader.{frames_read}

-- ---- one frame

module _ (s : List ℕ) (p : ℕ) (room : List ℕ) where
  -- the room that a frame was taken into starts with its payload
  taken_first : (f : Frame) (after : List ℕ) → length (payload_of s f.segments) ≤ length room → after ≡ room_read s room (frame f) → take (length (payload_of s f.segments)) after ≡ payload_of s f.segments
  taken_first f after h i =
      let b : List ℕ = payload_of s f.segments in
      ap (take (length b)) (i ∙ laid_fits room 0 b (omega arith)) ∙ row_first room b (length b) refl

  pub next_stood : (d : DssFrame) (next : DssReader) (after : List ℕ) → NextFrame s p room (Ok d, next) after → FramesStood s after p next.position (d ∷ [])
  unfolding Follow Each
  next_stood d next after w = of_read (read_at Reader s p) refl w.answers w.room_is
    where
      of_read : (r : Read) → read_at Reader s p ≡ r → (Ok d, next) ≡ given_frame s p (length room) r → after ≡ room_read s room r → FramesStood s after p next.position (d ∷ [])
      of_read (refused r) i e k =
          let y : ◌≡◌ {A = Result DssFrame Refused} (Ok d) (Err r) = ap (λ (x : Result DssFrame Refused × DssReader). x.0) e in
          let z : ◌≡◌ {A = ℕ} 0 1 = cc in
          absurd (omega arith)
      of_read (frame f) i e k =
          picked (leb (length (payload_of s f.segments)) (length room)) (sym e)
          (λ t z. let x : Whole s p f = whole_read s p f i in
          let y : ◌≡◌ {A = Result DssFrame Refused} (Ok (frame_record s p 0 f)) (Ok d) = ap (λ (u : Result DssFrame Refused × DssReader). u.0) z in
          let same : frame_record s p 0 f ≡ d = cc in
          let there : stands_at (end_of p f.segments) ≡ next = ap (λ (u : Result DssFrame Refused × DssReader). u.1) z in
          let b : List ℕ = payload_of s f.segments in
          let fits : length b ≤ length room = leb-true _ _ t in
          let laid-down : drop 0 after ≡ b ++ drop (0 + length b) room = k ∙ laid_fits room 0 b (omega arith) ∙ splice_tail room 0 b (omega arith) in
          let inside : FrameInside s after (frame_record s p 0 f) = payload_stood s after (drop (0 + length b) room) p 0 f x.comes laid-down in
          let whole : FramesStood s after p (end_of p f.segments) (frame_record s p 0 f ∷ []) =
          record { follow = (refl, x.on, refl); inside = x.there; payloads = (inside, tt) } in
          subst (λ (y : DssReader). FramesStood s after p y.position (d ∷ [])) there
          (subst (λ (y : DssFrame). FramesStood s after p (end_of p f.segments) (y ∷ [])) same whole))
          (λ t z.
          let u : ◌≡◌ {A = Result DssFrame Refused} (Err (no_room p (length (payload_of s f.segments)) 0)) (Ok d) = ap (λ (x : Result DssFrame Refused × DssReader). x.0) z in
          let y : ◌≡◌ {A = ℕ} 0 1 = cc in
          absurd (omega arith))

  pub answer_stood : (words after answer : List ℕ) → 8 ≤ length words → ReadsFrame s p room words 0 after answer → AnswerStood s p after answer
  answer_stood words after answer h w = of_read (read_at Reader s p) refl w.answers w.room_is
    where
      of_read : (r : Read) → read_at Reader s p ≡ r → Answered (frame_words (given_frame s p (length room) r)) words 0 answer → after ≡ room_read s room r → AnswerStood s p after answer
      of_read (refused r) i a k = absurd (omega (arith, numbered r.why, a.number_is))
      of_read (frame f) i a k =
          by (leb (length (payload_of s f.segments)) (length room))
          (λ t. let x : Whole s p f = whole_read s p f i in
          let e : ℕ = end_of p f.segments in
          let said : take 8 answer ≡ frame_at e p (frame_record s p 0 f) =
          answer_says refl h (subst (λ (y : Result DssFrame Refused × DssReader). Answered (frame_words y) words 0 answer) (pick_yes _ _ t) a) in
          let word : (n : ℕ) → n < 8 → get_or answer n 0 ≡ get_or (frame_at e p (frame_record s p 0 f)) n 0 =
          λ n l. sym (get_or-take 8 answer n 0 l) ∙ ap (λ (y : List ℕ). get_or y n 0) said in
          let first : get_or answer 7 0 ≡ p = word 7 (omega arith) in
          let last : get_or answer 1 0 ≡ e = word 1 (omega arith) in
          let long : get_or answer 5 0 ≡ length (payload_of s f.segments) = word 5 (omega arith) in
          record {
            first = first;
            inside = omega (arith, last, x.there);
            payload =
                subst (λ (n : ℕ). ComesFrom s n (get_or answer 1 0) (take (get_or answer 5 0) after)) (sym first)
                (subst (λ (n : ℕ). ComesFrom s p n (take (get_or answer 5 0) after)) (sym last)
                (subst (ComesFrom s p e) (sym (ap (λ (n : ℕ). take n after) long ∙ taken_first f after (leb-true _ _ t) k)) x.comes));
          })
          (λ t. absurd (omega (arith, (subst (λ (y : Result DssFrame Refused × DssReader). Answered (frame_words y) words 0 answer) (pick_no _ _ t) a).number_is)))

-- ---- all frames

module _ (s : List ℕ) (p : ℕ) (room : List ℕ) where
  pub all_stood : (row : List DssFrame) (count bytes : ℕ) (reader : DssReader) (roomAfter : List ℕ) (rowAfter : List DssFrame) → ReadAllFrames s p room row (Ok (frames_read count bytes), reader) roomAfter rowAfter
      → FramesStood s roomAfter p reader.position (take count rowAfter)
  all_stood row count bytes reader roomAfter rowAfter w = of_all (all_frames s p) refl w.answers w.room_is w.row_is
    where
      of_all : (a : AllRead) → all_frames s p ≡ a → (Ok (frames_read count bytes), reader) ≡ given_frames s p (length room) (length row) a → roomAfter ≡ room_all s room (length row) a → rowAfter ≡ row_all s p (length room) row a
          → FramesStood s roomAfter p reader.position (take count rowAfter)
      of_all (refused_all r) i e k l =
          let y : ◌≡◌ {A = Result FramesRead Refused} (Ok (frames_read count bytes)) (Err r) = ap (λ (x : Result FramesRead Refused × DssReader). x.0) e in
          let z : ◌≡◌ {A = ℕ} 0 1 = cc in
          absurd (omega arith)
      of_all (frames fs q) i e k l =
          picked (frames_fit s fs (length room) (length row)) (sym e)
          (λ t z.
          let y : ◌≡◌ {A = Result FramesRead Refused} (Ok (frames_read (length fs) (length (payloads_of s fs)))) (Ok (frames_read count bytes)) = ap (λ (x : Result FramesRead Refused × DssReader). x.0) z in
          let m : frames_read (length fs) (length (payloads_of s fs)) ≡ frames_read count bytes = cc in
          let c : length fs ≡ count = ap (λ (x : FramesRead). x.count) m in
          let there : stands_at q ≡ reader = ap (λ (x : Result FramesRead Refused × DssReader). x.1) z in
          let rs : List DssFrame = frame_records s p 0 fs in
          let listed : rs ≡ take count rowAfter = sym (ap (take count) (l ∙ pick_yes _ _ t) ∙ row_first row rs count (records_long s p 0 fs ∙ c)) in
          subst (λ (y : DssReader). FramesStood s roomAfter p y.position (take count rowAfter)) there
          (subst (FramesStood s roomAfter p q) listed
          (frames_stood fs s roomAfter _ p 0 q i (k ∙ pick_yes _ _ t ∙ splice_tail room 0 (payloads_of s fs) (omega arith)))))
          (λ t z.
          let y : ◌≡◌ {A = Result FramesRead Refused} (Err (no_room p (length (payloads_of s fs)) (length fs))) (Ok (frames_read count bytes)) =
          ap (λ (x : Result FramesRead Refused × DssReader). x.0) z in
          let u : ◌≡◌ {A = ℕ} 0 1 = cc in
          absurd (omega arith))

  pub all_words_stood : (row words room_after row_after answer : List ℕ) → 8 ≤ length words → ReadsAllFrames s p room row words 0 room_after row_after answer
      → WordsStood s room_after p (get_or answer 1 0) (cut record_len (get_or answer 2 0) row_after)
  all_words_stood row words room_after row_after answer h w = of_all (all_frames s p) refl w.answers w.room_is w.row_is
    where
      of_all : (a : AllRead) → all_frames s p ≡ a → Answered (frames_words (given_frames s p (length room) (places row) a)) words 0 answer → room_after ≡ room_all s room (places row) a → row_after ≡ frames_row s p (length room) row a
          → WordsStood s room_after p (get_or answer 1 0) (cut record_len (get_or answer 2 0) row_after)
      of_all (refused_all r) i a k l = absurd (omega (arith, numbered r.why, a.number_is))
      of_all (frames fs q) i a k l =
          by (frames_fit s fs (length room) (places row))
          (λ t. let rs : List DssFrame = frame_records s p 0 fs in
          let said : take 8 answer ≡ 0 ∷ q ∷ length fs ∷ length (payloads_of s fs) ∷ 0 ∷ 0 ∷ 0 ∷ 0 ∷ [] =
          answer_says refl h (subst (λ (y : Result FramesRead Refused × DssReader). Answered (frames_words y) words 0 answer) (pick_yes _ _ t) a) in
          let last : q ≡ get_or answer 1 0 = sym (sym (get_or-take 8 answer 1 0 (omega arith)) ∙ ap (λ (y : List ℕ). get_or y 1 0) said) in
          let count : length rs ≡ get_or answer 2 0 = records_long s p 0 fs ∙ sym (sym (get_or-take 8 answer 2 0 (omega arith)) ∙ ap (λ (y : List ℕ). get_or y 2 0) said) in
          let listed : map record_words rs ≡ cut record_len (get_or answer 2 0) row_after =
          sym (row_says record_words record_len (λ (d : DssFrame). refl) row rs) ∙ ap₂ (cut record_len) count (sym (l ∙ pick_yes _ _ t)) in
          subst (λ (n : ℕ). WordsStood s room_after p n (cut record_len (get_or answer 2 0) row_after)) last
          (subst (WordsStood s room_after p q) listed
          (stood_map (λ (d : DssFrame). d.at) (λ (d : DssFrame). d.end) (λ (x : List ℕ). get_or x 8 0) (λ (x : List ℕ). get_or x 9 0) (FrameInside s room_after) (WordsInside s room_after) record_words
          (λ d. refl) (λ d. refl) (λ d c z. c) s p q rs
          (frames_stood fs s room_after _ p 0 q i (k ∙ pick_yes _ _ t ∙ splice_tail room 0 (payloads_of s fs) (omega arith))))))
          (λ t. absurd (omega (arith, (subst (λ (y : Result FramesRead Refused × DssReader). Answered (frames_words y) words 0 answer) (pick_no _ _ t) a).number_is)))

-- ---- salvage

-- an entry's words say where it stood, and a refusal's first word isn't 0
first_word : (e : Entry) → get_or (words_of e) 8 0 ≡ starts_in e
first_word (Framed d) = refl
first_word (Refuses r a b) = refl

last_word : (e : Entry) → get_or (words_of e) 9 0 ≡ ends_in e
last_word (Framed d) = refl
last_word (Refuses r a b) = refl

words_inside : (s room : List ℕ) (e : Entry) → EntryInside s room e → WordsInside s room (words_of e)
words_inside s room (Framed d) k z = k
words_inside s room (Refuses r a b) k z = absurd (omega (arith, numbered r.why, z))

module _ (s room : List ℕ) where
  pub entries_listed : (row : List SalvageEntry) (roomAfter : List ℕ) (rowAfter : List SalvageEntry) (count : ℕ) → length (salvaged s).entries ≡ count
      → roomAfter ≡ splice room 0 (salvaged_bytes s (salvaged s).entries) → rowAfter ≡ splice row 0 (salvaged_row s 0 (salvaged s).entries)
      → EntriesStood s roomAfter 0 (salvaged s).tail (take count rowAfter)
  entries_listed row roomAfter rowAfter count c k l =
      let rs : List SalvageEntry = salvaged_row s 0 (salvaged s).entries in
      subst (EntriesStood s roomAfter 0 (salvaged s).tail) (sym (ap (take count) l ∙ row_first row rs count (row_long s 0 (salvaged s).entries ∙ c)))
      (salvaged_stood s roomAfter _ (k ∙ splice_tail room 0 (salvaged_bytes s (salvaged s).entries) (omega arith)))

  pub salvage_words_stood : (row words room_after row_after answer : List ℕ) → 8 ≤ length words → SalvagesInWords s room row words 0 room_after row_after answer
      → WordsStood s room_after 0 (get_or answer 4 0) (cut record_len (get_or answer 2 0) row_after)
  salvage_words_stood row words room_after row_after answer h w =
      let es = (salvaged s).entries in
      by (entries_fit s es (length room) (places row))
      (λ t. let rs : List SalvageEntry = salvaged_row s 0 es in
      let said : take 8 answer ≡ 0 ∷ 0 ∷ length es ∷ length (salvaged_bytes s es) ∷ (salvaged s).tail ∷ 0 ∷ 0 ∷ 0 ∷ [] =
      answer_says refl h (subst (λ (y : Result Salvaging Refused). Answered (salvaged_words y) words 0 answer) (pick_yes _ _ t) w.answers) in
      let last : (salvaged s).tail ≡ get_or answer 4 0 = sym (sym (get_or-take 8 answer 4 0 (omega arith)) ∙ ap (λ (y : List ℕ). get_or y 4 0) said) in
      let count : length rs ≡ get_or answer 2 0 = row_long s 0 es ∙ sym (sym (get_or-take 8 answer 2 0 (omega arith)) ∙ ap (λ (y : List ℕ). get_or y 2 0) said) in
      let listed : map entry_words rs ≡ cut record_len (get_or answer 2 0) row_after =
      sym (row_says entry_words record_len entry_long row rs) ∙ ap₂ (cut record_len) count (sym (w.row_is ∙ pick_yes _ _ t)) in
      subst (λ (n : ℕ). WordsStood s room_after 0 n (cut record_len (get_or answer 2 0) row_after)) last
      (subst (WordsStood s room_after 0 (salvaged s).tail) listed
      (stood_map (λ (e : SalvageEntry). starts_in e.entry) (λ (e : SalvageEntry). ends_in e.entry) (λ (x : List ℕ). get_or x 8 0) (λ (x : List ℕ). get_or x 9 0)
      (λ (e : SalvageEntry). EntryInside s room_after e.entry) (WordsInside s room_after) entry_words
      (λ e. first_word e.entry) (λ e. last_word e.entry) (λ e k. words_inside s room_after e.entry k) s 0 (salvaged s).tail rs
      (salvaged_stood s room_after _ (w.room_is ∙ pick_yes _ _ t ∙ splice_tail room 0 (salvaged_bytes s es) (omega arith))))))
      (λ t. absurd (omega (arith, (subst (λ (y : Result Salvaging Refused). Answered (salvaged_words y) words 0 answer) (pick_no _ _ t) w.answers).number_is)))
