-- All frames and salvage in words: over the records that the contracts of the exported calls cite.
use Rattle.std.specs.Prelude.{Ok}
use Prim.Native.Nat.{ℕ, suc, ◌+◌, ◌*◌, ◌≤◌}
use native.Mathlib.Omega.{arith}
use mathlib.Core.Path.{◌≡◌, refl, sym, ap, ap₂, subst, ◌∙◌}
use mathlib.Core.Bool.{true}
use mathlib.Core.List.{List, [], ◌∷◌, ◌++◌, map, append_assoc}
use lib.ListN.{length, drop}
use borrow.Author.Tests.{le-leb}
use Rattle.wire.specs.Bytes.{splice, joined}
use Rattle.wire.proofs.WireLaws.{pick_yes, and_both}
use Rattle.wire.proofs.Places.{here_next, here_part}
use Rattle.wire.proofs.Splicing.{splice_tail}
use Rattle.answer.specs.declared.Refusal.{Refusal}
use Rattle.answer.specs.declared.Refused.{Refused}
use Rattle.dss_frame.specs.Segments.{payload_of, end_of}
use Rattle.dss_frame.specs.Reading.{Frame, Read, frame, refused}
use Rattle.dss_frame.specs.FrameRecords.{frame_record, frame_records, payloads_of, read_bytes}
use Rattle.dss_frame.specs.Frames.{all_frames}
use Rattle.dss_frame.specs.Salvage.{Entry, salvaged}
use Rattle.dss_frame.specs.Written.{Sent, written}
use Rattle.dss_frame.specs.declared.DssFrame.{DssFrame}
use Rattle.dss_reader.specs.Reader.{stands_at, frames_fit, given_frames, room_all}
use Rattle.dss_salvage.specs.SalvageEntries.{entry_at, salvaged_bytes, salvaged_row}
use Rattle.dss_salvage_call.specs.SalvageCall.{entries_fit, given_entries}
use Rattle.dss_salvage.specs.declared.SalvageEntry.{SalvageEntry}
use Rattle.gateway_words.specs.AnswerWords.{refusal_words, done_words, Answered}
use Rattle.gateway_row.specs.RowWords.{stretch, record_words, record_len, places, cut}
use Rattle.gateway_row.proofs.RecordBack.{row_says, row_rest}
use Rattle.gateway_frames.specs.FramesWords.{frames_words, frames_row, ReadsAllFrames}
use Rattle.gateway_salvage.specs.SalvageWords.{entry_words, salvaged_words, SalvagesInWords}
use Rattle.gateway_salvage.proofs.EntryBack.{entry_long}
use Rattle.demands.specs.Demands.{Item, good, spoilt, run, item_bytes, DueRead, AllDue}
use Rattle.demands.specs.AllFrames.{AllAlone, AllGive}
use Rattle.demands.proofs.AllFramesBack.{reads_all}
use Rattle.demands.proofs.Salvaging.{salvages}
use Rattle.demands.specs.KeptLists.{payloads, due_bytes, all_bytes}
use Rattle.demands.specs.KeptMeaning.{AllInWords, AllBackInWords, ItemInWords, ItemsInWords, RecoveredInWords}
use Rattle.demands.proofs.ReaderKeeps.{given_payloads}
use Rattle.demands.proofs.SalvageKeeps.{due_bytes_lem, all_bytes_lem}
use Rattle.demands.proofs.KeptFrame.{is_frame, in_words, answer_says}
use Rattle.dss_reader.specs.Reader.{frames_read}

-- a payload that stands at a place of the room, and what stands behind it
payload_at : (room x more rest : List ℕ) (at : ℕ) → drop at room ≡ (x ++ more) ++ rest → drop at room ≡ x ++ (more ++ rest)
payload_at room x more rest at d = d ∙ append_assoc x more rest

-- ---- all frames

all_in_words : (s room rest : List ℕ) (p at : ℕ) (fs : List Sent) (gs : List Frame) → AllGive s fs gs → drop at room ≡ payloads fs ++ rest
    → AllInWords room at fs (map record_words (frame_records s p at gs))
unfolding AllGive AllInWords payloads frame_records
all_in_words s room rest p at [] [] a d = tt
all_in_words s room rest p at [] (g ∷ gs) a d = absurd a
all_in_words s room rest p at (f ∷ fs) [] a d = absurd a
all_in_words s room rest p at (f ∷ fs) (g ∷ gs) a d =
    let q : ℕ = at + length f.payload in
    let d₁ : drop at room ≡ f.payload ++ (payloads fs ++ rest) = payload_at room f.payload (payloads fs) rest at d in
    let e : ℕ = end_of p g.segments in
    let ih : AllInWords room q fs (map record_words (frame_records s e q gs)) =
    all_in_words s room rest e q fs gs a.1 (here_next room f.payload (payloads fs ++ rest) at q d₁ refl) in (
      (in_words f at at 0 (stretch p e) (frame_record s p at g) (is_frame f s p at g a.0), here_part room f.payload (payloads fs ++ rest) at q d₁ (omega arith)),
      subst (λ (m : ℕ). AllInWords room q fs (map record_words (frame_records s e (at + m) gs))) (sym (ap length a.0.payload)) ih,
    )

pub records_long : (s : List ℕ) (p at : ℕ) (gs : List Frame) → length (frame_records s p at gs) ≡ length gs
unfolding frame_records
records_long s p at [] = refl
records_long s p at (g ∷ gs) = ap suc (records_long s (end_of p g.segments) (at + length (payload_of s g.segments)) gs)

pub frames_back_words : (fs : List Sent) → AllAlone fs → (room row words : List ℕ) → length (payloads fs) ≤ length room → length fs * record_len ≤ length row → 8 ≤ length words
    → (n : ℕ) (room_after row_after answer : List ℕ)
    → ReadsAllFrames (joined written fs) 0 room row words n room_after row_after answer → AllBackInWords fs room row n room_after row_after answer
frames_back_words fs a room row words h k l n room_after row_after answer p =
    let s : List ℕ = joined written fs in
    let b = reads_all fs a in
    let gs : List Frame = b.read in
    let e = given_payloads s fs gs b.gives in
    let rs : List DssFrame = frame_records s 0 0 gs in
    let c : length rs ≡ length fs = records_long s 0 0 gs ∙ e.1 in
    let fit : frames_fit s gs (length room) (places row) ≡ true =
    and_both _ _ (le-leb (length (payloads_of s gs)) (length room) (omega (arith, ap length e.0))) (le-leb (length gs) (places row) (omega (arith, e.1))) in
    let said : frames_words (given_frames s 0 (length room) (places row) (all_frames s 0)) ≡ frames_words (Ok (frames_read (length fs) (length (payloads fs))), stands_at (length s)) =
    ap (λ x. frames_words (given_frames s 0 (length room) (places row) x)) b.is
    ∙ ap frames_words (pick_yes _ _ fit)
    ∙ ap₂ (λ (i j : ℕ). frames_words (Ok (frames_read i j), stands_at (length s))) e.1 (ap length e.0) in
    let w : Answered (frames_words (Ok (frames_read (length fs) (length (payloads fs))), stands_at (length s))) words n answer =
    subst (λ (x : List ℕ). Answered x words n answer) said p.answers in
    let room_is : room_after ≡ splice room 0 (payloads fs) =
    p.room_is ∙ ap (room_all s room (places row)) b.is ∙ pick_yes _ _ fit ∙ ap (splice room 0) e.0 in
    let row_is : row_after ≡ splice row 0 (joined record_words rs) = p.row_is ∙ ap (frames_row s 0 (length room) row) b.is ∙ pick_yes _ _ fit in
    record {
      number_is = w.number_is;
      words_say = answer_says refl l w;
      room_is = room_is;
      row_says =
          subst (AllInWords room_after 0 fs)
          (sym (row_says record_words record_len (λ (d : DssFrame). refl) row rs) ∙ ap₂ (cut record_len) c (sym row_is))
          (all_in_words s room_after (drop (0 + length (payloads fs)) room) 0 0 fs gs b.gives (room_is ∙ splice_tail room 0 (payloads fs) (omega arith)));
      row_rest =
          subst (λ (m : ℕ). drop (m * record_len) row_after ≡ drop (m * record_len) row) c
          (ap (drop (length rs * record_len)) row_is ∙ row_rest record_words record_len (λ (d : DssFrame). refl) row rs);
    }

-- ---- salvage

refusal_words_lem : (r : Refused) (p : ℕ) (y : Refusal) → r.place ≡ p → r.why ≡ y → refusal_words r ≡ refusal_words (record { why = y; place = p })
refusal_words_lem r p y e k = ap refusal_words (λ i. record { why = k i; place = e i })

item_in_words : (s room rest : List ℕ) (p at a e : ℕ) (i : Item written) (x : Read) → DueRead s p i x → drop at room ≡ due_bytes i ++ rest
    → ItemInWords room p at i (entry_words (entry_at s at a e x))
item_in_words s room rest p at a e (good f _ _) (frame g) w d =
    (in_words f at at 0 (stretch a (end_of a g.segments)) (frame_record s a at g) (is_frame f s a at g w), here_part room f.payload rest at (at + length f.payload) d (omega arith))
item_in_words s room rest p at a e (good f _ _) (refused r) w d = absurd w
item_in_words s room rest p at a e (spoilt f _ _ b x) (frame g) w d = absurd w
item_in_words s room rest p at a e (spoilt f _ _ b x) (refused r) w d = refusal_words_lem r p x.reason.why w.0 w.1

items_in_words : (s room rest : List ℕ) (p at : ℕ) (is : List (Item written)) (es : List Entry) → AllDue s p is es → drop at room ≡ all_bytes is ++ rest
    → ItemsInWords room p at is (map entry_words (salvaged_row s at es))
unfolding AllDue ItemsInWords all_bytes salvaged_row
items_in_words s room rest p at [] [] a d = tt
items_in_words s room rest p at [] (e ∷ es) a d = absurd a
items_in_words s room rest p at (i ∷ is) [] a d = absurd a
items_in_words s room rest p at (i ∷ is) (e ∷ es) a d =
    let q : ℕ = at + length (due_bytes i) in
    let d₁ : drop at room ≡ due_bytes i ++ (all_bytes is ++ rest) = payload_at room (due_bytes i) (all_bytes is) rest at d in
    let ih : ItemsInWords room (p + length (item_bytes i)) q is (map entry_words (salvaged_row s q es)) =
    items_in_words s room rest (p + length (item_bytes i)) q is es a.1 (here_next room (due_bytes i) (all_bytes is ++ rest) at q d₁ refl) in (
      item_in_words s room (all_bytes is ++ rest) p at e.at e.end i e.read a.0.read d₁,
      subst (λ (m : ℕ). ItemsInWords room (p + length (item_bytes i)) q is (map entry_words (salvaged_row s (at + m) es))) (sym (ap length (due_bytes_lem s p i e.read a.0.read))) ih,
    )

pub row_long : (s : List ℕ) (at : ℕ) (es : List Entry) → length (salvaged_row s at es) ≡ length es
unfolding salvaged_row
row_long s at [] = refl
row_long s at (e ∷ es) = ap suc (row_long s (at + length (read_bytes s e.read)) es)

pub recovers_words : (items : List (Item written)) (room row words : List ℕ) → length (all_bytes items) ≤ length room → length items * record_len ≤ length row → 8 ≤ length words
    → (n : ℕ) (room_after row_after answer : List ℕ)
    → SalvagesInWords (run items) room row words n room_after row_after answer → RecoveredInWords items room row n room_after row_after answer
recovers_words items room row words h k l n room_after row_after answer p =
    let s : List ℕ = run items in
    let es : List Entry = (salvaged s).entries in
    let a = salvages items in
    let e = all_bytes_lem s 0 items es a.0 in
    let rs : List SalvageEntry = salvaged_row s 0 es in
    let c : length rs ≡ length items = row_long s 0 es ∙ e.1 in
    let fit : entries_fit s es (length room) (places row) ≡ true =
    and_both _ _ (le-leb (length (salvaged_bytes s es)) (length room) (omega (arith, ap length e.0))) (le-leb (length es) (places row) (omega (arith, e.1))) in
    let said : salvaged_words (given_entries s (length room) (places row) (salvaged s)) ≡ done_words (length items) (length (all_bytes items)) (length s) 0 =
    ap salvaged_words (pick_yes _ _ fit)
    ∙ ap₂ (λ (i j : ℕ). done_words i j (salvaged s).tail 0) e.1 (ap length e.0)
    ∙ ap (λ (t : ℕ). done_words (length items) (length (all_bytes items)) t 0) a.1 in
    let w : Answered (done_words (length items) (length (all_bytes items)) (length s) 0) words n answer = subst (λ (x : List ℕ). Answered x words n answer) said p.answers in
    let room_is : room_after ≡ splice room 0 (all_bytes items) = p.room_is ∙ pick_yes _ _ fit ∙ ap (splice room 0) e.0 in
    let row_is : row_after ≡ splice row 0 (joined entry_words rs) = p.row_is ∙ pick_yes _ _ fit in
    record {
      number_is = w.number_is;
      words_say = answer_says refl l w;
      room_is = room_is;
      row_says =
          subst (ItemsInWords room_after 0 0 items)
          (sym (row_says entry_words record_len entry_long row rs) ∙ ap₂ (cut record_len) c (sym row_is))
          (items_in_words s room_after (drop (0 + length (all_bytes items)) room) 0 0 items es a.0 (room_is ∙ splice_tail room 0 (all_bytes items) (omega arith)));
      row_rest =
          subst (λ (m : ℕ). drop (m * record_len) row_after ≡ drop (m * record_len) row) c
          (ap (drop (length rs * record_len)) row_is ∙ row_rest entry_words record_len entry_long row rs);
    }
