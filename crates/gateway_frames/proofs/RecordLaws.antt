-- The records' words laid into the row one after the other: what is left of them, and that the row they lead to is the definition's.
use Rattle.std.specs.Prelude.{Result, Ok, Err, Some, None}
use Prim.Native.Nat.{ℕ, suc, ◌+◌, ◌*◌, ◌-◌, ◌≤◌, ◌<◌}
use native.Mathlib.Omega.{arith}
use mathlib.Core.Path.{◌≡◌, refl, sym, ap, ◌∙◌, subst}
use mathlib.Core.List.{List, ◌++◌}
use lib.ListN.{length}
use borrow.Author.Tests.{leb-true}
use lib.Dec.{leb}
use Rattle.wire.specs.Bytes.{splice, laid, joined}
use Rattle.wire.proofs.WireLaws.{by, pick_yes, pick_no, and_split}
use Rattle.wire.proofs.Splicing.{splice_none}
use Rattle.wire.proofs.LentParts.{tail, back}
use Rattle.answer.specs.declared.Refused.{Refused}
use Rattle.dss_frame.specs.Reading.{refused}
use Rattle.dss_frame.specs.Frames.{AllRead, frames, refused_all, all_frames}
use Rattle.dss_frame.specs.FrameRecords.{payloads_of}
use Rattle.dss_frame.specs.declared.DssFrame.{DssFrame}
use Rattle.dss_frame.specs.declared.Rules.TheVariants.{Reader}
use Rattle.dss_measure.specs.declared.FrameMeasure.{FrameMeasure}
use Rattle.dss_measure.specs.Measure.{measured_record, measured_at}
use Rattle.dss_take.specs.Take.{Takes}
use Rattle.dss_measure.proofs.Measures.{Measures, measures, measured_not}
use Rattle.dss_row.specs.inner.FrameRows.{records_from}
use Rattle.dss_row.proofs.FrameRowLaws.{record_read, record_measured, records_step, records_none, records_all}
use Rattle.dss_reader.specs.Reader.{frames_fit, given_frames, records_in}
use Rattle.dss_reader.specs.inner.TakingAll.{all_payloads}
use Rattle.dss_reader.proofs.TakingFrames.{TakingAll as PayloadsTaken, taking_start, start_left, taking_more, taking_measured, taking_fewer, taking_never, taking_empty}
use Rattle.gateway_row.specs.RowWords.{record_words, record_len, places}
use Rattle.gateway_row.proofs.LaidWords.{LayingWords, laying_start, laying_end, part_of, back_part, laying_part, joined_none, joined_more}
use Rattle.gateway_frames.specs.FramesWords.{frames_row}
use Rattle.gateway_frames.specs.inner.LaidRecords.{row_placed, words_from, Asks}
use Rattle.dss_reader.specs.declared.DssReader.{DssReader}
use Rattle.dss_reader.specs.declared.FramesRead.{FramesRead}

-- while they are laid: k records are left, which fit behind the first n words, and their payloads go into the room no further than
-- their frames into the run
pub record LaysRecords (s start aim row : List ℕ) (p a n k : ℕ) : Type 0 where
  pub fits : n + record_len * k ≤ length row
  pub low : a ≤ p
  pub laying : LayingWords start aim row (words_from s p a k) n

pub lays_start : (s row : List ℕ) (p k : ℕ) → record_len * k ≤ length row → LaysRecords s row (splice row 0 (words_from s p 0 k)) row p 0 0 k
lays_start s row p k h = record { fits = omega arith; low = omega arith; laying = laying_start row (words_from s p 0 k) }

module _ (s start aim row : List ℕ) (p a n k : ℕ) (l : LaysRecords s start aim row p a n k) where
  -- none is left
  pub lays_all : k ≡ 0 → row ≡ aim
  lays_all h =
      laying_end start aim row (words_from s p a k) n l.laying
      (ap (joined record_words) (records_none k s (row_placed p a k) h) ∙ joined_none record_words)

  -- as many as are left: at least one
  some : 0 < k → k ≡ suc (k - 1)
  some h = omega arith

  -- no frame stands there
  pub lays_none : (x : Refused) → 0 < k → measured_at Reader s p ≡ Err x → row ≡ aim
  lays_none x h e =
      laying_end start aim row (words_from s p a k) n l.laying
      (ap (λ (j : ℕ). joined record_words (records_from j s (row_placed p a k))) (some h)
      ∙ ap (joined record_words) (records_step (k - 1) s (row_placed p a k) None (sym (record_read s (row_placed p a k) (refused x) (λ z. omega arith) (measured_not Reader s p x e))))
      ∙ joined_none record_words)

  module _ (m : FrameMeasure) (h : 0 < k) (e : measured_at Reader s p ≡ Ok m) where
    abbrev w : Measures Reader s p m
    w = measures Reader s p m e

    -- its payload lies in the run's length
    pub lays_low : a + m.payload_len ≤ m.end
    lays_low = omega (arith, l.low, w.thin)

    one_left : words_from s p a k ≡ record_words (measured_record p a m) ++ words_from s m.end (a + m.payload_len) (k - 1)
    one_left =
        ap (λ (j : ℕ). joined record_words (records_from j s (row_placed p a k))) (some h)
        ∙ ap (joined record_words)
        (records_step (k - 1) s (row_placed p a k) (Some (measured_record p a m, row_placed m.end (a + m.payload_len) (k - 1)))
        (sym (record_measured s (row_placed p a k) m (λ z. omega arith) w)))
        ∙ joined_more record_words (measured_record p a m) (records_from (k - 1) s (row_placed m.end (a + m.payload_len) (k - 1)))

    -- one more is laid
    pub lays_more : (t : List ℕ) → t ≡ laid (part_of row n (n + record_len)) 0 (record_words (measured_record p a m))
        → LaysRecords s start aim (back_part row n (n + record_len) t) m.end (a + m.payload_len) (n + record_len) (k - 1)
    lays_more t i =
        let g : LayingWords start aim (back_part row n (n + record_len) t) (words_from s m.end (a + m.payload_len) (k - 1)) (n + record_len) =
        laying_part start aim row (words_from s p a k) n l.laying (n + record_len) (record_words (measured_record p a m)) _ t one_left refl (omega (arith, l.fits)) i in
        record { fits = omega (arith, l.fits, l.laying.long, g.long); low = lays_low; laying = g }

-- ---- payloads and records

-- while they are taken: k are left, of the payloads and of the records
pub record TakingRecords (s whole start aim room row : List ℕ) (p a n k : ℕ) : Type 0 where
  pub payloads : PayloadsTaken s whole room p a
  pub counted : length payloads.left ≡ k
  pub records : LaysRecords s start aim row p a n k

pub taking_starts : (s : List ℕ) (p count : ℕ) (room row : List ℕ) → Asks s p count room row
    → TakingRecords s (splice room 0 (all_payloads s (all_frames s p))) row (splice row 0 (words_from s p 0 count)) room row p 0 0 count
taking_starts s p count room row w =
    record { payloads = taking_start s p room w.payloads; counted = start_left s p room w.payloads ∙ w.counted; records = lays_start s row p count w.records }

module _ {s whole start aim room row : List ℕ} {p a n k : ℕ} (w : TakingRecords s whole start aim room row p a n k) where
  -- none is left
  pub taking_ends : k ≡ 0 → (room ≡ whole) × (row ≡ aim)
  taking_ends h = (taking_empty w.payloads (w.counted ∙ h), lays_all s start aim row p a n k w.records h)

  -- one is left, and it is taken into the room's tail, which comes back as t
  module _ (h : 0 < k) (t : List ℕ) where
    some_left : 0 < length w.payloads.left
    some_left = omega (arith, w.counted)

    pub taking_stays : (x : Refused) (r : Result FrameMeasure Refused) → Takes Reader s p (tail room a) r t → r ≡ Err x → ⊥
    taking_stays x r i e = taking_never w.payloads t x r i e some_left

    module _ (m : FrameMeasure) (r : Result FrameMeasure Refused) (i : Takes Reader s p (tail room a) r t) (e : r ≡ Ok m) where
      measured : measured_at Reader s p ≡ Ok m
      measured = taking_measured w.payloads t m r i e

      -- and its record is laid into the part of the row that is its own, which comes back as u
      pub taking_one : (u : List ℕ) → u ≡ laid (part_of row n (n + record_len)) 0 (record_words (measured_record p a m))
          → TakingRecords s whole start aim (back room a t) (back_part row n (n + record_len) u) m.end (a + m.payload_len) (n + record_len) (k - 1)
      taking_one u j =
          record {
            payloads = taking_more w.payloads t m r i e;
            counted = omega (arith, taking_fewer w.payloads t m r i e, w.counted);
            records = lays_more s start aim row p a n k w.records m h measured u j;
          }

-- the same, of equal numbers
pub taking_at : {s whole start aim room row : List ℕ} {p a : ℕ} (n n' k k' : ℕ) → n ≡ n' → k ≡ k'
    → TakingRecords s whole start aim room row p a n k → TakingRecords s whole start aim room row p a n' k'
taking_at {s} {whole} {start} {aim} {room} {row} {p} {a} n n' k k' e f w =
    subst (λ (m : ℕ). TakingRecords s whole start aim room row p a m k') e (subst (λ (j : ℕ). TakingRecords s whole start aim room row p a n j) f w)

-- ---- the whole row

-- an answer has no more records than the row has places
pub places_enough : (s : List ℕ) (p : ℕ) (room : List ℕ) (rows : ℕ) (r : Result FramesRead Refused × DssReader) → r ≡ given_frames s p (length room) rows (all_frames s p) → records_in r ≤ rows
places_enough s p room rows r e = subst (λ (x : Result FramesRead Refused × DssReader). records_in x ≤ rows) (sym e) (of_all (all_frames s p))
  where
    of_all : (a : AllRead) → records_in (given_frames s p (length room) rows a) ≤ rows
    of_all (refused_all r) = omega arith
    of_all (frames fs q) =
        by (frames_fit s fs (length room) rows)
        (λ t. subst (λ (x : Result FramesRead Refused × DssReader). records_in x ≤ rows) (sym (pick_yes _ _ t)) (leb-true (length fs) rows (and_split (leb (length (payloads_of s fs)) (length room)) (leb (length fs) rows) t).1))
        (λ t. subst (λ (x : Result FramesRead Refused × DssReader). records_in x ≤ rows) (sym (pick_no _ _ t)) (omega arith))

-- the row with so many records laid into it
abbrev filled : List ℕ → ℕ → List ℕ → ℕ → List ℕ
filled s p row k = splice row 0 (words_from s p 0 k)

filled_none : (s : List ℕ) (p : ℕ) (row : List ℕ) → filled s p row 0 ≡ row
filled_none s p row =
    ap (splice row 0) (ap (joined record_words) (records_none 0 s (row_placed p 0 0) refl) ∙ joined_none record_words) ∙ splice_none row 0

filled_is : (s : List ℕ) (p size : ℕ) (row : List ℕ) (a : AllRead) → all_frames s p ≡ a → filled s p row (records_in (given_frames s p size (places row) a)) ≡ frames_row s p size row a
filled_is s p size row (refused_all r) e = filled_none s p row
filled_is s p size row (frames fs q) e =
    by (frames_fit s fs size (places row))
    (λ t. ap (λ (r : Result FramesRead Refused × DssReader). filled s p row (records_in r)) (pick_yes _ _ t)
    ∙ ap (λ (l : List DssFrame). splice row 0 (joined record_words l)) (records_all fs (length fs) s p 0 q e (omega arith))
    ∙ sym (pick_yes _ _ t))
    (λ t. ap (λ (r : Result FramesRead Refused × DssReader). filled s p row (records_in r)) (pick_no _ _ t) ∙ filled_none s p row ∙ sym (pick_no _ _ t))

-- what the row holds once the records of the answer are laid into it
pub row_filled : (s : List ℕ) (p : ℕ) (room row : List ℕ) (r : Result FramesRead Refused × DssReader) (row_after : List ℕ) (count : ℕ)
    → r ≡ given_frames s p (length room) (places row) (all_frames s p) → records_in r ≡ count → row_after ≡ filled s p row count → row_after ≡ frames_row s p (length room) row (all_frames s p)
row_filled s p room row r row_after count g c e =
    e ∙ ap (filled s p row) (sym c ∙ ap records_in g) ∙ filled_is s p (length room) row (all_frames s p) refl

-- the row that a refusal leaves
pub row_kept : (s : List ℕ) (p : ℕ) (room row : List ℕ) (r : Result FramesRead Refused × DssReader) → r ≡ given_frames s p (length room) (places row) (all_frames s p) → records_in r ≡ 0 → row ≡ frames_row s p (length room) row (all_frames s p)
row_kept s p room row r g c = row_filled s p room row r row 0 g c (sym (filled_none s p row))
