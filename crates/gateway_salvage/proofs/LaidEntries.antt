-- The entries' words laid into the row one after the other: what is left of them, and that the row they lead to is the definition's.
use Rattle.std.specs.Prelude.{Result, Some, None}
use Prim.Native.Nat.{ℕ, suc, ◌+◌, ◌*◌, ◌-◌, ◌≤◌, ◌<◌}
use native.Mathlib.Omega.{arith}
use mathlib.Core.Path.{◌≡◌, refl, sym, ap, ◌∙◌, subst}
use mathlib.Core.List.{List, [], ◌++◌}
use lib.Dec.{leb}
use lib.ListN.{length}
use borrow.Author.Tests.{leb-true}
use Rattle.wire.specs.Bytes.{splice, laid, landed, joined}
use Rattle.wire.proofs.WireLaws.{by, pick_yes, pick_no, and_split}
use Rattle.wire.proofs.Splicing.{splice_none}
use Rattle.answer.specs.declared.Refused.{Refused}
use Rattle.dss_frame.specs.Salvage.{salvaged}
use Rattle.dss_frame.specs.Salvage as reading
use Rattle.dss_laws.proofs.SalvageLaws.{salvaged_from_lem}
use Rattle.dss_measure.specs.declared.FrameMeasure.{FrameMeasure}
use Rattle.dss_measure.specs.Measure.{measured_record}
use Rattle.dss_salvage.specs.declared.Entry.TheVariants.{Frame as Framed, Refused as Refuses}
use Rattle.dss_salvage.specs.declared.SalvageEntry.{SalvageEntry}
use Rattle.dss_salvage.specs.declared.Step.{Step}
use Rattle.dss_salvage.specs.declared.Step.TheVariants.{Frame, Over, Last, End as Ends}
use Rattle.dss_salvage.specs.SalvageEntries.{salvaged_bytes, salvaged_row}
use Rattle.dss_salvage_call.specs.SalvageCall.{entries_fit, given_entries, GathersEntries, entries_in}
use Rattle.dss_salvage.specs.inner.SalvageSteps.{step_at}
use Rattle.dss_salvage.proofs.SalvageStepping.{OnFrame, OnOver, on_frame, on_over}
use Rattle.dss_frame.specs.declared.RowPlace.{RowPlace}
use Rattle.dss_salvage_row.specs.inner.EntryRows.{placed, entry_found_of, entry_records_from}
use Rattle.dss_salvage_row.proofs.EntryRowLaws.{record_step, records_step, records_none, records_all}
use Rattle.gateway_row.specs.RowWords.{record_words, refused_words, record_len, places}
use Rattle.gateway_row.proofs.LaidWords.{LayingWords, laying_start, laying_end, part_of, back_part, laying_part, joined_none, joined_more}
use Rattle.gateway_salvage.specs.SalvageWords.{entry_words}
use Rattle.dss_salvage.specs.declared.Salvaging.{Salvaging}

-- the words of the k entries from p on, the first payload at a
abbrev pub entry_words_from : List ℕ → ℕ → ℕ → ℕ → List ℕ
entry_words_from s p a k = joined entry_words (entry_records_from k s (placed p a k))

-- while they are laid: k entries are left, which fit behind the first n words, and their payloads go into the room no further than
-- their frames into the run
pub record LaysEntries (s start aim row : List ℕ) (p a n k : ℕ) : Type 0 where
  pub fits : n + record_len * k ≤ length row
  pub low : a ≤ p
  pub laying : LayingWords start aim row (entry_words_from s p a k) n

pub lays_start : (s row : List ℕ) (k : ℕ) → record_len * k ≤ length row → LaysEntries s row (splice row 0 (entry_words_from s 0 0 k)) row 0 0 0 k
lays_start s row k h = record { fits = omega arith; low = omega arith; laying = laying_start row (entry_words_from s 0 0 k) }

-- the next one, by its place in the row
pub lays_next : {s start aim row : List ℕ} {p a : ℕ} (i count : ℕ) → LaysEntries s start aim row p a (record_len * i + record_len) ((count - i) - 1) → LaysEntries s start aim row p a (record_len * (i + 1)) (count - (i + 1))
lays_next i count l =
    let e : record_len * (i + 1) ≡ record_len * i + record_len = omega arith in
    let f : count - (i + 1) ≡ (count - i) - 1 = omega arith in
    rw (e, f) l

abbrev refusing : Refused → ℕ → ℕ → SalvageEntry
refusing r p e = record { entry = Refuses r p e }

module _ (s start aim row : List ℕ) (p a n k : ℕ) (l : LaysEntries s start aim row p a n k) where
  -- none is left
  pub lays_all : k ≡ 0 → row ≡ aim
  lays_all h =
      laying_end start aim row (entry_words_from s p a k) n l.laying
      (ap (joined entry_words) (records_none k s (placed p a k) h) ∙ joined_none entry_words)

  module _ (h : 0 < k) where
    -- at least one is left
    some : k ≡ suc (k - 1)
    some = omega arith

    -- no entry stands there
    pub lays_end : step_at s p ≡ Ends → row ≡ aim
    lays_end e =
        laying_end start aim row (entry_words_from s p a k) n l.laying
        (ap (λ (j : ℕ). joined entry_words (entry_records_from j s (placed p a k))) some
        ∙ ap (joined entry_words) (records_step (k - 1) s (placed p a k) None (sym (record_step s (placed p a k) Ends (λ z. omega arith) e)))
        ∙ joined_none entry_words)

    -- one, and those behind it
    one_left : (x : SalvageEntry) (next : RowPlace) (t : Step) → step_at s p ≡ t → Some (x, next) ≡ entry_found_of (placed p a k) t
        → entry_words_from s p a k ≡ entry_words x ++ joined entry_words (entry_records_from (k - 1) s next)
    one_left x next t e i =
        ap (λ (j : ℕ). joined entry_words (entry_records_from j s (placed p a k))) some
        ∙ ap (joined entry_words) (records_step (k - 1) s (placed p a k) (Some (x, next)) (i ∙ sym (record_step s (placed p a k) t (λ z. omega arith) e)))
        ∙ joined_more entry_words x (entry_records_from (k - 1) s next)

    -- its words are laid
    abbrev Laid : List ℕ → List ℕ → Type 0
    Laid t left = LayingWords start aim (back_part row n (n + record_len) t) left (n + record_len)

    one_laid : (x : SalvageEntry) (left t : List ℕ) → entry_words_from s p a k ≡ entry_words x ++ left → length (entry_words x) ≡ record_len → t ≡ laid (part_of row n (n + record_len)) 0 (entry_words x) → Laid t left
    one_laid x left t e w i = laying_part start aim row (entry_words_from s p a k) n l.laying (n + record_len) (entry_words x) left t e (ap (λ (j : ℕ). n + j) w) (omega (arith, l.fits)) i

    -- so the others fit
    others : (q b : ℕ) (t : List ℕ) → b ≤ q → Laid t (entry_words_from s q b (k - 1)) → LaysEntries s start aim (back_part row n (n + record_len) t) q b (n + record_len) (k - 1)
    others q b t i g = record { fits = omega (arith, l.fits, l.laying.long, g.long); low = i; laying = g }

    -- ---- a frame

    module _ (m : FrameMeasure) (e : step_at s p ≡ Frame m) where
      abbrev w : OnFrame s p m
      w = on_frame s p m e

      -- its payload lies in the run's length
      pub frame_low : a + m.payload_len ≤ m.end
      frame_low = omega (arith, l.low, w.measured.thin)

      pub frame_there : m.end ≤ length s
      frame_there = w.measured.there

      pub lays_frame : (t : List ℕ) → t ≡ laid (part_of row n (n + record_len)) 0 (record_words (measured_record p a m)) → LaysEntries s start aim (back_part row n (n + record_len) t) m.end (a + m.payload_len) (n + record_len) (k - 1)
      lays_frame t i =
          let x : SalvageEntry = record { entry = Framed (measured_record p a m) } in
          let q : ℕ = m.end in
          let b : ℕ = a + m.payload_len in
          others q b t frame_low (one_laid x (entry_words_from s q b (k - 1)) t (one_left x (placed q b (k - 1)) (Frame m) e refl) refl i)

    -- ---- a refusal

    module _ (r : Refused) where
      -- that is stepped over
      pub lays_over : (q : ℕ) (t : List ℕ) → step_at s p ≡ Over r q → t ≡ laid (part_of row n (n + record_len)) 0 (refused_words r p q) → LaysEntries s start aim (back_part row n (n + record_len) t) q a (n + record_len) (k - 1)
      lays_over q t e i =
          let w : OnOver s p r q = on_over s p r q e in
          others q a t (omega (arith, l.low, w.past))
          (one_laid (refusing r p q) (entry_words_from s q a (k - 1)) t (one_left (refusing r p q) (placed q a (k - 1)) (Over r q) e refl) refl i)

      module _ (t : List ℕ) (e : step_at s p ≡ Last r) (i : t ≡ laid (part_of row n (n + record_len)) 0 (refused_words r p p)) where
        -- that the walk ends at
        last_laid : Laid t []
        last_laid =
            one_laid (refusing r p p) [] t
            (one_left (refusing r p p) (placed p a 0) (Last r) e refl
            ∙ ap (λ (x : List ℕ). refused_words r p p ++ x) (ap (joined entry_words) (records_none (k - 1) s (placed p a 0) refl) ∙ joined_none entry_words))
            refl i

        pub lays_last : back_part row n (n + record_len) t ≡ aim
        lays_last = laying_end start aim (back_part row n (n + record_len) t) [] (n + record_len) last_laid refl

        pub last_long : length (back_part row n (n + record_len) t) ≡ length start
        last_long = last_laid.long

-- ---- the whole row

-- an answer has no more entries than the row has places
pub places_enough : (s room : List ℕ) (rows : ℕ) (r : Result Salvaging Refused) (after : List ℕ) → GathersEntries s room rows r after → entries_in r ≤ rows
places_enough s room rows r after g = subst (λ (x : Result Salvaging Refused). entries_in x ≤ rows) (sym g.answers) (of_all (salvaged s))
  where
    of_all : (x : reading.Salvaged) → entries_in (given_entries s (length room) rows x) ≤ rows
    of_all x =
        by (entries_fit s x.entries (length room) rows)
        (λ t. subst (λ (y : Result Salvaging Refused). entries_in y ≤ rows) (sym (pick_yes _ _ t)) (leb-true (length x.entries) rows (and_split (leb (length (salvaged_bytes s x.entries)) (length room)) (leb (length x.entries) rows) t).1))
        (λ t. subst (λ (y : Result Salvaging Refused). entries_in y ≤ rows) (sym (pick_no _ _ t)) (omega arith))

-- the row with so many entries laid into it
abbrev filled : List ℕ → List ℕ → ℕ → List ℕ
filled s row k = splice row 0 (entry_words_from s 0 0 k)

filled_none : (s row : List ℕ) → filled s row 0 ≡ row
filled_none s row =
    ap (splice row 0) (ap (joined entry_words) (records_none 0 s (placed 0 0 0) refl) ∙ joined_none entry_words) ∙ splice_none row 0

filled_all : (s row : List ℕ) → filled s row (length (salvaged s).entries) ≡ splice row 0 (joined entry_words (salvaged_row s 0 (salvaged s).entries))
filled_all s row =
    let i = salvaged_from_lem s in
    ap (λ (x : reading.Salvaged). filled s row (length x.entries)) i
    ∙ ap (λ (x : List SalvageEntry). splice row 0 (joined entry_words x)) (records_all _ s 0 0 (omega arith))
    ∙ ap (λ (x : reading.Salvaged). splice row 0 (joined entry_words (salvaged_row s 0 x.entries))) (sym i)

filled_is : (s : List ℕ) (size : ℕ) (row : List ℕ)
    → filled s row (entries_in (given_entries s size (places row) (salvaged s)))
    ≡ landed (entries_fit s (salvaged s).entries size (places row)) row (joined entry_words (salvaged_row s 0 (salvaged s).entries))
filled_is s size row =
    by (entries_fit s (salvaged s).entries size (places row))
    (λ t. ap (λ (x : Result Salvaging Refused). filled s row (entries_in x)) (pick_yes _ _ t) ∙ filled_all s row ∙ sym (pick_yes _ _ t))
    (λ t. ap (λ (x : Result Salvaging Refused). filled s row (entries_in x)) (pick_no _ _ t) ∙ filled_none s row ∙ sym (pick_no _ _ t))

-- what the row holds once the records of the answer are laid into it
pub row_filled : (s room row : List ℕ) (r : Result Salvaging Refused) (after row_after : List ℕ) (count : ℕ)
    → GathersEntries s room (places row) r after → count ≡ entries_in r → row_after ≡ filled s row count
    → row_after ≡ landed (entries_fit s (salvaged s).entries (length room) (places row)) row (joined entry_words (salvaged_row s 0 (salvaged s).entries))
row_filled s room row r after row_after count g c e =
    e ∙ ap (filled s row) (c ∙ ap entries_in g.answers) ∙ filled_is s (length room) row
