-- The laws of the records of a salvage reading's entries.
use Rattle.std.specs.Prelude.{Option, Some, None}
use Prim.Native.Nat.{ℕ, zero, suc, ◌+◌, ◌-◌, ◌≤◌}
use native.Mathlib.Omega.{arith}
use mathlib.Core.Path.{◌≡◌, refl, sym, ap, ◌∙◌}
use Rattle.dss_row.specs.inner.RowRecords.{one_more}
use Rattle.dss_row.proofs.RowRecordsLaws.{laid_step, laid_full}
use mathlib.Core.List.{List, [], ◌∷◌}
use lib.ListN.{length}
use borrow.Author.Tests.{eq-eqb, ne_eqb}
use Rattle.wire.proofs.WireLaws.{pick_yes, pick_no}
use Rattle.dss_frame.specs.Segments.{payload_of, end_of}
use Rattle.dss_frame.specs.Reading.{Read, frame, refused}
use Rattle.dss_frame.specs.Salvage.{Salvaged, entry, stop}
use Rattle.dss_frame.specs.Salvage as reading
use Rattle.dss_laws.proofs.SalvageLaws.{salvaged_from}
use Rattle.dss_measure.specs.declared.FrameMeasure.{FrameMeasure}
use Rattle.dss_frame.specs.declared.RowPlace.{RowPlace}
use Rattle.dss_salvage.specs.declared.SalvageEntry.{SalvageEntry}
use Rattle.dss_salvage.specs.declared.Step.{Step}
use Rattle.dss_salvage.specs.declared.Step.TheVariants.{Frame, Over, Last, End as Ends}
use Rattle.dss_frame.specs.FrameRecords.{read_bytes}
use Rattle.dss_salvage.specs.SalvageEntries.{entry_at, salvaged_row}
use Rattle.dss_salvage.specs.inner.SalvageSteps.{step_at}
use Rattle.dss_salvage.proofs.SalvageStepping.{OnFrame, OnOver, OnLast, on_frame, on_over, on_last, on_end}
use Rattle.dss_salvage_row.specs.inner.EntryRows.{placed, entry_found_of, entry_record_at, entry_records_from}

-- ---- one record

module _ (s : List ℕ) (x : RowPlace) where
  -- no more are to come
  pub record_none : x.left ≡ 0 → entry_record_at s x ≡ None
  unfolding entry_record_at
  record_none h = pick_yes _ _ (eq-eqb x.left 0 h)

  -- a step's
  pub record_step : (t : Step) → (x.left ≡ 0 → ⊥) → step_at s x.at ≡ t → entry_record_at s x ≡ entry_found_of x t
  unfolding entry_record_at
  record_step t h e = pick_no _ _ (ne_eqb x.left 0 h) ∙ ap (entry_found_of x) e

-- ---- a row of them

-- what is found first comes first
pub records_step : (n : ℕ) (s : List ℕ) (x : RowPlace) (f : Option (SalvageEntry × RowPlace)) → f ≡ entry_record_at s x → entry_records_from (suc n) s x ≡ one_more f (entry_records_from n s)
unfolding entry_records_from
records_step n s x f e = laid_step (entry_record_at s) n x f e

-- a row with no place left
pub records_full : (s : List ℕ) (x : RowPlace) → entry_records_from 0 s x ≡ []
unfolding entry_records_from
records_full s x = laid_full (entry_record_at s) x

-- none are to come
pub records_none : (n : ℕ) (s : List ℕ) (x : RowPlace) → x.left ≡ 0 → entry_records_from n s x ≡ []
records_none zero s x h = records_full s x
records_none (suc n) s x h = records_step n s x None (sym (record_none s x h))

-- ---- as many as there are entries: all of them

-- how many entries the reading from a place on has
abbrev pub entries_from : List ℕ → ℕ → ℕ
entries_from s p = length (salvaged_from s p).entries

row_none : (s : List ℕ) (a : ℕ) (es : List reading.Entry) → length es ≤ 0 → salvaged_row s a es ≡ []
unfolding salvaged_row
row_none s a [] h = refl
row_none s a (e ∷ es) h = absurd (omega arith)

module _ (s : List ℕ) (p a n : ℕ) where
  -- the records that the definition lists, where it lists this
  abbrev Listed : Salvaged → Type 0
  Listed y = entry_records_from (suc n) s (placed p a (length y.entries)) ≡ salvaged_row s a y.entries

  listed : (y : Salvaged) → salvaged_from s p ≡ y → Listed y → Listed (salvaged_from s p)
  listed y i h =
      ap (λ (v : Salvaged). entry_records_from (suc n) s (placed p a (length v.entries))) i ∙ h ∙ sym (ap (λ (v : Salvaged). salvaged_row s a v.entries) i)

  -- one entry, and those behind it
  one_listed : (e : ℕ) (r : Read) (y : Salvaged) (next : RowPlace)
      → entry_record_at s (placed p a (suc (length y.entries))) ≡ Some (entry_at s a p e r, next)
      → entry_records_from n s next ≡ salvaged_row s (a + length (read_bytes s r)) y.entries
      → Listed (entry p e r y)
  unfolding salvaged_row
  one_listed e r y next i h =
      records_step n s (placed p a (suc (length y.entries))) (Some (entry_at s a p e r, next)) (sym i) ∙ ap (λ (l : List SalvageEntry). entry_at s a p e r ∷ l) h

  -- where all that follow are listed, wherever they start
  abbrev Onward : Type 0
  Onward = (q b : ℕ) → entries_from s q ≤ n → entry_records_from n s (placed q b (entries_from s q)) ≡ salvaged_row s b (salvaged_from s q).entries

  by_step : (t : Step) → step_at s p ≡ t → entries_from s p ≤ suc n → Onward → Listed (salvaged_from s p)
  by_step (Frame m) i h go =
      let w : OnFrame s p m = on_frame s p m i in
      let f = w.measured.whole in
      let q : ℕ = end_of p f.segments in
      let k : ℕ = entries_from s q in
      let b : ℕ = a + length (payload_of s f.segments) in
      let z : suc k - 1 ≡ k = omega arith in
      let l : entries_from s p ≡ suc k = ap (λ (v : Salvaged). length v.entries) w.onward in
      listed (entry p q (frame f) (salvaged_from s q)) w.onward
      (one_listed q (frame f) (salvaged_from s q) (placed q b k)
      (record_step s (placed p a (suc k)) (Frame m) (λ x. omega arith) i
      ∙ ap (λ (x : FrameMeasure). entry_found_of (placed p a (suc k)) (Frame x)) (sym w.measured.same)
      ∙ ap (λ (j : ℕ). Some (entry_at s a p q (frame f), placed q b j)) z)
      (go q b (omega arith)))
  by_step (Over r q) i h go =
      let w : OnOver s p r q = on_over s p r q i in
      let k : ℕ = entries_from s q in
      let z : suc k - 1 ≡ k = omega arith in
      let y : a ≡ a + 0 = omega arith in
      let l : entries_from s p ≡ suc k = ap (λ (v : Salvaged). length v.entries) w.onward in
      listed (entry p q (refused r) (salvaged_from s q)) w.onward
      (one_listed q (refused r) (salvaged_from s q) (placed q (a + 0) k)
      (record_step s (placed p a (suc k)) (Over r q) (λ x. omega arith) i
      ∙ ap (λ (j : ℕ). Some (entry_at s a p q (refused r), placed q a j)) z
      ∙ ap (λ (b : ℕ). Some (entry_at s a p q (refused r), placed q b k)) y)
      (go q (a + 0) (omega arith)))
  by_step (Last r) i h go =
      let w : OnLast s p r = on_last s p r i in
      listed (entry p p (refused r) (stop p)) w.onward
      (one_listed p (refused r) (stop p) (placed p a 0)
      (record_step s (placed p a 1) (Last r) (λ x. omega arith) i)
      (records_none n s (placed p a 0) refl ∙ sym (row_none s (a + 0) [] (omega arith))))
  by_step Ends i h go =
      listed (stop p) (on_end s p i) (records_none (suc n) s (placed p a 0) refl ∙ sym (row_none s a [] (omega arith)))

pub records_all : (n : ℕ) (s : List ℕ) (p a : ℕ) → entries_from s p ≤ n → entry_records_from n s (placed p a (entries_from s p)) ≡ salvaged_row s a (salvaged_from s p).entries
records_all zero s p a h = records_full s (placed p a (entries_from s p)) ∙ sym (row_none s a (salvaged_from s p).entries h)
records_all (suc n) s p a h = by_step s p a n (step_at s p) refl h (λ q b k. records_all n s q b k)
