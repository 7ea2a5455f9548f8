-- What the part of the salvage call that needs no row answers, what it leaves in the room, and that the whole call follows.
use Rattle.std.specs.Prelude.{Result, Ok}
use Prim.Native.Nat.{ℕ, ◌≤◌}
use native.Mathlib.Omega.{arith}
use mathlib.Core.Path.{◌≡◌, refl, sym, ap, ap₂, ◌∙◌}
use mathlib.Core.Bool.{Bool, true}
use mathlib.Core.List.{List}
use lib.Dec.{leb}
use lib.ListN.{length}
use borrow.Author.Tests.{le-leb, leb-true}
use Rattle.wire.specs.Bytes.{splice, landed}
use Rattle.wire.proofs.WireLaws.{by, pick_yes, pick_no, and_both, and_split}
use Rattle.dss_frame.specs.Salvage.{salvaged}
use Rattle.dss_frame.specs.Salvage as reading
use Rattle.dss_laws.proofs.SalvageLaws.{salvaged_from, salvaged_from_lem}
use Rattle.dss_salvage.specs.declared.SalvageEntry.{SalvageEntry}
use Rattle.dss_salvage.specs.declared.Salvaging.{Salvaging}
use Rattle.dss_salvage.specs.inner.SalvageMeasure.{salvaging_of}
use Rattle.dss_salvage.specs.SalvageEntries.{salvaged_bytes, salvaged_row}
use Rattle.dss_salvage_call.specs.SalvageCall.{entries_fit, given_entries, SalvagesRun, entries_in, GathersEntries}
use Rattle.dss_frame.specs.inner.RowStart.{starts_at}
use Rattle.wire.proofs.FilledRow.{splice_nothing}
use Rattle.dss_salvage_row.specs.inner.EntryRows.{placed, entry_records_from}
use Rattle.dss_salvage_row.proofs.EntryRowLaws.{records_none, records_all}
use Rattle.dss_salvage_call.specs.inner.SalvageGathered.{bytes_in}
use Rattle.answer.specs.declared.Refused.{Refused}
use Rattle.dss_salvage.specs.inner.SalvageMeasure.{counted}

-- ---- laws

module _ (s room : List ℕ) (rows : ℕ) (x : reading.Salvaged) (k n : ℕ) (count : length x.entries ≡ k) (bytes : length (salvaged_bytes s x.entries) ≡ n) where
  abbrev fits : Bool
  fits = entries_fit s x.entries (length room) rows

  both_fit : n ≤ length room → k ≤ rows → fits ≡ true
  both_fit h j = and_both _ _ (le-leb (length (salvaged_bytes s x.entries)) (length room) (omega arith)) (le-leb (length x.entries) rows (omega arith))

  -- 0
  given_done : fits ≡ true → given_entries s (length room) rows x ≡ Ok (counted k n x.tail)
  given_done e = pick_yes _ _ e ∙ ap₂ (λ (a b : ℕ). Ok (counted a b x.tail)) count bytes

module _ (s room : List ℕ) (rows : ℕ) (v : Salvaging) (e : v ≡ salvaging_of s (salvaged s)) where
  counts : length (salvaged s).entries ≡ v.count
  counts = sym (ap (λ (w : Salvaging). w.count) e)

  sums : length (salvaged_bytes s (salvaged s).entries) ≡ v.bytes
  sums = sym (ap (λ (w : Salvaging). w.bytes) e)

  -- the payloads have so many bytes
  pub bytes_in_is : length (bytes_in s) ≡ v.bytes
  unfolding bytes_in
  bytes_in_is = sums

  -- 0, and the payloads in the room
  pub gathers_all : (after : List ℕ) → v.bytes ≤ length room → v.count ≤ rows → after ≡ splice room 0 (bytes_in s) → GathersEntries s room rows (Ok (counted v.count v.bytes v.tail)) after
  unfolding bytes_in
  gathers_all after h i a =
      let t : entries_fit s (salvaged s).entries (length room) rows ≡ true = both_fit s room rows (salvaged s) v.count v.bytes counts sums h i in
      record {
        answers = ap (λ (w : Salvaging). Ok (counted v.count v.bytes w.tail)) e ∙ sym (given_done s room rows (salvaged s) v.count v.bytes counts sums t);
        room_is = a ∙ sym (pick_yes _ _ t);
      }

-- ---- the row

-- the row with the records of all entries where they fit, and as it was where they don't
row_after : (s room : List ℕ) (row : List SalvageEntry)
    → splice row 0 (entry_records_from (length row) s (starts_at 0 (entries_in (given_entries s (length room) (length row) (salvaged s)))))
    ≡ landed (entries_fit s (salvaged s).entries (length room) (length row)) row (salvaged_row s 0 (salvaged s).entries)
row_after s room row =
    by (entries_fit s (salvaged s).entries (length room) (length row))
    (λ t. ap (λ (x : Result Salvaging Refused). splice row 0 (entry_records_from (length row) s (starts_at 0 (entries_in x)))) (pick_yes _ _ t) ∙ ap (splice row 0) (all_of t) ∙ sym (pick_yes _ _ t))
    (λ t. ap (λ (x : Result Salvaging Refused). splice row 0 (entry_records_from (length row) s (starts_at 0 (entries_in x)))) (pick_no _ _ t)
    ∙ ap (splice row 0) (records_none (length row) s (starts_at 0 0) refl) ∙ splice_nothing row ∙ sym (pick_no _ _ t))
  where
    all_of : entries_fit s (salvaged s).entries (length room) (length row) ≡ true
        → entry_records_from (length row) s (starts_at 0 (length (salvaged s).entries)) ≡ salvaged_row s 0 (salvaged s).entries
    all_of t =
        let i : salvaged s ≡ salvaged_from s 0 = salvaged_from_lem s in
        let h : length (salvaged s).entries ≤ length row = leb-true (length (salvaged s).entries) (length row) (and_split (leb (length (salvaged_bytes s (salvaged s).entries)) (length room)) (leb (length (salvaged s).entries) (length row)) t).1 in
        let k : length (salvaged s).entries ≡ length (salvaged_from s 0).entries = ap (λ (x : reading.Salvaged). length x.entries) i in
        ap (λ (x : reading.Salvaged). entry_records_from (length row) s (placed 0 0 (length x.entries))) i
        ∙ records_all (length row) s 0 0 (omega arith)
        ∙ ap (λ (x : reading.Salvaged). salvaged_row s 0 x.entries) (sym i)

-- the whole call
pub salvages_is : (s room : List ℕ) (row : List SalvageEntry) (r : Result Salvaging Refused) (roomAfter : List ℕ) (rowAfter : List SalvageEntry) (n : ℕ)
    → GathersEntries s room (length row) r roomAfter → n ≡ entries_in r → rowAfter ≡ splice row 0 (entry_records_from (length row) s (starts_at 0 n))
    → SalvagesRun s room row r roomAfter rowAfter
salvages_is s room row r roomAfter rowAfter n g c f = record {
  answers = g.answers;
  room_is = g.room_is;
  row_is = f ∙ ap (λ (k : ℕ). splice row 0 (entry_records_from (length row) s (starts_at 0 k))) (c ∙ ap entries_in g.answers) ∙ row_after s room row;
}
