-- What `fill_entries` ensures, said of plain lists, and that it leaves no choice: any two rows that it allows are equal, record by record.
-- The function's own `clauses` are named, in any model.
use Prim.Native.Nat.{ℕ}
use mathlib.Core.Path.{◌≡◌, refl, sym, ◌∙◌}
use mathlib.Core.List.{List}
use lib.ListN.{length}
use seplogic.Ra.Ura.{Ura}
use base.Logic.{SProp}
use prog.Memory.{Memory}
use prog.Routine.{Routine}
use types.Logic.{Logic}
use contract.Lifetimes.{Lfts}
use contract.Monad.{Fun, fact}
use denote.Ref.{Bor, MutBor, at_last}
use Rattle.wire.specs.Bytes.{splice}
use Rattle.dss_salvage.specs.declared.SalvageEntry.{SalvageEntry}
use Rattle.dss_frame.specs.inner.RowStart.{starts_at}
use Rattle.dss_salvage_row.specs.inner.EntryRows.{entry_records_from}
use Rattle.dss_salvage_row.specs.contracts.fill_entries as fill

abbrev pub EntryRowFilled : List ℕ → ℕ → ℕ → List SalvageEntry → List SalvageEntry → Type 0
EntryRowFilled s p count row after = after ≡ splice row 0 (entry_records_from (length row) s (starts_at p count))

-- it is the function's own clause, in any model
pub fill_says : {M : Type 1} {𝓤 : Ura M} (𝓛 : Logic 𝓤) (mem : Memory → SProp 𝓤) (run : Routine → Fun 𝓤) (κs : Lfts 2) (s : Bor (List ℕ)) (p count : ℕ) (row : MutBor (List SalvageEntry)) (after : List SalvageEntry)
    → (fill.clauses 𝓛 mem run κs (s, (p, (count, (row, tt))))).ensures tt tt (s, (p, (count, (at_last row after, tt)))) ≡ fact 𝓤 (EntryRowFilled s.now p count row.now after)
fill_says 𝓛 mem run κs s p count row after = refl

pub filled_one : (s : List ℕ) (p count : ℕ) (row after after' : List SalvageEntry) → EntryRowFilled s p count row after → EntryRowFilled s p count row after' → after ≡ after'
filled_one s p count row after after' e k = e ∙ sym k
