-- The records of a salvage reading's entries, from a place on: document 01, "Salvage reading".
use Rattle.std.specs.Prelude.{ℕ, ◌+◌, ◌-◌, List, eqb, Option, Some, None}
use Rattle.wire.specs.Bytes.{pick}
use Rattle.dss_measure.specs.Measure.{measured_record}
use Rattle.dss_frame.specs.declared.RowPlace.{RowPlace}
use Rattle.dss_row.specs.inner.RowRecords.{laid_from}
use Rattle.dss_salvage.specs.declared.SalvageEntry.{SalvageEntry}
use Rattle.dss_salvage.specs.declared.Entry.TheVariants.{Frame as Framed, Refused as Refuses}
use Rattle.dss_salvage.specs.declared.Step.{Step}
use Rattle.dss_salvage.specs.declared.Step.TheVariants.{Frame, Over, Last, End as Ends}
use Rattle.dss_salvage.specs.inner.SalvageSteps.{step_at}

abbrev pub placed : ℕ → ℕ → ℕ → RowPlace
placed p a n = record { at = p; payload_at = a; left = n }

-- a step's record, and where the next one is; behind a refusal that the walk ends at, none is to come
abbrev pub entry_found_of : RowPlace → Step → Option (SalvageEntry × RowPlace)
entry_found_of x (Frame m) =
    Some (record { entry = Framed (measured_record x.at x.payload_at m) }, placed m.end (x.payload_at + m.payload_len) (x.left - 1))
entry_found_of x (Over r q) = Some (record { entry = Refuses r x.at q }, placed q x.payload_at (x.left - 1))
entry_found_of x (Last r) = Some (record { entry = Refuses r x.at x.at }, placed x.at x.payload_at 0)
entry_found_of x Ends = None

-- none where no more are to come
unfoldable pub entry_record_at : List ℕ → RowPlace → Option (SalvageEntry × RowPlace)
unfolding step_at
entry_record_at s x = pick (eqb x.left 0) None (entry_found_of x (step_at s x.at))

-- the records from a place on, at most n of them
unfoldable pub entry_records_from : ℕ → List ℕ → RowPlace → List SalvageEntry
unfolding entry_record_at laid_from
entry_records_from n s x = laid_from (entry_record_at s) n x
