-- Any two outcomes that the contract of `salvage` allows are equal: the answer, every byte of the room and every record of the row. The
-- function's own `clauses` are named, and in any model they are the record.
use Rattle.std.specs.Prelude.{Result}
use Prim.Native.Nat.{ℕ}
use mathlib.Core.Path.{◌≡◌, refl, sym, ◌∙◌}
use mathlib.Core.List.{List}
use lib.ListN.{length}
use seplogic.Ra.Ura.{Ura}
use base.Logic.{SProp}
use prog.Memory.{Memory}
use prog.Routine.{Routine}
use types.Logic.{Logic}
use contract.Lifetimes.{Lfts}
use contract.Monad.{Fun, fact}
use denote.Ref.{Bor, MutBor, at_last}
use Rattle.wire.specs.Bytes.{landed}
use Rattle.dss_frame.specs.Salvage.{salvaged}
use Rattle.dss_salvage.specs.declared.SalvageEntry.{SalvageEntry}
use Rattle.dss_salvage.specs.SalvageEntries.{salvaged_bytes, salvaged_row}
use Rattle.dss_salvage_call.specs.SalvageCall.{entries_fit, given_entries, SalvagesRun}
use Rattle.dss_salvage_call.specs.contracts.salvage as salvage
use Rattle.dss_salvage_call.proofs.gather_entries.Reads as gather
use Rattle.dss_salvage_call.proofs.entries_in.Reads as entries_in
use Rattle.answer.specs.declared.Refused.{Refused}
use Rattle.dss_salvage.specs.declared.Salvaging.{Salvaging}

pub salvage_says : {M : Type 1} {𝓤 : Ura M} (𝓛 : Logic 𝓤) (mem : Memory → SProp 𝓤) (run : Routine → Fun 𝓤) (κs : Lfts 3) (s : Bor (List ℕ)) (room : MutBor (List ℕ)) (row : MutBor (List SalvageEntry)) (r : Result Salvaging Refused) (l : List ℕ) (k : List SalvageEntry)
    → (salvage.clauses 𝓛 mem run κs (s, (room, (row, tt)))).ensures tt r (s, (at_last room l, (at_last row k, tt))) ≡ fact 𝓤 (SalvagesRun s.now room.now row.now r l k)
salvage_says 𝓛 mem run κs s room row r l k = refl

module _ (s room : List ℕ) (row : List SalvageEntry) where
  pub salvage_one : (r r' : Result Salvaging Refused) (l l' : List ℕ) (k k' : List SalvageEntry) → SalvagesRun s room row r l k → SalvagesRun s room row r' l' k' → (r ≡ r') × (l ≡ l') × (k ≡ k')
  salvage_one r r' l l' k k' p q = (p.answers ∙ sym q.answers, p.room_is ∙ sym q.room_is, p.row_is ∙ sym q.row_is)

  -- and one outcome is allowed, whatever the run, the room and the row
  pub salvage_some : SalvagesRun s room row (given_entries s (length room) (length row) (salvaged s))
      (landed (entries_fit s (salvaged s).entries (length room) (length row)) room (salvaged_bytes s (salvaged s).entries))
      (landed (entries_fit s (salvaged s).entries (length room) (length row)) row (salvaged_row s 0 (salvaged s).entries))
  salvage_some = record { answers = refl; room_is = refl; row_is = refl }

module _ (κs : Lfts 2) (s : Bor (List ℕ)) (room : MutBor (List ℕ)) (rows : ℕ) where
  pub gather_one : (r r' : Result Salvaging Refused) (l l' : List ℕ)
      → gather.Post κs (s, (room, (rows, tt))) r (s, (at_last room l, (rows, tt)))
      → gather.Post κs (s, (room, (rows, tt))) r' (s, (at_last room l', (rows, tt)))
      → (r ≡ r') × (l ≡ l')
  gather_one r r' l l' p q = (p.answers ∙ sym q.answers, p.room_is ∙ sym q.room_is)

pub entries_in_one : (κs : Lfts 0) (x : Result Salvaging Refused) (r r' : ℕ) → entries_in.Post κs (x, tt) r (x, tt) → entries_in.Post κs (x, tt) r' (x, tt) → r ≡ r'
entries_in_one κs x r r' p q = p ∙ sym q
