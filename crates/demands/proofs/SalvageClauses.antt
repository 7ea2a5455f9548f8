-- Demand 3 over the contract of `salvage` itself, and what that contract says of every run. It is a function over a row of
-- records: its own clause is named, and in any model of the logic it entails the fact.
use Rattle.std.specs.Prelude.{Result, Ok, Err}
use Prim.Native.Nat.{ℕ, ◌≤◌}
use native.Mathlib.Omega.{arith}
use mathlib.Core.Path.{◌≡◌, sym, ap, subst, ◌∙◌}
use mathlib.Core.List.{List}
use lib.ListN.{length, take}
use seplogic.Ra.Ura.{Ura}
use base.Logic.{SProp, ent}
use prog.Memory.{Memory}
use prog.Routine.{Routine}
use types.Logic.{Logic}
use contract.Lifetimes.{Lfts}
use contract.Monad.{Fun, fact, fact_mono}
use denote.Ref.{Bor, MutBor, at_last}
use Rattle.wire.specs.Bytes.{splice}
use Rattle.wire.proofs.WireLaws.{picked, pick_yes, pick_no}
use Rattle.answer.specs.Numbers.{number_of}
use Rattle.answer.specs.Rooms.{no_room}
use Rattle.answer.specs.declared.Refused.{Refused}
use Rattle.dss_frame.specs.Salvage.{Entry, salvaged}
use Rattle.dss_frame.specs.Written.{written}
use Rattle.dss_salvage.specs.SalvageEntries.{salvaged_bytes, salvaged_row}
use Rattle.dss_salvage_call.specs.SalvageCall.{entries_fit, SalvagesRun}
use Rattle.dss_salvage.specs.declared.SalvageEntry.{SalvageEntry}
use Rattle.dss_salvage_call.specs.contracts.salvage as salvage
use Rattle.demands.specs.Demands.{Item, run, Covered}
use Rattle.demands.specs.Stretches.{EntriesStood}
use Rattle.demands.proofs.Covering.{covers}
use Rattle.demands.proofs.StretchCalls.{entries_listed}
use Rattle.demands.specs.KeptLists.{all_bytes, Recovered}
use Rattle.demands.proofs.SalvageKeeps.{recovers}
use Rattle.dss_salvage.specs.declared.Salvaging.{Salvaging}
use Rattle.dss_salvage.specs.inner.SalvageMeasure.{counted}

-- ---- of every run

-- What an answer 0 says: the row holds one record for each entry, the room their bytes end to end, and the entries follow each
-- other without gap or overlap from byte 0 to the tail, which is in the run. W-201: so say the records, and the bytes of each payload
-- come from inside its stretch.
pub record Listed (s room : List ℕ) (row : List SalvageEntry) (count bytes tail : ℕ) (roomAfter : List ℕ) (rowAfter : List SalvageEntry) : Type 0 where
  pub entries : List Entry
  pub counted : length entries ≡ count
  pub filled : length (salvaged_bytes s entries) ≡ bytes
  pub room_is : roomAfter ≡ splice room 0 (salvaged_bytes s entries)
  pub row_is : rowAfter ≡ splice row 0 (salvaged_row s 0 entries)
  pub covered : Covered s 0 (record { entries = entries; tail = tail })
  pub stood : EntriesStood s roomAfter 0 tail (take count rowAfter)

pub lists : (s room : List ℕ) (row : List SalvageEntry) (count bytes tail : ℕ) (roomAfter : List ℕ) (rowAfter : List SalvageEntry)
    → SalvagesRun s room row (Ok (counted count bytes tail)) roomAfter rowAfter → Listed s room row count bytes tail roomAfter rowAfter
lists s room row count bytes tail roomAfter rowAfter p =
    let es : List Entry = (salvaged s).entries in
    picked (entries_fit s es (length room) (length row)) (sym p.answers)
    (λ fit e.
    let x : counted (length es) (length (salvaged_bytes s es)) (salvaged s).tail ≡ counted count bytes tail = cc in
    let counts : length es ≡ count = ap (λ (m : Salvaging). m.count) x in
    let ends : (salvaged s).tail ≡ tail = ap (λ (m : Salvaging). m.tail) x in
    record {
      entries = es;
      counted = counts;
      filled = ap (λ (m : Salvaging). m.bytes) x;
      room_is = p.room_is ∙ pick_yes _ _ fit;
      row_is = p.row_is ∙ pick_yes _ _ fit;
      covered = subst (λ (t : ℕ). Covered s 0 (record { entries = es; tail = t })) ends (covers s);
      stood =
          subst (λ (t : ℕ). EntriesStood s roomAfter 0 t (take count rowAfter)) ends
          (entries_listed s room row roomAfter rowAfter count counts (p.room_is ∙ pick_yes _ _ fit) (p.row_is ∙ pick_yes _ _ fit));
    })
    (λ fit e. absurd (let z : ◌≡◌ {A = ℕ} 0 1 = cc in omega arith))

-- "the one refusal of the call is 9", and it leaves room and row as they were
pub refuses : (s room : List ℕ) (row : List SalvageEntry) (r : Refused) (roomAfter : List ℕ) (rowAfter : List SalvageEntry)
    → SalvagesRun s room row (Err r) roomAfter rowAfter → (number_of r.why ≡ 9) × (r.place ≡ 0) × (roomAfter ≡ room) × (rowAfter ≡ row)
refuses s room row r roomAfter rowAfter p =
    let es : List Entry = (salvaged s).entries in
    picked (entries_fit s es (length room) (length row)) (sym p.answers)
    (λ fit e. absurd (let z : ◌≡◌ {A = ℕ} 0 1 = cc in omega arith))
    (λ fit e. let k : r ≡ no_room 0 (length (salvaged_bytes s es)) (length es) = cc in (ap (λ (x : Refused). number_of x.why) k, ap (λ (x : Refused). x.place) k, p.room_is ∙ pick_no _ _ fit, p.row_is ∙ pick_no _ _ fit))

-- ---- of the code

module _ {M : Type 1} {𝓤 : Ura M} (𝓛 : Logic 𝓤) (mem : Memory → SProp 𝓤) (routines : Routine → Fun 𝓤) (κs : Lfts 3) (s : Bor (List ℕ)) (room : MutBor (List ℕ)) (row : MutBor (List SalvageEntry)) (roomAfter : List ℕ) (rowAfter : List SalvageEntry) where
  -- what the contract of `salvage` says of an answer, with the room and the row as they then are
  abbrev pub Ensured : Result Salvaging Refused → SProp 𝓤
  Ensured r = (salvage.clauses 𝓛 mem routines κs (s, (room, (row, tt)))).ensures tt r (s, (at_last room roomAfter, (at_last row rowAfter, tt)))

  -- Demand 3: on a run of written frames, some of them spoilt, with enough room and row.
  pub salvage_recovers : (items : List (Item written)) → s.now ≡ run items → length (all_bytes items) ≤ length room.now → length items ≤ length row.now → (r : Result Salvaging Refused)
      → ent 𝓤 (Ensured r) (fact 𝓤 (Recovered items room.now row.now r roomAfter rowAfter))
  salvage_recovers items e h k r =
      fact_mono 𝓤 _ _ (λ p. recovers items room.now row.now h k r roomAfter rowAfter (subst (λ (b : List ℕ). SalvagesRun b room.now row.now r roomAfter rowAfter) e p))

  -- Every run.
  pub salvage_lists : (count bytes tail : ℕ)
      → ent 𝓤 (Ensured (Ok (counted count bytes tail))) (fact 𝓤 (Listed s.now room.now row.now count bytes tail roomAfter rowAfter))
  salvage_lists count bytes tail = fact_mono 𝓤 _ _ (λ p. lists s.now room.now row.now count bytes tail roomAfter rowAfter p)

  pub salvage_refuses : (r : Refused)
      → ent 𝓤 (Ensured (Err r)) (fact 𝓤 ((number_of r.why ≡ 9) × (r.place ≡ 0) × (roomAfter ≡ room.now) × (rowAfter ≡ row.now)))
  salvage_refuses r = fact_mono 𝓤 _ _ (λ p. refuses s.now room.now row.now r roomAfter rowAfter p)
