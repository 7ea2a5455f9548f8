-- What demand 3 says of the salvage call: whatever result, room and row its contract allows on a run of written frames, some of
-- them spoilt, with enough room.
use Rattle.std.specs.Prelude.{Result, Ok}
use Prim.Native.Nat.{ℕ, suc, ◌+◌, ◌≤◌}
use native.Mathlib.Omega.{arith}
use mathlib.Core.Path.{◌≡◌, refl, ap, ap₂, ◌∙◌}
use mathlib.Core.Bool.{true}
use mathlib.Core.List.{List, [], ◌∷◌, ◌++◌}
use lib.ListN.{length}
use borrow.Author.Tests.{le-leb}
use Rattle.wire.specs.Bytes.{splice}
use Rattle.wire.proofs.WireLaws.{pick_yes, and_both}
use Rattle.dss_frame.specs.Reading.{Read, frame, refused}
use Rattle.dss_frame.specs.Salvage.{Entry, salvaged}
use Rattle.dss_frame.specs.Written.{written}
use Rattle.dss_frame.specs.FrameRecords.{read_bytes}
use Rattle.dss_salvage.specs.SalvageEntries.{salvaged_bytes}
use Rattle.dss_salvage_call.specs.SalvageCall.{entries_fit, SalvagesRun}
use Rattle.dss_salvage.specs.declared.SalvageEntry.{SalvageEntry}
use Rattle.demands.specs.Demands.{Item, good, spoilt, run, DueRead, AllDue}
use Rattle.demands.specs.Demands
use Rattle.demands.proofs.Salvaging.{salvages}
use Rattle.demands.specs.KeptLists.{Recovered, all_bytes, due_bytes}
use Rattle.answer.specs.declared.Refused.{Refused}
use Rattle.dss_salvage.specs.declared.Salvaging.{Salvaging}
use Rattle.dss_salvage.specs.inner.SalvageMeasure.{counted}

pub due_bytes_lem : (s : List ℕ) (p : ℕ) (i : Item written) (x : Read) → DueRead s p i x → read_bytes s x ≡ due_bytes i
due_bytes_lem s p (good f _ _) (frame g) d = d.payload
due_bytes_lem s p (good f _ _) (refused r) d = absurd d
due_bytes_lem s p (spoilt f _ _ b x) (frame g) d = absurd d
due_bytes_lem s p (spoilt f _ _ b x) (refused r) d = refl

pub all_bytes_lem : (s : List ℕ) (p : ℕ) (is : List (Item written)) (es : List Entry) → AllDue s p is es → (salvaged_bytes s es ≡ all_bytes is) × (length es ≡ length is)
unfolding AllDue all_bytes salvaged_bytes
all_bytes_lem s p [] [] d = (refl, refl)
all_bytes_lem s p [] (e ∷ es) d = absurd d
all_bytes_lem s p (i ∷ is) [] d = absurd d
all_bytes_lem s p (i ∷ is) (e ∷ es) d =
    let b = all_bytes_lem s (p + length (Demands.item_bytes i)) is es d.1 in
    (ap₂ (λ (x y : List ℕ). x ++ y) (due_bytes_lem s p i e.read d.0.read) b.0, ap suc b.1)

pub recovers : (items : List (Item written)) (room : List ℕ) (row : List SalvageEntry) → length (all_bytes items) ≤ length room → length items ≤ length row
    → (r : Result Salvaging Refused) (roomAfter : List ℕ) (rowAfter : List SalvageEntry)
    → SalvagesRun (run items) room row r roomAfter rowAfter → Recovered items room row r roomAfter rowAfter
recovers items room row h k r roomAfter rowAfter p =
    let s : List ℕ = run items in
    let x = salvaged s in
    let d = salvages items in
    let e = all_bytes_lem s 0 items x.entries d.0 in
    let fit : entries_fit s x.entries (length room) (length row) ≡ true =
    and_both _ _ (le-leb (length (salvaged_bytes s x.entries)) (length room) (omega (arith, ap length e.0))) (le-leb (length x.entries) (length row) (omega (arith, e.1))) in
    record {
      entries = x.entries;
      due = d.0;
      is =
          p.answers
          ∙ pick_yes _ _ fit
          ∙ ap₂ (λ (n m : ℕ). Ok (counted n m x.tail)) e.1 (ap length e.0)
          ∙ ap (λ (n : ℕ). Ok (counted (length items) (length (all_bytes items)) n)) d.1;
      room_is = p.room_is ∙ pick_yes _ _ fit ∙ ap (splice room 0) e.0;
      row_is = p.row_is ∙ pick_yes _ _ fit;
    }

-- so in numbers, where the numbers of the items are known
pub answered : (items : List (Item written)) (count bytes long : ℕ) → (length items ≡ count) × (length (all_bytes items) ≡ bytes) × (length (run items) ≡ long)
    → (room : List ℕ) (row : List SalvageEntry) → bytes ≤ length room → count ≤ length row → (r : Result Salvaging Refused) (roomAfter : List ℕ) (rowAfter : List SalvageEntry)
    → SalvagesRun (run items) room row r roomAfter rowAfter → r ≡ Ok (counted count bytes long)
answered items count bytes long e room row h k r roomAfter rowAfter p =
    (recovers items room row (omega (arith, e)) (omega (arith, e)) r roomAfter rowAfter p).is
    ∙ ap₂ (λ (n m : ℕ). Ok (counted n m (length (run items)))) e.0 e.1
    ∙ ap (λ (n : ℕ). Ok (counted count bytes n)) e.2
