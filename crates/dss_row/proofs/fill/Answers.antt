-- `dss_row::fill` meets its contract: a record that is stored is the first of those that are still to be laid down, and where none is
-- found, or the row is full, none are.
use Rattle.std.specs.Prelude.{Option, Some, None}
use Rattle.std.proofs.Common.{arith, ◌≡◌, ◌<◌, ◌≤◌, length, ℕ, suc, ◌+◌, ◌-◌, List, sym, ap, ◌∙◌}
use lib.ListN.{set, length-set}
use Rattle.std.proofs.lemmas.List.{set-get_or}
use Rattle.wire.specs.Bytes.{splice}
use Rattle.wire.proofs.FilledRow.{splice_no_more, splice_store}
use Rattle.dss_frame.specs.declared.RowPlace.{RowPlace}
use Rattle.dss_row.specs.inner.RowRecords.{laid_from}
use Rattle.dss_row.proofs.RowRecordsLaws.{laid_step, laid_full}
use Rattle.dss_row.proofs.fill.Goals as goal

-- what is still to be laid down, laid down from the next row on, makes the row that is wanted
module _ {T : Type 0} (found : RowPlace → Option (T × RowPlace)) (row : List T) (i : ℕ) (x : RowPlace) {wanted : List T}
    (onward : splice row i (laid_from found (length row - i) x) ≡ wanted) where
  -- one record is stored
  stored : (r : T) (next : RowPlace) → i < length row → Some (r, next) ≡ found x
      → splice (set row i r) (i + 1) (laid_from found (length (set row i r) - (i + 1)) next) ≡ wanted
  stored r next h e =
      let n : ℕ = length row - (i + 1) in
      let a : length (set row i r) - (i + 1) ≡ n = ap (λ (k : ℕ). k - (i + 1)) (length-set row i r) in
      let b : length row - i ≡ suc n = omega arith in
      ap (λ (k : ℕ). splice (set row i r) (i + 1) (laid_from found k next)) a
      ∙ sym (splice_store row i r (laid_from found n next) h)
      ∙ ap (λ (l : List T). splice row i l) (sym (laid_step found n x (Some (r, next)) e))
      ∙ ap (λ (k : ℕ). splice row i (laid_from found k x)) (sym b)
      ∙ onward

  -- no more are to come
  ended : i < length row → None ≡ found x → row ≡ wanted
  ended h e =
      let n : ℕ = length row - (i + 1) in
      let b : length row - i ≡ suc n = omega arith in
      sym (splice_no_more row i (laid_from found (length row - i) x) (ap (λ (k : ℕ). laid_from found k x) b ∙ laid_step found n x None e))
      ∙ onward

  -- the row is full
  full : length row ≤ i → row ≡ wanted
  full h =
      let z : length row - i ≡ 0 = omega arith in
      sym (splice_no_more row i (laid_from found (length row - i) x) (ap (λ (k : ℕ). laid_from found k x) z ∙ laid_full found x))
      ∙ onward

pub loop-slot-preserved : goal.loop-slot-preserved
loop-slot-preserved g c =
    let l = c.loop-slot in
    let h : l.slot-index < length l.row = omega arith in
    record {
      low = (c.in-Some.ensures.kept l.invariant.low).1;
      onward = stored (g.R.Records.found c.args.run.now) l.row l.slot-index l.place l.invariant.onward _ _ h (c.in-Some.ensures.kept l.invariant.low).0;
    }

pub returns-after-loop-slot : goal.returns-after-loop-slot
returns-after-loop-slot g c =
    let l = c.loop-slot in
    full (g.R.Records.found c.args.run.now) l.row l.slot-index l.place l.invariant.onward (omega arith)

pub returns-in_default : goal.returns-in_default
returns-in_default g c =
    let l = c.loop-slot in
    let h : l.slot-index < length l.row = omega arith in
    set-get_or l.row l.slot-index c.slot-item.result
    ∙ ended (g.R.Records.found c.args.run.now) l.row l.slot-index l.place l.invariant.onward h (c.in_default.ensures.kept l.invariant.low).0
