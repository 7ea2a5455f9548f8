-- What `fill` and `fill_rows` ensure, said of plain lists, and that it leaves no choice: any two rows that it allows are equal, record by
-- record. The functions' own `clauses` are named, in any model.
use Rattle.std.specs.Prelude.{Option}
use Rattle.std.specs.declared.clone.Clone
use Prim.Native.Nat.{ℕ}
use mathlib.Core.Path.{◌≡◌, refl, sym, ◌∙◌}
use mathlib.Core.List.{List}
use lib.ListN.{length}
use seplogic.Ra.Ura.{Ura}
use base.Logic.{SProp}
use prog.Memory.{Memory}
use prog.Routine.{Routine}
use types.Logic.{Logic}
use contract.Lifetimes.{Lfts}
use contract.Monad.{Fun, fact}
use denote.Ref.{Bor, MutBor, at_last}
use denote.RattleType.{RattleType}
use mir.Syntax.{Dict}
use Rattle.wire.specs.Bytes.{splice}
use Rattle.dss_frame.specs.declared.DssFrame.{DssFrame}
use Rattle.dss_frame.specs.declared.RowPlace.{RowPlace}
use Rattle.dss_row.specs.declared.Records
use Rattle.dss_row.specs.inner.FrameRows.{records_from}
use Rattle.dss_row.specs.inner.RowRecords.{laid_from}
use Rattle.dss_frame.specs.inner.RowStart.{starts_at}
use Rattle.dss_row.specs.contracts.fill as fill
use Rattle.dss_row.specs.contracts.fill_rows as fill_rows

-- ---- of any records

module _ {T : Type 0} (found : RowPlace → Option (T × RowPlace)) (p count : ℕ) (row : List T) where
  abbrev pub RowFilled : List T → Type 0
  RowFilled after = after ≡ splice row 0 (laid_from found (length row) (starts_at p count))

  pub row_filled_one : (after after' : List T) → RowFilled after → RowFilled after' → after ≡ after'
  row_filled_one after after' e k = e ∙ sym k

-- it is the function's own clause, in any model
pub fill_laid : {M : Type 1} {𝓤 : Ura M} (𝓛 : Logic 𝓤) (mem : Memory → SProp 𝓤) (run : Routine → Fun 𝓤) (R T : RattleType) (g : Records.Ghosts R.Denot T.Denot) (d : Dict)
    (h : Clone.Ghosts T.Denot) (e : Dict) (κs : Lfts 4) (s : Bor (List ℕ)) (p count : ℕ) (row : MutBor (List T.Denot)) (after : List T.Denot)
    → (fill.clauses R T g d h e 𝓛 mem run κs (s, (p, (count, (row, tt))))).ensures tt tt (s, (p, (count, (at_last row after, tt))))
    ≡ fact 𝓤 (RowFilled (g.found s.now) p count row.now after)
fill_laid 𝓛 mem run R T g d h e κs s p count row after = refl

-- ---- of frames

abbrev pub FrameRowFilled : List ℕ → ℕ → ℕ → List DssFrame → List DssFrame → Type 0
FrameRowFilled s p count row after = after ≡ splice row 0 (records_from (length row) s (starts_at p count))

-- it is the function's own clause, in any model
pub fill_says : {M : Type 1} {𝓤 : Ura M} (𝓛 : Logic 𝓤) (mem : Memory → SProp 𝓤) (run : Routine → Fun 𝓤) (κs : Lfts 2) (s : Bor (List ℕ)) (p count : ℕ) (row : MutBor (List DssFrame)) (after : List DssFrame)
    → (fill_rows.clauses 𝓛 mem run κs (s, (p, (count, (row, tt))))).ensures tt tt (s, (p, (count, (at_last row after, tt)))) ≡ fact 𝓤 (FrameRowFilled s.now p count row.now after)
fill_says 𝓛 mem run κs s p count row after = refl

pub filled_one : (s : List ℕ) (p count : ℕ) (row after after' : List DssFrame) → FrameRowFilled s p count row after → FrameRowFilled s p count row after' → after ≡ after'
filled_one s p count row after after' e k = e ∙ sym k
