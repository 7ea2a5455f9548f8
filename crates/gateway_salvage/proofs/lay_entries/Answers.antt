-- `gateway_salvage::lay_entries` meets its contract: each step's words are laid behind those before it.
use Prim.Native.Nat.{◌+◌, ◌*◌, ◌-◌, ◌<◌}
use native.Mathlib.Nat.{sub-zero}
use native.Mathlib.Omega.{arith}
use mathlib.Core.Path.{sym, ap, ◌∙◌}
use Rattle.wire.specs.Bytes.{laid}
use Rattle.dss_frame.specs.declared.DssFrame.{DssFrame}
use Rattle.gateway_row.specs.RowWords.{record_words, record_len}
use Rattle.gateway_row.proofs.LaidWords.{part_of}
use Rattle.gateway_salvage.proofs.LaidEntries.{lays_start, lays_all, lays_end, lays_next, frame_low, frame_there, lays_frame, lays_over, lays_last, last_long}
use Rattle.gateway_salvage.proofs.lay_entries.Goals as goal
use Rattle.gateway_salvage.proofs.lay_entries.Goals.{in-Frame, in-Over}

pub loop-i-init : goal.loop-i-init
loop-i-init c = rw sub-zero (lays_start _ _ _ c.requires)

-- ---- a frame

pub overflow_add-payload_at : goal.overflow_add-payload_at
overflow_add-payload_at c =
    let l = c.loop-i.invariant in
    let h : 0 < c.args.count - c.loop-i.i = omega arith in
    omega (
      arith,
      frame_low _ _ _ _ _ _ _ _ l h _ (sym c.in-Frame.ensures),
      frame_there _ _ _ _ _ _ _ _ l h _ (sym c.in-Frame.ensures),
    )

-- ---- an entry, and on behind it

pub loop-i-preserved : goal.loop-i-preserved
loop-i-preserved c =
    let l = c.loop-i in
    let h : 0 < c.args.count - c.loop-i.i = omega arith in
    elim c.match-step_at.branch [
      | in-Frame w ↦
          rw (w.row-is, w.at-is, w.payload_at-is)
          (lays_next _ _
          (lays_frame _ _ _ _ _ _ _ _ l.invariant h _ (sym w.in-Frame.ensures) _
          (w.put_record.ensures
          ∙ ap (λ (d : DssFrame). laid (part_of l.row (record_len * l.i) (record_len * l.i + record_len)) 0 (record_words d)) w.record-record.ensures)))
      | in-Over w ↦
          rw (w.row-is, w.at-is, w.payload_at-is)
          (lays_next _ _ (lays_over _ _ _ _ _ _ _ _ l.invariant h _ _ _ (sym w.in-Over.ensures) w.put_refused.ensures))
    ]

-- ---- a refusal that the walk ends at

pub shape_of-row-in-Last : goal.shape_of-row-in-Last
shape_of-row-in-Last c =
    last_long _ _ _ _ _ _ _ _ c.loop-i.invariant (omega arith) _ _ (sym c.in-Last.ensures) c.put_refused-in-Last.ensures

pub returns-in-Last : goal.returns-in-Last
returns-in-Last c =
    lays_last _ _ _ _ _ _ _ _ c.loop-i.invariant (omega arith) _ _ (sym c.in-Last.ensures) c.put_refused-in-Last.ensures

-- ---- no entry, and none left

pub returns-in-End : goal.returns-in-End
returns-in-End c = lays_end _ _ _ _ _ _ _ _ c.loop-i.invariant (omega arith) (sym c.in-End.ensures)

pub returns : goal.returns
returns c = lays_all _ _ _ _ _ _ _ _ c.loop-i.invariant (omega arith)
