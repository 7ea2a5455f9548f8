-- `dss_measure::measure_whole` meets its contract: each return is one of the laws of a whole frame.
use Rattle.std.proofs.Common.{rules}
use Rattle.std.specs.Prelude.{Err}
use Prim.Native.Nat.{◌-◌, ◌≤◌}
use native.Mathlib.Omega.{arith}
use mathlib.Core.Path.{◌≡◌, sym, ap, ◌∙◌}
use mathlib.Core.List.{[], ◌∷◌}
use lib.ListN.{length}
use Rattle.dss_frame.specs.Segments.{first}
use Rattle.dss_frame.specs.Reading.{absorb}
use Rattle.dss_measure.specs.Measure.{measured_of}
use Rattle.dss_measure.proofs.Readings.{measured_refused, measured_length, measured_several, measured_single, single_there, whole_six}
use Rattle.dss_measure.proofs.measure_whole.Goals as goal

pub returns-in_err-header : goal.returns-in_err-header
returns-in_err-header c =
    let a = c.args in
    let r : c.from_residual.result ≡ Err c.in_err-header.field-0.0 = search rules in
    r ∙ sym (measured_refused a.rules a.run.now a.at a.walked c.requires _ c.in_err-header.ensures)

pub returns-then-seg_len-lt-DSS_HEADER_LEN : goal.returns-then-seg_len-lt-DSS_HEADER_LEN
returns-then-seg_len-lt-DSS_HEADER_LEN c =
    let a = c.args in
    ap Err c.at.ensures
    ∙ sym (measured_length a.rules a.run.now a.at a.walked c.requires _ c.in_ok-header.ensures c.u16_at-raw.result c.u16_at-raw.ensures (omega arith))

pub returns-then-raw : goal.returns-then-raw
returns-then-raw c =
    let a = c.args in
    sym (measured_several a.rules a.run.now a.at a.walked c.requires _ c.in_ok-header.ensures c.u16_at-raw.result c.u16_at-raw.ensures c.if-raw.true)

pub single-requires : goal.single-requires
single-requires c =
    let a = c.args in
    let i : 6 ≤ length a.run.now - a.at = whole_six a.rules a.run.now a.at a.walked c.requires in
    let l : c.u16_at-raw.result ≤ length a.run.now - a.at =
    single_there a.rules a.run.now a.at a.walked c.requires _ c.in_ok-header.ensures c.u16_at-raw.result c.u16_at-raw.ensures c.if-raw.false in
    (omega arith, omega arith)

pub returns : goal.returns
returns c =
    let a = c.args in
    ◌∙◌ {b = measured_of a.run.now a.at (absorb a.rules a.run.now a.at c.in_ok-header.header (first a.at c.from-seg_len.result ∷ []))}
    c.single.ensures
    (sym
    (measured_single a.rules a.run.now a.at a.walked c.requires _ c.in_ok-header.ensures c.from-seg_len.result (c.from-seg_len.ensures ∙ c.u16_at-raw.ensures)
    (omega arith) (omega arith)))
