-- `ddm_object::record::record_in` meets its contract: the laws of the record, by what the length says.
use native.Mathlib.Omega.{arith}
use mathlib.Core.Path.{sym, ◌∙◌}
use Rattle.wire.proofs.LentParts.{tail_drop}
use Rattle.ddm_length.proofs.TakenLengths.{measured_taken}
use Rattle.ddm_length.proofs.Fronts.{in_order}
use Rattle.ddm_object.proofs.ObjectRecords.{record_work, record_plain}
use Rattle.ddm_object.proofs.record.record_in.Goals as goal

pub returns-then-in_work : goal.returns-then-in_work
returns-then-in_work c =
    let s = c.args in
    let b = s.bytes.now in
    rw (c.u16_at-code_point.ensures, c.unmarked_len.ensures, tail_drop b 4)
    (sym (record_work b s.place _ _ (sym c.in_ok-total.ensures) (sym c.in_work.ensures ∙ c.if-in_work.true)))

pub overflow_add-result : goal.overflow_add-result
overflow_add-result c =
    let s = c.args in omega (arith, in_order (measured_taken s.bytes.now c.in_ok-total.field-0.total c.in_ok-total.field-0.header s.place (sym c.in_ok-total.ensures)))

pub overflow_sub-result : goal.overflow_sub-result
overflow_sub-result c =
    let s = c.args in omega (arith, in_order (measured_taken s.bytes.now c.in_ok-total.field-0.total c.in_ok-total.field-0.header s.place (sym c.in_ok-total.ensures)))

pub returns : goal.returns
returns c =
    let s = c.args in
    let b = s.bytes.now in
    rw c.u16_at-code_point.ensures (sym (record_plain b s.place _ _ (sym c.in_ok-total.ensures) (sym c.in_work.ensures ∙ c.if-in_work.false)))
