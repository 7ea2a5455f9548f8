-- `ddm_builder::lay_header` meets its contract: raw length, code point and length bytes are laid down one behind the other, where all
-- of them fit.
use native.Mathlib.Omega.{arith}
use mathlib.Core.Path.{refl, sym, ◌∙◌, ap}
use mathlib.Core.List.{◌++◌}
use Rattle.wire.specs.Bytes.{two, last, laid}
use Rattle.wire.proofs.Widths.{length_last}
use Rattle.wire.proofs.Splicing.{laid_kept}
use Rattle.ddm_length.proofs.LentData.{lent_next}
use Rattle.ddm_builder.proofs.BuiltForms.{few_bytes, raw_small}
use Rattle.ddm_builder.specs.Headers.{header_of}
use Rattle.ddm_builder.proofs.HeaderLaws.{length_header, header_from}
use Rattle.ddm_builder.proofs.lay_header.Goals as goal

pub returns-then-room-width : goal.returns-then-room-width
returns-then-room-width c =
    let s = c.args in
    sym (laid_kept s.room.now 0 (header_of s.cp s.n) (omega (arith, c.extended_length_byte_count-width.ensures, length_header s.cp s.n)))

pub raw_length-requires : goal.raw_length-requires
raw_length-requires c = rw c.extended_length_byte_count-width.ensures (raw_small c.args.n)

pub returns : goal.returns
returns c =
    let a = c in
    let s = a.args in
    let room = s.room.now in
    let k = a.extended_length_byte_count-width.result in
    let raw = c.raw_length.result in
    let fits = c.if-room-width.false in
    let e1 = c.put_u16.ensures in
    let e2 = lent_next room _ (two raw) 2 _ (two s.cp) e1 refl (omega arith) c.put_u16-2.ensures in
    let e3 = lent_next room _ (two raw ++ two s.cp) 4 _ (last k s.n) e2 refl (omega (arith, length_last k s.n)) c.lay_number.ensures in
    e3 ∙ ap (laid room 0) (header_from s.cp s.n k raw a.extended_length_byte_count-width.ensures c.raw_length.ensures)

pub overflow_add-width : goal.overflow_add-width
overflow_add-width c = omega (arith, c.extended_length_byte_count-width.ensures, few_bytes c.args.n)
