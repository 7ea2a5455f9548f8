-- `ddm_builder::lay_object` meets its contract: header and data are laid down one behind the other, where both fit.
use native.Mathlib.Omega.{arith}
use mathlib.Core.Path.{sym, ◌∙◌, ap}
use lib.ListN.{length}
use Rattle.wire.specs.Bytes.{laid}
use Rattle.wire.proofs.Splicing.{laid_kept}
use Rattle.ddm_length.proofs.LentData.{lent_next}
use Rattle.ddm_builder.specs.Built.{built}
use Rattle.ddm_builder.proofs.BuiltForms.{few_bytes, length_built}
use Rattle.ddm_builder.specs.Headers.{header_of}
use Rattle.ddm_builder.proofs.HeaderLaws.{length_header, built_header}
use Rattle.ddm_builder.proofs.lay_object.Goals as goal

pub returns-then-room-behind : goal.returns-then-room-behind
returns-then-room-behind c =
    let s = c.args in
    sym (laid_kept s.room.now 0 (built s.cp s.«data».now) (omega (arith, c.serialized_header_len-behind.ensures, length_built s.cp s.«data».now)))

pub returns : goal.returns
returns c =
    let h = c.serialized_header_len-behind in
    let s = c.args in
    let d = s.«data».now in
    lent_next s.room.now _ (header_of s.cp (length d)) h.result _ d c.lay_header.ensures (length_header s.cp (length d) ∙ sym h.ensures) (omega (arith, c.if-room-behind.false)) c.copy.ensures
    ∙ ap (laid s.room.now 0) (sym (built_header s.cp d))

pub overflow_add-behind : goal.overflow_add-behind
overflow_add-behind c = omega (arith, c.serialized_header_len-behind.ensures, few_bytes (length c.args.«data».now))
