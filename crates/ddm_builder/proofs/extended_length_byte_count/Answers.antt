-- `ddm_builder::extended_length_byte_count` meets its contract: the law of each number of length bytes.
use mathlib.Core.Path.{sym}
use Rattle.ddm_builder.proofs.BuiltForms.{inline_bytes, four_bytes, six_bytes, eight_bytes}
use Rattle.ddm_builder.proofs.extended_length_byte_count.Goals as goal

pub returns-then-n-le32763 : goal.returns-then-n-le32763
returns-then-n-le32763 c = sym (inline_bytes _ c.if-n-le32763.true)

pub returns-then-n-le2147483643 : goal.returns-then-n-le2147483643
returns-then-n-le2147483643 c = sym (four_bytes _ c.if-n-le32763.false c.if-n-le2147483643.true)

pub returns-then-n-le140737488355323 : goal.returns-then-n-le140737488355323
returns-then-n-le140737488355323 c = sym (six_bytes _ c.if-n-le2147483643.false c.if-n-le140737488355323.true)

pub returns : goal.returns
returns c = sym (eight_bytes _ c.if-n-le140737488355323.false)
