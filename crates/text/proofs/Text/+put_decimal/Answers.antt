-- `text::Text::put_decimal` meets its contract: the last digit stands behind the digits of a tenth of the number.
use Rattle.std.proofs.Common.{rules}
use native.Mathlib.Omega.{arith}
use mathlib.Core.Path.{refl}
use Rattle.text.proofs.PutLaws.{one_digit, more_digits}
use Rattle.text.proofs.Text.+put_decimal.Goals as goal
use Rattle.text.proofs.Text.+put_decimal.Goals.{then-n-ge10, else-n-ge10}

pub returns : goal.returns
returns t c =
    elim c.if-n-ge10.branch [
      | then-n-ge10 w ↦
          record {
            puts =
                more_digits _ _ w.if-n-ge10.true (omega arith) c.last_digit.ensures refl w.put_decimal.ensures.puts
                (rw w.self-is at c.put_byte.ensures.puts);
            same_room = search rules;
          }
      | else-n-ge10 w ↦
          record {
            puts = one_digit _ w.if-n-ge10.false c.last_digit.ensures (rw w.self-is at c.put_byte.ensures.puts);
            same_room = search rules;
          }
    ]
