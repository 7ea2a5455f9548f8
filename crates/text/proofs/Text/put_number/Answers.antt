-- `text::Text::put_number` meets its contract.
use Rattle.std.proofs.Common.{rules}
use native.Mathlib.Omega.{arith}
use Rattle.text.proofs.PutLaws.{puts_two}
use Rattle.text.proofs.Text.put_number.Goals as goal

pub returns : goal.returns
returns c =
    record {
      puts = puts_two _ _ _ _ _ _ _ _ (omega arith) c.put_text.ensures.puts c.put_decimal.ensures.puts;
      same_room = search rules;
    }
