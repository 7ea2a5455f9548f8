-- `lines::put_end` meets its contract.
use Rattle.std.proofs.Common.{rules}
use native.Mathlib.Omega.{arith}
use Rattle.lines.proofs.LineLaws.{put_end_is}
use Rattle.lines.proofs.put_end.Goals as goal

pub returns : goal.returns
returns c =
    record {
      puts = put_end_is (omega arith) _ _ c.put_number.ensures.puts c.put_number-2.ensures.puts c.put_text.ensures.puts;
      same_room = search rules;
    }
