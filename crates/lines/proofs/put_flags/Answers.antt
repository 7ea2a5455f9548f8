-- `lines::put_flags` meets its contract.
use Rattle.std.proofs.Common.{rules}
use native.Mathlib.Omega.{arith}
use Rattle.lines.proofs.LineLaws.{put_flags_is}
use Rattle.lines.proofs.put_flags.Goals as goal

pub returns : goal.returns
returns c =
    record {
      puts =
          put_flags_is (omega arith) c.args.flags c.letter.ensures c.letter-2.ensures c.letter-3.ensures c.put_byte.ensures.puts c.put_byte-2.ensures.puts
          c.put_byte-3.ensures.puts;
      same_room = search rules;
    }
