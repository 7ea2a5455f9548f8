-- `lines::put_frame` meets its contract.
use Rattle.std.proofs.Common.{rules}
use native.Mathlib.Omega.{arith}
use Rattle.lines.proofs.LineLaws.{put_frame_is}
use Rattle.lines.proofs.put_frame.Goals as goal

pub returns : goal.returns
returns c =
    record {
      puts =
          put_frame_is (omega arith) _ c.args.measure.header _ _ c.put_number.ensures.puts c.put_text.ensures.puts c.put_type.ensures.puts c.put_text-2.ensures.puts c.put_flags.ensures.puts
          (rw c.from.ensures at c.put_number-2.ensures.puts) c.put_number-3.ensures.puts c.put_number-4.ensures.puts c.put_text-3.ensures.puts;
      same_room = search rules;
    }
