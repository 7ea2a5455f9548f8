-- `lines::put_refused` meets its contract.
use Rattle.std.proofs.Common.{rules}
use native.Mathlib.Omega.{arith}
use mathlib.Core.Path.{◌∙◌}
use Rattle.lines.proofs.LineLaws.{put_refused_is}
use Rattle.lines.proofs.put_refused.Goals as goal

pub returns : goal.returns
returns c =
    record {
      puts =
          put_refused_is (omega arith) c.args.refused _ _ (c.from.ensures ∙ c.number.ensures) c.first_value.ensures c.put_number.ensures.puts c.put_number-2.ensures.puts
          c.put_number-3.ensures.puts c.put_text.ensures.puts;
      same_room = search rules;
    }
