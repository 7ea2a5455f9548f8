-- `text::Text::put_text` meets its contract: a byte put is one less that is left.
use Rattle.std.proofs.Common.{rules}
use native.Mathlib.Omega.{arith}
use Rattle.text.proofs.PutLaws.{words_on, words_done}
use Rattle.text.proofs.Text.put_text.Goals as goal

pub loop-byte-preserved : goal.loop-byte-preserved
loop-byte-preserved c =
    record {
      same_room = search rules;
      leads = words_on c.args.words.now _ c.loop-byte-test.true c.loop-byte.invariant.leads c.put_byte.ensures.puts;
    }

pub returns : goal.returns
returns c =
    record {
      puts = words_done c.args.words.now _ c.loop-byte-test.false (omega arith) c.loop-byte.invariant.leads (omega arith);
      same_room = search rules;
    }
