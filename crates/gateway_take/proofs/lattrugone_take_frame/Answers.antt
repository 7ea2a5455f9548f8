-- `gateway_take::lattrugone_take_frame` meets its contract: what was taken, and the words that say so.
use Rattle.gateway_take.proofs.lattrugone_take_frame.Goals as goal

pub returns : goal.returns
returns c =
    let t = c in
    let taken = t.take-taken.ensures in
    let rules = t.rules_of-rules.ensures in
    record {
      answers = rw (← rules, ← taken.answers) c.put_measured.ensures;
      room_is = rw (← rules) taken.room_is;
    }
