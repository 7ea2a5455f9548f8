-- `gateway_row::put_stretch` meets its contract: two stores lay two words down behind eight.
use native.Mathlib.Omega.{arith}
use mathlib.Core.Path.{sym, ◌∙◌}
use lib.ListN.{length-set}
use Rattle.wire.proofs.Splicing.{laid_fits, laid_kept, sets_splice}
use Rattle.gateway_row.specs.RowWords.{stretch}
use Rattle.gateway_row.proofs.put_stretch.Goals as goal

pub returns-then-words-lt-RECORD_WORDS : goal.returns-then-words-lt-RECORD_WORDS
returns-then-words-lt-RECORD_WORDS c =
    let a = c.args in
    sym (laid_kept a.words.now 8 (stretch a.first a.end) c.if-words-lt-RECORD_WORDS.true)

pub bounds-words-9 : goal.bounds-words-9
bounds-words-9 c = simp length-set (omega arith)

pub returns : goal.returns
returns c =
    let a = c.args in
    let b = stretch a.first a.end in
    sets_splice b a.words.now 8 c.if-words-lt-RECORD_WORDS.false ∙ sym (laid_fits a.words.now 8 b c.if-words-lt-RECORD_WORDS.false)
