-- `gateway_row::put_refused` meets its contract: the refusal's eight words, and where the refused frame stood behind them.
use Prim.Native.Nat.{ℕ}
use mathlib.Core.Path.{refl, sym, ap, ◌∙◌}
use mathlib.Core.List.{List}
use Rattle.wire.specs.Bytes.{laid}
use Rattle.wire.proofs.Splicing.{laid_kept}
use Rattle.gateway_words.specs.AnswerWords.{refusal_words}
use Rattle.gateway_row.specs.RowWords.{stretch, refused_words}
use Rattle.gateway_row.proofs.LaidWords.{laid_behind}
use Rattle.gateway_row.proofs.put_refused.Goals as goal

pub returns-then-words-lt-RECORD_WORDS : goal.returns-then-words-lt-RECORD_WORDS
returns-then-words-lt-RECORD_WORDS c =
    let a = c.args in
    sym (laid_kept a.words.now 0 (refused_words a.refused a.first a.end) c.if-words-lt-RECORD_WORDS.true)

pub returns : goal.returns
returns c =
    let k = c in
    let a = k.args in
    let s = stretch a.first a.end in
    c.put_stretch.ensures
    ∙ ap (λ (l : List ℕ). laid l 8 s) k.put_refusal.ensures.words_are
    ∙ laid_behind a.words.now (refusal_words a.refused) s 8 refl k.if-words-lt-RECORD_WORDS.false
