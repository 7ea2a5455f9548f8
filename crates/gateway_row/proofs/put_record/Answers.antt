-- `gateway_row::put_record` meets its contract: a frame's eight words, and where it stood behind them.
use Prim.Native.Nat.{ℕ}
use mathlib.Core.Path.{refl, sym, ap, ◌∙◌}
use mathlib.Core.List.{List}
use Rattle.wire.specs.Bytes.{laid}
use Rattle.wire.proofs.Splicing.{laid_kept}
use Rattle.gateway_row.specs.RowWords.{frame_at, stretch, record_words}
use Rattle.gateway_row.proofs.LaidWords.{laid_behind}
use Rattle.gateway_row.proofs.put_record.Goals as goal

pub returns-then-words-lt-RECORD_WORDS : goal.returns-then-words-lt-RECORD_WORDS
returns-then-words-lt-RECORD_WORDS c =
    let a = c.args in
    sym (laid_kept a.words.now 0 (record_words a.frame) c.if-words-lt-RECORD_WORDS.true)

pub returns : goal.returns
returns c =
    let k = c in
    let a = k.args in
    let f = a.frame in
    let s = stretch f.at f.end in
    c.put_stretch.ensures
    ∙ ap (λ (l : List ℕ). laid l 8 s) k.put_frame.ensures
    ∙ laid_behind a.words.now (frame_at f.payload_at 0 f) s 8 refl k.if-words-lt-RECORD_WORDS.false
