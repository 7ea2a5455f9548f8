-- `wire::copy` meets its contract: a byte that is stored is the first of those that are still to be laid down.
use Rattle.std.proofs.Common.{◌≡◌, ◌+◌, ◌<◌, List, ◌∷◌, ℕ, suc, length, get_or, drop, sym, ap, ◌∙◌, arith}
use lib.ListN.{set}
use lib.Seq.{drop-cons}
use Rattle.std.proofs.lemmas.List.{drop_all}
use Rattle.wire.specs.Bytes.{splice}
use Rattle.wire.proofs.FilledRow.{splice_no_more, splice_store}
use Rattle.wire.proofs.Splicing.{laid_fits, laid_kept}
use Rattle.wire.proofs.copy.Goals as goal

stored : (bytes room : List ℕ) (i : ℕ) → i < length bytes → i < length room
    → splice (set room i (get_or bytes i 0)) (i + 1) (drop (i + 1) bytes) ≡ splice room i (drop i bytes)
stored bytes room i h k =
    let e : i + 1 ≡ suc i = omega arith in
    sym (splice_store room i (get_or bytes i 0) (drop (i + 1) bytes) k)
    ∙ ap (λ (n : ℕ). splice room i (get_or bytes i 0 ∷ drop n bytes)) e
    ∙ ap (splice room i) (sym (drop-cons bytes i 0 h))

pub loop-i-preserved : goal.loop-i-preserved
loop-i-preserved c =
    let l = c.loop-i in stored c.args.bytes.now l.room l.i (omega arith) (omega arith) ∙ l.invariant

pub returns-after-loop-i : goal.returns-after-loop-i
returns-after-loop-i c =
    let l = c.loop-i in
    sym (splice_no_more l.room l.i (drop l.i c.args.bytes.now) (drop_all l.i c.args.bytes.now (omega arith)))
    ∙ l.invariant
    ∙ sym (laid_fits c.args.room.now 0 c.args.bytes.now (omega arith))

pub returns-else-bytes-room : goal.returns-else-bytes-room
returns-else-bytes-room c = sym (laid_kept c.args.room.now 0 c.args.bytes.now (omega arith))
