-- `dss_writer::lay_chunk` meets its contract: what is copied behind the length stands there.
use Rattle.std.proofs.Common.{arith, ◌≡◌, ◌≤◌, ◌++◌, length, ap, ◌∙◌, ℕ, List, ◌+◌, refl}
use Rattle.wire.specs.Bytes.{two, splice, laid}
use Rattle.wire.proofs.Splicing.{splice_splice, laid_fits}
use Rattle.wire.proofs.LentParts.{tail, tail_length, lent}
use Rattle.dss_writer.proofs.lay_chunk.Goals as goal

-- y behind the two bytes x
behind : (r x y s : List ℕ) → length x ≡ 2 → length x + length y ≤ length r → s ≡ laid r 0 x → splice s 2 y ≡ splice r 0 (x ++ y)
behind r x y s k h e =
    let z : 2 ≡ 0 + length x = omega arith in
    ap (λ (v : List ℕ). splice v 2 y) (e ∙ laid_fits r 0 x (omega arith))
    ∙ ap (λ (n : ℕ). splice (splice r 0 x) n y) z
    ∙ splice_splice r 0 x y (omega arith)

pub returns : goal.returns
returns c =
    let a = c.args in
    let s = c.put_u16.new.room in
    let n = tail_length s 2 in
    lent s 2 _ a.bytes.now (c.copy.ensures ∙ laid_fits (tail s 2) 0 a.bytes.now (omega (arith, n)))
    ∙ behind a.room.now (two a.raw_length) a.bytes.now _ refl (omega arith) c.put_u16.ensures
