-- `wire::lay_at` meets its contract: bytes laid down in two steps are laid down in one.
use Prim.Native.Nat.{ℕ, ◌+◌, ◌-◌, ◌≤◌, ◌%◌}
use native.Mathlib.Omega.{arith}
use mathlib.Core.Path.{◌≡◌, sym, ap, ap₂, ◌∙◌}
use mathlib.Core.List.{List, ◌++◌}
use lib.ListN.{length, take, take-append-drop}
use lib.Seq.{length-take-le}
use Rattle.wire.specs.Bytes.{splice, laid}
use Rattle.wire.proofs.Splicing.{splice_splice, laid_fits, laid_kept}
use Rattle.wire.proofs.LentParts.{tail, tail_drop}
use Rattle.wire.proofs.lay_at.Goals as goal

-- the first k bytes, and then the others behind them
two_steps : (r b : List ℕ) (a k : ℕ) (s t : List ℕ) → k ≤ length b → a + length b ≤ length r → s ≡ splice r a (take k b) → t ≡ splice s (a + k) (tail b k) → t ≡ laid r a b
two_steps r b a k s t h l e f =
    f
    ∙ ap₂ (λ (x : List ℕ) (n : ℕ). splice x (a + n) (tail b k)) e (sym (length-take-le k b h))
    ∙ splice_splice r a (take k b) (tail b k) (omega arith)
    ∙ ap (splice r a) (ap (λ (x : List ℕ). take k b ++ x) (tail_drop b k) ∙ take-append-drop k b)
    ∙ sym (laid_fits r a b l)

pub returns-then-room-at : goal.returns-then-room-at
returns-then-room-at c = let a = c.args in sym (laid_kept a.room.now a.at a.bytes.now (omega (arith, c.if-room-at.true)))

pub returns-then-room-at-2 : goal.returns-then-room-at-2
returns-then-room-at-2 c =
    let a = c.args in
    sym (laid_kept a.room.now a.at a.bytes.now (omega (arith, c.if-room-at-2.true, c.if-room-at.false)))

pub returns-then-bytes-lt-LONG : goal.returns-then-bytes-lt-LONG
returns-then-bytes-lt-LONG c =
    let a = c.args in
    c.copy_at.ensures ∙ sym (laid_fits a.room.now a.at a.bytes.now (omega arith))

pub slice_bounds-copy_at-end : goal.slice_bounds-copy_at-end
slice_bounds-copy_at-end c = sym (length-take-le _ c.args.bytes.now (omega arith))

pub copy_at-requires-2 : goal.copy_at-requires-2
copy_at-requires-2 c =
    let a = c.args in
    omega (arith, length-take-le (15 - (a.at + 15) % 16) a.bytes.now (omega arith))

pub returns : goal.returns
returns c =
    let a = c.args in
    two_steps a.room.now a.bytes.now a.at (15 - (a.at + 15) % 16) _ _ (omega arith) (omega arith) c.copy_at-2.ensures c.copy_at-3.ensures
