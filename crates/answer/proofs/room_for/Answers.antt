-- `answer::room_for` meets its contract: each return rewrites with the tests that led there.
use borrow.Author.Tests.{le-leb, lt-leb}
use Rattle.answer.proofs.room_for.Goals as goal

pub returns-then-size-mark : goal.returns-then-size-mark
returns-then-size-mark c = rw c.out_of_bounds.ensures (simp (lt-leb _ _ c.if-size-mark.true))

pub returns-then-size-mark-2 : goal.returns-then-size-mark-2
returns-then-size-mark-2 c =
    let t = c in
    rw c.no_room.ensures (simp (le-leb _ _ t.if-size-mark.false, lt-leb _ _ t.if-size-mark-2.true))

pub returns : goal.returns
returns c = simp (le-leb _ _ c.if-size-mark.false, le-leb _ _ c.if-size-mark-2.false)
