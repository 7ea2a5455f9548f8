-- `wire::put_u16` meets its contract: two stores lay two bytes down.
use mathlib.Core.Path.{sym}
use Rattle.wire.specs.Bytes.{two}
use Rattle.wire.proofs.Splicing.{laid_kept, sets_laid}
use Rattle.wire.proofs.put_u16.Goals as goal

pub returns-then-room-lt2 : goal.returns-then-room-lt2
returns-then-room-lt2 c = sym (laid_kept c.args.room.now 0 (two c.args.n) c.if-room-lt2.true)

pub returns : goal.returns
returns c = rw c.to_be_bytes.ensures (sets_laid (two c.args.n) c.args.room.now c.if-room-lt2.false)
