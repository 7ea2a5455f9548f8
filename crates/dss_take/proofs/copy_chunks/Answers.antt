-- `dss_take::copy_chunks` meets its contract: the first segment's payload, and what each continuation adds.
use Prim.Native.Nat.{◌+◌}
use native.Mathlib.Omega.{arith}
use mathlib.Core.Path.{sym, ap, ◌∙◌}
use Rattle.dss_frame.specs.Rules.{chunk_under}
use Rattle.dss_take.specs.Take.{payload_at}
use Rattle.dss_take.proofs.PayloadLaws.{payload_fits, laying_none, laying_on, laying_last, laying_room, laying_more}
use Rattle.dss_take.proofs.TakenChunks.{walking_dead, last_left, last_next, full_next, chunks_first}
use Rattle.dss_take.proofs.copy_chunks.Goals as goal

-- ---- the first segment

pub copy_part-requires : goal.copy_part-requires
copy_part-requires c =
    let a = c.args in
    let n = (chunks_first c.requires.0 c.requires.1).0 in
    (n.order, n.there, laying_room (laying_none (payload_at a.rules a.run.now a.at) a.room.now (payload_fits c.requires.0)) n)

pub loop-end-init : goal.loop-end-init
loop-end-init c =
    let a = c.args in
    let f = chunks_first c.requires.0 c.requires.1 in
    (f.1, laying_on (laying_more (laying_none (payload_at a.rules a.run.now a.at) a.room.now (payload_fits c.requires.0)) f.0 _ 32761 c.copy_part.ensures (omega arith)))

-- ---- a turn

-- the walk is whole, so that no length is 0 or 1
pub returns-in-Dead : goal.returns-in-Dead
returns-in-Dead c = absurd (walking_dead c.loop-end.invariant.0 c.u16_at-raw.ensures (sym c.in-Dead.ensures))

pub copy_part-requires-in-Last : goal.copy_part-requires-in-Last
copy_part-requires-in-Last c =
    let n = last_next c.loop-end.invariant.0 (c.from.ensures ∙ c.u16_at-raw.ensures) (ap (chunk_under c.args.rules) c.from.ensures ∙ sym c.in-Last.ensures) in
    (n.order, n.there, laying_room c.loop-end.invariant.1 n)

pub returns-in-Last : goal.returns-in-Last
returns-in-Last c =
    let a = c.args in
    let n = (chunks_first c.requires.0 c.requires.1).0 in
    laying_last c.loop-end.invariant.1 _ _ c.copy_part-in-Last.ensures (last_left c.loop-end.invariant.0 (c.from.ensures ∙ c.u16_at-raw.ensures) (ap (chunk_under c.args.rules) c.from.ensures ∙ sym c.in-Last.ensures))
    ∙ (laying_more (laying_none (payload_at a.rules a.run.now a.at) a.room.now (payload_fits c.requires.0)) n _ 32761 c.copy_part.ensures (omega arith)).gives

pub copy_part-requires-in-Full : goal.copy_part-requires-in-Full
copy_part-requires-in-Full c =
    let n = (full_next c.loop-end.invariant.0 c.u16_at-raw.ensures (sym c.in-Full.ensures)).0 in
    (n.order, n.there, laying_room c.loop-end.invariant.1 n)

pub loop-end-preserved : goal.loop-end-preserved
loop-end-preserved c =
    let f = full_next c.loop-end.invariant.0 c.u16_at-raw.ensures (sym c.in-Full.ensures) in
    (f.1, laying_more c.loop-end.invariant.1 f.0 _ (c.loop-end.fill + 32765) c.copy_part-in-Full.ensures (omega arith))
