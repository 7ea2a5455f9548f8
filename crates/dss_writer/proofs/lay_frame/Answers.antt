-- `dss_writer::lay_frame` meets its contract: one segment, or the first and in the tail behind it the chunks.
use Prim.Native.Nat.{ℕ}
use native.Mathlib.Omega.{arith}
use mathlib.Core.Path.{sym, ap}
use mathlib.Core.List.{List}
use lib.ListN.{length}
use Rattle.dss_frame.specs.Written.{chunks}
use Rattle.wire.proofs.LentParts.{tail_drop, tail_length}
use Rattle.dss_writer.proofs.LayingLaws.{single_room, single_laid, first_length, several_room, first_kept, several_laid}
use Rattle.dss_writer.proofs.lay_frame.Goals as goal

pub lay_segment-requires : goal.lay_segment-requires
lay_segment-requires c =
    let a = c.args in
    single_room a.header a.payload.now a.room.now c.requires c.if-payload-le-DSS_FIRST_PAYLOAD_LEN.true

pub returns-then-payload-le-DSS_FIRST_PAYLOAD_LEN : goal.returns-then-payload-le-DSS_FIRST_PAYLOAD_LEN
returns-then-payload-le-DSS_FIRST_PAYLOAD_LEN c =
    let a = c.args in
    single_laid a.header a.payload.now a.room.now c.requires c.if-payload-le-DSS_FIRST_PAYLOAD_LEN.true _ c.lay_segment.ensures

pub slice_bounds-lay_segment-end : goal.slice_bounds-lay_segment-end
slice_bounds-lay_segment-end c =
    let a = c.args in
    sym (first_length a.header a.payload.now a.room.now c.requires c.if-payload-le-DSS_FIRST_PAYLOAD_LEN.false)

pub lay_segment-requires-else-payload-le-DSS_FIRST_PAYLOAD_LEN : goal.lay_segment-requires-else-payload-le-DSS_FIRST_PAYLOAD_LEN
lay_segment-requires-else-payload-le-DSS_FIRST_PAYLOAD_LEN c =
    let a = c.args in
    omega (
      arith,
      several_room a.header a.payload.now a.room.now c.requires c.if-payload-le-DSS_FIRST_PAYLOAD_LEN.false,
      first_length a.header a.payload.now a.room.now c.requires c.if-payload-le-DSS_FIRST_PAYLOAD_LEN.false,
    )

pub slice_bounds-lay_chunks-count-else-payload-le-DSS_FIRST_PAYLOAD_LEN : goal.slice_bounds-lay_chunks-count-else-payload-le-DSS_FIRST_PAYLOAD_LEN
slice_bounds-lay_chunks-count-else-payload-le-DSS_FIRST_PAYLOAD_LEN c =
    let a = c.args in
    omega (
      arith,
      several_room a.header a.payload.now a.room.now c.requires c.if-payload-le-DSS_FIRST_PAYLOAD_LEN.false,
      first_kept a.header a.payload.now a.room.now c.requires c.if-payload-le-DSS_FIRST_PAYLOAD_LEN.false _ c.lay_segment-else-payload-le-DSS_FIRST_PAYLOAD_LEN.ensures,
    )

pub slice_bounds-lay_chunks-start-else-payload-le-DSS_FIRST_PAYLOAD_LEN : goal.slice_bounds-lay_chunks-start-else-payload-le-DSS_FIRST_PAYLOAD_LEN
slice_bounds-lay_chunks-start-else-payload-le-DSS_FIRST_PAYLOAD_LEN c =
    let a = c.args in
    omega (
      arith,
      several_room a.header a.payload.now a.room.now c.requires c.if-payload-le-DSS_FIRST_PAYLOAD_LEN.false,
      first_kept a.header a.payload.now a.room.now c.requires c.if-payload-le-DSS_FIRST_PAYLOAD_LEN.false _ c.lay_segment-else-payload-le-DSS_FIRST_PAYLOAD_LEN.ensures,
    )

pub lay_chunks-requires : goal.lay_chunks-requires
lay_chunks-requires c =
    let a = c.args in
    omega (
      arith,
      several_room a.header a.payload.now a.room.now c.requires c.if-payload-le-DSS_FIRST_PAYLOAD_LEN.false,
      first_kept a.header a.payload.now a.room.now c.requires c.if-payload-le-DSS_FIRST_PAYLOAD_LEN.false _ c.lay_segment-else-payload-le-DSS_FIRST_PAYLOAD_LEN.ensures,
      ap (λ (l : List ℕ). length (chunks l)) (tail_drop a.payload.now 32761),
      tail_length c.lay_segment-else-payload-le-DSS_FIRST_PAYLOAD_LEN.new.room 32767,
    )

pub returns-else-payload-le-DSS_FIRST_PAYLOAD_LEN : goal.returns-else-payload-le-DSS_FIRST_PAYLOAD_LEN
returns-else-payload-le-DSS_FIRST_PAYLOAD_LEN c =
    let a = c.args in
    several_laid a.header a.payload.now a.room.now c.requires c.if-payload-le-DSS_FIRST_PAYLOAD_LEN.false _ _ c.lay_segment-else-payload-le-DSS_FIRST_PAYLOAD_LEN.ensures c.lay_chunks.ensures
