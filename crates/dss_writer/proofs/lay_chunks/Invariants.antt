-- `dss_writer::lay_chunks` meets its contract. The loop's invariant: the chunks of the bytes passed stand at the room's start.
use Prim.Native.Nat.{◌*◌}
use Rattle.dss_writer.proofs.LayingLaws.{ChunkedLaid}
use Rattle.dss_writer.proofs.lay_chunks.Given as goal

abbrev pub invariant-loop-i : goal.invariant-loop-i
invariant-loop-i l = ChunkedLaid l.bytes l.initial.room l.room (l.i * 32765) (l.i * 32767)
