-- Demand 2 over the contract of `read_all_frames` itself, a function over a row of records: its own clause is named, and in any model of
-- the logic it entails the fact.
use Rattle.std.specs.Prelude.{Result}
use Prim.Native.Nat.{ℕ, ◌≤◌}
use mathlib.Core.Path.{◌≡◌, subst}
use mathlib.Core.List.{List}
use lib.ListN.{length}
use seplogic.Ra.Ura.{Ura}
use base.Logic.{SProp, ent}
use prog.Memory.{Memory}
use prog.Routine.{Routine}
use types.Logic.{Logic}
use contract.Lifetimes.{Lfts}
use contract.Monad.{Fun, fact, fact_mono}
use denote.Ref.{Bor, MutBor, at_last}
use Rattle.dss_frame.specs.Written.{Sent, written}
use Rattle.dss_frame.specs.declared.DssFrame.{DssFrame}
use Rattle.dss_reader.specs.Reader.{stands_at, ReadAllFrames}
use Rattle.dss_reader.specs.declared.DssReader.{DssReader}
use Rattle.dss_reader.specs.contracts.DssReader.read_all_frames as read_all_frames
use Rattle.demands.specs.AllFrames.{AllAlone}
use Rattle.wire.specs.Bytes.{joined}
use Rattle.demands.specs.KeptLists.{payloads, AllBack}
use Rattle.demands.proofs.ReaderKeeps.{frames_back}
use Rattle.dss_reader.specs.declared.FramesRead.{FramesRead}
use Rattle.answer.specs.declared.Refused.{Refused}

-- on a run of written frames that stand by themselves, with enough room and row, from the first byte on
pub read_all_frames_back : {M : Type 1} {𝓤 : Ura M} (𝓛 : Logic 𝓤) (mem : Memory → SProp 𝓤) (routines : Routine → Fun 𝓤) (κs : Lfts 3) (reader : DssReader) (run : Bor (List ℕ)) (room : MutBor (List ℕ)) (row : MutBor (List DssFrame)) (r : Result FramesRead Refused × DssReader) (roomAfter : List ℕ) (rowAfter : List DssFrame)
    → (fs : List Sent) → AllAlone fs → reader ≡ stands_at 0 → run.now ≡ joined written fs → length (payloads fs) ≤ length room.now → length fs ≤ length row.now
    → ent 𝓤 ((read_all_frames.clauses 𝓛 mem routines κs (reader, (run, (room, (row, tt))))).ensures tt r (reader, (run, (at_last room roomAfter, (at_last row rowAfter, tt)))))
    (fact 𝓤 (AllBack fs room.now row.now r roomAfter rowAfter))
read_all_frames_back {𝓤 = 𝓤} 𝓛 mem routines κs reader run room row r roomAfter rowAfter fs a e k h g =
    fact_mono 𝓤 _ _ (λ p. frames_back fs a room.now row.now h g r roomAfter rowAfter
    (subst (λ (s : List ℕ). ReadAllFrames s 0 room.now row.now r roomAfter rowAfter) k
    (subst (λ (d : DssReader). ReadAllFrames run.now d.position room.now row.now r roomAfter rowAfter) e p)))
