-- Any two outcomes that a contract of this crate allows are equal. Each statement names the contract, and doesn't write it again.
use Rattle.std.specs.Prelude.{Option, Result}
use Prim.Native.Nat.{ℕ}
use mathlib.Core.Path.{◌≡◌, refl, sym, ◌∙◌}
use mathlib.Core.Bool.{Bool}
use mathlib.Core.List.{List}
use contract.Lifetimes.{Lfts}
use denote.Ref.{Bor}
use Rattle.dss_head.specs.Heads.{head_at}
use Rattle.dss_head.specs.declared.Chunk.{Chunk}
use Rattle.dss_head.specs.declared.DssType.{DssType}
use Rattle.dss_frame.specs.Rules.{chunk_under}
use Rattle.dss_frame.specs.declared.DssFrame.{DssFrame}
use Rattle.dss_frame.specs.declared.Rules.{Rules}
use Rattle.dss_frame.specs.Reading.{look}
use Rattle.dss_measure.specs.declared.FrameMeasure.{FrameMeasure}
use Rattle.dss_measure.specs.declared.Absorbed.{Absorbed}
use Rattle.dss_measure.specs.declared.Walked.{Walked}
use Rattle.dss_measure.specs.inner.Walking.{walked_at, looked_of}
use Rattle.dss_measure.specs.Measure.{measured_at, extent_of}
use Rattle.dss_measure.proofs.FrameMeasure.record.Reads as frame_record
use Rattle.dss_measure.proofs.head_at.Reads as head_at_call
use Rattle.dss_measure.proofs.chunk_under.Reads as chunk_under_call
use Rattle.dss_measure.proofs.walk_frame.Reads as walk_frame
use Rattle.dss_measure.proofs.look_behind.Reads as look_behind
use Rattle.dss_measure.proofs.measure.Reads as measure
use Rattle.dss_measure.proofs.measure_extent.Reads as measure_extent
use Rattle.dss_head.specs.declared.DssHeader.{DssHeader}
use Rattle.dss_measure.specs.declared.Extent.{Extent}
use Rattle.answer.specs.declared.Refused.{Refused}

pub head_at_one : (κs : Lfts 1) (run : Bor (List ℕ)) (at : ℕ) (r r' : Result DssHeader Refused)
    → head_at_call.Post κs (run, (at, tt)) r (run, (at, tt)) → head_at_call.Post κs (run, (at, tt)) r' (run, (at, tt)) → r ≡ r'
head_at_one κs run at r r' p q = p ∙ sym q

pub chunk_under_one : (κs : Lfts 0) (rules : Rules) (raw : ℕ) (r r' : Chunk)
    → chunk_under_call.Post κs (rules, (raw, tt)) r (rules, (raw, tt)) → chunk_under_call.Post κs (rules, (raw, tt)) r' (rules, (raw, tt)) → r ≡ r'
chunk_under_one κs rules raw r r' p q = p ∙ sym q

pub walk_frame_one : (κs : Lfts 1) (rules : Rules) (run : Bor (List ℕ)) (at : ℕ) (r r' : Result Walked Refused)
    → walk_frame.Post κs (rules, (run, (at, tt))) r (rules, (run, (at, tt))) → walk_frame.Post κs (rules, (run, (at, tt))) r' (rules, (run, (at, tt)))
    → r ≡ r'
walk_frame_one κs rules run at r r' p q = p ∙ sym q

pub look_behind_one : (κs : Lfts 1) (rules : Rules) (run : Bor (List ℕ)) (first : DssType) (extended : Bool) (at : ℕ) (r r' : Result (Option Absorbed) Refused)
    → look_behind.Post κs (rules, (run, (first, (extended, (at, tt))))) r (rules, (run, (first, (extended, (at, tt)))))
    → look_behind.Post κs (rules, (run, (first, (extended, (at, tt))))) r' (rules, (run, (first, (extended, (at, tt)))))
    → r ≡ r'
look_behind_one κs rules run first extended at r r' p q = p ∙ sym q

pub measure_one : (κs : Lfts 1) (rules : Rules) (run : Bor (List ℕ)) (at : ℕ) (r r' : Result FrameMeasure Refused)
    → measure.Post κs (rules, (run, (at, tt))) r (rules, (run, (at, tt))) → measure.Post κs (rules, (run, (at, tt))) r' (rules, (run, (at, tt)))
    → r ≡ r'
measure_one κs rules run at r r' p q = p ∙ sym q

pub measure_extent_one : (κs : Lfts 1) (rules : Rules) (run : Bor (List ℕ)) (at : ℕ) (r r' : Result Extent Refused)
    → measure_extent.Post κs (rules, (run, (at, tt))) r (rules, (run, (at, tt))) → measure_extent.Post κs (rules, (run, (at, tt))) r' (rules, (run, (at, tt)))
    → r ≡ r'
measure_extent_one κs rules run at r r' p q = p ∙ sym q

-- and one outcome is allowed, whatever the rules, the run and the place
pub head_at_some : (κs : Lfts 1) (run : Bor (List ℕ)) (at : ℕ) → head_at_call.Post κs (run, (at, tt)) (head_at run.now at) (run, (at, tt))
head_at_some κs run at = refl

pub chunk_under_some : (κs : Lfts 0) (rules : Rules) (raw : ℕ) → chunk_under_call.Post κs (rules, (raw, tt)) (chunk_under rules raw) (rules, (raw, tt))
chunk_under_some κs rules raw = refl

pub walk_frame_some : (κs : Lfts 1) (rules : Rules) (run : Bor (List ℕ)) (at : ℕ)
    → walk_frame.Post κs (rules, (run, (at, tt))) (walked_at rules run.now at) (rules, (run, (at, tt)))
walk_frame_some κs rules run at = refl

pub look_behind_some : (κs : Lfts 1) (rules : Rules) (run : Bor (List ℕ)) (first : DssType) (extended : Bool) (at : ℕ)
    → look_behind.Post κs (rules, (run, (first, (extended, (at, tt))))) (looked_of (look rules run.now first extended at)) (rules, (run, (first, (extended, (at, tt)))))
look_behind_some κs rules run first extended at = refl

pub measure_some : (κs : Lfts 1) (rules : Rules) (run : Bor (List ℕ)) (at : ℕ)
    → measure.Post κs (rules, (run, (at, tt))) (measured_at rules run.now at) (rules, (run, (at, tt)))
measure_some κs rules run at = refl

pub measure_extent_some : (κs : Lfts 1) (rules : Rules) (run : Bor (List ℕ)) (at : ℕ)
    → measure_extent.Post κs (rules, (run, (at, tt))) (extent_of (measured_at rules run.now at)) (rules, (run, (at, tt)))
measure_extent_some κs rules run at = refl

pub record_one : (κs : Lfts 0) (m : FrameMeasure) (at a : ℕ) (r r' : DssFrame)
    → frame_record.Post κs (m, (at, (a, tt))) r (m, (at, (a, tt))) → frame_record.Post κs (m, (at, (a, tt))) r' (m, (at, (a, tt))) → r ≡ r'
record_one κs m at a r r' p q = p ∙ sym q
