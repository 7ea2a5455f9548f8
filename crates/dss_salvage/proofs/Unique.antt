-- Any two outcomes that a contract of this crate allows are equal. Each statement names the contract, and doesn't write it again.
use Prim.Native.Nat.{ℕ}
use mathlib.Core.Path.{◌≡◌, refl, sym, ◌∙◌}
use mathlib.Core.List.{List}
use contract.Lifetimes.{Lfts}
use denote.Ref.{Bor}
use Rattle.answer.specs.declared.Refused.{Refused}
use Rattle.dss_frame.specs.Salvage.{salvaged}
use Rattle.dss_salvage.specs.declared.Step.{Step}
use Rattle.dss_salvage.specs.declared.Salvaging.{Salvaging}
use Rattle.dss_salvage.specs.inner.SalvageSteps.{over_at, step_at}
use Rattle.dss_salvage.specs.inner.SalvageMeasure.{salvaging_of}
use Rattle.dss_salvage.proofs.step_over.Reads as step_over
use Rattle.dss_salvage.proofs.step_at.Reads as step_at_call
use Rattle.dss_salvage.proofs.measure_salvage.Reads as measure_salvage

module _ (κs : Lfts 1) (run : Bor (List ℕ)) where
  pub step_over_one : (at : ℕ) (x : Refused) (r r' : Step) → step_over.Post κs (run, (at, (x, tt))) r (run, (at, (x, tt))) → step_over.Post κs (run, (at, (x, tt))) r' (run, (at, (x, tt))) → r ≡ r'
  step_over_one at x r r' p q = p ∙ sym q

  pub step_at_one : (at : ℕ) (r r' : Step) → step_at_call.Post κs (run, (at, tt)) r (run, (at, tt)) → step_at_call.Post κs (run, (at, tt)) r' (run, (at, tt)) → r ≡ r'
  step_at_one at r r' p q = p ∙ sym q

  pub measure_salvage_one : (r r' : Salvaging) → measure_salvage.Post κs (run, tt) r (run, tt) → measure_salvage.Post κs (run, tt) r' (run, tt) → r ≡ r'
  measure_salvage_one r r' p q = p ∙ sym q

  -- and one outcome is allowed, whatever the run and the place
  pub step_over_some : (at : ℕ) (x : Refused) → step_over.Post κs (run, (at, (x, tt))) (over_at run.now at x) (run, (at, (x, tt)))
  step_over_some at x = refl

  pub step_at_some : (at : ℕ) → step_at_call.Post κs (run, (at, tt)) (step_at run.now at) (run, (at, tt))
  step_at_some at = refl

  pub measure_salvage_some : measure_salvage.Post κs (run, tt) (salvaging_of run.now (salvaged run.now)) (run, tt)
  measure_salvage_some = refl
