-- Of each function: any two outcomes that its contract allows are equal, the answer and the words. The contract is named, and not
-- written again.
use Rattle.std.specs.Prelude.{Result}
use Prim.Native.Nat.{ℕ}
use mathlib.Core.Path.{◌≡◌, sym, ◌∙◌}
use mathlib.Core.List.{List}
use contract.Lifetimes.{Lfts}
use denote.Ref.{Bor, MutBor, at_last}
use Rattle.dss_frame.specs.declared.Rules.{Rules}
use Rattle.gateway_words.proofs.Unique.{answered_one}
use Rattle.gateway_measure.proofs.rules_of.Reads as rules_of
use Rattle.gateway_measure.proofs.put_measured.Reads as put_measured
use Rattle.gateway_measure.proofs.lattrugone_measure_frame.Reads as measure_frame
use Rattle.dss_measure.specs.declared.FrameMeasure.{FrameMeasure}
use Rattle.answer.specs.declared.Refused.{Refused}

pub rules_of_one : (κs : Lfts 0) (n : ℕ) (r r' : Rules) → rules_of.Post κs (n, tt) r (n, tt) → rules_of.Post κs (n, tt) r' (n, tt) → r ≡ r'
rules_of_one κs n r r' p q = p ∙ sym q

pub put_measured_one : (κs : Lfts 1) (words : MutBor (List ℕ)) (at : ℕ) (m : Result FrameMeasure Refused) (r r' : ℕ) (l l' : List ℕ)
    → put_measured.Post κs (words, (at, (m, tt))) r (at_last words l, (at, (m, tt)))
    → put_measured.Post κs (words, (at, (m, tt))) r' (at_last words l', (at, (m, tt)))
    → (r ≡ r') × (l ≡ l')
put_measured_one κs words at m r r' l l' p q = answered_one p q

pub measure_frame_one : (κs : Lfts 2) (rules : ℕ) (run : Bor (List ℕ)) (at : ℕ) (words : MutBor (List ℕ)) (r r' : ℕ) (l l' : List ℕ)
    → measure_frame.Post κs (rules, (run, (at, (words, tt)))) r (rules, (run, (at, (at_last words l, tt))))
    → measure_frame.Post κs (rules, (run, (at, (words, tt)))) r' (rules, (run, (at, (at_last words l', tt))))
    → (r ≡ r') × (l ≡ l')
measure_frame_one κs rules run at words r r' l l' p q = answered_one p q
