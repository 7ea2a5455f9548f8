-- Of each public function: any two outcomes that its contract allows are equal. The contract is named, and not written again.
use Prim.Native.Nat.{ℕ}
use mathlib.Core.Path.{◌≡◌, sym, ◌∙◌}
use mathlib.Core.List.{List}
use contract.Lifetimes.{Lfts}
use denote.Ref.{MutBor, at_last}
use Rattle.answer.specs.declared.Refused.{Refused}
use Rattle.dss_frame.specs.declared.DssFrame.{DssFrame}
use Rattle.gateway_row.proofs.put_frame.Reads as put_frame
use Rattle.gateway_row.proofs.put_record.Reads as put_record
use Rattle.gateway_row.proofs.put_refused.Reads as Put_refused

module _ (κs : Lfts 1) (words : MutBor (List ℕ)) (l l' : List ℕ) where
  pub put_frame_one : (place last : ℕ) (f : DssFrame)
      → put_frame.Post κs (words, (place, (last, (f, tt)))) tt (at_last words l, (place, (last, (f, tt))))
      → put_frame.Post κs (words, (place, (last, (f, tt)))) tt (at_last words l', (place, (last, (f, tt))))
      → l ≡ l'
  put_frame_one place last f p q = p ∙ sym q

  pub put_record_one : (f : DssFrame)
      → put_record.Post κs (words, (f, tt)) tt (at_last words l, (f, tt))
      → put_record.Post κs (words, (f, tt)) tt (at_last words l', (f, tt))
      → l ≡ l'
  put_record_one f p q = p ∙ sym q

  pub put_refused_one : (r : Refused) (first end : ℕ)
      → Put_refused.Post κs (words, (r, (first, (end, tt)))) tt (at_last words l, (r, (first, (end, tt))))
      → Put_refused.Post κs (words, (r, (first, (end, tt)))) tt (at_last words l', (r, (first, (end, tt))))
      → l ≡ l'
  put_refused_one r first end p q = p ∙ sym q
