-- Of each function: any two outcomes that its contract allows are equal. The contract is named, and not written again.
use Rattle.std.specs.Prelude.{Result}
use Prim.Native.Nat.{ℕ}
use mathlib.Core.Path.{◌≡◌, sym, ◌∙◌}
use mathlib.Core.List.{List}
use contract.Lifetimes.{Lfts}
use denote.Ref.{MutBor, at_last}
use Rattle.answer.specs.declared.Refused.{Refused}
use Rattle.gateway_words.specs.AnswerWords.{Answered, Leaves, LeavesRow}
use Rattle.gateway_words.proofs.put_words.Reads as put_words
use Rattle.gateway_words.proofs.put_done.Reads as put_done
use Rattle.gateway_words.proofs.put_refusal.Reads as put_refusal
use Rattle.gateway_words.proofs.put_laid.Reads as put_laid

-- an answer in words leaves no choice
pub answered_one : {answer words : List ℕ} {r r' : ℕ} {l l' : List ℕ} → Answered answer words r l → Answered answer words r' l' → (r ≡ r') × (l ≡ l')
answered_one p q = (p.number_is ∙ sym q.number_is, p.words_are ∙ sym q.words_are)

-- nor does one beside a lent room, or a room and a row
pub leaves_one : {answer room words : List ℕ} {r r' : ℕ} {k k' l l' : List ℕ} → Leaves answer room words r k l → Leaves answer room words r' k' l'
    → (r ≡ r') × (l ≡ l') × (k ≡ k')
leaves_one {r = r} {r' = r'} {l = l} {l' = l'} p q =
    let w : (r ≡ r') × (l ≡ l') = answered_one p.answers q.answers in
    (w.0, w.1, p.room_is ∙ sym q.room_is)

pub leaves_row_one : {answer room row words : List ℕ} {r r' : ℕ} {k k' m m' l l' : List ℕ} → LeavesRow answer room row words r k m l → LeavesRow answer room row words r' k' m' l'
    → (r ≡ r') × (l ≡ l') × (k ≡ k') × (m ≡ m')
leaves_row_one {r = r} {r' = r'} {l = l} {l' = l'} p q =
    let w : (r ≡ r') × (l ≡ l') = answered_one p.answers q.answers in
    (w.0, w.1, p.room_is ∙ sym q.room_is, p.row_is ∙ sym q.row_is)

module _ (κs : Lfts 1) (words : MutBor (List ℕ)) (l l' : List ℕ) where
  pub put_words_one : (answer : List ℕ) → put_words.Post κs (words, (answer, tt)) tt (at_last words l, (answer, tt))
      → put_words.Post κs (words, (answer, tt)) tt (at_last words l', (answer, tt))
      → l ≡ l'
  put_words_one answer p q = p ∙ sym q

  module _ (r r' : ℕ) where
    pub put_done_one : (a b c d : ℕ)
        → put_done.Post κs (words, (a, (b, (c, (d, tt))))) r (at_last words l, (a, (b, (c, (d, tt)))))
        → put_done.Post κs (words, (a, (b, (c, (d, tt))))) r' (at_last words l', (a, (b, (c, (d, tt)))))
        → (r ≡ r') × (l ≡ l')
    put_done_one a b c d p q = answered_one p q

    pub put_refusal_one : (n : Refused)
        → put_refusal.Post κs (words, (n, tt)) r (at_last words l, (n, tt))
        → put_refusal.Post κs (words, (n, tt)) r' (at_last words l', (n, tt))
        → (r ≡ r') × (l ≡ l')
    put_refusal_one n p q = answered_one p q

    pub put_laid_one : (a : Result ℕ Refused)
        → put_laid.Post κs (words, (a, tt)) r (at_last words l, (a, tt))
        → put_laid.Post κs (words, (a, tt)) r' (at_last words l', (a, tt))
        → (r ≡ r') × (l ≡ l')
    put_laid_one a p q = answered_one p q
