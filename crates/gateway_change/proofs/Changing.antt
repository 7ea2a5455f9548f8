-- A call that changes a parameter and the laying of its answer, taken together: what was laid down or refused, and the words that say so.
use Rattle.std.specs.Prelude.{Result}
use Prim.Native.Nat.{ℕ}
use mathlib.Core.List.{List}
use Rattle.ddm_change.specs.Change.{Changes}
use Rattle.ddm_change.specs.Request.{ChangesRequest}
use Rattle.gateway_words.specs.AnswerWords.{laid_words, Answered}
use Rattle.gateway_change.specs.ChangeWords.{ChangesParam, ChangesFrame}
use Rattle.answer.specs.declared.Refused.{Refused}

module _ {cp : ℕ} {new room words : List ℕ} {r : ℕ} {room' words' : List ℕ} {a : Result ℕ Refused} where
  pub in_words : {d : List ℕ} → Changes d cp new room a room' → Answered (laid_words a) words r words' → ChangesParam d cp new room words r room' words'
  in_words p q = record { answers = rw (← p.answers) q; room_is = p.room_is }

  pub frame_in_words : {s : List ℕ} → ChangesRequest s cp new room a room' → Answered (laid_words a) words r words' → ChangesFrame s cp new room words r room' words'
  frame_in_words p q = record { answers = rw (← p.answers) q; room_is = p.room_is }
