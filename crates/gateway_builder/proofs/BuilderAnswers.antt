-- A call of the builder and the laying of its answer, taken together: what was laid down or refused, and the words that say so.
use Rattle.std.specs.Prelude.{Result}
use Prim.Native.Nat.{ℕ}
use mathlib.Core.List.{List}
use Rattle.answer.specs.Rooms.{Lays as LaysBytes}
use Rattle.ddm_builder.specs.Builder.{Adds, Builds}
use Rattle.ddm_builder.specs.declared.DdmBuilder.{DdmBuilder}
use Rattle.gateway_words.specs.AnswerWords.{laid_words, Answered, LaysInWords}
use Rattle.gateway_builder.specs.BuilderWords.{added_words, Appends, Makes}
use Rattle.answer.specs.declared.Refused.{Refused}

module _ {room words : List ℕ} {r : ℕ} {room' words' : List ℕ} where
  pub appends : {b : DdmBuilder} {bytes : List ℕ} {a : Result DdmBuilder Refused} → Adds b bytes room a room' → Answered (added_words a) words r words'
      → Appends b bytes room words r room' words'
  appends p q = record { answers = rw (← p.answers) q; room_is = p.room_is }

  pub makes : {b : DdmBuilder} {content : List ℕ} {a : Result ℕ Refused} → Builds b content room a room' → Answered (laid_words a) words r words'
      → Makes b content room words r room' words'
  makes p q = record { answers = rw (← p.answers) q; room_is = p.room_is }

  pub lays : {bytes : List ℕ} {a : Result ℕ Refused} → LaysBytes bytes room a room' → Answered (laid_words a) words r words' → LaysInWords bytes room words r room' words'
  lays p q = record { answers = rw (← p.answers) q; room_is = p.room_is }
