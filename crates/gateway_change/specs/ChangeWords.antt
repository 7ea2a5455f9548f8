-- What the calls that change one parameter answer in words, and leave in the lent room.
use Rattle.std.specs.Prelude.{ℕ, List, length}
use Rattle.ddm_change.specs.Change.{change_of, change_answer, change_room}
use Rattle.ddm_change.specs.Request.{request_of, request_answer, request_room}
use Rattle.gateway_words.specs.AnswerWords.{laid_words, Leaves}

abbrev pub ChangesParam : List ℕ → ℕ → List ℕ → List ℕ → List ℕ → ℕ → List ℕ → List ℕ → Type 0
ChangesParam d cp new room = Leaves (laid_words (change_answer (change_of d cp new) (length room))) (change_room (change_of d cp new) room)

abbrev pub ChangesFrame : List ℕ → ℕ → List ℕ → List ℕ → List ℕ → ℕ → List ℕ → List ℕ → Type 0
ChangesFrame s cp new room = Leaves (laid_words (request_answer (request_of s cp new) (length room))) (request_room (request_of s cp new) room)
