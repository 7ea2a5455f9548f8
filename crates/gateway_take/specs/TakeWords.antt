-- W-208 for a caller in C or Rust: what taking the frame at p answers, and what the lent words and the lent room then hold.
use Rattle.std.specs.Prelude.{ℕ, List, length}
use Rattle.dss_frame.specs.Reading.{read_at}
use Rattle.dss_frame.specs.declared.Rules.{Rules}
use Rattle.dss_take.specs.Take.{taken_of, room_read}
use Rattle.gateway_words.specs.AnswerWords.{Leaves}
use Rattle.gateway_measure.specs.MeasureWords.{measured_words}

abbrev pub TakesFrame : Rules → List ℕ → ℕ → List ℕ → List ℕ → ℕ → List ℕ → List ℕ → Type 0
TakesFrame rules s p room = Leaves (measured_words p (taken_of s p (length room) (read_at rules s p))) (room_read s room (read_at rules s p))
