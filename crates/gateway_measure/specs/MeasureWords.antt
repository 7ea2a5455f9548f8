-- W-208 for a caller in C or Rust: which rules a number says, and a frame that was measured, or taken, in words.
use Rattle.std.specs.Prelude.{ℕ, List, eqb, Result, Ok, Err}
use Rattle.wire.specs.Bytes.{pick}
use Rattle.dss_frame.specs.declared.Rules.{Rules}
use Rattle.dss_frame.specs.declared.Rules.TheVariants.{Reader, Salvage}
use Rattle.dss_measure.specs.Measure.{measured_record}
use Rattle.gateway_words.specs.AnswerWords.{refusal_words}
use Rattle.gateway_row.specs.RowWords.{frame_at}
use Rattle.dss_measure.specs.declared.FrameMeasure.{FrameMeasure}
use Rattle.answer.specs.declared.Refused.{Refused}

-- "Both are told which rules hold, the reader's or salvage's": by a number, 0 the reader's, any other salvage's
abbrev pub rules_of : ℕ → Rules
rules_of n = pick (eqb n 0) Reader Salvage

-- "head, payload length, segments, position after", of the frame at p: the words that reading it has
abbrev pub measured_words : ℕ → Result FrameMeasure Refused → List ℕ
measured_words p (Ok m) = frame_at m.end p (measured_record p 0 m)
measured_words p (Err r) = refusal_words r
