-- Module 4, reading, for a caller in C or Rust: what the functions on lengths, objects and parameters answer in words, and what
-- lent rooms and work areas then hold.
use Rattle.std.specs.Prelude.{ℕ, suc, ◌-◌, ◌^◌, Bool, List, [], ◌∷◌, ℤ, pos, negsuc, length, drop, Result, Ok, Err}
use Rattle.wire.specs.Bytes.{pick}
use Rattle.ddm_object.specs.Objects.{parsed, parameters}
use Rattle.ddm_object.specs.ObjectCalls.{object_at, work_parsed, find_from, work_found}
use Rattle.ddm_object.specs.declared.DdmObject.{DdmObject}
use Rattle.gateway_words.specs.AnswerWords.{refusal_words, done_words, Leaves}
use Rattle.ddm_length.specs.declared.Marshaled.{Marshaled}
use Rattle.answer.specs.declared.Refused.{Refused}

-- ---- lengths and markers

-- what a length field says: the whole length, and the header's
abbrev pub length_words : Result Marshaled Refused → List ℕ
length_words (Ok m) = done_words m.total m.header 0 0
length_words (Err r) = refusal_words r

-- ---- objects and parameters

-- an answer yes or no: 1 or 0
abbrev pub flag_word : Bool → ℕ
flag_word b = pick b 1 0

-- an object, with a place beside the number 0: its code point; 1 where its data lie in the work area, 0 where in the run; where
-- they start there, how many bytes they are; how many bytes the object takes
abbrev pub placed_words : ℕ → DdmObject → List ℕ
placed_words place o = 0 ∷ place ∷ o.code_point ∷ flag_word o.in_work ∷ o.data_at ∷ o.data_len ∷ o.consumed ∷ 0 ∷ []

abbrev pub object_words : DdmObject → List ℕ
object_words = placed_words 0

abbrev pub found_words : Result DdmObject Refused → List ℕ
found_words (Ok o) = object_words o
found_words (Err r) = refusal_words r

-- one step of a walk over parameters: the parameter at a place, with the next place
abbrev pub step_words : Result (DdmObject × ℕ) Refused → List ℕ
step_words (Ok (o, next)) = placed_words next o
step_words (Err r) = refusal_words r

-- what the object at a place answers, and what the lent words and the lent work area then hold
abbrev pub ReadsObject : List ℕ → ℕ → List ℕ → List ℕ → ℕ → List ℕ → List ℕ → Type 0
ReadsObject s place work = Leaves (found_words (object_at s place (length work))) (work_parsed s place work (parsed (drop place s) place))

-- the same of the first parameter with a code point
abbrev pub ReadsParam : List ℕ → ℕ → List ℕ → List ℕ → ℕ → List ℕ → List ℕ → Type 0
ReadsParam s cp work = Leaves (found_words (find_from s 0 cp (length work) (parameters s))) (work_found s 0 cp work (parameters s))

-- ---- numbers read from data

-- a number as a word of 64 bits, by two's complement
abbrev pub word_of : ℤ → ℕ
word_of (pos n) = n
word_of (negsuc n) = 2 ^ 64 - suc n

-- a number that isn't negative
abbrev pub number_words : Result ℕ Refused → List ℕ
number_words (Ok n) = done_words n 0 0 0
number_words (Err r) = refusal_words r

abbrev pub u16_words : Result ℕ Refused → List ℕ
u16_words = number_words

abbrev pub u32_words : Result ℕ Refused → List ℕ
u32_words = number_words

abbrev pub i32_words : Result ℤ Refused → List ℕ
i32_words (Ok n) = done_words (word_of n) 0 0 0
i32_words (Err r) = refusal_words r
