-- The four-type readings over the calls' own contracts: what a call answers is what four types give, or these refuse a type 5.
use Rattle.std.specs.Prelude.{Result, Err}
use Prim.Native.Nat.{ℕ, ◌%◌}
use mathlib.Core.Path.{◌≡◌, sym, subst, ◌∙◌}
use mathlib.Core.Logic.{◌⊎◌, inl, inr}
use mathlib.Core.List.{List}
use contract.Lifetimes.{Lfts}
use denote.Ref.{Bor}
use Rattle.answer.specs.declared.Refused.{Refused}
use Rattle.dss_head.proofs.DssType.from_byte.Reads as from_byte
use Rattle.dss_head.proofs.DssHeader.parse.Reads as parse
use Rattle.dss_frame.specs.Reading.{Read, refused, read_at}
use Rattle.dss_frame.specs.Frames.{AllRead, refused_all, all_frames}
use Rattle.dss_frame.specs.declared.Rules.TheVariants.{Reader}
use Rattle.dss_reader.specs.Reader.{NextFrame}
use Rattle.gateway_reader.specs.ReaderWords.{ReadsFrame}
use Rattle.gateway_frames.specs.FramesWords.{ReadsAllFrames}
use Rattle.demands.specs.FourTypes.{four_types, four_heads, read_by, all_by, FiveRefused, SameOrFive}
use Rattle.demands.proofs.FourTypes.{types_as_four, heads_as_four, reads_as_four, all_as_four}
use Rattle.demands.specs.KeptMeaning.{AnsweredAs, AnsweredInWordsAs, AllAnsweredInWordsAs}
use Rattle.dss_frame.specs.declared.DssFrame.{DssFrame}
use Rattle.dss_head.specs.declared.DssHeader.{DssHeader}
use Rattle.dss_reader.specs.declared.DssReader.{DssReader}
use Rattle.dss_head.specs.declared.DssType.{DssType}

pub from_byte_four : (κs : Lfts 0) (b : ℕ) (r : Result DssType Refused) → (b % 16 ≡ 5 → ⊥) → from_byte.Post κs (b, tt) r (b, tt) → r ≡ four_types b 0
from_byte_four κs b r h p = p ∙ types_as_four b 0 h

pub parse_four : (κs : Lfts 1) (bytes : Bor (List ℕ)) (r : Result DssHeader Refused) → parse.Post κs (bytes, tt) r (bytes, tt) → SameOrFive bytes.now Err r (four_heads bytes.now 0)
parse_four κs bytes r p = subst (λ (x : Result DssHeader Refused). SameOrFive bytes.now Err x (four_heads bytes.now 0)) (sym p) (heads_as_four bytes.now 0)

-- what holds of what is read holds of what four types give, or these refuse a type 5
or_five : {A : Type 0} (s : List ℕ) (refusal : Refused → A) (ours four : A) (P : A → Type 0) → SameOrFive s refusal ours four → P ours → P four ⊎ FiveRefused s refusal four
or_five s refusal ours four P (inl e) x = inl (subst P e x)
or_five s refusal ours four P (inr f) x = inr f

pub next_frame_four : (s : List ℕ) (p : ℕ) (room : List ℕ) (r : Result DssFrame Refused × DssReader) (after : List ℕ) → NextFrame s p room r after
    → AnsweredAs s p room (read_by four_heads s p) r after ⊎ FiveRefused s refused (read_by four_heads s p)
next_frame_four s p room r after x =
    or_five s refused (read_at Reader s p) (read_by four_heads s p) (λ (read : Read). AnsweredAs s p room read r after) (reads_as_four s p)
    (record { answer_is = x.answers; room_is = x.room_is })

pub words_four : (s : List ℕ) (p : ℕ) (room words : List ℕ) (number : ℕ) (after answer : List ℕ) → ReadsFrame s p room words number after answer
    → AnsweredInWordsAs s p room words (read_by four_heads s p) number after answer ⊎ FiveRefused s refused (read_by four_heads s p)
words_four s p room words number after answer x =
    or_five s refused (read_at Reader s p) (read_by four_heads s p) (λ (read : Read). AnsweredInWordsAs s p room words read number after answer) (reads_as_four s p)
    (record { answer_is = x.answers; room_is = x.room_is })

pub all_words_four : (s : List ℕ) (p : ℕ) (room row words : List ℕ) (number : ℕ) (room_after row_after answer : List ℕ) → ReadsAllFrames s p room row words number room_after row_after answer
    → AllAnsweredInWordsAs s p room row words (all_by four_heads s p) number room_after row_after answer ⊎ FiveRefused s refused_all (all_by four_heads s p)
all_words_four s p room row words number room_after row_after answer x =
    or_five s refused_all (all_frames s p) (all_by four_heads s p) (λ (read : AllRead). AllAnsweredInWordsAs s p room row words read number room_after row_after answer) (all_as_four s p)
    (record { answer_is = x.answers; room_is = x.room_is; row_is = x.row_is })
