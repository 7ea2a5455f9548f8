-- 16 over the contract of `next_frame`, and over the record that the exported function's contract cites: the same call over a longer
-- run, with any room, is refused alike, and reader and room stay as they were.
use Rattle.std.specs.Prelude.{Result, Ok, Err}
use Rattle.dss_frame.specs.FrameRecords.{frame_record}
use Prim.Native.Nat.{ℕ, ◌≤◌}
use native.Mathlib.Omega.{arith}
use mathlib.Core.Path.{◌≡◌, refl, sym, ap, subst, ◌∙◌}
use mathlib.Core.List.{List, ◌++◌}
use lib.Dec.{leb}
use lib.ListN.{length, take}
use borrow.Author.Tests.{leb-true, eq-eqb}
use contract.Lifetimes.{Lfts}
use denote.Ref.{Bor, MutBor, at_last}
use Rattle.wire.proofs.WireLaws.{picked, pick_yes}
use Rattle.answer.specs.Numbers.{number_of}
use Rattle.answer.specs.Rooms.{no_room}
use Rattle.answer.specs.declared.Refused.{Refused}
use Rattle.dss_frame.specs.declared.Rules.TheVariants.{Reader}
use Rattle.dss_frame.specs.Segments.{payload_of}
use Rattle.dss_frame.specs.Reading.{Read, frame, refused, read_at}
use Rattle.dss_take.specs.Take.{room_read}
use Rattle.dss_reader.specs.Reader.{stands_at, left_at, given_frame, NextFrame}
use Rattle.dss_reader.specs.declared.DssReader.{DssReader}
use Rattle.dss_reader.proofs.DssReader.next_frame.Reads as next_frame
use Rattle.gateway_words.specs.AnswerWords.{refusal_words, Answered}
use Rattle.gateway_reader.specs.ReaderWords.{frame_words, ReadsFrame}
use Rattle.demands.proofs.Longer.{same_refused}
use Rattle.demands.proofs.Mending.{stops_waiting}
use Rattle.demands.proofs.KeptFrame.{answer_says}
use Rattle.dss_frame.specs.declared.DssFrame.{DssFrame}

-- 16 is a refusal of the run's, inside it
module _ (s : List ℕ) (p n : ℕ) (why : Refused) (left : DssReader) (k : number_of why.why ≡ 16) where
  pub dead_read : (Err why, left) ≡ given_frame s p n (read_at Reader s p) → read_at Reader s p ≡ refused why
  dead_read e = go (read_at Reader s p) refl e
    where
      go : (x : Read) → read_at Reader s p ≡ x → (Err why, left) ≡ given_frame s p n x → read_at Reader s p ≡ refused why
      go (refused r) i j =
          let y : ◌≡◌ {A = Result DssFrame Refused} (Err why) (Err r) = ap (λ (z : Result DssFrame Refused × DssReader). z.0) j in
          let z : r ≡ why = cc in
          i ∙ ap refused z
      go (frame f) i j =
          picked (leb (length (payload_of s f.segments)) n) (sym j)
          (λ t m.
          let y : ◌≡◌ {A = Result DssFrame Refused} (Ok (frame_record s p 0 f)) (Err why) = ap (λ (z : Result DssFrame Refused × DssReader). z.0) m in
          let z : ◌≡◌ {A = ℕ} 0 1 = cc in
          absurd (omega arith))
          (λ t m.
          let w : ◌≡◌ {A = Result DssFrame Refused} (Err (no_room p (length (payload_of s f.segments)) 0)) (Err why) = ap (λ (z : Result DssFrame Refused × DssReader). z.0) m in
          let z : no_room p (length (payload_of s f.segments)) 0 ≡ why = cc in
          let y : 9 ≡ number_of why.why = ap (λ (x : Refused). number_of x.why) z in
          absurd (omega arith))

  dead_inside : read_at Reader s p ≡ refused why → p ≤ length s
  unfolding read_at
  dead_inside e =
      picked (leb p (length s)) e (λ t i. leb-true p (length s) t)
      (λ t i. let z : 10 ≡ number_of why.why = ap (λ (x : Refused). number_of x.why) (same_refused _ _ i) in absurd (omega arith))

  pub dead_still : left_at p why ≡ stands_at p
  dead_still = ap stands_at (pick_yes _ _ (eq-eqb (number_of why.why) 16 k))

  pub dead_longer : (t : List ℕ) → (Err why, left) ≡ given_frame s p n (read_at Reader s p) → read_at Reader (s ++ t) p ≡ refused why
  dead_longer t e = let i = dead_read e in ((stops_waiting Reader).never s t p why (dead_inside i) i k).0

pub dead_same : (s t : List ℕ) (p : ℕ) (room again : List ℕ) (why : Refused) (left : DssReader) (r : Result DssFrame Refused × DssReader) (after after' : List ℕ) → number_of why.why ≡ 16
    → NextFrame s p room (Err why, left) after → NextFrame (s ++ t) p again r after' → (left ≡ stands_at p) × (r ≡ (Err why, left)) × (after' ≡ again)
dead_same s t p room again why left r after after' k a b =
    let e = dead_longer s p (length room) why left k t a.answers in
    let x : ◌≡◌ {A = Result DssFrame Refused × DssReader} (Err why, left) (Err why, left_at p why) = a.answers ∙ ap (given_frame s p (length room)) (dead_read s p (length room) why left k a.answers) in
    let l : left ≡ left_at p why = ap (λ (z : Result DssFrame Refused × DssReader). z.1) x in
    (l ∙ dead_still s p (length room) why left k, b.answers ∙ ap (given_frame (s ++ t) p (length again)) e ∙ sym x, b.room_is ∙ ap (room_read (s ++ t) again) e)

-- over the contract itself
pub calls_dead : (κs κs' : Lfts 2) (reader left : DssReader) (run longer : Bor (List ℕ)) (room again : MutBor (List ℕ)) (t : List ℕ) (why : Refused) (r : Result DssFrame Refused × DssReader) (after after' : List ℕ)
    → longer.now ≡ run.now ++ t → number_of why.why ≡ 16
    → next_frame.Post κs (reader, (run, (room, tt))) (Err why, left) (reader, (run, (at_last room after, tt)))
    → next_frame.Post κs' (reader, (longer, (again, tt))) r (reader, (longer, (at_last again after', tt)))
    → (left ≡ stands_at reader.position) × (r ≡ (Err why, left)) × (after' ≡ again.now)
calls_dead κs κs' reader left run longer room again t why r after after' e k a b =
    dead_same run.now t reader.position room.now again.now why left r after after' k a
    (subst (λ (s : List ℕ). NextFrame s reader.position again.now r after') e b)

-- ---- for a caller in C or Rust

pub words_dead : (s t : List ℕ) (p : ℕ) (room again words words' : List ℕ) → 8 ≤ length words → 8 ≤ length words' → (after answer : List ℕ) (number : ℕ) (after' answer' : List ℕ)
    → ReadsFrame s p room words 16 after answer → ReadsFrame (s ++ t) p again words' number after' answer'
    → (number ≡ 16) × (take 8 answer' ≡ take 8 answer) × (after' ≡ again)
words_dead s t p room again words words' h h' after answer number after' answer' a b = go (given_frame s p (length room) (read_at Reader s p)) refl
  where
    first_says : (x : Result DssFrame Refused × DssReader) → given_frame s p (length room) (read_at Reader s p) ≡ x → Answered (frame_words x) words 16 answer
    first_says x e = subst (λ (y : Result DssFrame Refused × DssReader). Answered (frame_words y) words 16 answer) e a.answers

    go : (x : Result DssFrame Refused × DssReader) → given_frame s p (length room) (read_at Reader s p) ≡ x → (number ≡ 16) × (take 8 answer' ≡ take 8 answer) × (after' ≡ again)
    go (Ok d, next) e = absurd (omega (arith, (first_says (Ok d, next) e).number_is))
    go (Err y, left) e =
        let f = first_says (Err y, left) e in
        let k : number_of y.why ≡ 16 = sym f.number_is in
        let z =
        dead_same s t p room again y left (given_frame (s ++ t) p (length again) (read_at Reader (s ++ t) p)) after after' k
        (record { answers = sym e; room_is = a.room_is }) (record { answers = refl; room_is = b.room_is }) in
        let n : Answered (refusal_words y) words' number answer' = subst (λ (x : Result DssFrame Refused × DssReader). Answered (frame_words x) words' number answer') z.1 b.answers in
        (n.number_is ∙ k, answer_says refl h' n ∙ sym (answer_says refl h f), z.2)
