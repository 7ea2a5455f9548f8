-- The rule "a frame is taken once a whole frame stands behind it", over the contracts of `next_frame` and `has_complete_frame`, and
-- over the records that the exported functions' contracts cite: the same call over a longer run has the same answer, and leaves the
-- same room.
use Rattle.std.specs.Prelude.{Result, Ok, Err}
use Prim.Native.Nat.{ℕ, ◌≤◌}
use native.Mathlib.Omega.{arith}
use mathlib.Core.Path.{◌≡◌, refl, sym, ap, subst, ◌∙◌}
use mathlib.Core.Logic.{◌⊎◌, inl, inr}
use mathlib.Core.Bool.{true}
use mathlib.Core.List.{List, ◌++◌}
use lib.Dec.{leb}
use lib.ListN.{length, get_or, take}
use borrow.Author.Tests.{eq-eqb}
use contract.Lifetimes.{Lfts}
use denote.Ref.{Bor, MutBor, at_last}
use Rattle.wire.specs.Bytes.{pick, laid}
use Rattle.wire.proofs.WireLaws.{picked}
use Rattle.answer.specs.Numbers.{number_of}
use Rattle.answer.specs.Rooms.{no_room}
use Rattle.answer.specs.declared.Refused.{Refused}
use Rattle.dss_frame.specs.declared.DssFrame.{DssFrame}
use Rattle.dss_frame.specs.declared.Rules.TheVariants.{Reader}
use Rattle.dss_frame.specs.Segments.{payload_of, end_of}
use Rattle.dss_frame.specs.Reading.{Read, frame, refused, Frame, read_at}
use Rattle.dss_frame.specs.FrameRecords.{frame_record}
use Rattle.dss_take.specs.Take.{room_read}
use Rattle.dss_reader.specs.Reader.{stands_at, left_at, frame_end, given_frame, NextFrame}
use Rattle.dss_reader.specs.declared.DssReader.{DssReader}
use Rattle.dss_reader.proofs.DssReader.has_complete_frame.Reads as has_complete_frame
use Rattle.dss_reader.proofs.DssReader.next_frame.Reads as next_frame
use Rattle.gateway_words.specs.AnswerWords.{Answered}
use Rattle.gateway_row.specs.RowWords.{frame_at}
use Rattle.gateway_row.proofs.RecordBack.{numbered}
use Rattle.gateway_reader.specs.ReaderWords.{end_words, frame_words, ReadsFrame}
use Rattle.demands.specs.Longer.{Complete, TakenStay}
use Rattle.demands.specs.Mending.{decided}
use Rattle.demands.proofs.LongerTaken.{complete, reader_taken_stay}
use Rattle.demands.proofs.KeptFrame.{answer_says}

-- a payload that is the same gives the same answer
given_same : (s s' : List ℕ) (p n : ℕ) (f : Frame) → payload_of s' f.segments ≡ payload_of s f.segments → given_frame s' p n (frame f) ≡ given_frame s p n (frame f)
given_same s s' p n f e =
    ap
    (λ (b : List ℕ). pick (leb (length b) n)
    (Ok (record { header = f.head; payload_at = 0; payload_len = length b; segments = length f.segments; at = p; end = end_of p f.segments }), stands_at (end_of p f.segments))
    (Err (no_room p (length b) 0), stands_at p))
    e

hands_refused : (d : DssFrame) (next at : DssReader) (r : Refused) → ◌≡◌ {A = Result DssFrame Refused × DssReader} (Err r, at) (Ok d, next) → ⊥
hands_refused d next at r e =
    let y : ◌≡◌ {A = Result DssFrame Refused} (Err r) (Ok d) = ap (λ (x : Result DssFrame Refused × DssReader). x.0) e in
    let z : ◌≡◌ {A = ℕ} 0 1 = cc in
    omega arith

hands_next : (d e : DssFrame) (at next : DssReader) → ◌≡◌ {A = Result DssFrame Refused × DssReader} (Ok e, at) (Ok d, next) → at ≡ next
hands_next d e at next k = ap (λ (x : Result DssFrame Refused × DssReader). x.1) k

-- where the reader stands behind the frame that it handed out
stands_behind : (s : List ℕ) (p n : ℕ) (f : Frame) (d : DssFrame) (next : DssReader) → given_frame s p n (frame f) ≡ (Ok d, next) → end_of p f.segments ≡ next.position
stands_behind s p n f d next e =
    picked (leb (length (payload_of s f.segments)) n) e
    (λ k j. ap (λ (x : DssReader). x.position) (hands_next d (frame_record s p 0 f) (stands_at (end_of p f.segments)) next j))
    (λ k j. absurd (hands_refused d next (stands_at p) _ j))

-- by any test that settles what stands before
pub taken_same : (test : Complete) → TakenStay (read_at Reader) test → (s t : List ℕ) (p : ℕ) (room : List ℕ) (d : DssFrame) (next : DssReader) (r r' : Result DssFrame Refused × DssReader) (after after' : List ℕ)
    → NextFrame s p room r after → r ≡ (Ok d, next) → test s next.position ≡ true → NextFrame (s ++ t) p room r' after' → (r' ≡ r) × (after' ≡ after)
taken_same test stay s t p room d next r r' after after' a h c b = go (read_at Reader s p) refl
  where
    go : (x : Read) → read_at Reader s p ≡ x → (r' ≡ r) × (after' ≡ after)
    go (refused x) e = absurd (hands_refused d next (left_at p x) x (sym (a.answers ∙ ap (given_frame s p (length room)) e) ∙ h))
    go (frame f) e =
        let n : ℕ = length room in
        let q : end_of p f.segments ≡ next.position = stands_behind s p n f d next (sym (a.answers ∙ ap (given_frame s p n) e) ∙ h) in
        let z = stay s t p f e (subst (λ (k : ℕ). test s k ≡ true) (sym q) c) in (
          b.answers ∙ ap (given_frame (s ++ t) p n) z.0 ∙ given_same s (s ++ t) p n f z.1 ∙ sym (a.answers ∙ ap (given_frame s p n) e),
          b.room_is ∙ ap (room_read (s ++ t) room) z.0 ∙ ap (laid room 0) z.1 ∙ sym (a.room_is ∙ ap (room_read s room) e),
        )

-- over the contracts themselves: a frame is handed out, a whole one stands behind it, and the first call is made again over a
-- run with more bytes and a room with the same ones
pub calls_same : (κs κs' : Lfts 2) (κs'' : Lfts 1) (reader next : DssReader) (run run' : Bor (List ℕ)) (room room' : MutBor (List ℕ)) (t : List ℕ) (d : DssFrame) (r' : Result DssFrame Refused × DssReader) (after after' : List ℕ)
    → run'.now ≡ run.now ++ t → room'.now ≡ room.now
    → next_frame.Post κs (reader, (run, (room, tt))) (Ok d, next) (reader, (run, (at_last room after, tt)))
    → has_complete_frame.Post κs'' (next, (run, tt)) true (next, (run, tt))
    → next_frame.Post κs' (reader, (run', (room', tt))) r' (reader, (run', (at_last room' after', tt)))
    → (r' ≡ (Ok d, next)) × (after' ≡ after)
calls_same κs κs' κs'' reader next run run' room room' t d r' after after' e k a c b =
    taken_same complete reader_taken_stay run.now t reader.position room.now d next (Ok d, next) r' after after' a refl (sym c)
    (subst (λ (s : List ℕ). NextFrame s reader.position room.now r' after') e (subst (λ (m : List ℕ). NextFrame run'.now reader.position m r' after') k b))

-- ---- for a caller in C or Rust

-- the answer of `has_frame`
pub has_whole : (s : List ℕ) (p : ℕ) → ◌≡◌ {A = ℕ} 1 (pick (complete s p) 1 0) → complete s p ≡ true
has_whole s p e = picked (complete s p) (sym e) (λ k j. k) (λ k j. absurd (omega arith))

-- the answer of `frame_end`
pub end_decided : (s : List ℕ) (p : ℕ) (words : List ℕ) (number : ℕ) (answer : List ℕ) → Answered (end_words (frame_end s p)) words number answer → (number ≡ 0) ⊎ (number ≡ 16)
    → decided (frame_end s p) ≡ true
end_decided s p words number answer a k = go (frame_end s p) a k
  where
    go : (x : Result ℕ Refused) → Answered (end_words x) words number answer → (number ≡ 0) ⊎ (number ≡ 16) → decided x ≡ true
    go (Ok e) b k = refl
    go (Err r) b (inl i) = absurd (omega (arith, numbered r.why, b.number_is))
    go (Err r) b (inr i) = eq-eqb (number_of r.why) 16 (sym b.number_is ∙ i)

module _ (test : Complete) (stay : TakenStay (read_at Reader) test) (s t : List ℕ) (p : ℕ) (room words words' : List ℕ) (k : 8 ≤ length words) (k' : 8 ≤ length words') (after answer : List ℕ) (number : ℕ) (after' answer' : List ℕ)
    (a : ReadsFrame s p room words 0 after answer) (c : test s (get_or (take 8 answer) 1 0) ≡ true) (b : ReadsFrame (s ++ t) p room words' number after' answer') where
  first_says : (x : Result DssFrame Refused × DssReader) → given_frame s p (length room) (read_at Reader s p) ≡ x → Answered (frame_words x) words 0 answer
  first_says x e = subst (λ (y : Result DssFrame Refused × DssReader). Answered (frame_words y) words 0 answer) e a.answers

  pub words_same : (number ≡ 0) × (take 8 answer' ≡ take 8 answer) × (after' ≡ after)
  words_same = go (given_frame s p (length room) (read_at Reader s p)) refl
    where
      go : (x : Result DssFrame Refused × DssReader) → given_frame s p (length room) (read_at Reader s p) ≡ x → (number ≡ 0) × (take 8 answer' ≡ take 8 answer) × (after' ≡ after)
      go (Err r, at) e = absurd (omega (arith, numbered r.why, (first_says (Err r, at) e).number_is))
      go (Ok d, next) e =
          let w : List ℕ = frame_at next.position d.at d in
          let said : take 8 answer ≡ w = answer_says refl k (first_says (Ok d, next) e) in
          let z =
          taken_same test stay s t p room d next (Ok d, next) (given_frame (s ++ t) p (length room) (read_at Reader (s ++ t) p)) after after'
          (record { answers = sym e; room_is = a.room_is }) refl (subst (λ (l : List ℕ). test s (get_or l 1 0) ≡ true) said c) (record { answers = refl; room_is = b.room_is }) in
          let n : Answered w words' number answer' = subst (λ (y : Result DssFrame Refused × DssReader). Answered (frame_words y) words' number answer') z.0 b.answers in
          (n.number_is, answer_says refl k' n ∙ sym said, z.1)
