-- W-208: that measuring and taking belong together, of the definitions and over the records that the contracts cite.
use Rattle.std.specs.Prelude.{Result, Ok, Err}
use Prim.Native.Nat.{ℕ, ◌+◌, ◌≤◌}
use native.Mathlib.Omega.{arith}
use native.Mathlib.Decide.{dec_le}
use mathlib.Core.Path.{◌≡◌, refl, sym, ap, subst, ◌∙◌}
use mathlib.Core.Logic.{inl, inr}
use mathlib.Core.List.{List, []}
use lib.ListN.{length, get_or, take}
use borrow.Author.Tests.{lt-leb, ne_eqb}
use Rattle.wire.specs.Bytes.{splice}
use Rattle.wire.proofs.WireLaws.{pick_no}
use Rattle.wire.proofs.Splicing.{splice_written}
use Rattle.answer.specs.Numbers.{number_of}
use Rattle.answer.specs.Rooms.{no_room, out_of_bounds}
use Rattle.answer.specs.declared.Refused.{Refused}
use Rattle.dss_frame.specs.declared.Rules.{Rules}
use Rattle.dss_frame.specs.declared.Rules.TheVariants.{Reader, Salvage}
use Rattle.dss_frame.specs.Reading.{refused, read_at, position_left}
use Rattle.dss_measure.specs.declared.FrameMeasure.{FrameMeasure}
use Rattle.dss_measure.specs.Measure.{measured_at}
use Rattle.dss_measure.proofs.Measures.{measured_not}
use Rattle.dss_take.specs.Take.{taken_of, room_read, payload_at, Takes}
use Rattle.dss_measure.proofs.Measures.{measures}
use Rattle.dss_take.proofs.TakeAnswers.{takes_refusal, takes_size, takes_short, takes_frame}
use Rattle.dss_reader.specs.Reader.{given_frame, read_of, NextFrame}
use Rattle.dss_reader.proofs.TakingFrames.{next_is}
use Rattle.gateway_words.specs.AnswerWords.{Answered}
use Rattle.gateway_row.proofs.RecordBack.{numbered}
use Rattle.gateway_reader.specs.ReaderWords.{frame_words, ReadsFrame}
use Rattle.gateway_measure.specs.MeasureWords.{measured_words}
use Rattle.gateway_take.specs.TakeWords.{TakesFrame}
use Rattle.demands.specs.Longer.{Final}
use Rattle.demands.specs.MeasureTake.{TakenAs, MeasuresThenTakes, ByRunAlone, TakenInWords, ByRunAloneInWords}
use Rattle.demands.proofs.Longer.{refusals_stay}
use Rattle.demands.proofs.OwnHead.{own_head}
use Rattle.demands.proofs.KeptFrame.{answer_says}
use Rattle.dss_frame.specs.declared.DssFrame.{DssFrame}
use Rattle.dss_reader.specs.declared.DssReader.{DssReader}

pub gives_refuses : (m : FrameMeasure) (why : Refused) → Ok m ≡ Err why → ⊥
gives_refuses m why e = let z : ◌≡◌ {A = ℕ} 0 1 = cc in omega arith

pub gives_same : (m m' : FrameMeasure) → ◌≡◌ {A = Result FrameMeasure Refused} (Ok m) (Ok m') → m ≡ m'
gives_same m m' e = cc

-- ---- measuring gives all but 9

final_not_9 : (r : Refused) → Final r → number_of r.why ≡ 9 → ⊥
final_not_9 r (inl e) k = omega arith
final_not_9 r (inr (inl e)) k = omega arith
final_not_9 r (inr (inr (inl e))) k = omega arith
final_not_9 r (inr (inr (inr e))) k = omega arith

-- beyond the run it is 10
beyond_not_9 : (rules : Rules) (s : List ℕ) (p : ℕ) (r : Refused) → (p ≤ length s → ⊥) → read_at rules s p ≡ refused r → number_of r.why ≡ 9 → ⊥
unfolding read_at
beyond_not_9 rules s p r h e k =
    let z : refused (out_of_bounds p (length s)) ≡ refused r = sym (pick_no _ _ (lt-leb p (length s) (omega arith))) ∙ e in
    let y : out_of_bounds p (length s) ≡ r = cc in
    let n : 10 ≡ number_of r.why = ap (λ (x : Refused). number_of x.why) y in
    omega arith

pub never_9 : (rules : Rules) (s : List ℕ) (p : ℕ) (r : Refused) → measured_at rules s p ≡ Err r → number_of r.why ≡ 9 → ⊥
never_9 rules s p r m k =
    let e : read_at rules s p ≡ refused r = measured_not rules s p r m in
    elim (dec_le p (length s)) [
      | yes h ↦ final_not_9 r (refusals_stay rules s [] p r h e (λ n. omega arith)).0 k
      | no h ↦ beyond_not_9 rules s p r h e k
    ]

-- ---- taking, of what was measured

-- each case is a law of taking, whose contract allows one outcome
pub taken_as : (rules : Rules) (s : List ℕ) (p : ℕ) (room : List ℕ) (q r : Result FrameMeasure Refused) (after : List ℕ) → q ≡ measured_at rules s p → Takes rules s p room r after
    → TakenAs q (payload_at rules s p) p room r after
taken_as rules s p room q r after a w =
    record {
      refused = λ why e. one (takes_refusal rules s p room why (sym a ∙ e));
      counted = λ m e. sym (takes_size (measures rules s p m (sym a ∙ e)));
      enough = λ m e h. one (takes_frame (measures rules s p m (sym a ∙ e)) h refl);
      short = λ m e h. one (takes_short (measures rules s p m (sym a ∙ e)) h);
    }
  where
    one : {x : Result FrameMeasure Refused} {l : List ℕ} → Takes rules s p room x l → (r ≡ x) × (after ≡ l)
    one v = (w.answers ∙ sym v.answers, w.room_is ∙ sym v.room_is)

pub measures_then_takes : MeasuresThenTakes measured_at (λ rules s p room. taken_of s p (length room) (read_at rules s p)) (λ rules s p room. room_read s room (read_at rules s p))
measures_then_takes =
    record {
      all_but_9 = never_9;
      own_head = own_head;
      payload = payload_at;
      takes = λ rules s p room. taken_as rules s p room _ _ _ refl (record { answers = refl; room_is = refl });
    }

-- a room of the measured length isn't refused
pub not_refused : (rules : Rules) (s : List ℕ) (p : ℕ) (room : List ℕ) (m : FrameMeasure) (why : Refused) (after : List ℕ) → length room ≡ m.payload_len → Ok m ≡ measured_at rules s p
    → Takes rules s p room (Err why) after → ⊥
not_refused rules s p room m why after e a w = gives_refuses m why (sym ((taken_as rules s p room (Ok m) (Err why) after a w).enough m refl (omega arith)).0)

-- ---- two rooms

-- taking by its cases: refused as measuring was, done with what was measured, or 9; a refusal leaves the room
module _ {q : Result FrameMeasure Refused} {payload : List ℕ} {p : ℕ} {room : List ℕ} {r : Result FrameMeasure Refused} {after : List ℕ} (t : TakenAs q payload p room r after) where
  pub measured_first : {ℓ : Type 0} → ((why : Refused) → q ≡ Err why → r ≡ Err why → after ≡ room → ℓ)
      → ((m : FrameMeasure) → q ≡ Ok m → r ≡ Ok m → take m.payload_len after ≡ payload → ℓ)
      → ((m : FrameMeasure) → q ≡ Ok m → r ≡ Err (no_room p m.payload_len 0) → after ≡ room → ℓ)
      → ℓ
  measured_first {ℓ} none done short = go q refl
    where
      fits : (m : FrameMeasure) → q ≡ Ok m → m.payload_len ≤ length room → take m.payload_len after ≡ payload
      fits m e h =
          let z : m.payload_len ≡ 0 + length payload = omega (arith, t.counted m e) in
          ap (take m.payload_len) (t.enough m e h).1 ∙ ap (λ (n : ℕ). take n (splice room 0 payload)) z ∙ splice_written room 0 payload (omega arith)

      go : (x : Result FrameMeasure Refused) → q ≡ x → ℓ
      go (Err why) e = none why e (t.refused why e).0 (t.refused why e).1
      go (Ok m) e =
          elim (dec_le m.payload_len (length room)) [
            | yes h ↦ done m e (t.enough m e h).0 (fits m e h)
            | no h ↦ short m e (t.short m e (omega arith)).0 (t.short m e (omega arith)).1
          ]

pub takes_kept : (rules : Rules) (s : List ℕ) (p : ℕ) (room : List ℕ) (why : Refused) (after : List ℕ) → Takes rules s p room (Err why) after → after ≡ room
takes_kept rules s p room why after w =
    measured_first (taken_as rules s p room (measured_at rules s p) (Err why) after refl w) (λ y a b k. k) (λ m a b c. absurd (gives_refuses m why (sym b))) (λ m a b k. k)

refuses_same : (why why' : Refused) → ◌≡◌ {A = Result FrameMeasure Refused} (Err why) (Err why') → why ≡ why'
refuses_same why why' e = cc

module _ {q : Result FrameMeasure Refused} {payload : List ℕ} {p : ℕ} {room room' : List ℕ} {r r' : Result FrameMeasure Refused} {after after' : List ℕ} (t : TakenAs q payload p room r after) (t' : TakenAs q payload p room' r' after') where
  -- both are done
  same_done : (m m' : FrameMeasure) → r ≡ Ok m → r' ≡ Ok m' → (m ≡ m') × (take m.payload_len after ≡ take m.payload_len after')
  same_done m m' e e' =
      measured_first t (λ why a b o. absurd (gives_refuses m why (sym e ∙ b)))
      (λ n a b c. measured_first t' (λ why a' b' o. absurd (gives_refuses m' why (sym e' ∙ b')))
      (λ n' a' b' c'.
      let i : n ≡ m = gives_same n m (sym b ∙ e) in
      let j : n' ≡ m' = gives_same n' m' (sym b' ∙ e') in
      let k : n ≡ n' = gives_same n n' (sym a ∙ a') in (
        sym i ∙ k ∙ j,
        ap (λ (x : FrameMeasure). take x.payload_len after) (sym i) ∙ c ∙ sym c' ∙ ap (λ (x : FrameMeasure). take x.payload_len after') (sym k ∙ i),
      ))
      (λ n' a' b' o. absurd (gives_refuses m' _ (sym e' ∙ b'))))
      (λ n a b o. absurd (gives_refuses m _ (sym e ∙ b)))

  -- both are refused
  same_refused : (why why' : Refused) → r ≡ Err why → r' ≡ Err why' → why ≡ why'
  same_refused why why' e e' =
      measured_first t (λ y a b o. refuses_same why why' (sym e ∙ b ∙ sym (t'.refused y a).0 ∙ e')) (λ n a b c. absurd (gives_refuses n why (sym b ∙ e)))
      (λ n a b o. measured_first t' (λ y a' b' o. absurd (gives_refuses n y (sym a ∙ a'))) (λ n' a' b' c'. absurd (gives_refuses n' why' (sym b' ∙ e')))
      (λ n' a' b' o.
      let k : n ≡ n' = gives_same n n' (sym a ∙ a') in
      refuses_same why why' (sym e ∙ b ∙ ap (λ (x : FrameMeasure). Err (no_room p x.payload_len 0)) k ∙ sym b' ∙ e')))

  -- one is refused
  needs : (why : Refused) (m : FrameMeasure) → r ≡ Err why → r' ≡ Ok m → why ≡ no_room p m.payload_len 0
  needs why m e e' =
      measured_first t (λ y a b o. absurd (gives_refuses m y (sym e' ∙ (t'.refused y a).0))) (λ n a b c. absurd (gives_refuses n why (sym b ∙ e)))
      (λ n a b o. measured_first t' (λ y a' b' o. absurd (gives_refuses m y (sym e' ∙ b')))
      (λ n' a' b' c'.
      let k : n ≡ m = gives_same n m (sym a ∙ a' ∙ sym b' ∙ e') in
      refuses_same why _ (sym e ∙ b) ∙ ap (λ (x : FrameMeasure). no_room p x.payload_len 0) k)
      (λ n' a' b' o. absurd (gives_refuses m _ (sym e' ∙ b'))))

  pub by_run_alone : ByRunAlone p r after r' after'
  by_run_alone = record { done = same_done; refused = same_refused; need = needs }

pub runs_alone : (rules : Rules) (s : List ℕ) (p : ℕ) (room room' : List ℕ) (r r' : Result FrameMeasure Refused) (after after' : List ℕ) → Takes rules s p room r after → Takes rules s p room' r' after'
    → ByRunAlone p r after r' after'
runs_alone rules s p room room' r r' after after' w w' =
    by_run_alone (taken_as rules s p room (measured_at rules s p) r after refl w) (taken_as rules s p room' (measured_at rules s p) r' after' refl w')

-- ---- in words

says_eight : (p : ℕ) (q : Result FrameMeasure Refused) → length (measured_words p q) ≡ 8
says_eight p (Ok m) = refl
says_eight p (Err why) = refl

-- what the words of an answer say: 0 of a frame, another number of a refusal
module _ (p : ℕ) {words : List ℕ} {n : ℕ} {a : List ℕ} (h : 8 ≤ length words) where
  said : (q : Result FrameMeasure Refused) → Answered (measured_words p q) words n a → take 8 a ≡ measured_words p q
  said q w = answer_says (says_eight p q) h w

  said_as : (q x : Result FrameMeasure Refused) → q ≡ x → Answered (measured_words p q) words n a → Answered (measured_words p x) words n a
  said_as q x e w = subst (λ (y : Result FrameMeasure Refused). Answered (measured_words p y) words n a) e w

not_0 : (p : ℕ) (why : Refused) (words : List ℕ) (n : ℕ) (a : List ℕ) → Answered (measured_words p (Err why)) words n a → n ≡ 0 → ⊥
not_0 p why words n a w e = omega (arith, numbered why.why, w.number_is)

module _ (p : ℕ) {words words' : List ℕ} {n n' : ℕ} {a a' after : List ℕ} (h : 8 ≤ length words) (h' : 8 ≤ length words') where
  pub taken_in_words : {payload room : List ℕ} (q r : Result FrameMeasure Refused) → TakenAs q payload p room r after → Answered (measured_words p q) words n a → Answered (measured_words p r) words' n' a'
      → TakenInWords payload p n (take 8 a) room n' (take 8 a') after
  taken_in_words {payload} {room} (Err why) r t w w' =
      let x = t.refused why refl in
      let v : Answered (measured_words p (Err why)) words' n' a' = said_as p h' r (Err why) x.0 w' in
      record {
        refused = λ z. (v.number_is ∙ sym w.number_is, said p h' (Err why) v ∙ sym (said p h (Err why) w), x.1);
        counted = λ e. absurd (not_0 p why words n a w e);
        enough = λ e i. absurd (not_0 p why words n a w e);
        short = λ e i. absurd (not_0 p why words n a w e);
      }
  taken_in_words {payload} {room} (Ok m) r t w w' =
      let s : take 8 a ≡ measured_words p (Ok m) = said p h (Ok m) w in
      let k : get_or (take 8 a) 5 0 ≡ m.payload_len = ap (λ (l : List ℕ). get_or l 5 0) s in
      record {
        refused = λ z. absurd (z w.number_is);
        counted = λ e. t.counted m refl ∙ sym k;
        enough = λ e i.
            let x = t.enough m refl (omega arith) in
            let v : Answered (measured_words p (Ok m)) words' n' a' = said_as p h' r (Ok m) x.0 w' in
            (v.number_is, said p h' (Ok m) v ∙ sym s, x.1);
        short = λ e i.
            let x = t.short m refl (omega arith) in
            let y : Refused = no_room p m.payload_len 0 in
            let v : Answered (measured_words p (Err y)) words' n' a' = said_as p h' r (Err y) x.0 w' in
            (v.number_is, said p h' (Err y) v ∙ ap (λ (b : ℕ). measured_words p (Err (no_room p b 0))) (sym k), x.1);
      }

  pub by_run_in_words : {after' : List ℕ} (r r' : Result FrameMeasure Refused) → ByRunAlone p r after r' after' → Answered (measured_words p r) words n a → Answered (measured_words p r') words' n' a'
      → ByRunAloneInWords p n (take 8 a) after n' (take 8 a') after'
  by_run_in_words (Err why) (Err why') t w w' =
      let e : why ≡ why' = t.refused why why' refl refl in
      record {
        done = λ z z'. absurd (not_0 p why words n a w z);
        refused = λ z z'. (
          w.number_is ∙ ap (λ (y : Refused). number_of y.why) e ∙ sym w'.number_is,
          said p h (Err why) w ∙ ap (λ (y : Refused). measured_words p (Err y)) e ∙ sym (said p h' (Err why') w'),
        );
        need = λ z z'. absurd (not_0 p why' words' n' a' w' z');
      }
  by_run_in_words (Err why) (Ok m) t w w' =
      let k : get_or (take 8 a') 5 0 ≡ m.payload_len = ap (λ (l : List ℕ). get_or l 5 0) (said p h' (Ok m) w') in
      let e : why ≡ no_room p (get_or (take 8 a') 5 0) 0 = t.need why m refl refl ∙ ap (λ (b : ℕ). no_room p b 0) (sym k) in
      record {
        done = λ z z'. absurd (not_0 p why words n a w z);
        refused = λ z z'. absurd (z' w'.number_is);
        need = λ z z'. (
          w.number_is ∙ ap (λ (y : Refused). number_of y.why) e,
          said p h (Err why) w ∙ ap (λ (y : Refused). measured_words p (Err y)) e,
        );
      }
  by_run_in_words (Ok m) (Err why') t w w' =
      record {
        done = λ z z'. absurd (not_0 p why' words' n' a' w' z');
        refused = λ z z'. absurd (z w.number_is);
        need = λ z z'. absurd (z w.number_is);
      }
  by_run_in_words {after'} (Ok m) (Ok m') t w w' =
      let d = t.done m m' refl refl in
      let s : take 8 a ≡ measured_words p (Ok m) = said p h (Ok m) w in
      let k : get_or (take 8 a) 5 0 ≡ m.payload_len = ap (λ (l : List ℕ). get_or l 5 0) s in
      record {
        done = λ z z'. (
          s ∙ ap (λ (x : FrameMeasure). measured_words p (Ok x)) d.0 ∙ sym (said p h' (Ok m') w'),
          ap (λ (b : ℕ). take b after) k ∙ d.1 ∙ ap (λ (b : ℕ). take b after') (sym k),
        );
        refused = λ z z'. absurd (z w.number_is);
        need = λ z z'. absurd (z w.number_is);
      }

-- over what the contracts of the exported functions allow
module _ (rules : Rules) (s : List ℕ) (p : ℕ) where
  pub words_not_9 : (words : List ℕ) (n : ℕ) (a : List ℕ) → Answered (measured_words p (measured_at rules s p)) words n a → n ≡ 9 → ⊥
  words_not_9 words n a w k = go (measured_at rules s p) refl w
    where
      go : (q : Result FrameMeasure Refused) → measured_at rules s p ≡ q → Answered (measured_words p q) words n a → ⊥
      go (Ok m) e v = omega (arith, v.number_is)
      go (Err why) e v = never_9 rules s p why e (sym v.number_is ∙ k)

  -- under salvage's rules the place of every refusal but 16 is the position
  pub words_own : rules ≡ Salvage → (words : List ℕ) (n : ℕ) (a : List ℕ) → 8 ≤ length words → Answered (measured_words p (measured_at rules s p)) words n a → (n ≡ 0 → ⊥) → (n ≡ 16 → ⊥) → get_or (take 8 a) 1 0 ≡ p
  words_own i words n a h w z k = go (measured_at rules s p) refl w
    where
      go : (q : Result FrameMeasure Refused) → measured_at rules s p ≡ q → Answered (measured_words p q) words n a → get_or (take 8 a) 1 0 ≡ p
      go (Ok m) e v = absurd (z v.number_is)
      go (Err why) e v =
          let o : position_left p why ≡ p = own_head s p why (ap (λ (x : Rules). measured_at x s p) (sym i) ∙ e) in
          ap (λ (l : List ℕ). get_or l 1 0) (said p h (Err why) v) ∙ sym (pick_no _ _ (ne_eqb (number_of why.why) 16 (λ j. k (v.number_is ∙ j)))) ∙ o

  module _ (words words' room : List ℕ) where
    pub words_taken : (n : ℕ) (a : List ℕ) (n' : ℕ) (after a' : List ℕ) → 8 ≤ length words → 8 ≤ length words'
        → Answered (measured_words p (measured_at rules s p)) words n a → TakesFrame rules s p room words' n' after a'
        → TakenInWords (payload_at rules s p) p n (take 8 a) room n' (take 8 a') after
    words_taken n a n' after a' h h' w w' =
        taken_in_words p h h' (measured_at rules s p) (taken_of s p (length room) (read_at rules s p))
        (taken_as rules s p room _ _ after refl (record { answers = refl; room_is = w'.room_is })) w w'.answers

    pub words_alone : (room' : List ℕ) (n : ℕ) (after a : List ℕ) (n' : ℕ) (after' a' : List ℕ) → 8 ≤ length words → 8 ≤ length words'
        → TakesFrame rules s p room words n after a → TakesFrame rules s p room' words' n' after' a'
        → ByRunAloneInWords p n (take 8 a) after n' (take 8 a') after'
    words_alone room' n after a n' after' a' h h' w w' =
        by_run_in_words p h h' (taken_of s p (length room) (read_at rules s p)) (taken_of s p (length room') (read_at rules s p))
        (runs_alone rules s p room room' _ _ after after' (record { answers = refl; room_is = w.room_is }) (record { answers = refl; room_is = w'.room_is })) w.answers w'.answers

-- ---- `next_frame` is taking under the reader's rules

pub next_is_taken : (s : List ℕ) (p : ℕ) (room : List ℕ) (r : Result DssFrame Refused × DssReader) (after : List ℕ) (r' : Result FrameMeasure Refused) (after' : List ℕ) → NextFrame s p room r after → Takes Reader s p room r' after'
    → (r ≡ read_of p r') × (after ≡ after')
next_is_taken s p room r after r' after' a w = (a.answers ∙ sym (next_is s p room r' r' after' w refl).answers, a.room_is ∙ sym w.room_is)

-- and its words are the same
read_words : (p : ℕ) (r : Result FrameMeasure Refused) → frame_words (read_of p r) ≡ measured_words p r
read_words p (Ok m) = refl
read_words p (Err why) = refl

pub next_words_taken : (s : List ℕ) (p : ℕ) (room words : List ℕ) (n : ℕ) (after a : List ℕ) (n' : ℕ) (after' a' : List ℕ) → ReadsFrame s p room words n after a → TakesFrame Reader s p room words n' after' a'
    → (n ≡ n') × (a ≡ a') × (after ≡ after')
next_words_taken s p room words n after a n' after' a' x y =
    let r : Result FrameMeasure Refused = taken_of s p (length room) (read_at Reader s p) in
    let e : given_frame s p (length room) (read_at Reader s p) ≡ read_of p r = (next_is_taken s p room _ _ r _ (record { answers = refl; room_is = refl }) (record { answers = refl; room_is = refl })).0 in
    let w : Answered (measured_words p r) words n a = subst (λ (l : List ℕ). Answered l words n a) (ap frame_words e ∙ read_words p r) x.answers in
    (w.number_is ∙ sym y.answers.number_is, w.words_are ∙ sym y.answers.words_are, x.room_is ∙ sym y.room_is)
