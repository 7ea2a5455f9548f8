-- Parameters added one after the other by the calls themselves, each answered 0: what was added, the builder's state or its fill mark,
-- and the room. The calls' contracts are named, and not written again.
use Rattle.std.specs.Prelude.{Result, Ok, Err}
use Prim.Native.Nat.{ℕ, ◌+◌, ◌-◌, ◌≤◌}
use native.Mathlib.Omega.{arith}
use mathlib.Core.Path.{◌≡◌, refl, sym, ap, subst, ◌∙◌}
use mathlib.Core.List.{List, [], ◌∷◌, ◌++◌}
use borrow.Author.Tests.{le-leb}
use lib.Dec.{leb}
use lib.ListN.{length, get_or}
use Rattle.wire.specs.Bytes.{two, last, splice}
use Rattle.wire.proofs.WireLaws.{picked, pick_yes}
use Rattle.wire.proofs.Splicing.{laid_fits}
use Rattle.answer.specs.Numbers.{number_of}
use Rattle.answer.specs.Rooms.{room_for}
use Rattle.answer.specs.declared.Refused.{Refused}
use Rattle.ddm_builder.specs.Built.{built}
use Rattle.ddm_builder.specs.Builder.{added_by, Adds, parameter16, parameter32}
use Rattle.ddm_builder.specs.declared.DdmBuilder.{DdmBuilder}
use Rattle.gateway_words.specs.AnswerWords.{Answered}
use Rattle.gateway_builder.specs.BuilderWords.{builder_of, adding, added_words, Appends}
use Rattle.demands_ddm.specs.ReadingBack.{Added, none, more}
use Rattle.demands_ddm.specs.ReadingWords.{AnswersNumber}
use Rattle.demands_ddm.proofs.Requests.{FilledRequest, added_filled}
use Rattle.demands_ddm.proofs.Said.{after_is, said_number}
use Rattle.demands_ddm.specs.Adding.{ByCalls, ByWords, no_call, call, call_u16, call_u32, no_word, word, word_u16, word_u32}

by_calls : {cp : ℕ} {start : List ℕ} {l : List (ℕ × List ℕ)} {b : DdmBuilder} {now : List ℕ} → ByCalls cp start l b now → Added cp start l b now
unfolding parameter32
by_calls no_call = none
by_calls (call {b = b} a κs c d room next after e p) = more (by_calls a) c d.now next after (subst (λ (x : List ℕ). Adds b (built c d.now) x (Ok next) after) e p)
by_calls (call_u16 {b = b} a κs c val room next after e p) = more (by_calls a) c (two val) next after (subst (λ (x : List ℕ). Adds b (parameter16 c val) x (Ok next) after) e p)
by_calls (call_u32 {b = b} a κs c val room next after e p) = more (by_calls a) c (last 4 val) next after (subst (λ (x : List ℕ). Adds b (parameter32 c val) x (Ok next) after) e p)

-- no room for a need is 9 or 10
refuses_some : (mark size need : ℕ) (r : Refused) → room_for mark size need ≡ Err r → 0 ≡ number_of r.why → ⊥
refuses_some mark size need r e z =
    picked (leb mark size) e
    (λ t k. picked (leb need (size - mark)) k (λ u j. let y : ◌≡◌ {A = ℕ} 0 1 = cc in omega arith) (λ u j. let y : ◌≡◌ {A = ℕ} 0 9 = cc in omega arith))
    (λ t k. let y : ◌≡◌ {A = ℕ} 0 10 = cc in omega arith)

-- an addition for which there is room is made
module _ (b : DdmBuilder) (bytes room : List ℕ) (h : b.fill + length bytes ≤ length room) where
  pub room_enough : room_for b.fill (length room) (length bytes) ≡ Ok tt
  room_enough = pick_yes _ _ (le-leb b.fill (length room) (omega arith)) ∙ pick_yes _ _ (le-leb (length bytes) (length room - b.fill) (omega arith))

  pub addition_made : (r : Result DdmBuilder Refused) (after : List ℕ) → Adds b bytes room r after
      → (r ≡ Ok (record { code_point = b.code_point; fill = b.fill + length bytes })) × (after ≡ splice room b.fill bytes)
  addition_made r after p = (p.answers ∙ ap (added_by b (length bytes)) room_enough, p.room_is ∙ laid_fits room b.fill bytes h)

  pub addition_said : (words : List ℕ) (r : ℕ) (after said : List ℕ) → 8 ≤ length words → Appends b bytes room words r after said
      → AnswersNumber (b.fill + length bytes) words r said × (after ≡ splice room b.fill bytes)
  addition_said words r after said k p = (
    said_number words r said k (b.fill + length bytes) (subst (λ (x : Result (Unit {0}) Refused). Answered (added_words (added_by b (length bytes) x)) words r said) room_enough p.answers),
    p.room_is ∙ laid_fits room b.fill bytes h,
  )

-- what one addition in words does
one_more : (cp fill : ℕ) (start : List ℕ) (l : List (ℕ × List ℕ)) (now : List ℕ) → Added cp start l (builder_of cp fill) now
    → (c : ℕ) (d words after said : List ℕ) → 8 ≤ length words → Appends (adding fill) (built c d) now words 0 after said
    → Added cp start (l ++ ((c, d) ∷ [])) (builder_of cp (get_or said 2 0)) after
one_more cp fill start l now a c d words after said h p = go (room_for fill (length now) (length (built c d))) refl p.answers
  where
    go : (x : Result (Unit {0}) Refused) → room_for fill (length now) (length (built c d)) ≡ x → Answered (added_words (added_by (adding fill) (length (built c d)) x)) words 0 said
        → Added cp start (l ++ ((c, d) ∷ [])) (builder_of cp (get_or said 2 0)) after
    go (Ok tt) e q =
        let k : fill + length (built c d) ≡ get_or said 2 0 = sym (ap (λ (y : List ℕ). get_or y 2 0) (after_is _ words 0 said refl h q)) in
        subst (λ (n : ℕ). Added cp start (l ++ ((c, d) ∷ [])) (builder_of cp n) after) k
        (more a c d (builder_of cp (fill + length (built c d))) after (record { answers = ap (added_by (builder_of cp fill) (length (built c d))) (sym e); room_is = p.room_is }))
    go (Err r) e q = absurd (refuses_some fill (length now) (length (built c d)) r e q.number_is)

by_words : (cp : ℕ) {start : List ℕ} {l : List (ℕ × List ℕ)} {fill : ℕ} {now : List ℕ} → ByWords start l fill now → Added cp start l (builder_of cp fill) now
unfolding parameter32
by_words cp no_word = none
by_words cp {start} (word {l = l} {fill = fill} {now = now} a κs c d room words after said e h p) =
    one_more cp fill start l now (by_words cp a) c d.now words.now after said h (subst (λ (x : List ℕ). Appends (adding fill) (built c d.now) x words.now 0 after said) e p)
by_words cp {start} (word_u16 {l = l} {fill = fill} {now = now} a κs c val room words after said e h p) =
    one_more cp fill start l now (by_words cp a) c (two val) words.now after said h (subst (λ (x : List ℕ). Appends (adding fill) (parameter16 c val) x words.now 0 after said) e p)
by_words cp {start} (word_u32 {l = l} {fill = fill} {now = now} a κs c val room words after said e h p) =
    one_more cp fill start l now (by_words cp a) c (last 4 val) words.now after said h (subst (λ (x : List ℕ). Appends (adding fill) (parameter32 c val) x words.now 0 after said) e p)

-- what the builder then has
pub calls_filled : {cp : ℕ} {start : List ℕ} {l : List (ℕ × List ℕ)} {b : DdmBuilder} {now : List ℕ} → ByCalls cp start l b now → FilledRequest cp l b now
calls_filled a = added_filled (by_calls a)

pub words_filled : (cp : ℕ) {start : List ℕ} {l : List (ℕ × List ℕ)} {fill : ℕ} {now : List ℕ} → ByWords start l fill now → FilledRequest cp l (builder_of cp fill) now
words_filled cp a = added_filled (by_words cp a)
