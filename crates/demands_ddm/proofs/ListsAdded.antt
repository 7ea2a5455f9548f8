-- Any list is added, parameter by parameter, in a room that has room for it: by the calls, and by those exported.
use Rattle.std.specs.Prelude.{Result}
use Prim.Native.Nat.{ℕ, ◌+◌, ◌≤◌}
use native.Mathlib.Omega.{arith}
use mathlib.Core.Path.{◌≡◌, refl, sym, ap, subst, subst₂, ◌∙◌}
use mathlib.Core.List.{List, [], ◌∷◌, ◌++◌, append_assoc, append-nil}
use lib.ListN.{length, get_or, replicate, length-append}
use contract.Lifetimes.{Lfts}
use denote.Ref.{Bor, MutBor}
use Rattle.wire.specs.Bytes.{splice, laid}
use Rattle.wire.proofs.Splicing.{splice_none, splice_length, splice_splice, laid_fits}
use Rattle.ddm_builder.specs.Built.{built, built_all}
use Rattle.ddm_builder.specs.Builder.{added_by}
use Rattle.gateway_words.specs.AnswerWords.{done_words}
use Rattle.gateway_builder.specs.BuilderWords.{builder_of, adding, added_words}
use Rattle.demands_ddm.specs.Adding.{ByCalls, ByWords, no_call, call, no_word, word}
use Rattle.demands_ddm.proofs.Requests.{joined_append}
use Rattle.demands_ddm.proofs.Adding.{room_enough}
use Rattle.answer.specs.declared.Refused.{Refused}

-- a slice that holds these, wherever it stands
unfoldable pub lent : List ℕ → Bor (List ℕ)
lent l = record { ref_ptr = (0, 0); now = l }

-- the same, lent to be written
unfoldable pub lent_room : List ℕ → MutBor (List ℕ)
lent_room l = record { ref_ptr = (0, 0); ghost_name = 0; now = l }

-- However one parameter is added: the fill mark and the room after a list.
module _ (Made : List (ℕ × List ℕ) → ℕ → List ℕ → Type 0) (start : List ℕ) (nothing : Made [] 0 start)
    (one : (l : List (ℕ × List ℕ)) (fill : ℕ) (now : List ℕ) (c : ℕ) (d : List ℕ) → fill + length (built c d) ≤ length now → Made l fill now
    → Made (l ++ ((c, d) ∷ [])) (fill + length (built c d)) (splice now fill (built c d))) where
  abbrev After : List (ℕ × List ℕ) → Type 0
  After l = Made l (length (built_all l)) (splice start 0 (built_all l))

  next : (l : List (ℕ × List ℕ)) (c : ℕ) (d : List ℕ) → length (built_all (l ++ ((c, d) ∷ []))) ≤ length start → After l → After (l ++ ((c, d) ∷ []))
  next l c d h a =
      let b : List ℕ = built_all l in
      let p : List ℕ = built c d in
      let e : built_all (l ++ ((c, d) ∷ [])) ≡ b ++ p = joined_append l ((c, d) ∷ []) ∙ ap (λ (y : List ℕ). b ++ y) (append-nil p) in
      let n : length (built_all (l ++ ((c, d) ∷ []))) ≡ length b + length p = ap length e ∙ length-append b p in
      let z : length b ≡ 0 + length b = omega arith in
      subst₂ (λ (k : ℕ) (y : List ℕ). Made (l ++ ((c, d) ∷ [])) k y) (sym n)
      (ap (λ (k : ℕ). splice (splice start 0 b) k p) z ∙ splice_splice start 0 b p (omega arith) ∙ ap (splice start 0) (sym e))
      (one l (length b) (splice start 0 b) c d (omega (arith, splice_length start 0 b (omega arith))) a)

  more : (l m : List (ℕ × List ℕ)) → length (built_all (l ++ m)) ≤ length start → After l → After (l ++ m)
  more l [] h a = subst After (sym (append-nil l)) a
  more l ((c, d) ∷ m) h a =
      let k : List (ℕ × List ℕ) = l ++ ((c, d) ∷ []) in
      let e : k ++ m ≡ l ++ ((c, d) ∷ m) = append_assoc l ((c, d) ∷ []) m in
      let n : length (built_all (k ++ m)) ≤ length start = omega (arith, ap (λ (y : List (ℕ × List ℕ)). length (built_all y)) e) in
      subst After e (more k m n (next l c d (omega (arith, ap length (joined_append k m), length-append (built_all k) (built_all m))) a))

  all_made : (l : List (ℕ × List ℕ)) → length (built_all l) ≤ length start → After l
  all_made l h = more [] l h (subst (Made [] 0) (sym (splice_none start 0)) nothing)

pub added_by_calls : (κs : Lfts 2) (cp : ℕ) (start : List ℕ) (l : List (ℕ × List ℕ)) → length (built_all l) ≤ length start
    → ByCalls cp start l (builder_of cp (length (built_all l))) (splice start 0 (built_all l))
unfolding lent lent_room
added_by_calls κs cp start =
    all_made (λ l fill now. ByCalls cp start l (builder_of cp fill) now) start no_call
    (λ l fill now c d h a.
    let p : List ℕ = built c d in
    call a κs c (lent d) (lent_room now) (builder_of cp (fill + length p)) (splice now fill p) refl
    (record { answers = sym (ap (added_by (builder_of cp fill) (length p)) (room_enough (builder_of cp fill) p now h)); room_is = sym (laid_fits now fill p h) }))

-- eight words
unfoldable pub zeros : List ℕ
zeros = replicate 8 0

pub added_in_words : (κs : Lfts 3) (start : List ℕ) (l : List (ℕ × List ℕ)) → length (built_all l) ≤ length start → ByWords start l (length (built_all l)) (splice start 0 (built_all l))
unfolding lent lent_room zeros laid splice
added_in_words κs start =
    all_made (λ l fill now. ByWords start l fill now) start no_word
    (λ l fill now c d h a.
    let p : List ℕ = built c d in
    let e = sym (room_enough (adding fill) p now h) in
    word a κs c (lent d) (lent_room now) (lent_room zeros) (splice now fill p) (done_words (fill + length p) 0 0 0) refl (omega arith)
    (record {
      answers = record {
        number_is = ap (λ (x : Result (Unit {0}) Refused). get_or (added_words (added_by (adding fill) (length p) x)) 0 0) e;
        words_are = ap (λ (x : Result (Unit {0}) Refused). laid zeros 0 (added_words (added_by (adding fill) (length p) x))) e;
      };
      room_is = sym (laid_fits now fill p h);
    }))
