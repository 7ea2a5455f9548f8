-- Two lists, two byte strings: the walk over what was built, and what equal bytes say of the lists.
use Rattle.std.specs.Prelude.{Result, Ok, Err}
use Prim.Native.Nat.{ℕ, ◌+◌, ◌≤◌}
use native.Mathlib.Omega.{arith}
use mathlib.Core.Logic.{◌↔◌}
use mathlib.Core.Path.{◌≡◌, refl, sym, ap, ap₂, subst, ◌∙◌}
use mathlib.Core.List.{List, [], ◌∷◌}
use borrow.Author.Tests.{le-leb, leb-true}
use lib.Dec.{leb}
use lib.ListN.{length, get_or, take, drop, length-append}
use lib.Seq.{take_at}
use Rattle.wire.proofs.WireLaws.{picked, pick_yes}
use Rattle.wire.proofs.Places.{here_next}
use Rattle.layouts.specs.DdmLayout.{Ddm}
use Rattle.ddm_length.specs.Lengths.{measured}
use Rattle.ddm_builder.specs.Built.{built, built_all, Fit}
use Rattle.ddm_builder.specs.Builder.{builder_object, Builds}
use Rattle.ddm_builder.specs.declared.DdmBuilder.{DdmBuilder}
use Rattle.ddm_builder.proofs.BuiltForms.{length_built}
use Rattle.ddm_object.specs.Objects.{parsed, parameters}
use Rattle.ddm_object.specs.ObjectCalls.{end_at, param_step_at}
use Rattle.ddm_object.proofs.ObjectReads.{made}
use Rattle.ddm_object.proofs.FindingParams.{step_is, step_end}
use Rattle.ddm_object.specs.declared.DdmObject.{DdmObject}
use Rattle.ddm_laws.proofs.LayoutLaws.{built_ddm, ddm_fixes, parse_back}
use Rattle.ddm_laws.proofs.BuiltLists.{pairs_map, parameters_pairs, joined_injective}
use Rattle.gateway_words.specs.AnswerWords.{Answered, laid_words}
use Rattle.gateway_object.specs.ObjectWords.{step_words}
use Rattle.gateway_builder.specs.BuilderWords.{Makes, made_laid}
use Rattle.demands_ddm.specs.DdmLayouts.{FitsWidth}
use Rattle.demands_ddm.specs.ReadingBack.{plain, data_of, built_header}
use Rattle.demands_ddm.specs.ReadingWords.{SaysInWords, AnswersObject, AnswersNone}
use Rattle.demands_ddm.specs.TwoLists.{StepGives, WalkGives, ended, given, TwoLists}
use Rattle.demands_ddm.proofs.LayoutRead.{built_record}
use Rattle.demands_ddm.proofs.Requests.{FilledRequest}
use Rattle.demands_ddm.proofs.Said.{after_is}
use Rattle.demands_ddm.proofs.Back.{whole_of}
use Rattle.answer.specs.declared.Refused.{Refused}

-- ---- the walk

-- A walk is as good as its steps: where each step of one is a step of the other, that gives the list, too.
pub walk_mono {ℓ ℓ'} : {gives : ℕ → ℕ → List ℕ → ℕ → Type ℓ} {ends : ℕ → Type ℓ} {gives' : ℕ → ℕ → List ℕ → ℕ → Type ℓ'} {ends' : ℕ → Type ℓ'}
    → ((at cp : ℕ) (d : List ℕ) (next : ℕ) → gives at cp d next → gives' at cp d next) → ((at : ℕ) → ends at → ends' at)
    → {at to : ℕ} {l : List (ℕ × List ℕ)} → WalkGives gives ends at l to → WalkGives gives' ends' at l to
walk_mono g e (ended x) = ended (e _ x)
walk_mono g e (given x w) = given (g _ _ _ _ x) (walk_mono g e w)

-- a step over a parameter that was built, with its record
abbrev Steps : List ℕ → ℕ → ℕ → List ℕ → ℕ → Type 0
Steps s at cp d next = (param_step_at s at ≡ Ok (plain at cp (built_header d) (length d), next)) × (data_of s (plain at cp (built_header d) (length d)) ≡ d)

abbrev Ends : List ℕ → ℕ → Type 0
Ends s at = param_step_at s at ≡ Err (end_at at)

nothing_left : (s : List ℕ) (at : ℕ) → at ≤ length s → drop at s ≡ [] → Ends s at
unfolding parsed measured
nothing_left s at h here = step_end s at _ h (ap (λ (b : List ℕ). parsed b at) here)

walk_from : (s : List ℕ) (at : ℕ) (l : List (ℕ × List ℕ)) → Fit l → drop at s ≡ built_all l → at + length (built_all l) ≡ length s
    → WalkGives (Steps s) (Ends s) at l (length s)
walk_from s at [] g here e = subst (λ (to : ℕ). WalkGives (Steps s) (Ends s) at [] to) (let z : at ≡ length s = omega arith in z) (ended (nothing_left s at (omega arith) here))
walk_from s at (x ∷ l) g here e =
    let cp : ℕ = x.0 in
    let d : List ℕ = x.1 in
    let n : ℕ = length (built cp d) in
    let r = built_record cp d g.0 g.1 s (built_all l) at here in
    let there = ap (λ (b : List ℕ). parsed b at) here ∙ parse_back cp d g.0 g.1 (built_all l) at in
    given (step_is s at (made cp d n) there ∙ ap (λ (o : DdmObject). Ok (o, at + n)) r.0, r.1)
    (walk_from s (at + n) l g.2 (here_next s (built cp d) (built_all l) at (at + n) here refl) (omega (arith, length-append (built cp d) (built_all l))))

-- over all that was built
pub built_walked : (l : List (ℕ × List ℕ)) → Fit l → WalkGives (Steps (built_all l)) (Ends (built_all l)) 0 l (length (built_all l))
built_walked l g = walk_from (built_all l) 0 l g refl (omega arith)

pub step_gives : (s : List ℕ) (at cp : ℕ) (d : List ℕ) (next : ℕ) → Steps s at cp d next → StepGives s cp d next (param_step_at s at)
step_gives s at cp d next x = record { of = plain at cp (built_header d) (length d); is = x.0; code_point = refl; in_run = refl; data_is = x.1 }

pub two_lists : TwoLists built_all parameters param_step_at
two_lists = record {
  gives_back = λ l g. pairs_map (parameters (built_all l)) ∙ parameters_pairs l g;
  ends_there = λ l g. walk_mono (step_gives (built_all l)) (λ at x. x) (built_walked l g);
  same_list = joined_injective;
}

-- ---- in words

module _ (s : List ℕ) (at : ℕ) (words : List ℕ) (r : ℕ) (said : List ℕ) (h : 8 ≤ length words) (a : Answered (step_words (param_step_at s at)) words r said) where
  pub step_said : (cp : ℕ) (d : List ℕ) (next : ℕ) → Steps s at cp d next → AnswersObject cp d s (length (built cp d)) [] words r [] said × (get_or said 1 0 ≡ next)
  step_said cp d next x =
      let b = subst (λ (y : Result (DdmObject × ℕ) Refused). Answered (step_words y) words r said) x.0 a in
      let w = after_is _ words r said refl h b in (
        record {
          done = b.number_is;
          says = subst (SaysInWords cp d s (length (built cp d))) (sym w)
              (record { number = refl; code_point = refl; in_run = refl; data_is = x.1; data_length = refl; takes_so_many = sym (length_built cp d) });
          behind = ap (drop 8) w;
          work_is = refl;
        },
        ap (λ (y : List ℕ). get_or y 1 0) w,
      )

  pub end_said : Ends s at → AnswersNone [] words r [] said × (get_or said 1 0 ≡ at)
  end_said x =
      let b = subst (λ (y : Result (DdmObject × ℕ) Refused). Answered (step_words y) words r said) x a in
      let w = after_is _ words r said refl h b in
      (record { none = b.number_is; number = ap (λ (y : List ℕ). get_or y 0 0) w; behind = ap (drop 8) w; work_is = refl }, ap (λ (y : List ℕ). get_or y 1 0) w)

-- ---- equal bytes

-- the object that a builder lays down, answered 0: how many bytes, and these
module _ (cp : ℕ) (l : List (ℕ × List ℕ)) (b : DdmBuilder) (content : List ℕ) (f : FilledRequest cp l b content) (room after : List ℕ) where
  abbrev bytes : List ℕ
  bytes = builder_object b content

  pub object_laid : (n : ℕ) → Builds b content room (Ok n) after → take n after ≡ built cp (built_all l)
  object_laid n p =
      let inside = le-leb b.fill (length content) f.inside in
      picked (leb (length bytes) (length room)) (sym (p.answers ∙ pick_yes _ _ inside))
      (λ t e.
      let same : length bytes ≡ n = cc in
      let w = whole_of bytes room after (leb-true (length bytes) (length room) t) (p.room_is ∙ pick_yes _ _ inside) in
      ap (take n) w ∙ take_at bytes (drop (length bytes) room) n same ∙ ap₂ (λ (c : ℕ) (d : List ℕ). built c d) f.code_point f.filled)
      (λ t e. absurd (let z : ◌≡◌ {A = ℕ} 0 1 = cc in omega arith))

  -- in words: number 0, and how many in word 2
  pub object_said : (words said : List ℕ) → 8 ≤ length words → Makes b content room words 0 after said → take (get_or said 2 0) after ≡ built cp (built_all l)
  object_said words said h p = go (made_laid b content (length room)) refl p.answers
    where
      go : (x : Result ℕ Refused) → made_laid b content (length room) ≡ x → Answered (laid_words x) words 0 said → take (get_or said 2 0) after ≡ built cp (built_all l)
      go (Ok n) e q =
          ap (λ (k : ℕ). take k after) (ap (λ (y : List ℕ). get_or y 2 0) (after_is _ words 0 said refl h q)) ∙ object_laid n (record { answers = sym e; room_is = p.room_is })
      go (Err r) e q =
          let z = q.number_is in
          absurd (picked (leb (length bytes) (length room)) (sym (pick_yes _ _ (le-leb b.fill (length content) f.inside)) ∙ e)
          (λ t k. let y : ◌≡◌ {A = ℕ} 0 1 = cc in omega arith) (λ t k. let y : ◌≡◌ {A = ℕ} 0 9 = cc in omega arith))

module _ (l m : List (ℕ × List ℕ)) (g : Fit l) (k : Fit m) where
  -- of two filled parts
  pub same_filled : {cp cp' : ℕ} {b b' : DdmBuilder} {content content' : List ℕ} → FilledRequest cp l b content → FilledRequest cp' m b' content'
      → (take b.fill content ≡ take b'.fill content') ↔ (l ≡ m)
  same_filled f f' = ((λ e. joined_injective l m g k (sym f.filled ∙ e ∙ f'.filled)), (λ e. f.filled ∙ ap built_all e ∙ sym f'.filled))

  -- of two objects
  pub same_object : (cp cp' : ℕ) → FitsWidth cp (built_all l) → FitsWidth cp' (built_all m) → {p p' : List ℕ} → p ≡ built cp (built_all l) → p' ≡ built cp' (built_all m)
      → (p ≡ p') ↔ ((cp ≡ cp') × (l ≡ m))
  same_object cp cp' w w' {p} {p'} is is' = (forth, λ e. is ∙ ap₂ (λ (c : ℕ) (x : List (ℕ × List ℕ)). built c (built_all x)) e.0 e.1 ∙ sym is')
    where
      forth : p ≡ p' → (cp ≡ cp') × (l ≡ m)
      forth e =
          let z = ddm_fixes cp cp' (built_all l) (built_all m) p w.0 w'.0 (subst (Ddm cp (built_all l)) (sym is) (built_ddm cp (built_all l) w.1))
          (subst (Ddm cp' (built_all m)) (sym (e ∙ is')) (built_ddm cp' (built_all m) w'.1)) in
          (z.0, joined_injective l m g k z.1)
