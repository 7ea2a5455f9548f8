-- The port has it: a theorem for each promise of document 02 on DDM objects, over the contracts of the Rattle calls and of the functions
-- exported to C and Rust, in the words of KeptDdm.
use Rattle.std.specs.Prelude.{Result, Ok, Err}
use Prim.Native.Nat.{ℕ, ◌≤◌}
use mathlib.Core.Logic.{◌↔◌}
use mathlib.Core.Path.{◌≡◌, sym, ap₂, subst, ◌∙◌}
use mathlib.Core.List.{List, []}
use lib.ListN.{length, get_or, take}
use seplogic.Ra.Ura.{Ura}
use base.Logic.{SProp, ent}
use prog.Memory.{Memory}
use prog.Routine.{Routine}
use types.Logic.{Logic}
use contract.Lifetimes.{Lfts}
use contract.Monad.{Fun, fact, fact_mono}
use denote.Ref.{Bor, MutBor, at_last}
use Rattle.wire.specs.Bytes.{splice}
use Rattle.ddm_builder.specs.Built.{built, built_all, Fit}
use Rattle.ddm_builder.specs.declared.DdmBuilder.{DdmBuilder}
use Rattle.ddm_builder.proofs.DdmBuilder.build.Reads as build
use Rattle.ddm_object.specs.Objects.{parameters}
use Rattle.ddm_object.specs.ObjectCalls.{end_at, param_step_at}
use Rattle.ddm_rows.specs.declared.Walker.{Walker}
use Rattle.ddm_rows.specs.contracts.Walker.step as step
use Rattle.gateway_words.specs.AnswerWords.{Answered, answer_len}
use Rattle.gateway_object.specs.ObjectWords.{step_words}
use Rattle.gateway_object.proofs.lattrugone_param_step.Reads as lattrugone_param_step
use Rattle.gateway_builder.specs.BuilderWords.{builder_of}
use Rattle.gateway_builder.proofs.lattrugone_builder_build.Reads as lattrugone_builder_build
use Rattle.demands_ddm.specs.DdmLayouts.{FitsWidth}
use Rattle.demands_ddm.specs.ReadingWords.{AnswersObject, AnswersNone}
use Rattle.demands_ddm.specs.Adding.{ByCalls, ByWords}
use Rattle.demands_ddm.specs.TwoLists.{StepGives, WalkGives, TwoLists}
use Rattle.demands_ddm.proofs.Adding.{calls_filled, words_filled}
use Rattle.demands_ddm.proofs.TwoLists.{walk_mono, built_walked, step_gives, two_lists, step_said, end_said, object_laid, object_said, same_filled, same_object}
use Rattle.demands_ddm.proofs.ListsAdded.{added_by_calls, added_in_words}
use Rattle.ddm_object.specs.declared.DdmObject.{DdmObject}
use Rattle.answer.specs.declared.Refused.{Refused}

-- ---- W-213: "for any list of code points with data, built one behind the other, the parameter walk gives back that list and ends at
-- ---- the last byte; so different lists never build to equal bytes"

pub two_lists_two_byte_strings : TwoLists built_all parameters param_step_at
two_lists_two_byte_strings = two_lists

pub different_lists_differ : (l m : List (ℕ × List ℕ)) → Fit l → Fit m → ¬ (l ≡ m) → ¬ (built_all l ≡ built_all m)
different_lists_differ l m fit fit' n e = n (two_lists.same_list l m fit fit' e)

-- The walk by the calls, whatever each step's contract allows, over data that were built.
module _ (l : List (ℕ × List ℕ)) (fit : Fit l) where
  -- by `Walker::step`, of any walker over the data: `Walker::new` makes one at 0, `moved` one at the next place
  pub walker_gives_back : {M : Type 1} {𝓤 : Ura M} (𝓛 : Logic 𝓤) (mem : Memory → SProp 𝓤) (routines : Routine → Fun 𝓤) (κs : Lfts 1)
      → WalkGives (λ at cp d next. (w : Walker) (r : Result (DdmObject × ℕ) Refused) → w.«data».now ≡ built_all l → w.at ≡ at
      → ent 𝓤 ((step.clauses 𝓛 mem routines κs (w, tt)).ensures tt r (w, tt)) (fact 𝓤 (StepGives (built_all l) cp d next r)))
      (λ at. (w : Walker) (r : Result (DdmObject × ℕ) Refused) → w.«data».now ≡ built_all l → w.at ≡ at
      → ent 𝓤 ((step.clauses 𝓛 mem routines κs (w, tt)).ensures tt r (w, tt)) (fact 𝓤 (r ≡ Err (end_at at)))) 0 l (length (built_all l))
  walker_gives_back {𝓤 = 𝓤} 𝓛 mem routines κs =
      walk_mono
      (λ at cp d next x w r e k. fact_mono 𝓤 _ _ (λ y. subst (StepGives (built_all l) cp d next) (sym (y ∙ ap₂ param_step_at e k)) (step_gives (built_all l) at cp d next x)))
      (λ at x w r e k. fact_mono 𝓤 _ _ (λ y. y ∙ ap₂ param_step_at e k ∙ x)) (built_walked l fit)

  -- by `lattrugone_param_step`: the next place stands in word 1
  pub walk_gives_back_in_words : (κs : Lfts 2) (bytes : Bor (List ℕ)) → bytes.now ≡ built_all l
      → WalkGives (λ at cp d next. (words : MutBor (List ℕ)) (r : ℕ) (said : List ℕ) → answer_len ≤ length words.now
      → lattrugone_param_step.Post κs (bytes, (at, (words, tt))) r (bytes, (at, (at_last words said, tt)))
      → AnswersObject cp d (built_all l) (length (built cp d)) [] words.now r [] said × (get_or said 1 0 ≡ next))
      (λ at. (words : MutBor (List ℕ)) (r : ℕ) (said : List ℕ) → answer_len ≤ length words.now
      → lattrugone_param_step.Post κs (bytes, (at, (words, tt))) r (bytes, (at, (at_last words said, tt)))
      → AnswersNone [] words.now r [] said × (get_or said 1 0 ≡ at)) 0 l (length (built_all l))
  walk_gives_back_in_words κs bytes e =
      walk_mono
      (λ at cp d next x words r said h q. step_said (built_all l) at words.now r said h (over at words.now r said q) cp d next x)
      (λ at x words r said h q. end_said (built_all l) at words.now r said h (over at words.now r said q) x) (built_walked l fit)
    where
      over : (at : ℕ) (words : List ℕ) (r : ℕ) (said : List ℕ) → Answered (step_words (param_step_at bytes.now at)) words r said → Answered (step_words (param_step_at (built_all l) at)) words r said
      over at words r said = subst (λ (s : List ℕ). Answered (step_words (param_step_at s at)) words r said) e

-- "where the room exists": any list is added, each parameter answered 0, in any room that is long enough, and stands at its start.
module _ (start : List ℕ) (l : List (ℕ × List ℕ)) (enough : length (built_all l) ≤ length start) where
  -- by `add_code_point`
  pub list_is_added : Lfts 2 → (cp : ℕ) → ByCalls cp start l (builder_of cp (length (built_all l))) (splice start 0 (built_all l))
  list_is_added κs cp = added_by_calls κs cp start l enough

  -- by `lattrugone_builder_add_code_point`
  pub list_is_added_in_words : Lfts 3 → ByWords start l (length (built_all l)) (splice start 0 (built_all l))
  list_is_added_in_words κs = added_in_words κs start l enough

-- Two lists, added to two builders, each parameter answered 0: what they leave are equal bytes where the lists are equal, and nowhere
-- else, whatever the builders and the rooms. Data are the filled part of the room that they were added to.
module _ (l m : List (ℕ × List ℕ)) (fit : Fit l) (fit' : Fit m) (cp cp' : ℕ) (start start' : List ℕ) (content content' : Bor (List ℕ)) where
  -- by `add_code_point`, `add_u16` and `add_u32`
  module _ (b b' : DdmBuilder) (added : ByCalls cp start l b content.now) (added' : ByCalls cp' start' m b' content'.now) where
    pub equal_data : (take b.fill content.now ≡ take b'.fill content'.now) ↔ (l ≡ m)
    equal_data = same_filled l m fit fit' (calls_filled added) (calls_filled added')

    -- and `build`, answered with how many bytes: the code points are those of the objects
    pub equal_objects : (κs κt : Lfts 2) (room room' : MutBor (List ℕ)) (n n' : ℕ) (after after' : List ℕ) → FitsWidth cp (built_all l) → FitsWidth cp' (built_all m)
        → build.Post κs (b, (content, (room, tt))) (Ok n) (b, (content, (at_last room after, tt)))
        → build.Post κt (b', (content', (room', tt))) (Ok n') (b', (content', (at_last room' after', tt)))
        → (take n after ≡ take n' after') ↔ ((cp ≡ cp') × (l ≡ m))
    equal_objects κs κt room room' n n' after after' w w' p p' =
        same_object l m fit fit' cp cp' w w' (object_laid cp l b content.now (calls_filled added) room.now after n p)
        (object_laid cp' m b' content'.now (calls_filled added') room'.now after' n' p')

  -- by the same calls exported
  module _ (fill fill' : ℕ) (added : ByWords start l fill content.now) (added' : ByWords start' m fill' content'.now) where
    pub equal_data_in_words : (take fill content.now ≡ take fill' content'.now) ↔ (l ≡ m)
    equal_data_in_words = same_filled l m fit fit' (words_filled cp added) (words_filled cp' added')

    pub equal_objects_in_words : (κs κt : Lfts 3) (room room' words words' : MutBor (List ℕ)) (after after' said said' : List ℕ) → FitsWidth cp (built_all l) → FitsWidth cp' (built_all m)
        → answer_len ≤ length words.now → answer_len ≤ length words'.now
        → lattrugone_builder_build.Post κs (cp, (fill, (content, (room, (words, tt))))) 0 (cp, (fill, (content, (at_last room after, (at_last words said, tt)))))
        → lattrugone_builder_build.Post κt (cp', (fill', (content', (room', (words', tt))))) 0 (cp', (fill', (content', (at_last room' after', (at_last words' said', tt)))))
        → (take (get_or said 2 0) after ≡ take (get_or said' 2 0) after') ↔ ((cp ≡ cp') × (l ≡ m))
    equal_objects_in_words κs κt room room' words words' after after' said said' w w' h h' p p' =
        same_object l m fit fit' cp cp' w w' (object_said cp l (builder_of cp fill) content.now (words_filled cp added) room.now after words.now said h p)
        (object_said cp' m (builder_of cp' fill') content'.now (words_filled cp' added') room'.now after' words'.now said' h' p')
