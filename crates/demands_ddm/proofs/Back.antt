-- An object laid into a room, and read from wherever the room's bytes then stand: in records, and in words.
use Rattle.std.specs.Prelude.{Result, Ok}
use Prim.Native.Nat.{ℕ, ◌+◌, ◌≤◌}
use native.Mathlib.Omega.{arith}
use mathlib.Core.Path.{◌≡◌, refl, sym, ap, subst, ◌∙◌}
use mathlib.Core.List.{List, ◌++◌}
use borrow.Author.Tests.{le-leb}
use lib.ListN.{length, take, drop}
use lib.Seq.{take_at, drop_at}
use Rattle.wire.specs.Bytes.{splice, laid}
use Rattle.wire.proofs.WireLaws.{pick_yes}
use Rattle.wire.proofs.Splicing.{laid_fits}
use Rattle.answer.specs.Rooms.{laid_at_start, Lays}
use Rattle.layouts.specs.DdmLayout.{Ddm}
use Rattle.ddm_builder.specs.Built.{built}
use Rattle.ddm_builder.specs.Builder.{Builds}
use Rattle.ddm_builder.proofs.BuiltForms.{length_built}
use Rattle.ddm_builder.specs.declared.DdmBuilder.{DdmBuilder}
use Rattle.ddm_object.specs.ObjectCalls.{object_at, ObjectAt}
use Rattle.ddm_laws.proofs.LayoutLaws.{built_ddm}
use Rattle.gateway_words.specs.AnswerWords.{Answered, laid_words, LaysInWords}
use Rattle.gateway_object.specs.ObjectWords.{ReadsObject}
use Rattle.gateway_builder.specs.BuilderWords.{Makes, made_laid}
use Rattle.demands_ddm.specs.DdmLayouts.{FitsWidth}
use Rattle.demands_ddm.specs.ReadingBack.{built_header, InRoom, ReadsAs}
use Rattle.demands_ddm.specs.ReadingWords.{AnswersNumber, AnswersObject}
use Rattle.demands_ddm.proofs.LayoutRead.{built_read}
use Rattle.demands_ddm.proofs.Said.{said_laid, said_object}
use Rattle.ddm_object.specs.declared.DdmObject.{DdmObject}
use Rattle.answer.specs.declared.Refused.{Refused}

-- ---- laid

-- the room, after bytes that fit it were laid at its start
pub whole_of : (bytes room after : List ℕ) → length bytes ≤ length room → after ≡ laid room 0 bytes → after ≡ bytes ++ drop (length bytes) room
unfolding splice
whole_of bytes room after h e =
    let n : 0 + length bytes ≡ length bytes = omega arith in
    e ∙ laid_fits room 0 bytes (omega arith) ∙ ap (λ (m : ℕ). bytes ++ drop m room) n

module _ (cp : ℕ) (d room after : List ℕ) (f : FitsWidth cp d) (whole : after ≡ built cp d ++ drop (length (built cp d)) room) where
  in_room : InRoom cp d room after
  in_room =
      let n : ℕ = length (built cp d) in
      let e : take n after ≡ built cp d = ap (take n) whole ∙ take_at (built cp d) (drop n room) n refl in
      record { first = e; layout = subst (Ddm cp d) (sym e) (built_ddm cp d f.1); behind = ap (drop n) whole ∙ drop_at (built cp d) (drop n room) n refl }

  -- ---- and read

  module _ (run : List ℕ) (at : ℕ) (e : drop at run ≡ after) where
    back_read : (work : List ℕ) (r : Result DdmObject Refused) (workAfter : List ℕ) → ObjectAt run at work r workAfter → ReadsAs cp d run at (built_header d) work r workAfter
    back_read work r workAfter q = built_read cp d f.0 f.1 run (drop (length (built cp d)) room) at (e ∙ whole) work r workAfter q

    back_said : (work words : List ℕ) (r : ℕ) (workAfter said : List ℕ) → 8 ≤ length words → ReadsObject run at work words r workAfter said
        → AnswersObject cp d run (length (built cp d)) work words r workAfter said
    back_said work words r workAfter said h q =
        let x : Result DdmObject Refused = object_at run at (length work) in
        subst (λ (n : ℕ). AnswersObject cp d run n work words r workAfter said) (sym (length_built cp d))
        (said_object words r said h cp d run at (built_header d) work workAfter x (back_read work x workAfter (record { answers = refl; work_is = q.room_is })) q.answers)

-- ---- all four ways

module _ (cp : ℕ) (d room after : List ℕ) (f : FitsWidth cp d) (h : length (built cp d) ≤ length room) (run : List ℕ) (at : ℕ) (e : drop at run ≡ after) where
  abbrev n : ℕ
  n = length (built cp d)

  -- `build_ddm_object`, `build_param`
  pub laid_back : (r : Result ℕ Refused) → Lays (built cp d) room r after → (work : List ℕ) (x : Result DdmObject Refused) (workAfter : List ℕ) → ObjectAt run at work x workAfter
      → (r ≡ Ok n) × InRoom cp d room after × ReadsAs cp d run at (built_header d) work x workAfter
  laid_back r p work x workAfter q =
      let w = whole_of (built cp d) room after h p.room_is in
      (p.answers ∙ pick_yes _ _ (le-leb n (length room) h), in_room cp d room after f w, back_read cp d room after f w run at e work x workAfter q)

  -- the same in words
  pub laid_back_said : (words : List ℕ) (r : ℕ) (said : List ℕ) → 8 ≤ length words → LaysInWords (built cp d) room words r after said
      → (work words' : List ℕ) (r' : ℕ) (workAfter said' : List ℕ) → 8 ≤ length words' → ReadsObject run at work words' r' workAfter said'
      → AnswersNumber n words r said × InRoom cp d room after × AnswersObject cp d run n work words' r' workAfter said'
  laid_back_said words r said k p work words' r' workAfter said' k' q =
      let w = whole_of (built cp d) room after h p.room_is in
      (said_laid words r said k 0 (length room) n h p.answers, in_room cp d room after f w, back_said cp d room after f w run at e work words' r' workAfter said' k' q)

-- `DdmBuilder::build`, whose data are the filled part of a room
module _ (b : DdmBuilder) (content room after : List ℕ) where
  abbrev d : List ℕ
  d = take b.fill content

  abbrev cp : ℕ
  cp = b.code_point

  module _ (f : FitsWidth cp d) (inside : b.fill ≤ length content) (h : length (built cp d) ≤ length room) (run : List ℕ) (at : ℕ) (e : drop at run ≡ after) where
    pub build_back : (r : Result ℕ Refused) → Builds b content room r after → (work : List ℕ) (x : Result DdmObject Refused) (workAfter : List ℕ) → ObjectAt run at work x workAfter
        → (r ≡ Ok (length (built cp d))) × InRoom cp d room after × ReadsAs cp d run at (built_header d) work x workAfter
    build_back r p work x workAfter q =
        let w = whole_of (built cp d) room after h (p.room_is ∙ pick_yes _ _ (le-leb b.fill (length content) inside)) in (
          p.answers ∙ pick_yes _ _ (le-leb b.fill (length content) inside) ∙ pick_yes _ _ (le-leb (length (built cp d)) (length room) h),
          in_room cp d room after f w,
          back_read cp d room after f w run at e work x workAfter q,
        )

    pub build_back_said : (words : List ℕ) (r : ℕ) (said : List ℕ) → 8 ≤ length words → Makes b content room words r after said
        → (work words' : List ℕ) (r' : ℕ) (workAfter said' : List ℕ) → 8 ≤ length words' → ReadsObject run at work words' r' workAfter said'
        → AnswersNumber (length (built cp d)) words r said × InRoom cp d room after × AnswersObject cp d run (length (built cp d)) work words' r' workAfter said'
    build_back_said words r said k p work words' r' workAfter said' k' q =
        let w = whole_of (built cp d) room after h (p.room_is ∙ pick_yes _ _ (le-leb b.fill (length content) inside)) in
        let l : made_laid b content (length room) ≡ laid_at_start b.fill (length room) (length (built cp d)) = pick_yes _ _ (le-leb b.fill (length content) inside) in (
          said_laid words r said k b.fill (length room) (length (built cp d)) h (subst (λ (x : Result ℕ Refused). Answered (laid_words x) words r said) l p.answers),
          in_room cp d room after f w,
          back_said cp d room after f w run at e work words' r' workAfter said' k' q,
        )
