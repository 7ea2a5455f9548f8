-- What the contracts of the exported functions say in words, where bytes have the layout, where parameters were built one behind the
-- other, and where markers are removed.
use Rattle.std.specs.Prelude.{Result, Ok}
use Prim.Native.Nat.{ℕ, ◌+◌, ◌-◌, ◌^◌, ◌≤◌, ◌<◌}
use native.Mathlib.Omega.{arith}
use mathlib.Core.Path.{◌≡◌, refl, sym, ap, subst, ◌∙◌}
use mathlib.Core.Bool.{false}
use mathlib.Core.List.{List, [], ◌∷◌, ◌++◌}
use borrow.Author.Tests.{le-leb}
use lib.ListN.{length, drop, length-append}
use lib.Seq.{take_all}
use Rattle.wire.specs.Bytes.{two, last, spelled, laid}
use Rattle.wire.proofs.WireLaws.{pick_yes}
use Rattle.wire.proofs.Widths.{length_last, spelled_last}
use Rattle.answer.specs.Rooms.{laid_at_start}
use Rattle.layouts.specs.DdmLayout.{Ddm, Streamed}
use Rattle.ddm_length.specs.Markers.{has_markers, unmarked, Marked}
use Rattle.ddm_length.proofs.MarkerLaws.{unmarked_marked}
use Rattle.ddm_builder.specs.Built.{built, built_all, Fit}
use Rattle.ddm_builder.proofs.BuiltForms.{length_built}
use Rattle.ddm_object.specs.Objects.{parameters}
use Rattle.ddm_object.specs.ObjectCalls.{object_at, find_from, FindsParam, u16_of, u32_of}
use Rattle.gateway_words.specs.AnswerWords.{Answered, laid_words, LaysInWords}
use Rattle.gateway_object.specs.ObjectWords.{ReadsObject, ReadsParam, u16_words, u32_words}
use Rattle.demands_ddm.specs.DdmLayouts.{FitsWidth}
use Rattle.demands_ddm.specs.ReadingBack.{built_header, ReadsAs, Lacks}
use Rattle.demands_ddm.specs.ReadingWords.{AnswersNumber, AnswersObject, AnswersNone}
use Rattle.demands_ddm.proofs.LayoutRead.{ends_with, layout_read}
use Rattle.demands_ddm.proofs.Finding.{none_found, first_found}
use Rattle.demands_ddm.proofs.Said.{said_number, said_laid, said_object, said_none}
use Rattle.demands_ddm.proofs.Back.{whole_of}
use Rattle.ddm_object.specs.declared.DdmObject.{DdmObject}
use Rattle.answer.specs.declared.Refused.{Refused}

-- bytes with the layout, at a place of a run
pub layout_said : (cp : ℕ) (d p behind : List ℕ) → FitsWidth cp d → Ddm cp d p → (Streamed p → behind ≡ []) → (Streamed p → has_markers d ≡ false) → (run : List ℕ) (at : ℕ) → drop at run ≡ p ++ behind
    → (work words : List ℕ) (r : ℕ) (workAfter said : List ℕ) → 8 ≤ length words → ReadsObject run at work words r workAfter said
    → AnswersObject cp d run (length p) work words r workAfter said
layout_said cp d p behind f w alone plain run at e work words r workAfter said h q =
    let x : Result DdmObject Refused = object_at run at (length work) in
    let z = ends_with w in
    let n : (length p - length d) + length d ≡ length p = omega (arith, ap length z.1, length-append z.0 d) in
    let v : ReadsAs cp d run at (length p - length d) work x workAfter =
    layout_read cp d p w f.0 f.1 run behind at e alone plain work x workAfter (record { answers = refl; work_is = q.room_is }) in
    subst (λ (m : ℕ). AnswersObject cp d run m work words r workAfter said) n (said_object words r said h cp d run at (length p - length d) work workAfter x v q.answers)

-- parameters built one behind the other: the first with a code point, or none
module _ (cp : ℕ) (work words : List ℕ) (r : ℕ) (workAfter said : List ℕ) (h : 8 ≤ length words) where
  contract_of : (s : List ℕ) → ReadsParam s cp work words r workAfter said → FindsParam s cp work (find_from s 0 cp (length work) (parameters s)) workAfter
  contract_of s q = record { answers = refl; work_is = q.room_is }

  pub found_said : (d : List ℕ) (before rest : List (ℕ × List ℕ)) → let l = before ++ ((cp, d) ∷ rest) in Fit l → Lacks cp before → ReadsParam (built_all l) cp work words r workAfter said
      → AnswersObject cp d (built_all l) (length (built cp d)) work words r workAfter said
  found_said d before rest g k q =
      let s : List ℕ = built_all (before ++ ((cp, d) ∷ rest)) in
      let x : Result DdmObject Refused = find_from s 0 cp (length work) (parameters s) in
      subst (λ (n : ℕ). AnswersObject cp d s n work words r workAfter said) (sym (length_built cp d))
      (said_object words r said h cp d s (length (built_all before)) (built_header d) work workAfter x (first_found cp d before rest g k work x workAfter (contract_of s q)) q.answers)

  pub lacking_said : (l : List (ℕ × List ℕ)) → Fit l → Lacks cp l → ReadsParam (built_all l) cp work words r workAfter said → AnswersNone work words r workAfter said
  lacking_said l g k q =
      let s : List ℕ = built_all l in
      let x : Result DdmObject Refused = find_from s 0 cp (length work) (parameters s) in
      let z = none_found cp l g k work x workAfter (contract_of s q) in
      said_none words r said h work workAfter x z.0 z.1 q.answers

-- markers put where markers stand: 32,757 bytes, and then a marker before each 32,764 or what is left
pub strip_said : (a s m room words : List ℕ) (r : ℕ) (after said : List ℕ) → length a ≡ 32757 → Marked s m → length (a ++ m) ≤ length room → 8 ≤ length words
    → LaysInWords (unmarked (a ++ s)) room words r after said → AnswersNumber (length (a ++ m)) words r said × (after ≡ (a ++ m) ++ drop (length (a ++ m)) room)
strip_said a s m room words r after said l w h k p =
    let u : unmarked (a ++ s) ≡ a ++ m = unmarked_marked a l w in (
      said_laid words r said k 0 (length room) (length (a ++ m)) h (subst (λ (x : List ℕ). Answered (laid_words (laid_at_start 0 (length room) (length x))) words r said) u p.answers),
      whole_of (a ++ m) room after h (p.room_is ∙ ap (laid room 0) u),
    )

-- ---- numbers put in as two or four bytes

pub u16_back : (n : ℕ) → n < 65536 → u16_of (two n) ≡ Ok n
u16_back n h = ap Ok (omega arith)

pub u32_back : (n : ℕ) → n < 2 ^ 32 → u32_of (last 4 n) ≡ Ok n
unfolding u32_of
u32_back n h =
    let l : length (last 4 n) ≡ 4 = length_last 4 n in
    pick_yes _ _ (le-leb 4 (length (last 4 n)) (omega arith)) ∙ ap (λ (x : List ℕ). Ok (spelled 0 x)) (take_all 4 (last 4 n) (omega arith)) ∙ ap Ok (spelled_last 4 n (omega arith))

module _ (words : List ℕ) (r : ℕ) (said : List ℕ) (h : 8 ≤ length words) where
  pub u16_said : (n : ℕ) → n < 65536 → Answered (u16_words (u16_of (two n))) words r said → AnswersNumber n words r said
  u16_said n k a = said_number words r said h n (subst (λ (x : Result ℕ Refused). Answered (u16_words x) words r said) (u16_back n k) a)

  pub u32_said : (n : ℕ) → n < 2 ^ 32 → Answered (u32_words (u32_of (last 4 n))) words r said → AnswersNumber n words r said
  u32_said n k a = said_number words r said h n (subst (λ (x : Result ℕ Refused). Answered (u32_words x) words r said) (u32_back n k) a)
