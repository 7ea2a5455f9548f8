-- An object built parameter by parameter, laid into a room, read from wherever the room's bytes then stand, and its parameters listed:
-- in records, and in words.
use Rattle.std.specs.Prelude.{Result, Ok}
use Prim.Native.Nat.{ℕ, ◌*◌, ◌≤◌}
use mathlib.Core.Path.{◌≡◌, sym, ap, subst, subst₂, ◌∙◌}
use mathlib.Core.List.{List}
use lib.ListN.{length, get_or, take, drop}
use Rattle.ddm_builder.specs.Built.{built, built_all, Fit}
use Rattle.ddm_builder.specs.Builder.{Builds}
use Rattle.ddm_builder.specs.declared.DdmBuilder.{DdmBuilder}
use Rattle.ddm_object.specs.ObjectCalls.{ObjectAt}
use Rattle.ddm_rows.specs.ListCalls.{ListsParameters}
use Rattle.ddm_object.specs.declared.DdmObject.{DdmObject}
use Rattle.gateway_object.specs.ObjectWords.{ReadsObject}
use Rattle.gateway_object_rows.specs.ListWords.{ParametersWords}
use Rattle.gateway_builder.specs.BuilderWords.{Makes}
use Rattle.demands_ddm.specs.DdmLayouts.{FitsWidth}
use Rattle.demands_ddm.specs.ReadingBack.{plain, data_of, built_header, InRoom, ReadsAs, ListsAs}
use Rattle.demands_ddm.specs.ReadingWords.{AnswersNumber, AnswersObject, AnswersList}
use Rattle.demands_ddm.proofs.Requests.{FilledRequest}
use Rattle.demands_ddm.proofs.Listing.{parameters_listed}
use Rattle.demands_ddm.proofs.Said.{said_parameters}
use Rattle.demands_ddm.proofs.Back.{build_back, build_back_said}
use Rattle.ddm_rows.specs.declared.ObjectsFound.{ObjectsFound}
use Rattle.answer.specs.declared.Refused.{Refused}

module _ (cp : ℕ) (l : List (ℕ × List ℕ)) (fits : FitsWidth cp (built_all l)) (fit : Fit l) (b : DdmBuilder) (content : List ℕ) (f : FilledRequest cp l b content)
    (room after : List ℕ) (h : length (built cp (built_all l)) ≤ length room) (run : List ℕ) (at : ℕ) (e : drop at run ≡ after) where
  -- the builder's own code point and filled part
  own_fits : FitsWidth b.code_point (take b.fill content)
  own_fits = subst₂ (λ (c : ℕ) (d : List ℕ). FitsWidth c d) (sym f.code_point) (sym f.filled) fits

  own_room : length (built b.code_point (take b.fill content)) ≤ length room
  own_room = subst₂ (λ (c : ℕ) (d : List ℕ). length (built c d) ≤ length room) (sym f.code_point) (sym f.filled) h

  pub request_back : (r : Result ℕ Refused) → Builds b content room r after → (work : List ℕ) (x : Result DdmObject Refused) (workAfter : List ℕ) → ObjectAt run at work x workAfter
      → (r ≡ Ok (length (built cp (built_all l)))) × InRoom cp (built_all l) room after × ReadsAs cp (built_all l) run at (built_header (built_all l)) work x workAfter
  request_back r p work x workAfter q =
      subst₂ (λ (c : ℕ) (d : List ℕ). (r ≡ Ok (length (built c d))) × InRoom c d room after × ReadsAs c d run at (built_header d) work x workAfter) f.code_point f.filled
      (build_back b content room after own_fits f.inside own_room run at e r p work x workAfter q)

  pub request_list : (r : Result ℕ Refused) → Builds b content room r after → (work : List ℕ) (o : DdmObject) (workAfter : List ℕ) → ObjectAt run at work (Ok o) workAfter
      → (work' : List ℕ) (row : List DdmObject) → length l ≤ length row → (x : Result ObjectsFound Refused) (workAfter' : List ℕ) (rowAfter : List DdmObject)
      → ListsParameters (data_of run o) work' row x workAfter' rowAfter → ListsAs l (data_of run o) work' row x workAfter' rowAfter
  request_list r p work o workAfter q work' row k x workAfter' rowAfter y =
      let v = (request_back r p work (Ok o) workAfter q).2 in
      let same : o ≡ plain at cp (built_header (built_all l)) (length (built_all l)) = cc v.is in
      let d : data_of run o ≡ built_all l = ap (data_of run) same ∙ v.data_is in
      subst (λ (s : List ℕ). ListsAs l s work' row x workAfter' rowAfter) (sym d)
      (parameters_listed l fit work' row k x workAfter' rowAfter (subst (λ (s : List ℕ). ListsParameters s work' row x workAfter' rowAfter) d y))

  module _ (words : List ℕ) (r : ℕ) (said : List ℕ) (k : 8 ≤ length words) (p : Makes b content room words r after said) (work words' : List ℕ) (r' : ℕ) (workAfter said' : List ℕ)
      (k' : 8 ≤ length words') (q : ReadsObject run at work words' r' workAfter said') where
    pub request_back_said : AnswersNumber (length (built cp (built_all l))) words r said × InRoom cp (built_all l) room after
        × AnswersObject cp (built_all l) run (length (built cp (built_all l))) work words' r' workAfter said'
    request_back_said =
        subst₂ (λ (c : ℕ) (d : List ℕ). AnswersNumber (length (built c d)) words r said × InRoom c d room after × AnswersObject c d run (length (built c d)) work words' r' workAfter said')
        f.code_point f.filled (build_back_said b content room after own_fits f.inside own_room run at e words r said k p work words' r' workAfter said' k' q)

    -- the data are where the words say
    pub request_list_said : (d : List ℕ) → d ≡ take (get_or said' 5 0) (drop (get_or said' 4 0) run) → (work'' row words'' : List ℕ) → length l * 8 ≤ length row → 8 ≤ length words''
        → (r'' : ℕ) (workAfter'' rowAfter said'' : List ℕ) → ParametersWords d work'' row words'' r'' workAfter'' rowAfter said''
        → AnswersList l d work'' row words'' r'' workAfter'' rowAfter said''
    request_list_said d i work'' row words'' m k'' r'' workAfter'' rowAfter said'' y =
        let j : d ≡ built_all l = i ∙ request_back_said.2.says.data_is in
        subst (λ (s : List ℕ). AnswersList l s work'' row words'' r'' workAfter'' rowAfter said'') (sym j)
        (said_parameters l fit work'' row words'' m k'' r'' workAfter'' rowAfter said'' (subst (λ (s : List ℕ). ParametersWords s work'' row words'' r'' workAfter'' rowAfter said'') j y))
