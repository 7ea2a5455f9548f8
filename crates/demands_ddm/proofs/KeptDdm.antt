-- The port has it: a theorem for each promise on DDM objects, over the contracts of the Rattle calls and of the functions exported to C
-- and Rust. `f.Post κs (what goes in) r (what is lent, at the end)` is the contract of f itself: the answer r, and what lent slices
-- hold at the end, are any that it allows. `x.now` is what a slice holds at the call, and `at_last x l` the slice with l in it at the
-- end. Of a function over a row of records `clauses` are named, and `ent .. (fact ..)` says that what it ensures entails the fact.
-- `Fits` and `Fit` hold of all that can be passed to a call: code points of sixteen bits, data of fewer than 2^63 bytes.
use Rattle.std.specs.Prelude.{Result, Ok, Err}
use Prim.Native.Nat.{ℕ, ◌+◌, ◌*◌, ◌-◌, ◌^◌, ◌≤◌, ◌<◌}
use mathlib.Core.Path.{◌≡◌, ap, subst, ◌∙◌}
use mathlib.Core.Bool.{false}
use mathlib.Core.List.{List, [], ◌∷◌, ◌++◌}
use lib.ListN.{length, get_or, take, drop}
use seplogic.Ra.Ura.{Ura}
use base.Logic.{SProp, ent}
use prog.Memory.{Memory}
use prog.Routine.{Routine}
use types.Logic.{Logic}
use contract.Lifetimes.{Lfts}
use contract.Monad.{Fun, fact, fact_mono}
use denote.Ref.{Bor, MutBor, at_last}
use Rattle.wire.specs.Bytes.{two, last, splice}
use Rattle.answer.specs.declared.Refused.{Refused}
use Rattle.layouts.specs.DdmLayout.{Ddm, Streamed}
use Rattle.ddm_length.specs.Markers.{has_markers, unmarked, Marked}
use Rattle.ddm_length.proofs.strip_extended_ddm_continuation_markers.Reads as strip
use Rattle.ddm_builder.specs.Built.{built, built_all, Fit}
use Rattle.ddm_builder.specs.declared.DdmBuilder.{DdmBuilder}
use Rattle.ddm_builder.proofs.DdmBuilder.add_code_point.Reads as add_code_point
use Rattle.ddm_builder.proofs.build_ddm_object.Reads as build_ddm_object
use Rattle.ddm_builder.proofs.DdmBuilder.build.Reads as build
use Rattle.ddm_object.specs.Objects.{Object, object, parsed}
use Rattle.ddm_object.specs.ObjectCalls.{not_found, ObjectAt, u16_of, u32_of}
use Rattle.ddm_rows.specs.ListCalls.{ListsParameters}
use Rattle.ddm_object.specs.declared.DdmObject.{DdmObject}
use Rattle.ddm_object.proofs.object_at.Reads as object_at
use Rattle.ddm_object.proofs.object_data.Reads as object_data
use Rattle.ddm_object.proofs.Filled.{given_data, refused_none}
use Rattle.ddm_object.proofs.as_u16.Reads as as_u16
use Rattle.ddm_object.proofs.as_u32.Reads as as_u32
use Rattle.ddm_object.proofs.find_param.Reads as find_param
use Rattle.ddm_rows.specs.contracts.parameters as parameters
use Rattle.ddm_rows.specs.contracts.parse_ddm_objects as parse_ddm_objects
use Rattle.gateway_words.specs.AnswerWords.{Answered, LaysInWords, answer_len}
use Rattle.gateway_object.specs.ObjectWords.{ReadsParam, u16_words, u32_words}
use Rattle.gateway_object.proofs.lattrugone_as_u16.Reads as lattrugone_as_u16
use Rattle.gateway_object.proofs.lattrugone_as_u32.Reads as lattrugone_as_u32
use Rattle.gateway_object.proofs.lattrugone_object.Reads as lattrugone_object
use Rattle.gateway_object.proofs.lattrugone_find_param.Reads as lattrugone_find_param
use Rattle.gateway_object.proofs.lattrugone_strip_markers.Reads as lattrugone_strip_markers
use Rattle.gateway_object_rows.specs.ListWords.{object_len, ObjectsWords, ParametersWords}
use Rattle.gateway_object_rows.proofs.lattrugone_parameters.Reads as lattrugone_parameters
use Rattle.gateway_object_rows.proofs.lattrugone_objects.Reads as lattrugone_objects
use Rattle.gateway_builder.specs.BuilderWords.{builder_of, adding}
use Rattle.gateway_builder.proofs.lattrugone_builder_add_code_point.Reads as lattrugone_builder_add_code_point
use Rattle.gateway_builder.proofs.lattrugone_build_ddm_object.Reads as lattrugone_build_ddm_object
use Rattle.gateway_builder.proofs.lattrugone_builder_build.Reads as lattrugone_builder_build
use Rattle.demands_ddm.specs.DdmLayouts.{FitsWidth, BuildsLayout, ReadsDdmLayout, RemovesMarkers, ReadsOtherWidths, ReadHasLayout, FixesObject}
use Rattle.demands_ddm.specs.ReadingBack.{LaidFirst, InRoom, data_of, built_header, ReadsAs, ListsAs, Lacks}
use Rattle.demands_ddm.specs.ReadingWords.{AnswersNumber, AnswersObject, AnswersList, AnswersNone}
use Rattle.demands_ddm.proofs.Layouts.{builds_layout, reads_layout, removes_markers, reads_other_widths, read_has_layout, fixes_object}
use Rattle.demands_ddm.proofs.LayoutRead.{layout_read}
use Rattle.demands_ddm.proofs.Said.{said_parameters, said_objects}
use Rattle.demands_ddm.proofs.Back.{laid_back, laid_back_said, build_back, build_back_said}
use Rattle.demands_ddm.specs.Adding.{ByCalls, ByWords}
use Rattle.demands_ddm.proofs.Adding.{calls_filled, words_filled, addition_made, addition_said}
use Rattle.demands_ddm.proofs.Exports.{layout_said, found_said, lacking_said, strip_said, u16_back, u32_back, u16_said, u32_said}
use Rattle.demands_ddm.proofs.RequestBack.{request_back, request_list, request_back_said, request_list_said}
use Rattle.demands_ddm.proofs.Calls.{param_found, param_lacking, marks_stripped, parameters_back, objects_back}
use Rattle.ddm_rows.specs.declared.ObjectsFound.{ObjectsFound}

-- ---- Demand 2: "meets the DSS and DDM layouts of The Open Group's DRDA volume 3, with differences listed"

pub layout_of_built : BuildsLayout built
layout_of_built = builds_layout

pub layout_is_read : ReadsDdmLayout parsed
layout_is_read = reads_layout

pub layout_but_for_markers : RemovesMarkers parsed
layout_but_for_markers = removes_markers

pub layout_and_other_widths : ReadsOtherWidths parsed
layout_and_other_widths = reads_other_widths

pub read_is_laid_out : ReadHasLayout parsed
read_is_laid_out = read_has_layout

pub layout_fixes : FixesObject Ddm
layout_fixes = fixes_object

-- Bytes with the layout, anywhere in a run, are read as it says: by `object_at`, and by `lattrugone_object`.
module _ (cp : ℕ) (d p behind : List ℕ) (fits : FitsWidth cp d) (laid_out : Ddm cp d p) (alone : Streamed p → behind ≡ []) (unmarked : Streamed p → has_markers d ≡ false)
    (run : Bor (List ℕ)) (at : ℕ) (there : drop at run.now ≡ p ++ behind) (work : MutBor (List ℕ)) (workAfter : List ℕ) where
  pub layout_read_by_call : (κs : Lfts 2) (r : Result DdmObject Refused) → object_at.Post κs (run, (at, (work, tt))) r (run, (at, (at_last work workAfter, tt)))
      → ReadsAs cp d run.now at (length p - length d) work.now r workAfter
  layout_read_by_call κs r q = layout_read cp d p laid_out fits.0 fits.1 run.now behind at there alone unmarked work.now r workAfter q

  pub layout_read_in_words : (κs : Lfts 3) (words : MutBor (List ℕ)) (r : ℕ) (said : List ℕ) → answer_len ≤ length words.now
      → lattrugone_object.Post κs (run, (at, (work, (words, tt)))) r (run, (at, (at_last work workAfter, (at_last words said, tt))))
      → AnswersObject cp d run.now (length p) work.now words.now r workAfter said
  layout_read_in_words κs words r said h q =
      layout_said cp d p behind fits laid_out alone unmarked run.now at there work.now words.now r workAfter said h q

-- ---- Demand 2, "gives back": an object laid into a room that has room for it, and read from wherever these bytes then stand

module _ (cp : ℕ) (d : Bor (List ℕ)) (room : MutBor (List ℕ)) (after : List ℕ) (fits : FitsWidth cp d.now) (enough : length (built cp d.now) ≤ length room.now)
    (run : Bor (List ℕ)) (at : ℕ) (there : drop at run.now ≡ after) (work : MutBor (List ℕ)) (workAfter : List ℕ) where
  -- by `build_ddm_object`, then `object_at`
  pub built_and_read : (κs κt : Lfts 2) (laid : Result ℕ Refused) (r : Result DdmObject Refused)
      → build_ddm_object.Post κs (cp, (d, (room, tt))) laid (cp, (d, (at_last room after, tt)))
      → object_at.Post κt (run, (at, (work, tt))) r (run, (at, (at_last work workAfter, tt)))
      → (laid ≡ Ok (length (built cp d.now))) × InRoom cp d.now room.now after × ReadsAs cp d.now run.now at (built_header d.now) work.now r workAfter
  built_and_read κs κt laid r p q = laid_back cp d.now room.now after fits enough run.now at there laid p work.now r workAfter q

  -- by `lattrugone_build_ddm_object`, then `lattrugone_object`
  pub built_and_read_in_words : (κs κt : Lfts 3) (words words' : MutBor (List ℕ)) (n r : ℕ) (said said' : List ℕ) → answer_len ≤ length words.now → answer_len ≤ length words'.now
      → lattrugone_build_ddm_object.Post κs (cp, (d, (room, (words, tt)))) n (cp, (d, (at_last room after, (at_last words said, tt))))
      → lattrugone_object.Post κt (run, (at, (work, (words', tt)))) r (run, (at, (at_last work workAfter, (at_last words' said', tt))))
      → AnswersNumber (length (built cp d.now)) words.now n said × InRoom cp d.now room.now after
      × AnswersObject cp d.now run.now (length (built cp d.now)) work.now words'.now r workAfter said'
  built_and_read_in_words κs κt words words' n r said said' h h' p q =
      laid_back_said cp d.now room.now after fits enough run.now at there words.now n said h p work.now words'.now r workAfter said' h' q

-- The same of a builder, whose data are the filled part of `content`.
module _ (cp fill : ℕ) (content : Bor (List ℕ)) (room : MutBor (List ℕ)) (after : List ℕ) (inside : fill ≤ length content.now) (fits : FitsWidth cp (take fill content.now))
    (enough : length (built cp (take fill content.now)) ≤ length room.now) (run : Bor (List ℕ)) (at : ℕ) (there : drop at run.now ≡ after) (work : MutBor (List ℕ)) (workAfter : List ℕ) where
  abbrev d : List ℕ
  d = take fill content.now

  -- by `DdmBuilder::build`, then `object_at`
  pub builder_and_read : (κs κt : Lfts 2) (laid : Result ℕ Refused) (r : Result DdmObject Refused)
      → build.Post κs (builder_of cp fill, (content, (room, tt))) laid (builder_of cp fill, (content, (at_last room after, tt)))
      → object_at.Post κt (run, (at, (work, tt))) r (run, (at, (at_last work workAfter, tt)))
      → (laid ≡ Ok (length (built cp d))) × InRoom cp d room.now after × ReadsAs cp d run.now at (built_header d) work.now r workAfter
  builder_and_read κs κt laid r p q = build_back (builder_of cp fill) content.now room.now after fits inside enough run.now at there laid p work.now r workAfter q

  -- by `lattrugone_builder_build`, then `lattrugone_object`
  pub builder_and_read_in_words : (κs κt : Lfts 3) (words words' : MutBor (List ℕ)) (n r : ℕ) (said said' : List ℕ) → answer_len ≤ length words.now → answer_len ≤ length words'.now
      → lattrugone_builder_build.Post κs (cp, (fill, (content, (room, (words, tt))))) n (cp, (fill, (content, (at_last room after, (at_last words said, tt)))))
      → lattrugone_object.Post κt (run, (at, (work, (words', tt)))) r (run, (at, (at_last work workAfter, (at_last words' said', tt))))
      → AnswersNumber (length (built cp d)) words.now n said × InRoom cp d room.now after
      × AnswersObject cp d run.now (length (built cp d)) work.now words'.now r workAfter said'
  builder_and_read_in_words κs κt words words' n r said said' h h' p q =
      build_back_said (builder_of cp fill) content.now room.now after fits inside enough run.now at there words.now n said h p work.now words'.now r workAfter said' h' q

-- The data themselves: `object_at`, and then `object_data` over the work area as that left it, hands back the data of the object that
-- was given, in the run or in the work area, and nothing of one that was refused.
pub data_are_handed_back : (κs : Lfts 2) (κt : Lfts 1) (run : Bor (List ℕ)) (work : MutBor (List ℕ)) (lent data-part : Bor (List ℕ)) (at : ℕ) (r : Result DdmObject Refused) (workAfter : List ℕ)
    → object_at.Post κs (run, (at, (work, tt))) r (run, (at, (at_last work workAfter, tt))) → lent.now ≡ workAfter
    → object_data.Post κt (run, (at, (lent, tt))) data-part (run, (at, (lent, tt)))
    → ((o : DdmObject) → r ≡ Ok o → (x : Object) × (parsed (drop at run.now) at ≡ object x) × (data-part.now ≡ x.content)) × ((why : Refused) → r ≡ Err why → data-part.now ≡ [])
data_are_handed_back κs κt run work lent data-part at r workAfter p e q =
    (given_data κs κt run work lent data-part at r workAfter p e q, refused_none κs κt run work lent data-part at r workAfter p e q)

-- ---- objects or parameters built one behind the other are listed, all of them and nothing else

module _ (l : List (ℕ × List ℕ)) (fit : Fit l) (bytes : Bor (List ℕ)) (built-so : bytes.now ≡ built_all l) (work : MutBor (List ℕ)) (workAfter : List ℕ) where
  module _ {M : Type 1} {𝓤 : Ura M} (𝓛 : Logic 𝓤) (mem : Memory → SProp 𝓤) (routines : Routine → Fun 𝓤) (κs : Lfts 3) (row : MutBor (List DdmObject)) (rowAfter : List DdmObject)
      (enough : length l ≤ length row.now) (r : Result ObjectsFound Refused) where
    -- by `parameters`
    pub parameters_are_listed : ent 𝓤 ((parameters.clauses 𝓛 mem routines κs (bytes, (work, (row, tt)))).ensures tt r (bytes, (at_last work workAfter, (at_last row rowAfter, tt))))
        (fact 𝓤 (ListsAs l (built_all l) work.now row.now r workAfter rowAfter))
    parameters_are_listed = parameters_back 𝓛 mem routines κs bytes work row r workAfter rowAfter l fit enough built-so

    -- by `parse_ddm_objects`
    pub objects_are_listed : ent 𝓤 ((parse_ddm_objects.clauses 𝓛 mem routines κs (bytes, (work, (row, tt)))).ensures tt r (bytes, (at_last work workAfter, (at_last row rowAfter, tt))))
        (fact 𝓤 (ListsAs l (built_all l) work.now row.now r workAfter rowAfter))
    objects_are_listed = objects_back 𝓛 mem routines κs bytes work row r workAfter rowAfter l fit enough built-so

  module _ (κs : Lfts 4) (row words : MutBor (List ℕ)) (rowAfter said : List ℕ) (enough : length l * object_len ≤ length row.now) (eight : answer_len ≤ length words.now) (r : ℕ) where
    -- by `lattrugone_parameters`
    pub parameters_are_listed_in_words : lattrugone_parameters.Post κs (bytes, (work, (row, (words, tt)))) r (bytes, (at_last work workAfter, (at_last row rowAfter, (at_last words said, tt))))
        → AnswersList l (built_all l) work.now row.now words.now r workAfter rowAfter said
    parameters_are_listed_in_words q =
        said_parameters l fit work.now row.now words.now enough eight r workAfter rowAfter said
        (subst (λ (s : List ℕ). ParametersWords s work.now row.now words.now r workAfter rowAfter said) built-so q)

    -- by `lattrugone_objects`
    pub objects_are_listed_in_words : lattrugone_objects.Post κs (bytes, (work, (row, (words, tt)))) r (bytes, (at_last work workAfter, (at_last row rowAfter, (at_last words said, tt))))
        → AnswersList l (built_all l) work.now row.now words.now r workAfter rowAfter said
    objects_are_listed_in_words q =
        said_objects l fit work.now row.now words.now enough eight r workAfter rowAfter said
        (subst (λ (s : List ℕ). ObjectsWords s work.now row.now words.now r workAfter rowAfter said) built-so q)

-- ---- "`find_param` gives the first", and 11 where there is none

module _ (cp : ℕ) (bytes : Bor (List ℕ)) (work : MutBor (List ℕ)) (workAfter : List ℕ) where
  -- by `find_param`
  module _ (κs : Lfts 2) (r : Result DdmObject Refused) (q : find_param.Post κs (bytes, (cp, (work, tt))) r (bytes, (cp, (at_last work workAfter, tt)))) where
    pub first_is_found : (d : List ℕ) (before rest : List (ℕ × List ℕ)) → let l = before ++ ((cp, d) ∷ rest) in Fit l → Lacks cp before → bytes.now ≡ built_all l
        → ReadsAs cp d (built_all l) (length (built_all before)) (built_header d) work.now r workAfter
    first_is_found = param_found κs cp bytes work r workAfter q

    pub none_is_found : (l : List (ℕ × List ℕ)) → Fit l → Lacks cp l → bytes.now ≡ built_all l → (r ≡ Err not_found) × (workAfter ≡ work.now)
    none_is_found = param_lacking κs cp bytes work r workAfter q

  -- by `lattrugone_find_param`
  module _ (κs : Lfts 3) (words : MutBor (List ℕ)) (said : List ℕ) (eight : answer_len ≤ length words.now) (r : ℕ)
      (q : lattrugone_find_param.Post κs (bytes, (cp, (work, (words, tt)))) r (bytes, (cp, (at_last work workAfter, (at_last words said, tt))))) where
    pub first_is_found_in_words : (d : List ℕ) (before rest : List (ℕ × List ℕ)) → let l = before ++ ((cp, d) ∷ rest) in Fit l → Lacks cp before → bytes.now ≡ built_all l
        → AnswersObject cp d (built_all l) (length (built cp d)) work.now words.now r workAfter said
    first_is_found_in_words d before rest fit lacks e =
        found_said cp work.now words.now r workAfter said eight d before rest fit lacks (subst (λ (s : List ℕ). ReadsParam s cp work.now words.now r workAfter said) e q)

    pub none_is_found_in_words : (l : List (ℕ × List ℕ)) → Fit l → Lacks cp l → bytes.now ≡ built_all l → AnswersNone work.now words.now r workAfter said
    none_is_found_in_words l fit lacks e =
        lacking_said cp work.now words.now r workAfter said eight l fit lacks (subst (λ (s : List ℕ). ReadsParam s cp work.now words.now r workAfter said) e q)

-- ---- an addition for which there is room behind the fill mark is made there, and all else stays

module _ (cp fill c : ℕ) (d : Bor (List ℕ)) (room : MutBor (List ℕ)) (after : List ℕ) (enough : fill + length (built c d.now) ≤ length room.now) where
  -- by `add_code_point`
  pub addition_is_made : (κs : Lfts 2) (r : Result DdmBuilder Refused) → add_code_point.Post κs (builder_of cp fill, (c, (d, (room, tt)))) r (builder_of cp fill, (c, (d, (at_last room after, tt))))
      → (r ≡ Ok (builder_of cp (fill + length (built c d.now)))) × (after ≡ splice room.now fill (built c d.now))
  addition_is_made κs r p = addition_made (builder_of cp fill) (built c d.now) room.now enough r after p

  -- by `lattrugone_builder_add_code_point`
  pub addition_is_made_in_words : (κs : Lfts 3) (words : MutBor (List ℕ)) (r : ℕ) (said : List ℕ) → answer_len ≤ length words.now
      → lattrugone_builder_add_code_point.Post κs (fill, (c, (d, (room, (words, tt))))) r (fill, (c, (d, (at_last room after, (at_last words said, tt)))))
      → AnswersNumber (fill + length (built c d.now)) words.now r said × (after ≡ splice room.now fill (built c d.now))
  addition_is_made_in_words κs words r said h p = addition_said (adding fill) (built c d.now) room.now enough words.now r after said h p

-- ---- a request: parameters added one after the other, each answered 0, the object built, read from wherever it stands, and its parameters listed

module _ (cp : ℕ) (l : List (ℕ × List ℕ)) (fits : FitsWidth cp (built_all l)) (fit : Fit l) (start : List ℕ) (content : Bor (List ℕ)) (room : MutBor (List ℕ)) (after : List ℕ)
    (enough : length (built cp (built_all l)) ≤ length room.now) (run : Bor (List ℕ)) (at : ℕ) (there : drop at run.now ≡ after) (work : MutBor (List ℕ)) (workAfter : List ℕ) where
  -- by `add_code_point`, `add_u16` and `add_u32`, `build`, `object_at` and `parameters`
  module _ (b : DdmBuilder) (added : ByCalls cp start l b content.now) (κs κt : Lfts 2) (laid : Result ℕ Refused) (r : Result DdmObject Refused)
      (p : build.Post κs (b, (content, (room, tt))) laid (b, (content, (at_last room after, tt))))
      (q : object_at.Post κt (run, (at, (work, tt))) r (run, (at, (at_last work workAfter, tt)))) where
    pub request_is_read : (laid ≡ Ok (length (built cp (built_all l)))) × InRoom cp (built_all l) room.now after
        × ReadsAs cp (built_all l) run.now at (built_header (built_all l)) work.now r workAfter
    request_is_read =
        request_back cp l fits fit b content.now (calls_filled added) room.now after enough run.now at there laid p work.now r workAfter q

    pub request_is_listed : {M : Type 1} {𝓤 : Ura M} (𝓛 : Logic 𝓤) (mem : Memory → SProp 𝓤) (routines : Routine → Fun 𝓤) (κu : Lfts 3) (bytes : Bor (List ℕ)) (work' : MutBor (List ℕ)) (row : MutBor (List DdmObject))
        (o : DdmObject) (x : Result ObjectsFound Refused) (workAfter' : List ℕ) (rowAfter : List DdmObject) → r ≡ Ok o → bytes.now ≡ data_of run.now o → length l ≤ length row.now
        → ent 𝓤 ((parameters.clauses 𝓛 mem routines κu (bytes, (work', (row, tt)))).ensures tt x (bytes, (at_last work' workAfter', (at_last row rowAfter, tt))))
        (fact 𝓤 (ListsAs l (data_of run.now o) work'.now row.now x workAfter' rowAfter))
    request_is_listed {𝓤 = 𝓤} 𝓛 mem routines κu bytes work' row o x workAfter' rowAfter g e k =
        fact_mono 𝓤 _ _
        (λ y. request_list cp l fits fit b content.now (calls_filled added) room.now after enough run.now at there laid p work.now o workAfter
        (subst (λ (z : Result DdmObject Refused). ObjectAt run.now at work.now z workAfter) g q) work'.now row.now k x workAfter' rowAfter
        (subst (λ (s : List ℕ). ListsParameters s work'.now row.now x workAfter' rowAfter) e y))

  -- by the same calls exported
  module _ (fill : ℕ) (added : ByWords start l fill content.now) (κs κt : Lfts 3) (words words' : MutBor (List ℕ)) (n r : ℕ) (said said' : List ℕ) (eight : answer_len ≤ length words.now) (eight' : answer_len ≤ length words'.now)
      (p : lattrugone_builder_build.Post κs (cp, (fill, (content, (room, (words, tt))))) n (cp, (fill, (content, (at_last room after, (at_last words said, tt))))))
      (q : lattrugone_object.Post κt (run, (at, (work, (words', tt)))) r (run, (at, (at_last work workAfter, (at_last words' said', tt))))) where
    pub request_is_read_in_words : AnswersNumber (length (built cp (built_all l))) words.now n said × InRoom cp (built_all l) room.now after
        × AnswersObject cp (built_all l) run.now (length (built cp (built_all l))) work.now words'.now r workAfter said'
    request_is_read_in_words =
        request_back_said cp l fits fit (builder_of cp fill) content.now (words_filled cp added) room.now after enough run.now at there words.now n said eight p work.now words'.now r workAfter said' eight' q

    pub request_is_listed_in_words : (κu : Lfts 4) (bytes : Bor (List ℕ)) (work'' row words'' : MutBor (List ℕ)) (m : ℕ) (workAfter'' rowAfter said'' : List ℕ)
        → bytes.now ≡ take (get_or said' 5 0) (drop (get_or said' 4 0) run.now) → length l * object_len ≤ length row.now → answer_len ≤ length words''.now
        → lattrugone_parameters.Post κu (bytes, (work'', (row, (words'', tt)))) m (bytes, (at_last work'' workAfter'', (at_last row rowAfter, (at_last words'' said'', tt))))
        → AnswersList l bytes.now work''.now row.now words''.now m workAfter'' rowAfter said''
    request_is_listed_in_words κu bytes work'' row words'' m workAfter'' rowAfter said'' e k eight'' y =
        request_list_said cp l fits fit (builder_of cp fill) content.now (words_filled cp added) room.now after enough run.now at there words.now n said eight p work.now words'.now r workAfter said' eight' q
        bytes.now e work''.now row.now words''.now k eight'' m workAfter'' rowAfter said'' y

-- ---- a number put in as a parameter's two or four bytes comes back

module _ (n : ℕ) (bytes : Bor (List ℕ)) where
  -- by `as_u16`, `as_u32`
  pub u16_comes_back : (κs : Lfts 1) (r : Result ℕ Refused) → n < 65536 → bytes.now ≡ two n → as_u16.Post κs (bytes, tt) r (bytes, tt) → r ≡ Ok n
  u16_comes_back κs r small e q = q ∙ ap u16_of e ∙ u16_back n small

  pub u32_comes_back : (κs : Lfts 1) (r : Result ℕ Refused) → n < 2 ^ 32 → bytes.now ≡ last 4 n → as_u32.Post κs (bytes, tt) r (bytes, tt) → r ≡ Ok n
  u32_comes_back κs r small e q = q ∙ ap u32_of e ∙ u32_back n small

  -- by `lattrugone_as_u16`, `lattrugone_as_u32`
  module _ (κs : Lfts 2) (words : MutBor (List ℕ)) (r : ℕ) (said : List ℕ) (eight : answer_len ≤ length words.now) where
    pub u16_comes_back_in_words : n < 65536 → bytes.now ≡ two n → lattrugone_as_u16.Post κs (bytes, (words, tt)) r (bytes, (at_last words said, tt)) → AnswersNumber n words.now r said
    u16_comes_back_in_words small e q = u16_said words.now r said eight n small (subst (λ (x : List ℕ). Answered (u16_words (u16_of x)) words.now r said) e q)

    pub u32_comes_back_in_words : n < 2 ^ 32 → bytes.now ≡ last 4 n → lattrugone_as_u32.Post κs (bytes, (words, tt)) r (bytes, (at_last words said, tt)) → AnswersNumber n words.now r said
    u32_comes_back_in_words small e q = u32_said words.now r said eight n small (subst (λ (x : List ℕ). Answered (u32_words (u32_of x)) words.now r said) e q)

-- ---- markers: 32,757 bytes, and then a marker before each 32,764 or what is left; they come out, and all else stays

module _ (a s m : List ℕ) (first : length a ≡ 32757) (marked : Marked s m) (bytes : Bor (List ℕ)) (room : MutBor (List ℕ)) (with-markers : bytes.now ≡ a ++ s) (enough : length (a ++ m) ≤ length room.now) (after : List ℕ) where
  -- by `strip_extended_ddm_continuation_markers`
  pub markers_come_out : (κs : Lfts 2) (r : Result ℕ Refused) → strip.Post κs (bytes, (room, tt)) r (bytes, (at_last room after, tt)) → LaidFirst (a ++ m) room.now r after
  markers_come_out κs r q = marks_stripped κs bytes room r after q a s m first marked enough with-markers

  -- by `lattrugone_strip_markers`
  pub markers_come_out_in_words : (κs : Lfts 3) (words : MutBor (List ℕ)) (r : ℕ) (said : List ℕ) → answer_len ≤ length words.now
      → lattrugone_strip_markers.Post κs (bytes, (room, (words, tt))) r (bytes, (at_last room after, (at_last words said, tt)))
      → AnswersNumber (length (a ++ m)) words.now r said × (after ≡ (a ++ m) ++ drop (length (a ++ m)) room.now)
  markers_come_out_in_words κs words r said h q =
      strip_said a s m room.now words.now r after said first marked enough h (subst (λ (x : List ℕ). LaysInWords (unmarked x) room.now words.now r after said) with-markers q)
