-- The theorems over the contracts of the calls themselves: each names a call's contract, and doesn't write it again. Of a function over a
-- row of records its own clause is named, and in any model of the logic it entails the fact.
use Rattle.std.specs.Prelude.{Result, Err}
use Prim.Native.Nat.{ℕ, ◌-◌, ◌^◌, ◌≤◌, ◌<◌}
use mathlib.Core.Path.{◌≡◌, refl, sym, ap, subst, ◌∙◌}
use mathlib.Core.Bool.{false}
use mathlib.Core.List.{List, [], ◌∷◌, ◌++◌}
use lib.ListN.{length, take, drop}
use seplogic.Ra.Ura.{Ura}
use base.Logic.{SProp, ent}
use prog.Memory.{Memory}
use prog.Routine.{Routine}
use types.Logic.{Logic}
use contract.Lifetimes.{Lfts}
use contract.Monad.{Fun, fact, fact_mono}
use denote.Ref.{Bor, MutBor, at_last}
use Rattle.layouts.specs.DdmLayout.{Ddm, Streamed}
use Rattle.ddm_length.specs.Markers.{has_markers, unmarked, Marked}
use Rattle.ddm_length.proofs.strip_extended_ddm_continuation_markers.Reads as strip
use Rattle.ddm_builder.specs.Built.{built, built_all, Fit}
use Rattle.ddm_builder.specs.Builder.{builder_object}
use Rattle.ddm_builder.specs.declared.DdmBuilder.{DdmBuilder}
use Rattle.ddm_builder.proofs.build_ddm_object.Reads as build_ddm_object
use Rattle.ddm_builder.proofs.DdmBuilder.build.Reads as build
use Rattle.ddm_object.specs.ObjectCalls.{not_found, work_parsed, ObjectAt, FindsParam}
use Rattle.ddm_rows.specs.ListCalls.{ListsParameters, ParsesObjects}
use Rattle.ddm_object.specs.Objects.{parsed}
use Rattle.ddm_object.specs.DataParts.{data_part}
use Rattle.ddm_object.proofs.PartLaws.{part_filled}
use Rattle.ddm_object.specs.declared.DdmObject.{DdmObject}
use Rattle.ddm_object.proofs.DdmObject.parse.Reads as parse
use Rattle.ddm_object.proofs.object_data.Reads as object_data
use Rattle.ddm_object.proofs.find_param.Reads as find_param
use Rattle.ddm_rows.specs.contracts.parameters as parameters
use Rattle.ddm_rows.specs.contracts.parse_ddm_objects as parse_ddm_objects
use Rattle.demands_ddm.specs.ReadingBack.{LaidFirst, built_header, ReadsAs, ListsAs, Lacks}
use Rattle.demands_ddm.proofs.LayoutRead.{layout_read, built_read, built_data}
use Rattle.demands_ddm.proofs.Building.{lays_first, builds_first, laid_layout, laid_parsed, part_parsed}
use Rattle.demands_ddm.proofs.Listing.{parameters_listed, objects_listed}
use Rattle.demands_ddm.proofs.Finding.{none_found, first_found}
use Rattle.demands_ddm.proofs.Stripping.{Stripped, strips, strips_marked}
use Rattle.ddm_rows.specs.declared.ObjectsFound.{ObjectsFound}
use Rattle.answer.specs.declared.Refused.{Refused}

-- ---- built, and read

module _ (κs κt : Lfts 2) (cp : ℕ) (d : Bor (List ℕ)) (room : MutBor (List ℕ)) (laid : Result ℕ Refused) (after : List ℕ) (small : cp < 65536) (few : length d.now < 2 ^ 63) (h : length (built cp d.now) ≤ length room.now)
    (p : build_ddm_object.Post κs (cp, (d, (room, tt))) laid (cp, (d, (at_last room after, tt)))) where
  -- `build_ddm_object` lays the object down, with the volume's layout
  pub built_first : LaidFirst (built cp d.now) room.now laid after
  built_first = lays_first (built cp d.now) room.now laid after h p

  pub built_layout : Ddm cp d.now (take (length (built cp d.now)) after)
  built_layout = laid_layout cp d.now room.now small few laid after built_first

  -- `DdmObject::parse` reads it back, from the room or from the bytes answered
  module _ (bytes : Bor (List ℕ)) (work : MutBor (List ℕ)) (r : Result DdmObject Refused) (workAfter : List ℕ) (q : parse.Post κt (bytes, (work, tt)) r (bytes, (at_last work workAfter, tt))) where
    pub room_parsed : bytes.now ≡ after → ReadsAs cp d.now after 0 (built_header d.now) work.now r workAfter
    room_parsed e =
        laid_parsed cp d.now room.now small few laid after built_first work.now r workAfter (subst (λ (s : List ℕ). ObjectAt s 0 work.now r workAfter) e q)

    pub bytes_parsed : bytes.now ≡ take (length (built cp d.now)) after → ReadsAs cp d.now bytes.now 0 (built_header d.now) work.now r workAfter
    bytes_parsed e =
        rw e (part_parsed cp d.now room.now small few laid after built_first work.now r workAfter (rw e at q))

-- ---- the same of `DdmBuilder::build`, whose data are the filled part

module _ (κs : Lfts 2) (b : DdmBuilder) (content : Bor (List ℕ)) (room : MutBor (List ℕ)) (laid : Result ℕ Refused) (after : List ℕ) (f : b.fill ≤ length content.now) (h : length (builder_object b content.now) ≤ length room.now)
    (p : build.Post κs (b, (content, (room, tt))) laid (b, (content, (at_last room after, tt)))) where
  pub builder_first : LaidFirst (builder_object b content.now) room.now laid after
  builder_first = builds_first b content.now room.now laid after f h p

  module _ (small : b.code_point < 65536) (few : length (take b.fill content.now) < 2 ^ 63) where
    pub builder_layout : Ddm b.code_point (take b.fill content.now) (take (length (builder_object b content.now)) after)
    builder_layout = laid_layout b.code_point (take b.fill content.now) room.now small few laid after builder_first

    pub builder_parsed : (κt : Lfts 2) (bytes : Bor (List ℕ)) (work : MutBor (List ℕ)) (r : Result DdmObject Refused) (workAfter : List ℕ) → parse.Post κt (bytes, (work, tt)) r (bytes, (at_last work workAfter, tt)) → bytes.now ≡ after
        → ReadsAs b.code_point (take b.fill content.now) after 0 (built_header (take b.fill content.now)) work.now r workAfter
    builder_parsed κt bytes work r workAfter q e =
        laid_parsed b.code_point (take b.fill content.now) room.now small few laid after builder_first work.now r workAfter
        (subst (λ (s : List ℕ). ObjectAt s 0 work.now r workAfter) e q)

-- ---- read, where bytes have the layout

pub layout_parsed : (κs : Lfts 2) (cp : ℕ) (d p rest : List ℕ) (bytes : Bor (List ℕ)) (work : MutBor (List ℕ)) (r : Result DdmObject Refused) (workAfter : List ℕ) → Ddm cp d p → cp < 65536 → length d < 2 ^ 63
    → (Streamed p → rest ≡ []) → (Streamed p → has_markers d ≡ false) → bytes.now ≡ p ++ rest → parse.Post κs (bytes, (work, tt)) r (bytes, (at_last work workAfter, tt))
    → ReadsAs cp d bytes.now 0 (length p - length d) work.now r workAfter
layout_parsed κs cp d p rest bytes work r workAfter w small few a m e q = layout_read cp d p w small few bytes.now rest 0 e a m work.now r workAfter q

-- `object_data` hands back the data that were built, whatever the work area holds
pub data_back : (κs : Lfts 1) (cp at : ℕ) (d rest : List ℕ) (run work r : Bor (List ℕ)) → cp < 65536 → length d < 2 ^ 63 → drop at run.now ≡ built cp d ++ rest
    → object_data.Post κs (run, (at, (work, tt))) r (run, (at, (work, tt))) → r.now ≡ d
data_back κs cp at d rest run work r small few e q =
    let s : List ℕ = run.now in
    let kept : work_parsed s at work.now (parsed (drop at s) at) ≡ work.now =
    (built_read cp d small few s rest at e work.now _ _ (record { answers = refl; work_is = refl })).work_is in
    q.bytes_are ∙ ap (λ (w : List ℕ). data_part s at w (parsed (drop at s) at)) (sym kept)
    ∙ part_filled s at work.now (parsed (drop at s) at) ∙ built_data cp d small few s rest at e (length work.now)

-- ---- found

module _ (κs : Lfts 2) (cp : ℕ) (bytes : Bor (List ℕ)) (work : MutBor (List ℕ)) (r : Result DdmObject Refused) (workAfter : List ℕ)
    (q : find_param.Post κs (bytes, (cp, (work, tt))) r (bytes, (cp, (at_last work workAfter, tt)))) where
  pub param_found : (d : List ℕ) (before rest : List (ℕ × List ℕ)) → let l = before ++ ((cp, d) ∷ rest) in Fit l → Lacks cp before → bytes.now ≡ built_all l
      → ReadsAs cp d (built_all l) (length (built_all before)) (built_header d) work.now r workAfter
  param_found d before rest g k e = first_found cp d before rest g k work.now r workAfter (subst (λ (s : List ℕ). FindsParam s cp work.now r workAfter) e q)

  pub param_lacking : (l : List (ℕ × List ℕ)) → Fit l → Lacks cp l → bytes.now ≡ built_all l → (r ≡ Err not_found) × (workAfter ≡ work.now)
  param_lacking l g k e = none_found cp l g k work.now r workAfter (subst (λ (s : List ℕ). FindsParam s cp work.now r workAfter) e q)

-- ---- markers

module _ (κs : Lfts 2) (d : Bor (List ℕ)) (work : MutBor (List ℕ)) (r : Result ℕ Refused) (after : List ℕ) (q : strip.Post κs (d, (work, tt)) r (d, (at_last work after, tt))) where
  pub stripped : length (unmarked d.now) ≤ length work.now → Stripped d.now work.now r after
  stripped h = strips d.now work.now r after h q

  pub marks_stripped : (a s m : List ℕ) → length a ≡ 32757 → Marked s m → length (a ++ m) ≤ length work.now → d.now ≡ a ++ s → LaidFirst (a ++ m) work.now r after
  marks_stripped a s m l w h e = strips_marked a s m work.now r after l w h (rw e at q)

-- ---- listed

module _ {M : Type 1} {𝓤 : Ura M} (𝓛 : Logic 𝓤) (mem : Memory → SProp 𝓤) (routines : Routine → Fun 𝓤) (κs : Lfts 3) (bytes : Bor (List ℕ)) (work : MutBor (List ℕ)) (row : MutBor (List DdmObject)) (r : Result ObjectsFound Refused) (workAfter : List ℕ) (rowAfter : List DdmObject)
    (l : List (ℕ × List ℕ)) (g : Fit l) (h : length l ≤ length row.now) (e : bytes.now ≡ built_all l) where
  pub parameters_back : ent 𝓤 ((parameters.clauses 𝓛 mem routines κs (bytes, (work, (row, tt)))).ensures tt r (bytes, (at_last work workAfter, (at_last row rowAfter, tt))))
      (fact 𝓤 (ListsAs l (built_all l) work.now row.now r workAfter rowAfter))
  parameters_back =
      fact_mono 𝓤 _ _ (λ p. parameters_listed l g work.now row.now h r workAfter rowAfter (subst (λ (s : List ℕ). ListsParameters s work.now row.now r workAfter rowAfter) e p))

  pub objects_back : ent 𝓤 ((parse_ddm_objects.clauses 𝓛 mem routines κs (bytes, (work, (row, tt)))).ensures tt r (bytes, (at_last work workAfter, (at_last row rowAfter, tt))))
      (fact 𝓤 (ListsAs l (built_all l) work.now row.now r workAfter rowAfter))
  objects_back =
      fact_mono 𝓤 _ _ (λ p. objects_listed l g work.now row.now h r workAfter rowAfter (subst (λ (s : List ℕ). ParsesObjects s work.now row.now r workAfter rowAfter) e p))
