-- `object_at` and then `object_data`, over their contracts: the covered call fills the work area, and the thin one hands back the
-- object's data from the run or from the work area so filled.
use Rattle.std.specs.Prelude.{Result, Ok, Err}
use Prim.Native.Nat.{ℕ}
use mathlib.Core.Path.{◌≡◌, refl, sym, ◌∙◌, ap}
use mathlib.Core.List.{List, [], ◌∷◌, ◌++◌}
use lib.ListN.{length, drop, replicate}
use contract.Lifetimes.{Lfts}
use base.Fml.{GName}
use denote.Ref.{Bor, MutBor, at_last}
use Rattle.wire.specs.Bytes.{splice, laid}
use Rattle.answer.specs.Rooms.{no_room}
use Rattle.answer.specs.declared.Refused.{Refused}
use Rattle.ddm_length.specs.Lengths.{marshaled, measured}
use Rattle.ddm_length.specs.Markers.{kept_fuel, unmarked}
use Rattle.ddm_object.specs.Objects.{Object, object, parsed}
use Rattle.ddm_object.specs.ObjectCalls.{object_at}
use Rattle.ddm_object.proofs.DataParsed.{data_parsed}
use Rattle.ddm_object.proofs.DataLaws.{Given, given_of, data_is, refused_data}
use Rattle.ddm_object.specs.DataParts.{data_part}
use Rattle.ddm_object.proofs.PartLaws.{part_filled}
use Rattle.ddm_object.specs.declared.DdmObject.{DdmObject}
use Rattle.ddm_object.proofs.object_at.Reads as object_at_call
use Rattle.ddm_object.proofs.object_data.Reads as object_data

-- `after` is what `object_at` left in the work area, and `lent` lends just that
module _ (κs : Lfts 2) (κt : Lfts 1) (run : Bor (List ℕ)) (work : MutBor (List ℕ)) (lent r : Bor (List ℕ)) (at : ℕ) (found : Result DdmObject Refused) (after : List ℕ)
    (p : object_at_call.Post κs (run, (at, (work, tt))) found (run, (at, (at_last work after, tt)))) (same : lent.now ≡ after)
    (q : object_data.Post κt (run, (at, (lent, tt))) r (run, (at, (lent, tt)))) where
  -- what the two come to
  pub both : r.now ≡ data_parsed run.now at (length work.now) (parsed (drop at run.now) at)
  both =
      q.bytes_are ∙ ap (λ (w : List ℕ). data_part run.now at w (parsed (drop at run.now) at)) (same ∙ p.work_is)
      ∙ part_filled run.now at work.now (parsed (drop at run.now) at)

  -- an object that was given: exactly its data, wherever they lie
  pub given_data : (rec : DdmObject) → found ≡ Ok rec → (o : Object) × (parsed (drop at run.now) at ≡ object o) × (r.now ≡ o.content)
  given_data rec e =
      let g : Given run.now at (length work.now) rec = given_of run.now at (length work.now) rec (sym p.answers ∙ e) in
      (g.of.of, g.of.read, both ∙ data_is run.now at work.now rec g)

  -- one that was refused, also for want of room: nothing
  pub refused_none : (x : Refused) → found ≡ Err x → r.now ≡ []
  refused_none x e = both ∙ refused_data run.now at (length work.now) x (sym p.answers ∙ e)

-- ---- examples, at any places in memory

module _ (κs : Lfts 2) (κt : Lfts 1) (a b : ℕ) (γ : GName) where
  abbrev slice : ℕ → ℕ → List ℕ → Bor (List ℕ)
  slice base from l = record { ref_ptr = (base, from); now = l }

  abbrev room : ℕ → ℕ → List ℕ → MutBor (List ℕ)
  room base from l = record { ref_ptr = (base, from); ghost_name = γ; now = l }

  -- five bytes, of which the last is the data; they lie in the run, and no work area is needed
  abbrev five : List ℕ
  five = 0x00 ∷ 0x05 ∷ 0x24 ∷ 0x12 ∷ 0xC1 ∷ []

  pub inline_example : (o : Object) × (parsed five 0 ≡ object o) × (0xC1 ∷ [] ≡ o.content)
  unfolding object_at parsed measured marshaled unmarked laid splice
  inline_example =
      given_data κs κt (slice a 0 five) (room b 0 []) (slice b 0 []) (slice a 4 (0xC1 ∷ [])) 0 _ []
      (record { answers = refl; work_is = refl }) refl (record { bytes_are = refl; starts = refl }) _ refl

  -- 32,764 bytes of raw length 0x8004, with a marker at offset 32,757 of its data: without it they go through the work area
  abbrev zeros : List ℕ
  zeros = replicate 32757 0

  abbrev long : List ℕ
  long = 0x80 ∷ 0x04 ∷ 0x24 ∷ 0x1B ∷ (zeros ++ (0x7F ∷ 0xFF ∷ 0xC1 ∷ []))

  pub work_example : (o : Object) × (parsed long 0 ≡ object o) × (zeros ++ (0xC1 ∷ []) ≡ o.content)
  unfolding object_at parsed measured marshaled unmarked kept_fuel laid splice
  work_example =
      given_data κs κt (slice a 0 long) (room b 0 (replicate 32758 9)) (slice b 0 (zeros ++ (0xC1 ∷ []))) (slice b 0 (zeros ++ (0xC1 ∷ []))) 0 _ (zeros ++ (0xC1 ∷ []))
      (record { answers = refl; work_is = refl }) refl (record { bytes_are = refl; starts = refl }) _ refl

  -- the same with a work area that is one byte too short: 9, nothing is laid down, and the part is empty
  abbrev few : Bor (List ℕ)
  few = slice b 0 (replicate 32757 9)

  pub short_some : object_data.Post κt (slice a 0 long, (0, (few, tt))) (slice a 0 []) (slice a 0 long, (0, (few, tt)))
  unfolding object_at parsed measured marshaled unmarked kept_fuel
  short_some = record { bytes_are = refl; starts = refl }

  pub short_example : (r : Bor (List ℕ)) → object_data.Post κt (slice a 0 long, (0, (few, tt))) r (slice a 0 long, (0, (few, tt))) → r.now ≡ []
  unfolding object_at parsed measured marshaled unmarked kept_fuel laid splice
  short_example r q =
      refused_none κs κt (slice a 0 long) (room b 0 (replicate 32757 9)) few r 0 (Err (no_room 0 32758 0)) (replicate 32757 9)
      (record { answers = refl; work_is = refl }) refl q _ refl
