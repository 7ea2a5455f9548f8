-- Any two outcomes that a contract of this crate allows are equal: the answer, and every byte of the room. Each statement names the contract,
-- and doesn't write it again. And one outcome is allowed, whatever is given.
use Rattle.std.specs.Prelude.{Result}
use Prim.Native.Nat.{ℕ}
use mathlib.Core.Path.{◌≡◌, refl, sym, ◌∙◌}
use mathlib.Core.List.{List}
use lib.ListN.{length}
use contract.Lifetimes.{Lfts}
use denote.Ref.{Bor, MutBor, at_last}
use Rattle.wire.specs.Bytes.{laid}
use Rattle.answer.specs.Rooms.{laid_at_start, Lays}
use Rattle.dss_frame.specs.declared.Rules.{Rules}
use Rattle.dss_frame.specs.declared.Rules.TheVariants.{Reader, Salvage}
use Rattle.listing.specs.ListTexts.{list_text}
use Rattle.listing.proofs.list.Reads as list
use Rattle.listing.proofs.frame_list.Reads as frame_list
use Rattle.listing.proofs.salvage_list.Reads as salvage_list
use Rattle.answer.specs.declared.Refused.{Refused}

lays_one : {text room : List ℕ} (r r' : Result ℕ Refused) (l l' : List ℕ) → Lays text room r l → Lays text room r' l' → (r ≡ r') × (l ≡ l')
lays_one r r' l l' p q = (p.answers ∙ sym q.answers, p.room_is ∙ sym q.room_is)

module _ (κs : Lfts 2) (run : Bor (List ℕ)) (room : MutBor (List ℕ)) where
  -- the answer and the room
  abbrev answer_of : List ℕ → Result ℕ Refused
  answer_of t = laid_at_start 0 (length room.now) (length t)

  abbrev room_of : List ℕ → MutBor (List ℕ)
  room_of t = at_last room (laid room.now 0 t)

  pub list_one : (rules : Rules) (r r' : Result ℕ Refused) (l l' : List ℕ) → list.Post κs (rules, (run, (room, tt))) r (rules, (run, (at_last room l, tt)))
      → list.Post κs (rules, (run, (room, tt))) r' (rules, (run, (at_last room l', tt))) → (r ≡ r') × (l ≡ l')
  list_one rules r r' l l' p q = lays_one r r' l l' p q

  pub list_some : (rules : Rules) → list.Post κs (rules, (run, (room, tt))) (answer_of (list_text rules run.now)) (rules, (run, (room_of (list_text rules run.now), tt)))
  list_some rules = record { answers = refl; room_is = refl }

  pub frame_list_one : (r r' : Result ℕ Refused) (l l' : List ℕ) → frame_list.Post κs (run, (room, tt)) r (run, (at_last room l, tt)) → frame_list.Post κs (run, (room, tt)) r' (run, (at_last room l', tt))
      → (r ≡ r') × (l ≡ l')
  frame_list_one r r' l l' p q = lays_one r r' l l' p q

  pub frame_list_some : frame_list.Post κs (run, (room, tt)) (answer_of (list_text Reader run.now)) (run, (room_of (list_text Reader run.now), tt))
  frame_list_some = record { answers = refl; room_is = refl }

  pub salvage_list_one : (r r' : Result ℕ Refused) (l l' : List ℕ) → salvage_list.Post κs (run, (room, tt)) r (run, (at_last room l, tt))
      → salvage_list.Post κs (run, (room, tt)) r' (run, (at_last room l', tt)) → (r ≡ r') × (l ≡ l')
  salvage_list_one r r' l l' p q = lays_one r r' l l' p q

  pub salvage_list_some : salvage_list.Post κs (run, (room, tt)) (answer_of (list_text Salvage run.now)) (run, (room_of (list_text Salvage run.now), tt))
  salvage_list_some = record { answers = refl; room_is = refl }
