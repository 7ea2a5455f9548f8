-- Any two outcomes that a contract of this crate allows are equal. Each statement names the contract, and doesn't write it again.
use Rattle.std.specs.Prelude.{Result}
use Prim.Native.Nat.{ℕ}
use mathlib.Core.Path.{◌≡◌, sym, ◌∙◌}
use mathlib.Core.Bool.{Bool}
use mathlib.Core.List.{List}
use contract.Lifetimes.{Lfts}
use denote.Ref.{Bor, MutBor, at_last}
use denote.RattleType.{RattleType}
use denote.Param.Laws.{Laws}
use mir.Syntax.{Dict}
use Rattle.ddm_length.specs.declared.Payload.{Ghosts}
use Rattle.ddm_length.proofs.u16_in.Reads as u16_in
use Rattle.ddm_length.proofs.length_in.Reads as length_in
use Rattle.ddm_length.proofs.measure_in.Reads as measure_in
use Rattle.ddm_length.proofs.length_at.Reads as length_at
use Rattle.ddm_length.proofs.parse_marshaled_length.Reads as parse_marshaled_length
use Rattle.ddm_length.proofs.measure_at.Reads as measure_at
use Rattle.ddm_length.proofs.measure_object.Reads as measure_object
use Rattle.ddm_length.proofs.has_markers.Reads as has_markers
use Rattle.ddm_length.proofs.unmarked_len.Reads as unmarked_len
use Rattle.ddm_length.proofs.strip_extended_ddm_continuation_markers.Reads as strip
use Rattle.ddm_length.specs.declared.Marshaled.{Marshaled}
use Rattle.answer.specs.declared.Refused.{Refused}

-- ---- a payload's bytes and lengths, of each type of payload

module _ (T : RattleType) (L : Laws T) (G : Ghosts T.Denot) (D : Dict) (κs : Lfts 2) (p : Bor T.Denot) (at : ℕ) where
  pub u16_in_one : (r r' : ℕ) → u16_in.Post T L G D κs (p, (at, tt)) r (p, (at, tt)) → u16_in.Post T L G D κs (p, (at, tt)) r' (p, (at, tt)) → r ≡ r'
  u16_in_one r r' p q = p ∙ sym q

  module _ (place : ℕ) (r r' : Result Marshaled Refused) where
    pub length_in_one : length_in.Post T L G D κs (p, (at, (place, tt))) r (p, (at, (place, tt)))
        → length_in.Post T L G D κs (p, (at, (place, tt))) r' (p, (at, (place, tt))) → r ≡ r'
    length_in_one p q = p ∙ sym q

    pub measure_in_one : measure_in.Post T L G D κs (p, (at, (place, tt))) r (p, (at, (place, tt)))
        → measure_in.Post T L G D κs (p, (at, (place, tt))) r' (p, (at, (place, tt))) → r ≡ r'
    measure_in_one p q = p ∙ sym q

-- ---- lengths

pub length_at_one : (κs : Lfts 1) (b : Bor (List ℕ)) (place : ℕ) (r r' : Result Marshaled Refused)
    → length_at.Post κs (b, (place, tt)) r (b, (place, tt)) → length_at.Post κs (b, (place, tt)) r' (b, (place, tt)) → r ≡ r'
length_at_one κs b place r r' p q = p ∙ sym q

pub parse_marshaled_length_one : (κs : Lfts 1) (b : Bor (List ℕ)) (r r' : Result Marshaled Refused)
    → parse_marshaled_length.Post κs (b, tt) r (b, tt) → parse_marshaled_length.Post κs (b, tt) r' (b, tt) → r ≡ r'
parse_marshaled_length_one κs b r r' p q = p ∙ sym q

pub measure_at_one : (κs : Lfts 1) (b : Bor (List ℕ)) (place : ℕ) (r r' : Result Marshaled Refused)
    → measure_at.Post κs (b, (place, tt)) r (b, (place, tt)) → measure_at.Post κs (b, (place, tt)) r' (b, (place, tt)) → r ≡ r'
measure_at_one κs b place r r' p q = p ∙ sym q

pub measure_object_one : (κs : Lfts 1) (b : Bor (List ℕ)) (r r' : Result Marshaled Refused)
    → measure_object.Post κs (b, tt) r (b, tt) → measure_object.Post κs (b, tt) r' (b, tt) → r ≡ r'
measure_object_one κs b r r' p q = p ∙ sym q

-- ---- markers

pub has_markers_one : (κs : Lfts 1) (d : Bor (List ℕ)) (r r' : Bool)
    → has_markers.Post κs (d, tt) r (d, tt) → has_markers.Post κs (d, tt) r' (d, tt) → r ≡ r'
has_markers_one κs d r r' p q = p ∙ sym q

pub unmarked_len_one : (κs : Lfts 1) (d : Bor (List ℕ)) (r r' : ℕ)
    → unmarked_len.Post κs (d, tt) r (d, tt) → unmarked_len.Post κs (d, tt) r' (d, tt) → r ≡ r'
unmarked_len_one κs d r r' p q = p ∙ sym q

-- ---- rooms

pub strip_one : (κs : Lfts 2) (d : Bor (List ℕ)) (work : MutBor (List ℕ)) (r r' : Result ℕ Refused) (l l' : List ℕ)
    → strip.Post κs (d, (work, tt)) r (d, (at_last work l, tt)) → strip.Post κs (d, (work, tt)) r' (d, (at_last work l', tt))
    → (r ≡ r') × (l ≡ l')
strip_one κs d work r r' l l' p q = (p.answers ∙ sym q.answers, p.room_is ∙ sym q.room_is)
