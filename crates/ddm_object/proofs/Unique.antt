-- Any two outcomes that a contract of this crate allows are equal. Each statement names the contract, and doesn't write it again.
use Rattle.std.specs.Prelude.{Result, ℤ}
use Prim.Native.Nat.{ℕ}
use mathlib.Core.Path.{◌≡◌, sym, ◌∙◌}
use mathlib.Core.List.{List}
use contract.Lifetimes.{Lfts}
use denote.Ref.{Bor, MutBor, at_last}
use Rattle.ddm_object.specs.declared.DdmObject.{DdmObject}
use Rattle.ddm_object.proofs.object_at.Reads as object_at
use Rattle.ddm_object.proofs.DdmObject.parse.Reads as parse
use Rattle.ddm_object.proofs.DdmObject.total_length.Reads as total_length
use Rattle.ddm_object.proofs.object_data.Reads as object_data
use Rattle.ddm_object.proofs.find_param.Reads as find_param
use Rattle.ddm_object.proofs.as_u16.Reads as as_u16
use Rattle.ddm_object.proofs.as_u32.Reads as as_u32
use Rattle.ddm_object.proofs.as_i32.Reads as as_i32
use Rattle.ddm_object.proofs.step_at.Reads as step_at
use Rattle.answer.specs.declared.Refused.{Refused}

-- ---- one object

module _ (run : Bor (List ℕ)) (work : MutBor (List ℕ)) (at : ℕ) (r r' : Result DdmObject Refused) (l l' : List ℕ) where
  pub object_at_one : (κs : Lfts 2) → object_at.Post κs (run, (at, (work, tt))) r (run, (at, (at_last work l, tt)))
      → object_at.Post κs (run, (at, (work, tt))) r' (run, (at, (at_last work l', tt))) → (r ≡ r') × (l ≡ l')
  object_at_one κs p q = (p.answers ∙ sym q.answers, p.work_is ∙ sym q.work_is)

  pub parse_one : (κs : Lfts 2) → parse.Post κs (run, (work, tt)) r (run, (at_last work l, tt)) → parse.Post κs (run, (work, tt)) r' (run, (at_last work l', tt)) → (r ≡ r') × (l ≡ l')
  parse_one κs p q = (p.answers ∙ sym q.answers, p.work_is ∙ sym q.work_is)

  -- `at` is the code point
  pub find_param_one : (κs : Lfts 2) → find_param.Post κs (run, (at, (work, tt))) r (run, (at, (at_last work l, tt)))
      → find_param.Post κs (run, (at, (work, tt))) r' (run, (at, (at_last work l', tt))) → (r ≡ r') × (l ≡ l')
  find_param_one κs p q = (p.answers ∙ sym q.answers, p.work_is ∙ sym q.work_is)

-- the data: the bytes, and where they start; run and work area are lent shared, and stay
pub object_data_one : (κs : Lfts 1) (run work r r' : Bor (List ℕ)) (at : ℕ)
    → object_data.Post κs (run, (at, (work, tt))) r (run, (at, (work, tt))) → object_data.Post κs (run, (at, (work, tt))) r' (run, (at, (work, tt)))
    → (r.now ≡ r'.now) × (r.ref_ptr ≡ r'.ref_ptr)
object_data_one κs run work r r' at p q = (p.bytes_are ∙ sym q.bytes_are, p.starts ∙ sym q.starts)

pub total_length_one : (κs : Lfts 0) (o : DdmObject) (r r' : ℕ) → total_length.Post κs (o, tt) r (o, tt) → total_length.Post κs (o, tt) r' (o, tt) → r ≡ r'
total_length_one κs o r r' p q = p ∙ sym q

-- ---- numbers

pub as_u16_one : (κs : Lfts 1) (d : Bor (List ℕ)) (r r' : Result ℕ Refused) → as_u16.Post κs (d, tt) r (d, tt) → as_u16.Post κs (d, tt) r' (d, tt) → r ≡ r'
as_u16_one κs d r r' p q = p ∙ sym q

pub as_u32_one : (κs : Lfts 1) (d : Bor (List ℕ)) (r r' : Result ℕ Refused) → as_u32.Post κs (d, tt) r (d, tt) → as_u32.Post κs (d, tt) r' (d, tt) → r ≡ r'
as_u32_one κs d r r' p q = p ∙ sym q

pub as_i32_one : (κs : Lfts 1) (d : Bor (List ℕ)) (r r' : Result ℤ Refused) → as_i32.Post κs (d, tt) r (d, tt) → as_i32.Post κs (d, tt) r' (d, tt) → r ≡ r'
as_i32_one κs d r r' p q = p ∙ sym q

-- ---- the walk over parameters

pub step_at_one : (κs : Lfts 1) (d : Bor (List ℕ)) (at : ℕ) (r r' : Result (DdmObject × ℕ) Refused) → step_at.Post κs (d, (at, tt)) r (d, (at, tt)) → step_at.Post κs (d, (at, tt)) r' (d, (at, tt)) → r ≡ r'
step_at_one κs d at r r' p q = p ∙ sym q
