-- Any two outcomes that a contract of this crate allows are equal. Each statement names the contract, and doesn't write it again.
use Rattle.std.specs.Prelude.{Result}
use Prim.Native.Nat.{ℕ}
use mathlib.Core.Path.{◌≡◌, sym, ◌∙◌}
use mathlib.Core.List.{List}
use contract.Lifetimes.{Lfts}
use denote.Ref.{Bor, MutBor, at_last}
use Rattle.ddm_builder.specs.declared.DdmBuilder.{DdmBuilder}
use Rattle.ddm_builder.proofs.extended_length_byte_count.Reads as extended_length_byte_count
use Rattle.ddm_builder.proofs.serialized_header_len.Reads as serialized_header_len
use Rattle.ddm_builder.proofs.built_size.Reads as built_size
use Rattle.ddm_builder.proofs.lay_header.Reads as lay_header
use Rattle.ddm_builder.proofs.DdmBuilder.new.Reads as new
use Rattle.ddm_builder.proofs.DdmBuilder.add_code_point.Reads as add_code_point
use Rattle.ddm_builder.proofs.DdmBuilder.add_u16.Reads as add_u16
use Rattle.ddm_builder.proofs.DdmBuilder.add_u32.Reads as add_u32
use Rattle.ddm_builder.proofs.DdmBuilder.add_raw.Reads as add_raw
use Rattle.ddm_builder.proofs.DdmBuilder.build.Reads as build
use Rattle.ddm_builder.proofs.DdmBuilder.total_length.Reads as total_length
use Rattle.ddm_builder.proofs.build_param.Reads as build_param
use Rattle.ddm_builder.proofs.build_param_u16.Reads as build_param_u16
use Rattle.ddm_builder.proofs.build_ddm_object.Reads as build_ddm_object
use Rattle.answer.specs.declared.Refused.{Refused}

-- ---- lengths

pub extended_length_byte_count_one : (κs : Lfts 0) (n r r' : ℕ)
    → extended_length_byte_count.Post κs (n, tt) r (n, tt) → extended_length_byte_count.Post κs (n, tt) r' (n, tt) → r ≡ r'
extended_length_byte_count_one κs n r r' p q = p ∙ sym q

pub serialized_header_len_one : (κs : Lfts 0) (n r r' : ℕ)
    → serialized_header_len.Post κs (n, tt) r (n, tt) → serialized_header_len.Post κs (n, tt) r' (n, tt) → r ≡ r'
serialized_header_len_one κs n r r' p q = p ∙ sym q

pub built_size_one : (κs : Lfts 0) (n r r' : ℕ) → built_size.Post κs (n, tt) r (n, tt) → built_size.Post κs (n, tt) r' (n, tt) → r ≡ r'
built_size_one κs n r r' p q = p ∙ sym q

pub lay_header_one : (κs : Lfts 1) (cp n : ℕ) (room : MutBor (List ℕ)) (l l' : List ℕ)
    → lay_header.Post κs (cp, (n, (room, tt))) tt (cp, (n, (at_last room l, tt))) → lay_header.Post κs (cp, (n, (room, tt))) tt (cp, (n, (at_last room l', tt))) → l ≡ l'
lay_header_one κs cp n room l l' p q = p ∙ sym q

-- ---- the builder

pub new_one : (κs : Lfts 0) (cp : ℕ) (r r' : DdmBuilder) → new.Post κs (cp, tt) r (cp, tt) → new.Post κs (cp, tt) r' (cp, tt) → r ≡ r'
new_one κs cp r r' p q = p ∙ sym q

module _ (b : DdmBuilder) (cp n : ℕ) (d : Bor (List ℕ)) (room : MutBor (List ℕ)) (r r' : Result DdmBuilder Refused) (l l' : List ℕ) where
  pub add_code_point_one : (κs : Lfts 2) → add_code_point.Post κs (b, (cp, (d, (room, tt)))) r (b, (cp, (d, (at_last room l, tt))))
      → add_code_point.Post κs (b, (cp, (d, (room, tt)))) r' (b, (cp, (d, (at_last room l', tt)))) → (r ≡ r') × (l ≡ l')
  add_code_point_one κs p q = (p.answers ∙ sym q.answers, p.room_is ∙ sym q.room_is)

  pub add_u16_one : (κs : Lfts 1) → add_u16.Post κs (b, (cp, (n, (room, tt)))) r (b, (cp, (n, (at_last room l, tt))))
      → add_u16.Post κs (b, (cp, (n, (room, tt)))) r' (b, (cp, (n, (at_last room l', tt)))) → (r ≡ r') × (l ≡ l')
  add_u16_one κs p q = (p.answers ∙ sym q.answers, p.room_is ∙ sym q.room_is)

  pub add_u32_one : (κs : Lfts 1) → add_u32.Post κs (b, (cp, (n, (room, tt)))) r (b, (cp, (n, (at_last room l, tt))))
      → add_u32.Post κs (b, (cp, (n, (room, tt)))) r' (b, (cp, (n, (at_last room l', tt)))) → (r ≡ r') × (l ≡ l')
  add_u32_one κs p q = (p.answers ∙ sym q.answers, p.room_is ∙ sym q.room_is)

  pub add_raw_one : (κs : Lfts 2) → add_raw.Post κs (b, (d, (room, tt))) r (b, (d, (at_last room l, tt)))
      → add_raw.Post κs (b, (d, (room, tt))) r' (b, (d, (at_last room l', tt))) → (r ≡ r') × (l ≡ l')
  add_raw_one κs p q = (p.answers ∙ sym q.answers, p.room_is ∙ sym q.room_is)

pub total_length_one : (κs : Lfts 0) (b : DdmBuilder) (r r' : ℕ) → total_length.Post κs (b, tt) r (b, tt) → total_length.Post κs (b, tt) r' (b, tt) → r ≡ r'
total_length_one κs b r r' p q = p ∙ sym q

-- ---- objects laid down at a room's start

module _ (cp n : ℕ) (d : Bor (List ℕ)) (room : MutBor (List ℕ)) (r r' : Result ℕ Refused) (l l' : List ℕ) where
  pub build_one : (κs : Lfts 2) (b : DdmBuilder) → build.Post κs (b, (d, (room, tt))) r (b, (d, (at_last room l, tt)))
      → build.Post κs (b, (d, (room, tt))) r' (b, (d, (at_last room l', tt))) → (r ≡ r') × (l ≡ l')
  build_one κs b p q = (p.answers ∙ sym q.answers, p.room_is ∙ sym q.room_is)

  pub build_param_one : (κs : Lfts 2) → build_param.Post κs (cp, (d, (room, tt))) r (cp, (d, (at_last room l, tt)))
      → build_param.Post κs (cp, (d, (room, tt))) r' (cp, (d, (at_last room l', tt))) → (r ≡ r') × (l ≡ l')
  build_param_one κs p q = (p.answers ∙ sym q.answers, p.room_is ∙ sym q.room_is)

  pub build_param_u16_one : (κs : Lfts 1) → build_param_u16.Post κs (cp, (n, (room, tt))) r (cp, (n, (at_last room l, tt)))
      → build_param_u16.Post κs (cp, (n, (room, tt))) r' (cp, (n, (at_last room l', tt))) → (r ≡ r') × (l ≡ l')
  build_param_u16_one κs p q = (p.answers ∙ sym q.answers, p.room_is ∙ sym q.room_is)

  pub build_ddm_object_one : (κs : Lfts 2) → build_ddm_object.Post κs (cp, (d, (room, tt))) r (cp, (d, (at_last room l, tt)))
      → build_ddm_object.Post κs (cp, (d, (room, tt))) r' (cp, (d, (at_last room l', tt))) → (r ≡ r') × (l ≡ l')
  build_ddm_object_one κs p q = (p.answers ∙ sym q.answers, p.room_is ∙ sym q.room_is)
