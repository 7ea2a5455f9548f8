-- Of each of the builder's functions: any two outcomes that its contract allows are equal, the number, the words and the room.
-- The contract is named, and not written again.
use Prim.Native.Nat.{ℕ}
use mathlib.Core.Path.{◌≡◌, sym, ◌∙◌}
use mathlib.Core.List.{List}
use contract.Lifetimes.{Lfts}
use denote.Ref.{Bor, MutBor, at_last}
use Rattle.gateway_words.proofs.Unique.{leaves_one}
use Rattle.gateway_builder.proofs.lattrugone_builder_add_code_point.Reads as add_code_point
use Rattle.gateway_builder.proofs.lattrugone_builder_add_u16.Reads as add_u16
use Rattle.gateway_builder.proofs.lattrugone_builder_add_u32.Reads as add_u32
use Rattle.gateway_builder.proofs.lattrugone_builder_add_raw.Reads as add_raw
use Rattle.gateway_builder.proofs.lattrugone_builder_build.Reads as build
use Rattle.gateway_builder.proofs.lattrugone_builder_total_length.Reads as total_length
use Rattle.gateway_builder.proofs.lattrugone_build_param.Reads as build_param
use Rattle.gateway_builder.proofs.lattrugone_build_param_u16.Reads as build_param_u16
use Rattle.gateway_builder.proofs.lattrugone_build_ddm_object.Reads as build_ddm_object

-- ---- the functions

pub total_length_one : (n r r' : ℕ) → total_length.Post tt (n, tt) r (n, tt) → total_length.Post tt (n, tt) r' (n, tt) → r ≡ r'
total_length_one n r r' p q = p ∙ sym q

module _ (κs : Lfts 2) (room words : MutBor (List ℕ)) (r r' : ℕ) (k k' l l' : List ℕ) where
  pub add_u16_one : (fill cp val : ℕ)
      → add_u16.Post κs (fill, (cp, (val, (room, (words, tt))))) r (fill, (cp, (val, (at_last room k, (at_last words l, tt)))))
      → add_u16.Post κs (fill, (cp, (val, (room, (words, tt))))) r' (fill, (cp, (val, (at_last room k', (at_last words l', tt)))))
      → (r ≡ r') × (l ≡ l') × (k ≡ k')
  add_u16_one fill cp val p q = leaves_one p q

  pub add_u32_one : (fill cp val : ℕ)
      → add_u32.Post κs (fill, (cp, (val, (room, (words, tt))))) r (fill, (cp, (val, (at_last room k, (at_last words l, tt)))))
      → add_u32.Post κs (fill, (cp, (val, (room, (words, tt))))) r' (fill, (cp, (val, (at_last room k', (at_last words l', tt)))))
      → (r ≡ r') × (l ≡ l') × (k ≡ k')
  add_u32_one fill cp val p q = leaves_one p q

  pub build_param_u16_one : (cp val : ℕ)
      → build_param_u16.Post κs (cp, (val, (room, (words, tt)))) r (cp, (val, (at_last room k, (at_last words l, tt))))
      → build_param_u16.Post κs (cp, (val, (room, (words, tt)))) r' (cp, (val, (at_last room k', (at_last words l', tt))))
      → (r ≡ r') × (l ≡ l') × (k ≡ k')
  build_param_u16_one cp val p q = leaves_one p q

module _ (κs : Lfts 3) (d : Bor (List ℕ)) (room words : MutBor (List ℕ)) (r r' : ℕ) (k k' l l' : List ℕ) where
  pub add_code_point_one : (fill cp : ℕ)
      → add_code_point.Post κs (fill, (cp, (d, (room, (words, tt))))) r (fill, (cp, (d, (at_last room k, (at_last words l, tt)))))
      → add_code_point.Post κs (fill, (cp, (d, (room, (words, tt))))) r' (fill, (cp, (d, (at_last room k', (at_last words l', tt)))))
      → (r ≡ r') × (l ≡ l') × (k ≡ k')
  add_code_point_one fill cp p q = leaves_one p q

  pub add_raw_one : (fill : ℕ)
      → add_raw.Post κs (fill, (d, (room, (words, tt)))) r (fill, (d, (at_last room k, (at_last words l, tt))))
      → add_raw.Post κs (fill, (d, (room, (words, tt)))) r' (fill, (d, (at_last room k', (at_last words l', tt))))
      → (r ≡ r') × (l ≡ l') × (k ≡ k')
  add_raw_one fill p q = leaves_one p q

  pub build_one : (cp fill : ℕ)
      → build.Post κs (cp, (fill, (d, (room, (words, tt))))) r (cp, (fill, (d, (at_last room k, (at_last words l, tt)))))
      → build.Post κs (cp, (fill, (d, (room, (words, tt))))) r' (cp, (fill, (d, (at_last room k', (at_last words l', tt)))))
      → (r ≡ r') × (l ≡ l') × (k ≡ k')
  build_one cp fill p q = leaves_one p q

  pub build_param_one : (cp : ℕ)
      → build_param.Post κs (cp, (d, (room, (words, tt)))) r (cp, (d, (at_last room k, (at_last words l, tt))))
      → build_param.Post κs (cp, (d, (room, (words, tt)))) r' (cp, (d, (at_last room k', (at_last words l', tt))))
      → (r ≡ r') × (l ≡ l') × (k ≡ k')
  build_param_one cp p q = leaves_one p q

  pub build_ddm_object_one : (cp : ℕ)
      → build_ddm_object.Post κs (cp, (d, (room, (words, tt)))) r (cp, (d, (at_last room k, (at_last words l, tt))))
      → build_ddm_object.Post κs (cp, (d, (room, (words, tt)))) r' (cp, (d, (at_last room k', (at_last words l', tt))))
      → (r ≡ r') × (l ≡ l') × (k ≡ k')
  build_ddm_object_one cp p q = leaves_one p q
