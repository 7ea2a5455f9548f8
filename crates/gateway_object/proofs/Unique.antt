-- Of each public function: any two outcomes that its contract allows are equal, the number, the words and the room or work
-- area. The contract is named, and not written again.
use Prim.Native.Nat.{ℕ}
use mathlib.Core.Path.{◌≡◌, sym, ◌∙◌}
use mathlib.Core.List.{List}
use contract.Lifetimes.{Lfts}
use denote.Ref.{Bor, MutBor, at_last}
use Rattle.ddm_object.specs.declared.DdmObject.{DdmObject}
use Rattle.gateway_words.proofs.Unique.{answered_one, leaves_one}
use Rattle.gateway_object.proofs.lattrugone_parse_marshaled_length.Reads as parse_marshaled_length
use Rattle.gateway_object.proofs.lattrugone_strip_markers.Reads as strip_markers
use Rattle.gateway_object.proofs.put_object.Reads as put_object
use Rattle.gateway_object.proofs.lattrugone_object.Reads as object
use Rattle.gateway_object.proofs.lattrugone_find_param.Reads as find_param
use Rattle.gateway_object.proofs.lattrugone_param_step.Reads as param_step
use Rattle.gateway_object.proofs.lattrugone_object_total_length.Reads as object_total_length
use Rattle.gateway_object.proofs.lattrugone_as_u16.Reads as as_u16
use Rattle.gateway_object.proofs.lattrugone_as_u32.Reads as as_u32
use Rattle.gateway_object.proofs.lattrugone_as_i32.Reads as as_i32

module _ (κs : Lfts 0) (n r r' : ℕ) where
  pub object_total_length_one : object_total_length.Post κs (n, tt) r (n, tt) → object_total_length.Post κs (n, tt) r' (n, tt) → r ≡ r'
  object_total_length_one p q = p ∙ sym q

module _ (κs : Lfts 1) (words : MutBor (List ℕ)) (place : ℕ) (o : DdmObject) (r r' : ℕ) (l l' : List ℕ) where
  pub put_object_one : put_object.Post κs (words, (place, (o, tt))) r (at_last words l, (place, (o, tt)))
      → put_object.Post κs (words, (place, (o, tt))) r' (at_last words l', (place, (o, tt)))
      → (r ≡ r') × (l ≡ l')
  put_object_one p q = answered_one p q

module _ (κs : Lfts 2) (run : Bor (List ℕ)) (words : MutBor (List ℕ)) (r r' : ℕ) (l l' : List ℕ) where
  pub parse_marshaled_length_one : parse_marshaled_length.Post κs (run, (words, tt)) r (run, (at_last words l, tt))
      → parse_marshaled_length.Post κs (run, (words, tt)) r' (run, (at_last words l', tt))
      → (r ≡ r') × (l ≡ l')
  parse_marshaled_length_one p q = answered_one p q

  pub param_step_one : (at : ℕ)
      → param_step.Post κs (run, (at, (words, tt))) r (run, (at, (at_last words l, tt)))
      → param_step.Post κs (run, (at, (words, tt))) r' (run, (at, (at_last words l', tt)))
      → (r ≡ r') × (l ≡ l')
  param_step_one at p q = answered_one p q

  pub as_u16_one : as_u16.Post κs (run, (words, tt)) r (run, (at_last words l, tt))
      → as_u16.Post κs (run, (words, tt)) r' (run, (at_last words l', tt))
      → (r ≡ r') × (l ≡ l')
  as_u16_one p q = answered_one p q

  pub as_u32_one : as_u32.Post κs (run, (words, tt)) r (run, (at_last words l, tt))
      → as_u32.Post κs (run, (words, tt)) r' (run, (at_last words l', tt))
      → (r ≡ r') × (l ≡ l')
  as_u32_one p q = answered_one p q

  pub as_i32_one : as_i32.Post κs (run, (words, tt)) r (run, (at_last words l, tt))
      → as_i32.Post κs (run, (words, tt)) r' (run, (at_last words l', tt))
      → (r ≡ r') × (l ≡ l')
  as_i32_one p q = answered_one p q

module _ (κs : Lfts 3) (run : Bor (List ℕ)) (room words : MutBor (List ℕ)) (r r' : ℕ) (k k' l l' : List ℕ) where
  pub strip_markers_one : strip_markers.Post κs (run, (room, (words, tt))) r (run, (at_last room k, (at_last words l, tt)))
      → strip_markers.Post κs (run, (room, (words, tt))) r' (run, (at_last room k', (at_last words l', tt)))
      → (r ≡ r') × (l ≡ l') × (k ≡ k')
  strip_markers_one p q = leaves_one p q

  module _ (at : ℕ) where
    pub object_one : object.Post κs (run, (at, (room, (words, tt)))) r (run, (at, (at_last room k, (at_last words l, tt))))
        → object.Post κs (run, (at, (room, (words, tt)))) r' (run, (at, (at_last room k', (at_last words l', tt))))
        → (r ≡ r') × (l ≡ l') × (k ≡ k')
    object_one p q = leaves_one p q

    pub find_param_one : find_param.Post κs (run, (at, (room, (words, tt)))) r (run, (at, (at_last room k, (at_last words l, tt))))
        → find_param.Post κs (run, (at, (room, (words, tt)))) r' (run, (at, (at_last room k', (at_last words l', tt))))
        → (r ≡ r') × (l ≡ l') × (k ≡ k')
    find_param_one p q = leaves_one p q
