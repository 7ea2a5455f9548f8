-- Of each function: any two outcomes that its contract allows are equal. The contract is named, and not written again.
use Prim.Native.Nat.{ℕ}
use mathlib.Core.Path.{◌≡◌, sym, ◌∙◌}
use mathlib.Core.List.{List}
use contract.Lifetimes.{Lfts}
use denote.Ref.{Bor, MutBor, at_last}
use Rattle.gateway_words.proofs.Unique.{answered_one}
use Rattle.gateway_head.proofs.head.lattrugone_decode_dss_length.Reads as decode_dss_length
use Rattle.gateway_head.proofs.head.lattrugone_is_full_continuation_len.Reads as is_full_continuation_len
use Rattle.gateway_head.proofs.head.lattrugone_decode_continuation_len.Reads as decode_continuation_len
use Rattle.gateway_head.proofs.head.lattrugone_decide_continuation.Reads as decide_continuation
use Rattle.gateway_head.proofs.head.lattrugone_type_from_byte.Reads as type_from_byte
use Rattle.gateway_head.proofs.head.lattrugone_flags_from_byte.Reads as flags_from_byte
use Rattle.gateway_head.proofs.head.lattrugone_head_parse.Reads as head_parse
use Rattle.gateway_head.proofs.head.lattrugone_head_serialize.Reads as head_serialize

module _ (raw r r' : ℕ) where
  pub decode_dss_length_one : decode_dss_length.Post tt (raw, tt) r (raw, tt) → decode_dss_length.Post tt (raw, tt) r' (raw, tt) → r ≡ r'
  decode_dss_length_one p q = p ∙ sym q

  pub is_full_continuation_len_one : is_full_continuation_len.Post tt (raw, tt) r (raw, tt) → is_full_continuation_len.Post tt (raw, tt) r' (raw, tt) → r ≡ r'
  is_full_continuation_len_one p q = p ∙ sym q

  pub decode_continuation_len_one : decode_continuation_len.Post tt (raw, tt) r (raw, tt) → decode_continuation_len.Post tt (raw, tt) r' (raw, tt) → r ≡ r'
  decode_continuation_len_one p q = p ∙ sym q

  pub decide_continuation_one : decide_continuation.Post tt (raw, tt) r (raw, tt) → decide_continuation.Post tt (raw, tt) r' (raw, tt) → r ≡ r'
  decide_continuation_one p q = p ∙ sym q

  pub flags_from_byte_one : flags_from_byte.Post tt (raw, tt) r (raw, tt) → flags_from_byte.Post tt (raw, tt) r' (raw, tt) → r ≡ r'
  flags_from_byte_one p q = p ∙ sym q

module _ (words : MutBor (List ℕ)) (r r' : ℕ) (l l' : List ℕ) where
  pub type_from_byte_one : (κs : Lfts 1) (b : ℕ)
      → type_from_byte.Post κs (b, (words, tt)) r (b, (at_last words l, tt))
      → type_from_byte.Post κs (b, (words, tt)) r' (b, (at_last words l', tt))
      → (r ≡ r') × (l ≡ l')
  type_from_byte_one κs b p q = answered_one p q

  pub head_parse_one : (κs : Lfts 2) (run : Bor (List ℕ))
      → head_parse.Post κs (run, (words, tt)) r (run, (at_last words l, tt))
      → head_parse.Post κs (run, (words, tt)) r' (run, (at_last words l', tt))
      → (r ≡ r') × (l ≡ l')
  head_parse_one κs run p q = answered_one p q

  pub head_serialize_one : (κs : Lfts 2) (n t f c : ℕ) (room : MutBor (List ℕ)) (k k' : List ℕ)
      → head_serialize.Post κs (n, (t, (f, (c, (room, (words, tt)))))) r (n, (t, (f, (c, (at_last room k, (at_last words l, tt))))))
      → head_serialize.Post κs (n, (t, (f, (c, (room, (words, tt)))))) r' (n, (t, (f, (c, (at_last room k', (at_last words l', tt))))))
      → (r ≡ r') × (l ≡ l') × (k ≡ k')
  head_serialize_one κs n t f c room k k' p q =
      let w : (r ≡ r') × (l ≡ l') = answered_one p.0 q.0 in
      (w.0, w.1, p.1 ∙ sym q.1)
