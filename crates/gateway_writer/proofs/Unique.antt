-- Of each of the writer's functions: any two outcomes that its contract allows are equal, the number, the words and the room.
-- The contract is named, and not written again.
use Prim.Native.Nat.{ℕ}
use mathlib.Core.Path.{◌≡◌, sym, ◌∙◌}
use mathlib.Core.List.{List}
use contract.Lifetimes.{Lfts}
use denote.Ref.{Bor, MutBor, at_last}
use Rattle.gateway_words.proofs.Unique.{leaves_one}
use Rattle.gateway_writer.proofs.lattrugone_frame_size.Reads as frame_size
use Rattle.gateway_writer.proofs.lattrugone_next_correlation_id.Reads as next_correlation_id
use Rattle.gateway_writer.proofs.lattrugone_write_dss_full.Reads as write_dss_full
use Rattle.gateway_writer.proofs.lattrugone_write_dss.Reads as write_dss
use Rattle.gateway_writer.proofs.lattrugone_write_request.Reads as write_request
use Rattle.gateway_writer.proofs.lattrugone_write_request_no_reply.Reads as write_request_no_reply
use Rattle.gateway_writer.proofs.lattrugone_write_object.Reads as write_object
use Rattle.gateway_writer.proofs.lattrugone_write_object_same_corr.Reads as write_object_same_corr
use Rattle.gateway_writer.proofs.lattrugone_write_request_next_same_corr.Reads as write_request_next_same_corr
use Rattle.gateway_writer.proofs.lattrugone_build_dss_request.Reads as build_dss_request
use Rattle.gateway_writer.proofs.lattrugone_build_dss_object.Reads as build_dss_object

-- ---- the functions

module _ (n r r' : ℕ) where
  pub frame_size_one : frame_size.Post tt (n, tt) r (n, tt) → frame_size.Post tt (n, tt) r' (n, tt) → r ≡ r'
  frame_size_one p q = p ∙ sym q

  pub next_correlation_id_one : next_correlation_id.Post tt (n, tt) r (n, tt) → next_correlation_id.Post tt (n, tt) r' (n, tt) → r ≡ r'
  next_correlation_id_one p q = p ∙ sym q

module _ (κs : Lfts 3) (id : ℕ) (payload : Bor (List ℕ)) (room words : MutBor (List ℕ)) (r r' : ℕ) (k k' l l' : List ℕ) where
  pub write_dss_full_one : (fill t flags : ℕ)
      → write_dss_full.Post κs (id, (fill, (t, (flags, (payload, (room, (words, tt))))))) r (id, (fill, (t, (flags, (payload, (at_last room k, (at_last words l, tt)))))))
      → write_dss_full.Post κs (id, (fill, (t, (flags, (payload, (room, (words, tt))))))) r' (id, (fill, (t, (flags, (payload, (at_last room k', (at_last words l', tt)))))))
      → (r ≡ r') × (l ≡ l') × (k ≡ k')
  write_dss_full_one fill t flags p q = leaves_one p q

  pub write_dss_one : (fill t chained : ℕ)
      → write_dss.Post κs (id, (fill, (t, (chained, (payload, (room, (words, tt))))))) r (id, (fill, (t, (chained, (payload, (at_last room k, (at_last words l, tt)))))))
      → write_dss.Post κs (id, (fill, (t, (chained, (payload, (room, (words, tt))))))) r' (id, (fill, (t, (chained, (payload, (at_last room k', (at_last words l', tt)))))))
      → (r ≡ r') × (l ≡ l') × (k ≡ k')
  write_dss_one fill t chained p q = leaves_one p q

  pub write_request_one : (fill chained : ℕ)
      → write_request.Post κs (id, (fill, (chained, (payload, (room, (words, tt)))))) r (id, (fill, (chained, (payload, (at_last room k, (at_last words l, tt))))))
      → write_request.Post κs (id, (fill, (chained, (payload, (room, (words, tt)))))) r' (id, (fill, (chained, (payload, (at_last room k', (at_last words l', tt))))))
      → (r ≡ r') × (l ≡ l') × (k ≡ k')
  write_request_one fill chained p q = leaves_one p q

  pub write_request_no_reply_one : (fill chained : ℕ)
      → write_request_no_reply.Post κs (id, (fill, (chained, (payload, (room, (words, tt)))))) r (id, (fill, (chained, (payload, (at_last room k, (at_last words l, tt))))))
      → write_request_no_reply.Post κs (id, (fill, (chained, (payload, (room, (words, tt)))))) r' (id, (fill, (chained, (payload, (at_last room k', (at_last words l', tt))))))
      → (r ≡ r') × (l ≡ l') × (k ≡ k')
  write_request_no_reply_one fill chained p q = leaves_one p q

  pub write_object_one : (fill chained : ℕ)
      → write_object.Post κs (id, (fill, (chained, (payload, (room, (words, tt)))))) r (id, (fill, (chained, (payload, (at_last room k, (at_last words l, tt))))))
      → write_object.Post κs (id, (fill, (chained, (payload, (room, (words, tt)))))) r' (id, (fill, (chained, (payload, (at_last room k', (at_last words l', tt))))))
      → (r ≡ r') × (l ≡ l') × (k ≡ k')
  write_object_one fill chained p q = leaves_one p q

  pub write_object_same_corr_one : (fill chained : ℕ)
      → write_object_same_corr.Post κs (id, (fill, (chained, (payload, (room, (words, tt)))))) r (id, (fill, (chained, (payload, (at_last room k, (at_last words l, tt))))))
      → write_object_same_corr.Post κs (id, (fill, (chained, (payload, (room, (words, tt)))))) r' (id, (fill, (chained, (payload, (at_last room k', (at_last words l', tt))))))
      → (r ≡ r') × (l ≡ l') × (k ≡ k')
  write_object_same_corr_one fill chained p q = leaves_one p q

  pub write_request_next_same_corr_one : (fill chained : ℕ)
      → write_request_next_same_corr.Post κs (id, (fill, (chained, (payload, (room, (words, tt)))))) r (id, (fill, (chained, (payload, (at_last room k, (at_last words l, tt))))))
      → write_request_next_same_corr.Post κs (id, (fill, (chained, (payload, (room, (words, tt)))))) r' (id, (fill, (chained, (payload, (at_last room k', (at_last words l', tt))))))
      → (r ≡ r') × (l ≡ l') × (k ≡ k')
  write_request_next_same_corr_one fill chained p q = leaves_one p q

  pub build_dss_request_one : (chained : ℕ)
      → build_dss_request.Post κs (id, (chained, (payload, (room, (words, tt))))) r (id, (chained, (payload, (at_last room k, (at_last words l, tt)))))
      → build_dss_request.Post κs (id, (chained, (payload, (room, (words, tt))))) r' (id, (chained, (payload, (at_last room k', (at_last words l', tt)))))
      → (r ≡ r') × (l ≡ l') × (k ≡ k')
  build_dss_request_one chained p q = leaves_one p q

  pub build_dss_object_one : (chained : ℕ)
      → build_dss_object.Post κs (id, (chained, (payload, (room, (words, tt))))) r (id, (chained, (payload, (at_last room k, (at_last words l, tt)))))
      → build_dss_object.Post κs (id, (chained, (payload, (room, (words, tt))))) r' (id, (chained, (payload, (at_last room k', (at_last words l', tt)))))
      → (r ≡ r') × (l ≡ l') × (k ≡ k')
  build_dss_object_one chained p q = leaves_one p q
