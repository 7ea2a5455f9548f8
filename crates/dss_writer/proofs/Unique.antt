-- Any two outcomes that a contract of this crate allows are equal: the answer, the state that is handed back, and every byte
-- of the room. Each statement names the contract, and doesn't write it again.
use Rattle.std.specs.Prelude.{Result}
use Prim.Native.Nat.{ℕ}
use mathlib.Core.Path.{◌≡◌, refl, sym, ◌∙◌, ap}
use mathlib.Core.Bool.{Bool}
use mathlib.Core.List.{List, [], ◌∷◌}
use lib.Dec.{leb}
use lib.ListN.{length}
use contract.Lifetimes.{Lfts}
use denote.Ref.{Bor, MutBor, at_last}
use Rattle.wire.specs.Bytes.{pick}
use Rattle.wire.specs.Parts.{start_at}
use Rattle.answer.specs.Rooms.{Lays}
use Rattle.dss_head.specs.declared.DssType.{DssType}
use Rattle.dss_frame.specs.Written.{Sent}
use Rattle.dss_writer.specs.declared.DssWriter.{DssWriter}
use Rattle.dss_writer.specs.Writer.{filled, FilledAt, Writes}
use Rattle.dss_writer.proofs.frame_size.Reads as frame_size
use Rattle.dss_writer.proofs.DssWriter.new.Reads as new
use Rattle.dss_writer.proofs.DssWriter.finish.Reads as finish
use Rattle.dss_writer.proofs.DssWriter.data.Reads as filled_part
use Rattle.dss_writer.proofs.DssWriter.correlation_id.Reads as correlation_id
use Rattle.dss_writer.proofs.DssWriter.set_correlation_id.Reads as set_correlation_id
use Rattle.dss_writer.proofs.DssWriter.next_correlation_id.Reads as next_correlation_id
use Rattle.dss_writer.proofs.DssWriter.write_dss_full.Reads as write_dss_full
use Rattle.dss_writer.proofs.DssWriter.write_dss.Reads as write_dss
use Rattle.dss_writer.proofs.DssWriter.write_request.Reads as write_request
use Rattle.dss_writer.proofs.DssWriter.write_request_no_reply.Reads as write_request_no_reply
use Rattle.dss_writer.proofs.DssWriter.write_object.Reads as write_object
use Rattle.dss_writer.proofs.DssWriter.write_object_same_corr.Reads as write_object_same_corr
use Rattle.dss_writer.proofs.DssWriter.write_request_next_same_corr.Reads as write_request_next_same_corr
use Rattle.dss_writer.proofs.build_dss_request.Reads as build_dss_request
use Rattle.dss_writer.proofs.build_dss_object.Reads as build_dss_object
use Rattle.answer.specs.declared.Refused.{Refused}

-- ---- the records that the contracts cite

writes_one : {w : DssWriter} {f : Sent} {room : List ℕ} {r r' : Result DssWriter Refused} {l l' : List ℕ} → Writes w f room r l → Writes w f room r' l' → (r ≡ r') × (l ≡ l')
writes_one p q = (p.answers ∙ sym q.answers, p.room_is ∙ sym q.room_is)

lays_one : {b room : List ℕ} {r r' : Result ℕ Refused} {l l' : List ℕ} → Lays b room r l → Lays b room r' l' → (r ≡ r') × (l ≡ l')
lays_one p q = (p.answers ∙ sym q.answers, p.room_is ∙ sym q.room_is)

-- ---- the size and the state

pub frame_size_one : (κs : Lfts 0) (n r r' : ℕ) → frame_size.Post κs (n, tt) r (n, tt) → frame_size.Post κs (n, tt) r' (n, tt) → r ≡ r'
frame_size_one κs n r r' p q = p ∙ sym q

pub new_one : (κs : Lfts 0) (id : ℕ) (r r' : DssWriter) → new.Post κs (id, tt) r (id, tt) → new.Post κs (id, tt) r' (id, tt) → r ≡ r'
new_one κs id r r' p q = p ∙ sym q

pub finish_one : (κs : Lfts 0) (w r r' : DssWriter) → finish.Post κs (w, tt) r (w, tt) → finish.Post κs (w, tt) r' (w, tt) → r ≡ r'
finish_one κs w r r' p q = p ∙ sym q

-- the part that is handed out: its bytes, and where it starts
pub data_one : (κs : Lfts 1) (w : DssWriter) (room r r' : Bor (List ℕ))
    → filled_part.Post κs (w, (room, tt)) r (w, (room, tt)) → filled_part.Post κs (w, (room, tt)) r' (w, (room, tt)) → (r.now ≡ r'.now) × (r.ref_ptr ≡ r'.ref_ptr)
data_one κs w room r r' p q = (p.bytes_are ∙ sym q.bytes_are, p.starts ∙ sym q.starts)

-- one is allowed, whatever is given
pub data_some : (κs : Lfts 1) (w : DssWriter) (room : Bor (List ℕ))
    → filled_part.Post κs (w, (room, tt)) (record { ref_ptr = start_at room (pick (leb w.fill (length room.now)) 0 (length room.now)); now = filled w.fill room.now }) (w, (room, tt))
data_some κs w room = record { bytes_are = refl; starts = refl }

-- with the mark within a room of three bytes and beyond it: two bytes at its start, and none at its end
data_parts : (room r : Bor (List ℕ)) → room.now ≡ 7 ∷ 8 ∷ 9 ∷ []
    → (FilledAt room 2 r → (r.now ≡ 7 ∷ 8 ∷ []) × (r.ref_ptr ≡ start_at room 0))
    × (FilledAt room 4 r → (r.now ≡ []) × (r.ref_ptr ≡ start_at room 3))
data_parts room r e = (λ p. (p.bytes_are ∙ ap (filled 2) e, p.starts ∙ ap (starts_of 2) e), λ p. (p.bytes_are ∙ ap (filled 4) e, p.starts ∙ ap (starts_of 4) e))
  where
    starts_of : ℕ → List ℕ → ℕ × ℕ
    starts_of fill l = start_at room (pick (leb fill (length l)) 0 (length l))

pub correlation_id_one : (κs : Lfts 0) (w : DssWriter) (r r' : ℕ) → correlation_id.Post κs (w, tt) r (w, tt) → correlation_id.Post κs (w, tt) r' (w, tt) → r ≡ r'
correlation_id_one κs w r r' p q = p ∙ sym q

pub set_correlation_id_one : (κs : Lfts 0) (w : DssWriter) (id : ℕ) (r r' : DssWriter)
    → set_correlation_id.Post κs (w, (id, tt)) r (w, (id, tt)) → set_correlation_id.Post κs (w, (id, tt)) r' (w, (id, tt)) → r ≡ r'
set_correlation_id_one κs w id r r' p q = p ∙ sym q

pub next_correlation_id_one : (κs : Lfts 0) (w r r' : DssWriter)
    → next_correlation_id.Post κs (w, tt) r (w, tt) → next_correlation_id.Post κs (w, tt) r' (w, tt) → r ≡ r'
next_correlation_id_one κs w r r' p q = p ∙ sym q

-- ---- writing a frame

module _ (κs : Lfts 2) (w : DssWriter) (chained : Bool) (payload : Bor (List ℕ)) (room : MutBor (List ℕ)) (r r' : Result DssWriter Refused) (l l' : List ℕ) where
  pub write_dss_full_one : (t : DssType) (same : Bool)
      → write_dss_full.Post κs (w, (t, (chained, (same, (payload, (room, tt)))))) r (w, (t, (chained, (same, (payload, (at_last room l, tt))))))
      → write_dss_full.Post κs (w, (t, (chained, (same, (payload, (room, tt)))))) r' (w, (t, (chained, (same, (payload, (at_last room l', tt))))))
      → (r ≡ r') × (l ≡ l')
  write_dss_full_one t same p q = writes_one p q

  pub write_dss_one : (t : DssType)
      → write_dss.Post κs (w, (t, (chained, (payload, (room, tt))))) r (w, (t, (chained, (payload, (at_last room l, tt)))))
      → write_dss.Post κs (w, (t, (chained, (payload, (room, tt))))) r' (w, (t, (chained, (payload, (at_last room l', tt)))))
      → (r ≡ r') × (l ≡ l')
  write_dss_one t p q = writes_one p q

  pub write_request_one : write_request.Post κs (w, (payload, (chained, (room, tt)))) r (w, (payload, (chained, (at_last room l, tt))))
      → write_request.Post κs (w, (payload, (chained, (room, tt)))) r' (w, (payload, (chained, (at_last room l', tt))))
      → (r ≡ r') × (l ≡ l')
  write_request_one p q = writes_one p q

  pub write_request_no_reply_one : write_request_no_reply.Post κs (w, (payload, (chained, (room, tt)))) r (w, (payload, (chained, (at_last room l, tt))))
      → write_request_no_reply.Post κs (w, (payload, (chained, (room, tt)))) r' (w, (payload, (chained, (at_last room l', tt))))
      → (r ≡ r') × (l ≡ l')
  write_request_no_reply_one p q = writes_one p q

  pub write_object_one : write_object.Post κs (w, (payload, (chained, (room, tt)))) r (w, (payload, (chained, (at_last room l, tt))))
      → write_object.Post κs (w, (payload, (chained, (room, tt)))) r' (w, (payload, (chained, (at_last room l', tt))))
      → (r ≡ r') × (l ≡ l')
  write_object_one p q = writes_one p q

  pub write_object_same_corr_one : write_object_same_corr.Post κs (w, (payload, (chained, (room, tt)))) r (w, (payload, (chained, (at_last room l, tt))))
      → write_object_same_corr.Post κs (w, (payload, (chained, (room, tt)))) r' (w, (payload, (chained, (at_last room l', tt))))
      → (r ≡ r') × (l ≡ l')
  write_object_same_corr_one p q = writes_one p q

  pub write_request_next_same_corr_one : write_request_next_same_corr.Post κs (w, (payload, (chained, (room, tt)))) r (w, (payload, (chained, (at_last room l, tt))))
      → write_request_next_same_corr.Post κs (w, (payload, (chained, (room, tt)))) r' (w, (payload, (chained, (at_last room l', tt))))
      → (r ≡ r') × (l ≡ l')
  write_request_next_same_corr_one p q = writes_one p q

-- ---- one frame at the room's first byte

module _ (κs : Lfts 2) (id : ℕ) (chained : Bool) (payload : Bor (List ℕ)) (room : MutBor (List ℕ)) (r r' : Result ℕ Refused) (l l' : List ℕ) where
  pub build_dss_request_one : build_dss_request.Post κs (id, (chained, (payload, (room, tt)))) r (id, (chained, (payload, (at_last room l, tt))))
      → build_dss_request.Post κs (id, (chained, (payload, (room, tt)))) r' (id, (chained, (payload, (at_last room l', tt))))
      → (r ≡ r') × (l ≡ l')
  build_dss_request_one p q = lays_one p q

  pub build_dss_object_one : build_dss_object.Post κs (id, (chained, (payload, (room, tt)))) r (id, (chained, (payload, (at_last room l, tt))))
      → build_dss_object.Post κs (id, (chained, (payload, (room, tt)))) r' (id, (chained, (payload, (at_last room l', tt))))
      → (r ≡ r') × (l ≡ l')
  build_dss_object_one p q = lays_one p q
