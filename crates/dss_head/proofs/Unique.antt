-- Any two outcomes that a contract of this crate allows are equal, and a head that was serialized parses to itself. Each
-- statement names the contract, and doesn't write it again.
use Rattle.std.specs.Prelude.{Result, Ok}
use Prim.Native.Nat.{ℕ, ◌≤◌, ◌<◌}
use mathlib.Core.Path.{◌≡◌, refl, sym, ap, ◌∙◌}
use mathlib.Core.Bool.{Bool}
use mathlib.Core.List.{List}
use lib.ListN.{length}
use borrow.Author.Tests.{le-leb}
use contract.Lifetimes.{Lfts}
use denote.Ref.{Bor, MutBor, at_last}
use Rattle.wire.specs.Bytes.{laid}
use Rattle.wire.proofs.WireLaws.{pick_yes}
use Rattle.answer.specs.Rooms.{laid_at_start}
use Rattle.dss_head.specs.declared.Chunk.{Chunk}
use Rattle.dss_head.specs.declared.DssType.{DssType}
use Rattle.dss_head.specs.declared.DssFlags.{DssFlags}
use Rattle.dss_head.specs.declared.DssHeader.{DssHeader}
use Rattle.dss_head.specs.Heads.{head_at, head_bytes}
use Rattle.dss_head.proofs.HeadLaws.{as_read, laid_back}
use Rattle.dss_head.proofs.decode_dss_length.Reads as decode_dss_length
use Rattle.dss_head.proofs.is_full_continuation_len.Reads as is_full_continuation_len
use Rattle.dss_head.proofs.decode_continuation_len.Reads as decode_continuation_len
use Rattle.dss_head.proofs.decide_continuation.Reads as decide_continuation
use Rattle.dss_head.proofs.DssType.from_byte.Reads as type_from_byte
use Rattle.dss_head.proofs.DssType.to_byte.Reads as type_to_byte
use Rattle.dss_head.proofs.DssFlags.none.Reads as flags_none
use Rattle.dss_head.proofs.DssFlags.to_byte.Reads as flags_to_byte
use Rattle.dss_head.proofs.DssFlags.from_byte.Reads as flags_from_byte
use Rattle.dss_head.proofs.DssHeader.parse.Reads as parse
use Rattle.dss_head.proofs.DssHeader.serialize.Reads as serialize
use Rattle.answer.specs.declared.Refused.{Refused}

-- ---- lengths

pub decode_dss_length_one : (κs : Lfts 0) (raw r r' : ℕ)
    → decode_dss_length.Post κs (raw, tt) r (raw, tt) → decode_dss_length.Post κs (raw, tt) r' (raw, tt) → r ≡ r'
decode_dss_length_one κs raw r r' p q = p ∙ sym q

pub is_full_continuation_len_one : (κs : Lfts 0) (raw : ℕ) (r r' : Bool)
    → is_full_continuation_len.Post κs (raw, tt) r (raw, tt) → is_full_continuation_len.Post κs (raw, tt) r' (raw, tt) → r ≡ r'
is_full_continuation_len_one κs raw r r' p q = p ∙ sym q

pub decode_continuation_len_one : (κs : Lfts 0) (raw r r' : ℕ)
    → decode_continuation_len.Post κs (raw, tt) r (raw, tt) → decode_continuation_len.Post κs (raw, tt) r' (raw, tt) → r ≡ r'
decode_continuation_len_one κs raw r r' p q = p ∙ sym q

pub decide_continuation_one : (κs : Lfts 0) (raw : ℕ) (r r' : Chunk)
    → decide_continuation.Post κs (raw, tt) r (raw, tt) → decide_continuation.Post κs (raw, tt) r' (raw, tt) → r ≡ r'
decide_continuation_one κs raw r r' p q = p ∙ sym q

-- ---- the format byte

pub type_from_byte_one : (κs : Lfts 0) (b : ℕ) (r r' : Result DssType Refused)
    → type_from_byte.Post κs (b, tt) r (b, tt) → type_from_byte.Post κs (b, tt) r' (b, tt) → r ≡ r'
type_from_byte_one κs b r r' p q = p ∙ sym q

pub type_to_byte_one : (κs : Lfts 0) (t : DssType) (r r' : ℕ)
    → type_to_byte.Post κs (t, tt) r (t, tt) → type_to_byte.Post κs (t, tt) r' (t, tt) → r ≡ r'
type_to_byte_one κs t r r' p q = p ∙ sym q

pub flags_none_one : (κs : Lfts 0) (r r' : DssFlags) → flags_none.Post κs tt r tt → flags_none.Post κs tt r' tt → r ≡ r'
flags_none_one κs r r' p q = p ∙ sym q

pub flags_to_byte_one : (κs : Lfts 0) (f : DssFlags) (r r' : ℕ)
    → flags_to_byte.Post κs (f, tt) r (f, tt) → flags_to_byte.Post κs (f, tt) r' (f, tt) → r ≡ r'
flags_to_byte_one κs f r r' p q = p ∙ sym q

pub flags_from_byte_one : (κs : Lfts 0) (b : ℕ) (r r' : DssFlags)
    → flags_from_byte.Post κs (b, tt) r (b, tt) → flags_from_byte.Post κs (b, tt) r' (b, tt) → r ≡ r'
flags_from_byte_one κs b r r' p q = p ∙ sym q

-- ---- heads

pub parse_one : (κs : Lfts 1) (s : Bor (List ℕ)) (r r' : Result DssHeader Refused) → parse.Post κs (s, tt) r (s, tt) → parse.Post κs (s, tt) r' (s, tt) → r ≡ r'
parse_one κs s r r' p q = p ∙ sym q

pub serialize_one : (κs : Lfts 1) (h : DssHeader) (room : MutBor (List ℕ)) (r r' : Result ℕ Refused) (l l' : List ℕ)
    → serialize.Post κs (h, (room, tt)) r (h, (at_last room l, tt)) → serialize.Post κs (h, (room, tt)) r' (h, (at_last room l', tt))
    → (r ≡ r') × (l ≡ l')
serialize_one κs h room r r' l l' p q = (p.answers ∙ sym q.answers, p.room_is ∙ sym q.room_is)

-- and one outcome is allowed, whatever the head, the run and the room
pub parse_some : (κs : Lfts 1) (s : Bor (List ℕ)) → parse.Post κs (s, tt) (head_at s.now 0) (s, tt)
parse_some κs s = refl

pub serialize_some : (κs : Lfts 1) (h : DssHeader) (room : MutBor (List ℕ))
    → serialize.Post κs (h, (room, tt)) (laid_at_start 0 (length room.now) 6) (h, (at_last room (laid room.now 0 (head_bytes h)), tt))
serialize_some κs h room = record { answers = refl; room_is = refl }

-- whatever serialize answers and leaves in a room of six bytes or more, and whatever parse then answers of that room
pub parse_back : (κs κs' : Lfts 1) (h : DssHeader) (room : MutBor (List ℕ)) (run : Bor (List ℕ)) (r : Result ℕ Refused) (l : List ℕ) (found : Result DssHeader Refused)
    → h.length < 65536 → h.correlation_id < 65536 → 6 ≤ length room.now
    → serialize.Post κs (h, (room, tt)) r (h, (at_last room l, tt)) → run.now ≡ l → parse.Post κs' (run, tt) found (run, tt)
    → (r ≡ Ok 6) × (found ≡ Ok (as_read h))
parse_back κs κs' h room run r l found a b k p e q = (
  p.answers ∙ pick_yes _ _ (le-leb 6 (length room.now) k),
  q ∙ ap (λ (s : List ℕ). head_at s 0) (e ∙ p.room_is) ∙ laid_back h room.now a b k,
)
