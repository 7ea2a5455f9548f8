-- The laws that the writer's proofs rest on: chunks laid one behind the other, and what room there is for a frame.
use Rattle.std.specs.Prelude.{Result, Ok, Err}
use Prim.Native.Nat.{ℕ, min, ◌+◌, ◌-◌, ◌^◌, ◌≤◌, ◌<◌}
use native.Mathlib.Nat.{zero-add}
use native.Mathlib.Omega.{arith}
use mathlib.Core.Path.{◌≡◌, refl, sym, ap, ◌∙◌}
use mathlib.Core.List.{List, [], ◌++◌, append_assoc}
use lib.Dec.{ltb, leb}
use lib.ListN.{length, take, drop, length-append, length-drop}
use lib.Seq.{length-take-le, drop-drop}
use borrow.Author.Tests.{lt-ltb, le-leb, lt-leb, ltb-true, ltb-false, leb-true, leb-false}
use Rattle.wire.specs.Bytes.{two, splice}
use Rattle.wire.proofs.WireLaws.{pick_yes, pick_no, picked, by}
use Rattle.wire.proofs.Splicing.{splice_none, splice_length, laid_fits, laid_kept}
use Rattle.answer.specs.Rooms.{capped, room_for}
use Rattle.answer.specs.declared.Refused.{Refused}
use Rattle.dss_head.specs.Heads.{head_bytes}
use Rattle.dss_frame.specs.Written.{Sent, head_of, chunks, written, frame_size}
use Rattle.dss_laws.proofs.ChunkLaws.{chunks_last, chunks_more}
use Rattle.dss_laws.proofs.WritingLaws.{written_several, written_size}
use Rattle.dss_writer.specs.declared.DssWriter.{DssWriter}
use Rattle.dss_writer.specs.Writer.{wrote_by, wrote, Writes}
use Rattle.wire.proofs.LentParts.{tail, back, tail_drop, next}
use Rattle.dss_writer.specs.inner.LaidUnder.{raw_length_of, laid_under}
use Rattle.dss_head.specs.declared.DssHeader.{DssHeader}
use Rattle.dss_head.specs.declared.DssType.TheVariants.{Request}
use mathlib.Core.Bool.{false}

-- ---- chunks

-- the chunks of the bytes before `from` stand at the start of the room, and end at `at`
pub record ChunkedLaid (bytes old room : List ℕ) (from at : ℕ) : Type 0 where
  pub front : List ℕ
  pub within : from ≤ length bytes
  pub size : length front ≡ at
  pub room_is : room ≡ splice old 0 front
  pub whole : front ++ chunks (drop from bytes) ≡ chunks bytes

pub chunked_none : (bytes old : List ℕ) → ChunkedLaid bytes old old 0 0
chunked_none bytes old = record {
  front = [];
  within = omega arith;
  size = refl;
  room_is = sym (splice_none old 0);
  whole = refl;
}

module _ (bytes old room : List ℕ) (from at : ℕ) (fits : length (chunks bytes) ≤ length old) (so_far : ChunkedLaid bytes old room from at) where
  -- there is room for the chunks to come
  pub chunked_room : at + length (chunks (drop from bytes)) ≤ length old
  chunked_room = omega (arith, length-append so_far.front (chunks (drop from bytes)), ap length so_far.whole)

  pub chunked_length : length room ≡ length old
  chunked_length = ap length so_far.room_is ∙ splice_length old 0 so_far.front (omega (arith, chunked_room))

  -- what is laid into the tail from `at` on stands behind what was laid
  chunked_next : (x t : List ℕ) → t ≡ splice (tail room at) 0 x → back room at t ≡ splice old 0 (so_far.front ++ x)
  chunked_next x t e = next old 0 so_far.front room at t x (omega arith) so_far.room_is (zero-add (length so_far.front) ∙ so_far.size) e

  -- more than one chunk to come
  module _ (h : 32765 < length bytes - from) where
    chunk_whole : chunks (drop from bytes) ≡ two 65535 ++ (take 32765 (drop from bytes) ++ chunks (drop (from + 32765) bytes))
    chunk_whole =
        chunks_more (drop from bytes) (omega (arith, length-drop from bytes))
        ∙ ap (λ (l : List ℕ). two 65535 ++ (take 32765 (drop from bytes) ++ chunks l)) (drop-drop 32765 from bytes)

    chunk_length : length (take 32765 (drop from bytes)) ≡ 32765
    chunk_length = length-take-le 32765 (drop from bytes) (omega (arith, length-drop from bytes))

    pub chunk_room : at + 32767 ≤ length room
    chunk_room =
        omega (
          arith,
          chunked_room,
          chunked_length,
          ap length chunk_whole,
          length-append (take 32765 (drop from bytes)) (chunks (drop (from + 32765) bytes)),
          chunk_length,
        )

    pub chunked_more : (t : List ℕ) → t ≡ splice (tail room at) 0 (two 65535 ++ take 32765 (drop from bytes))
        → ChunkedLaid bytes old (back room at t) (from + 32765) (at + 32767)
    chunked_more t e =
        let x : List ℕ = two 65535 ++ take 32765 (drop from bytes) in
        record {
          front = so_far.front ++ x;
          within = omega arith;
          size = length-append so_far.front x ∙ omega (arith, so_far.size, chunk_length);
          room_is = chunked_next x t e;
          whole =
              append_assoc so_far.front x (chunks (drop (from + 32765) bytes))
              ∙ ap (λ (l : List ℕ). so_far.front ++ l) (sym chunk_whole)
              ∙ so_far.whole;
        }

  -- the last
  module _ (h : length bytes - from ≤ 32765) where
    last_whole : chunks (drop from bytes) ≡ two (length bytes - from + 2) ++ drop from bytes
    last_whole =
        chunks_last (drop from bytes) (omega (arith, length-drop from bytes))
        ∙ ap (λ (n : ℕ). two (n + 2) ++ drop from bytes) (length-drop from bytes)

    pub last_room : at + (2 + (length bytes - from)) ≤ length room
    last_room = omega (arith, chunked_room, chunked_length, ap length last_whole, length-drop from bytes)

    pub chunked_last : (t : List ℕ) → t ≡ splice (tail room at) 0 (two (length bytes - from + 2) ++ drop from bytes) → back room at t ≡ splice old 0 (chunks bytes)
    chunked_last t e =
        chunked_next (two (length bytes - from + 2) ++ drop from bytes) t e
        ∙ ap (splice old 0) (ap (λ (l : List ℕ). so_far.front ++ l) (sym last_whole) ∙ so_far.whole)

-- ---- a frame under a head, at the start of a room that it fits into

-- under the head that has its raw length, it is the written frame
pub written_under : (f : Sent) → laid_under (head_of f (raw_length_of (length f.payload))) f.payload ≡ written f
unfolding written
written_under f = by (leb (length f.payload) 32761) (λ t. rw t) (λ t. rw t)

module _ (h : DssHeader) (payload room : List ℕ) (k : frame_size (length payload) ≤ length room) where
  module _ (l : length payload ≤ 32761) where
    pub single_room : 6 + length payload ≤ length room
    unfolding frame_size
    single_room = omega arith

    -- one segment
    pub single_laid : (t : List ℕ) → t ≡ splice room 0 (head_bytes h ++ payload) → t ≡ splice room 0 (laid_under h payload)
    single_laid t e = e ∙ ap (splice room 0) (sym (pick_yes _ _ (le-leb (length payload) 32761 l)))

  module _ (l : 32761 < length payload) where
    pub first_length : length (take 32761 payload) ≡ 32761
    first_length = length-take-le 32761 payload (omega arith)

    pub several_room : 32767 + length (chunks (drop 32761 payload)) ≤ length room
    several_room =
        let f : Sent = record { type = Request; chained = false; same = false; correlation = 0; payload = payload } in
        omega (
          arith,
          written_size f,
          ap length (written_several f l),
          length-append (take 32761 payload) (chunks (drop 32761 payload)),
          first_length,
        )

    -- the first segment leaves the room as long as it was
    pub first_kept : (s : List ℕ) → s ≡ splice room 0 (head_bytes h ++ take 32761 payload) → length s ≡ length room
    first_kept s e = ap length e ∙ splice_length room 0 (head_bytes h ++ take 32761 payload) (omega (arith, several_room, first_length))

    -- the first segment, and the chunks in the tail behind it
    pub several_laid : (s t : List ℕ) → s ≡ splice room 0 (head_bytes h ++ take 32761 payload)
        → t ≡ splice (tail s 32767) 0 (chunks (tail payload 32761)) → back s 32767 t ≡ splice room 0 (laid_under h payload)
    several_laid s t e d =
        let x : List ℕ = head_bytes h ++ take 32761 payload in
        next room 0 x s 32767 t (chunks (tail payload 32761)) (omega arith) e (omega (arith, first_length)) d
        ∙ ap (λ (l : List ℕ). splice room 0 (x ++ chunks l)) (tail_drop payload 32761)
        ∙ ap (splice room 0) (sym (pick_no _ _ (lt-leb (length payload) 32761 l)))

-- ---- room for a frame

-- a need that saturates is capped
pub capped_min : (n : ℕ) → min n (2 ^ 64 - 1) ≡ capped n
capped_min n =
    by (ltb n (2 ^ 64)) (λ t. let h = ltb-true n (2 ^ 64) t in let e : min n (2 ^ 64 - 1) ≡ n = omega arith in e ∙ sym (pick_yes _ _ t))
    (λ t. let h = ltb-false n (2 ^ 64) t in let e : min n (2 ^ 64 - 1) ≡ 2 ^ 64 - 1 = omega arith in e ∙ sym (pick_no _ _ t))

pub capped_same : (n : ℕ) → n < 2 ^ 64 → capped n ≡ n
capped_same n h = pick_yes _ _ (lt-ltb n (2 ^ 64) h)

-- the size that is counted is the written frame's: the need of a payload that can be lent is no more than 2^64 - 1
pub size_known : (f : Sent) (size : ℕ) → length f.payload < 2 ^ 63 → size ≡ capped (frame_size (length f.payload)) → size ≡ length (written f)
unfolding frame_size
size_known f size h e = e ∙ capped_same (frame_size (length f.payload)) (omega arith) ∙ sym (written_size f)

-- a frame has room from the writer's fill mark on
pub record FrameFits (w : DssWriter) (f : Sent) (room : List ℕ) : Type 0 where
  pub mark : w.fill ≤ length room
  pub end : w.fill + length (written f) ≤ length room

module _ (w : DssWriter) (f : Sent) (room : List ℕ) (n : ℕ) (size : n ≡ length (written f)) where
  -- where there is room
  pub fits : room_for w.fill (length room) n ≡ Ok tt → FrameFits w f room
  fits e =
      picked (leb w.fill (length room)) e
      (λ t k. let a : w.fill ≤ length room = leb-true _ _ t in
      picked (leb n (length room - w.fill)) k (λ u _. let b : n ≤ length room - w.fill = leb-true _ _ u in record { mark = a; end = omega arith })
      (λ _ k. let z : ◌≡◌ {A = ℕ} 0 1 = cc in absurd (omega arith)))
      (λ _ k. let z : ◌≡◌ {A = ℕ} 0 1 = cc in absurd (omega arith))

  pub writes_done : (r : Result DssWriter Refused) (after : List ℕ) → r ≡ wrote_by w n (Ok tt) → room_for w.fill (length room) n ≡ Ok tt → after ≡ splice room w.fill (written f)
      → Writes w f room r after
  writes_done r after d e k = record {
    answers = d ∙ ap (wrote_by w n) (sym e) ∙ ap (wrote w (length room)) size;
    room_is = k ∙ sym (laid_fits room w.fill (written f) (fits e).end);
  }

  -- where there isn't
  short : (r : Refused) → room_for w.fill (length room) n ≡ Err r → length room < w.fill + n
  short r e =
      picked (leb w.fill (length room)) e
      (λ t k. picked (leb n (length room - w.fill)) k (λ _ k. let z : ◌≡◌ {A = ℕ} 0 1 = cc in absurd (omega arith))
      (λ u _. let a : w.fill ≤ length room = leb-true _ _ t in let b : length room - w.fill < n = leb-false _ _ u in omega arith))
      (λ t _. let a : length room < w.fill = leb-false _ _ t in omega arith)

  pub writes_refused : (r : Refused) → room_for w.fill (length room) n ≡ Err r → Writes w f room (Err r) room
  writes_refused r e = record {
    answers = ap (wrote_by w n) (sym e) ∙ ap (wrote w (length room)) size;
    room_is = sym (laid_kept room w.fill (written f) (omega (arith, short r e)));
  }
