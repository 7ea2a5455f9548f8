-- The parts of the payload after, laid down one behind the other, are the frame after.
use Rattle.std.specs.Prelude.{Result, Err}
use Prim.Native.Nat.{ℕ, ◌+◌, ◌-◌, ◌^◌, ◌≤◌, ◌<◌}
use native.Mathlib.Omega.{arith}
use mathlib.Core.Path.{◌≡◌, sym, ◌∙◌, ap, ap₂}
use mathlib.Core.List.{List, [], ◌++◌, append_assoc, append-nil}
use lib.Dec.{ltb}
use borrow.Author.Tests.{ltb-true, ltb-false}
use lib.ListN.{length, drop, length-append}
use Rattle.wire.specs.Bytes.{two, part, splice}
use Rattle.wire.proofs.WireLaws.{by, part_length}
use Rattle.wire.proofs.LentParts.{tail_drop}
use Rattle.wire.proofs.Splicing.{splice_length, splice_splice}
use Rattle.answer.specs.Rooms.{capped, Lays}
use Rattle.answer.specs.declared.Refused.{Refused}
use Rattle.dss_frame.specs.Written.{frame_size}
use Rattle.dss_writer.proofs.LayingLaws.{capped_same}
use Rattle.ddm_builder.specs.Built.{length_bytes, built, built_size}
use Rattle.ddm_builder.specs.Headers.{header_of}
use Rattle.ddm_builder.proofs.HeaderLaws.{length_header, built_header}
use Rattle.ddm_change.proofs.ChangeLaws.{capped_exact, capped_beyond, capped_fits, built_size_lem, built_length, parts_length}
use Rattle.ddm_change.specs.inner.Outlay.{raw_first, outlaid}
use Rattle.ddm_change.proofs.OutlayLaws.{outlaid_append, outlaid_length, frame_size_grows, size_none}
use Rattle.ddm_change.proofs.Reframing.{reframed_is}
use Rattle.ddm_change.specs.Request.{lays_frame, refuses_it, reframed, request_of, ChangesRequest}
use Rattle.ddm_change.specs.inner.Planning.{payload_of_plan, payload_after, data_size, LayingRequest}
use Rattle.ddm_change.specs.declared.Plan.{Plan}

-- ---- parts one behind the other

-- a room that holds a head of six bytes, and the bytes x of a payload of n bytes behind it
abbrev pub Holds : List ℕ → List ℕ → ℕ → List ℕ → List ℕ → Type 0
Holds old head n x room = room ≡ splice old 0 (head ++ outlaid n 0 x)

module _ (old head : List ℕ) (n : ℕ) (six : length head ≡ 6) where
  holds_size : (x : List ℕ) → length (head ++ outlaid n 0 x) ≡ frame_size (length x)
  holds_size x =
      let z : 0 + length x ≡ length x = omega arith in
      omega (arith, length-append head (outlaid n 0 x), outlaid_length n 0 x, size_none, ap frame_size z)

  pub holds_none : (room : List ℕ) → room ≡ splice old 0 head → Holds old head n [] room
  unfolding outlaid
  holds_none room e = e ∙ ap (splice old 0) (sym (append-nil head))

  pub holds_length : (x room : List ℕ) → length x ≤ n → frame_size n ≤ length old → Holds old head n x room → length room ≡ length old
  holds_length x room h k e =
      ap length e ∙ splice_length old 0 (head ++ outlaid n 0 x) (omega (arith, holds_size x, frame_size_grows (length x) n h))

  pub holds_more : (x y room after : List ℕ) (i : ℕ) → i ≡ length x → Holds old head n x room
      → after ≡ splice room (frame_size i) (outlaid n i y) → Holds old head n (x ++ y) after
  holds_more x y room after i e h a =
      let w : i ≡ 0 + length x = omega arith in
      let z : frame_size i ≡ 0 + length (head ++ outlaid n 0 x) = ap frame_size e ∙ sym (holds_size x) ∙ omega arith in
      a
      ∙ ap (λ (r : List ℕ). splice r (frame_size i) (outlaid n i y)) h
      ∙ ap (λ (m : ℕ). splice (splice old 0 (head ++ outlaid n 0 x)) m (outlaid n i y)) z
      ∙ splice_splice old 0 (head ++ outlaid n 0 x) (outlaid n i y) (omega arith)
      ∙ ap (splice old 0) (append_assoc head (outlaid n 0 x) (outlaid n i y))
      ∙ ap (λ (l : List ℕ). splice old 0 (head ++ l)) (ap (λ (m : ℕ). outlaid n 0 x ++ outlaid n m y) w ∙ sym (outlaid_append n 0 x y))

-- ---- the parts of the payload after

six_more : (n : ℕ) → 6 + n ≤ frame_size n
unfolding frame_size
six_more n = omega arith

-- the frame given has a head
pub framed : (s : List ℕ) (cp n : ℕ) (p : Plan) → LayingRequest s cp n p → 6 ≤ length s
framed s cp n p l = omega (arith, l.led, p.payload.sound.led, ap length l.frame_is)

module _ (s : List ℕ) (p : Plan) (cp : ℕ) (new : List ℕ) (l : LayingRequest s cp (length new) p) where
  data_total : length (part (payload_of_plan p) p.first p.from ++ (built cp new ++ drop p.to (payload_of_plan p))) ≡ data_size p (length new)
  data_total =
      let v : List ℕ = payload_of_plan p in
      omega (arith, parts_length v p.first p.from p.to cp new (omega (arith, l.ordered, l.inside)))

  pub payload_total : length (payload_after p cp new) ≡ built_size (data_size p (length new))
  payload_total =
      built_length p.code_point (part (payload_of_plan p) p.first p.from ++ (built cp new ++ drop p.to (payload_of_plan p)))
      ∙ ap built_size data_total

module _ (s : List ℕ) (p : Plan) (cp : ℕ) (new room : List ℕ) (l : LayingRequest s cp (length new) p)
    (fits : frame_size p.payload_len ≤ length room) (small : length room < 2 ^ 63) where
  abbrev payload : List ℕ
  payload = payload_of_plan p

  abbrev size : ℕ
  size = data_size p (length new)

  abbrev ahead : List ℕ
  ahead = part payload p.first p.from

  abbrev behind : List ℕ
  behind = part payload p.to (length payload)

  -- what fits a room isn't given as 2^64 - 1
  pub few : p.payload_len < 2 ^ 63
  few = omega (arith, six_more p.payload_len)

  pub len_exact : p.payload_len ≡ built_size size
  len_exact =
      capped_exact (built_size size) p.payload_len l.size
      (omega (arith, few, capped_fits (built_size size) p.payload_len (omega (arith, l.size)) few))

  pub data_exact : p.data_len ≡ size
  data_exact = capped_exact size p.data_len l.data_size_is (omega (arith, few, len_exact, built_size_lem size))

  -- the payload's length, of its parts
  pub sizes : (p.payload_len ≡ 4 + length_bytes p.data_len + (p.from - p.first + (4 + length_bytes (length new) + length new) + (length (payload_of_plan p) - p.to)))
      × (length (header_of p.code_point p.data_len) ≡ 4 + length_bytes p.data_len)
      × (length ahead ≡ p.from - p.first)
      × (length (header_of cp (length new)) ≡ 4 + length_bytes (length new))
      × (length behind ≡ length (payload_of_plan p) - p.to)
  sizes = (
    omega (arith, len_exact, built_size_lem size, ap length_bytes data_exact, built_size_lem (length new)),
    length_header p.code_point p.data_len,
    part_length payload p.first p.from (omega (arith, l.ordered, l.inside)),
    length_header cp (length new),
    part_length payload p.to (length payload) (omega arith),
  )

  rest_is : behind ≡ drop p.to payload
  rest_is = tail_drop payload p.to

  data_length : length (ahead ++ (built cp new ++ drop p.to payload)) ≡ p.data_len
  data_length = data_total s p cp new l ∙ sym data_exact

  -- object's header, data up to the parameter, parameter's header, new bytes, data behind
  pub parts_are : (((header_of p.code_point p.data_len ++ ahead) ++ header_of cp (length new)) ++ new) ++ behind ≡ payload_after p cp new
  parts_are =
      let h : List ℕ = header_of p.code_point p.data_len in
      let g : List ℕ = header_of cp (length new) in
      append_assoc ((h ++ ahead) ++ g) new behind
      ∙ append_assoc (h ++ ahead) g (new ++ behind)
      ∙ append_assoc h ahead (g ++ (new ++ behind))
      ∙ ap (λ (x : List ℕ). h ++ (ahead ++ x)) (sym (append_assoc g new behind) ∙ ap₂ (λ (x y : List ℕ). x ++ y) (sym (built_header cp new)) rest_is)
      ∙ ap (λ (n : ℕ). header_of p.code_point n ++ (ahead ++ (built cp new ++ drop p.to payload))) (sym data_length)
      ∙ sym (built_header p.code_point (ahead ++ (built cp new ++ drop p.to payload)))

  pub payload_length : length (payload_after p cp new) ≡ p.payload_len
  payload_length = payload_total s p cp new l ∙ sym len_exact

  -- all of them behind the head: the frame
  pub laid_frame : (after : List ℕ)
      → Holds room (two (raw_first p.payload_len) ++ part s 2 6) p.payload_len
      ((((header_of p.code_point p.data_len ++ ahead) ++ header_of cp (length new)) ++ new) ++ behind) after
      → after ≡ splice room 0 (reframed s (payload_after p cp new))
  laid_frame after h =
      h
      ∙ ap (λ (x : List ℕ). splice room 0 ((two (raw_first p.payload_len) ++ part s 2 6) ++ outlaid p.payload_len 0 x)) parts_are
      ∙ ap (λ (n : ℕ). splice room 0 ((two (raw_first n) ++ part s 2 6) ++ outlaid n 0 (payload_after p cp new))) (sym payload_length)
      ∙ ap (splice room 0) (sym (reframed_is s (payload_after p cp new) (framed s cp (length new) p l)))

-- ---- laid down or refused

-- the room that is needed, of a length that is given as 2^64 - 1 where it is more
pub capped_frame : (n : ℕ) → capped (frame_size (capped n)) ≡ capped (frame_size n)
capped_frame n =
    by (ltb n (2 ^ 64)) (λ t. ap (λ (m : ℕ). capped (frame_size m)) (capped_same n (ltb-true n (2 ^ 64) t)))
    (λ t. let h : 2 ^ 64 ≤ n = ltb-false n (2 ^ 64) t in
    capped_beyond (frame_size (capped n)) (omega (arith, six_more (capped n), capped_beyond n h)) ∙ sym (capped_beyond (frame_size n) (omega (arith, six_more n))))

module _ (s : List ℕ) (cp : ℕ) (new room : List ℕ) where
  pub request_laid : (b : List ℕ) (r : Result ℕ Refused) (after : List ℕ) → request_of s cp new ≡ lays_frame b → Lays b room r after → ChangesRequest s cp new room r after
  request_laid b r after e p = record { answers = p.answers ∙ sym (rw e); room_is = p.room_is ∙ sym (rw e) }

  pub request_refuses : (r : Refused) → request_of s cp new ≡ refuses_it r → ChangesRequest s cp new room (Err r) room
  request_refuses r e = record { answers = sym (rw e); room_is = sym (rw e) }
