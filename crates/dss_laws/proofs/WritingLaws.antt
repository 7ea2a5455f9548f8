-- What the writer lays down is framed.
use Prim.Native.Nat.{ℕ, zero, suc, ◌+◌, ◌*◌, ◌-◌, ◌/◌, ◌%◌, ◌≤◌, ◌<◌}
use native.Mathlib.Omega.{arith}
use native.Mathlib.Decide.{dec_le}
use mathlib.Core.Path.{◌≡◌, refl, ap, ap₂, ◌∙◌}
use mathlib.Core.List.{List, [], ◌∷◌, ◌++◌, append_assoc, append-nil}
use lib.ListN.{length, take, drop, length-append, length-drop, take-append-drop}
use lib.Seq.{length-take-le}
use borrow.Author.Tests.{le-leb, lt-leb}
use Rattle.wire.specs.Bytes.{be16, two}
use Rattle.dss_head.specs.Heads.{head_bytes}
use Rattle.dss_frame.specs.Segments.{first, payload_of}
use Rattle.dss_frame.specs.Written.{Sent, head_of, chunks, written, frame_size}
use Rattle.wire.proofs.WireLaws.{pick_yes, pick_no, two_back, be16_behind}
use Rattle.dss_laws.proofs.ChunkLaws.{chunks_last, chunks_more}
use Rattle.wire.proofs.Places.{piece_part, piece_next}
use Rattle.dss_laws.proofs.Framed.{Fields, Framed, single, several, later, segments_of}

-- how many full continuations, and how many bytes are left for the last
pub data Cut (m : ℕ) : Type 0 where
  cut : (k r : ℕ) → m ≡ k * 32765 + r → 1 ≤ r → r ≤ 32765 → Cut m

pub cut_of : (m : ℕ) → 1 ≤ m → Cut m
cut_of m h = cut ((m - 1) / 32765) ((m - 1) % 32765 + 1) (omega arith) (omega arith) (omega arith)

-- ---- the fields of chunks

pub record Chunked (k r : ℕ) (c : List ℕ) : Type 0 where
  pub size : length c ≡ k * 32767 + (r + 2)
  pub full : (i : ℕ) → i < k → be16 c (i * 32767) ≡ 65535
  pub last : be16 c (k * 32767) ≡ r + 2

chunked_last : (r : ℕ) (b : List ℕ) → length b ≡ r → r ≤ 32765 → Chunked 0 r (two (length b + 2) ++ b)
chunked_last r b e h =
    record {
      size = omega arith;
      full = λ i l. absurd (omega arith);
      last = two_back (length b + 2) b (omega arith) ∙ omega arith;
    }

chunked_more : (k r : ℕ) (x c : List ℕ) → length x ≡ 32765 → Chunked k r c → Chunked (suc k) r (two 65535 ++ (x ++ c))
chunked_more k r x c e w =
    record {
      size = omega (arith, length-append x c, w.size);
      full = go;
      last = be16_behind (two 65535 ++ x) c 32767 (k * 32767) (suc k * 32767) (omega arith) (omega arith) ∙ w.last;
    }
  where
    go : (i : ℕ) → i < suc k → be16 (two 65535 ++ (x ++ c)) (i * 32767) ≡ 65535
    go zero h = refl
    go (suc i) h = be16_behind (two 65535 ++ x) c 32767 (i * 32767) (suc i * 32767) (omega arith) (omega arith) ∙ w.full i (omega arith)

pub chunked : (k r : ℕ) (b : List ℕ) → length b ≡ k * 32765 + r → 1 ≤ r → r ≤ 32765 → Chunked k r (chunks b)
chunked zero r b e lo hi = rw (chunks_last b (omega arith)) (chunked_last r b (omega arith) hi)
chunked (suc k) r b e lo hi =
    rw (chunks_more b (omega arith))
    (chunked_more k r (take 32765 b) (chunks (drop 32765 b)) (length-take-le 32765 b (omega arith))
    (chunked k r (drop 32765 b) (length-drop 32765 b ∙ omega arith) lo hi))

-- ---- the equations of `written`

pub written_single : (f : Sent) → length f.payload ≤ 32761 → written f ≡ head_bytes (head_of f (length f.payload + 6)) ++ f.payload
unfolding written
written_single f h = pick_yes _ _ (le-leb (length f.payload) 32761 h)

pub written_several : (f : Sent) → 32761 < length f.payload
    → written f ≡ head_bytes (head_of f 65535) ++ (take 32761 f.payload ++ chunks (drop 32761 f.payload))
unfolding written
written_several f h = pick_no _ _ (lt-leb (length f.payload) 32761 h)

-- ---- what is written is framed

front_length : (f : Sent) → 32761 < length f.payload → length (head_bytes (head_of f 65535) ++ take 32761 f.payload) ≡ 32767
front_length f h = omega (arith, length-take-le 32761 f.payload (omega arith))

fields_written : (f : Sent) (k r : ℕ) (x c : List ℕ) → length (head_bytes (head_of f 65535) ++ x) ≡ 32767 → Chunked k r c → Fields k r (head_bytes (head_of f 65535) ++ (x ++ c))
fields_written f k r x c e w =
    record {
      size = omega (arith, length-append x c, w.size, e);
      starts = refl;
      full = λ i h. be16_behind (head_bytes (head_of f 65535) ++ x) c 32767 (i * 32767) ((i + 1) * 32767) e (omega arith) ∙ w.full i h;
      last = be16_behind (head_bytes (head_of f 65535) ++ x) c 32767 (k * 32767) ((k + 1) * 32767) e (omega arith) ∙ w.last;
    }

pub framed_written : (f : Sent) → Framed (length f.payload) (written f)
framed_written f =
    elim (dec_le (length f.payload) 32761) [
      | yes h ↦ rw (written_single f h) (single h (omega arith) (two_back (length f.payload + 6) [] (omega arith)))
      | no h ↦ many (omega arith) (cut_of (length f.payload - 32761) (omega arith))
    ]
  where
    many : 32761 < length f.payload → Cut (length f.payload - 32761) → Framed (length f.payload) (written f)
    many h (cut k r e lo hi) =
        rw (written_several f h)
        (several k r (omega arith) lo hi
        (fields_written f k r (take 32761 f.payload) (chunks (drop 32761 f.payload)) (front_length f h)
        (chunked k r (drop 32761 f.payload) (length-drop 32761 f.payload ∙ e) lo hi)))

-- how long it is: the room that a frame needs
framed_size : (n : ℕ) {b : List ℕ} → Framed n b → length b ≡ frame_size n
unfolding frame_size
framed_size n (single h e w) = omega arith
framed_size n (several k r e lo hi w) = omega (arith, w.size)

pub written_size : (f : Sent) → length (written f) ≡ frame_size (length f.payload)
written_size f = framed_size (length f.payload) (framed_written f)

-- ---- the payload comes back

pub later_payload : (k r : ℕ) (s b rest : List ℕ) (q : ℕ) → length b ≡ k * 32765 + r → 1 ≤ r → r ≤ 32765 → drop q s ≡ chunks b ++ rest → payload_of s (later k q (r + 2)) ≡ b
unfolding later payload_of
later_payload zero r s b rest q e lo hi d =
    append-nil _ ∙ piece_part s (two (length b + 2)) b rest q 2 (q + (r + 2)) (d ∙ ap (λ (l : List ℕ). l ++ rest) (chunks_last b (omega arith))) refl (omega arith)
later_payload (suc k) r s b rest q e lo hi d =
    let t : length (take 32765 b) ≡ 32765 = length-take-le 32765 b (omega arith) in
    let d₁ : drop q s ≡ two 65535 ++ (take 32765 b ++ (chunks (drop 32765 b) ++ rest)) =
    d ∙ ap (λ (l : List ℕ). l ++ rest) (chunks_more b (omega arith)) ∙ ap (λ (l : List ℕ). two 65535 ++ l) (append_assoc (take 32765 b) (chunks (drop 32765 b)) rest) in
    ap₂ (λ (x y : List ℕ). x ++ y) (piece_part s (two 65535) (take 32765 b) (chunks (drop 32765 b) ++ rest) q 2 (q + 32767) d₁ refl (omega arith))
    (later_payload k r s (drop 32765 b) rest (q + 32767) (length-drop 32765 b ∙ omega arith) lo hi
    (piece_next s (two 65535) (take 32765 b) (chunks (drop 32765 b) ++ rest) q 2 (q + 32767) d₁ refl (omega arith)))
    ∙ take-append-drop 32765 b

payload_single : (f : Sent) (s rest : List ℕ) (p : ℕ) → length f.payload ≤ 32761 → drop p s ≡ written f ++ rest → payload_of s (first p (length f.payload + 6) ∷ []) ≡ f.payload
unfolding payload_of
payload_single f s rest p h d =
    append-nil _ ∙ piece_part s (head_bytes (head_of f (length f.payload + 6))) f.payload rest p 6 (p + (length f.payload + 6)) (d ∙ ap (λ (l : List ℕ). l ++ rest) (written_single f h)) refl (omega arith)

-- over any cut of the payload: with `take 32761` here in place of x the check takes seconds
payload_cut : (h x y s rest : List ℕ) (k r p : ℕ) → length h ≡ 6 → length x ≡ 32761 → length y ≡ k * 32765 + r → 1 ≤ r → r ≤ 32765 → drop p s ≡ (h ++ (x ++ chunks y)) ++ rest
    → payload_of s (first p 32767 ∷ later k (p + 32767) (r + 2)) ≡ x ++ y
unfolding payload_of
payload_cut h x y s rest k r p six t e lo hi d =
    let d₁ : drop p s ≡ h ++ (x ++ (chunks y ++ rest)) = d ∙ simp append_assoc in
    ap₂ (λ (a b : List ℕ). a ++ b) (piece_part s h x (chunks y ++ rest) p 6 (p + 32767) d₁ six (omega arith))
    (later_payload k r s y rest (p + 32767) e lo hi (piece_next s h x (chunks y ++ rest) p 6 (p + 32767) d₁ six (omega arith)))

payload_several : (f : Sent) (k r : ℕ) (s rest : List ℕ) (p : ℕ) → length f.payload ≡ 32761 + k * 32765 + r → 1 ≤ r → r ≤ 32765 → drop p s ≡ written f ++ rest
    → payload_of s (first p 32767 ∷ later k (p + 32767) (r + 2)) ≡ f.payload
payload_several f k r s rest p e lo hi d =
    payload_cut (head_bytes (head_of f 65535)) (take 32761 f.payload) (drop 32761 f.payload) s rest k r p refl
    (length-take-le 32761 f.payload (omega arith)) (length-drop 32761 f.payload ∙ omega arith) lo hi
    (d ∙ ap (λ (l : List ℕ). l ++ rest) (written_several f (omega arith)))
    ∙ take-append-drop 32761 f.payload

-- the segments of a written frame hold its payload, wherever it stands
pub payload_written : (f : Sent) {b : List ℕ} (w : Framed (length f.payload) b) (s rest : List ℕ) (p : ℕ) → drop p s ≡ written f ++ rest → payload_of s (segments_of w p) ≡ f.payload
unfolding segments_of
payload_written f (single h _ _) s rest p d = payload_single f s rest p h d
payload_written f (several k r e lo hi _) s rest p d = payload_several f k r s rest p e lo hi d
