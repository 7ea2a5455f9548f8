-- A frame with another payload: the head, and the payload laid down a byte at a time, are what the writer lays down.
use Prim.Native.Nat.{ℕ, zero, suc, ◌+◌, ◌*◌, ◌-◌, ◌/◌, ◌%◌, ◌≤◌, ◌<◌}
use native.Mathlib.Omega.{arith}
use native.Mathlib.Decide.{dec_le}
use mathlib.Core.Path.{◌≡◌, refl, sym, ap, ap₂, ◌∙◌}
use mathlib.Core.Bool.{false}
use mathlib.Core.List.{List, [], ◌∷◌, ◌++◌, append_assoc}
use lib.ListN.{length, take, drop, length-drop, take-append-drop}
use lib.Seq.{length-take-le}
use borrow.Author.Tests.{le-leb, lt-leb}
use Rattle.wire.specs.Bytes.{two, part, splice}
use Rattle.wire.proofs.WireLaws.{pick_yes, pick_no, part_length}
use Rattle.wire.proofs.Splicing.{splice_length}
use Rattle.dss_head.specs.declared.DssType.TheVariants.{Request}
use Rattle.dss_head.specs.Heads.{head_bytes}
use Rattle.dss_frame.specs.Written.{Sent, head_of, chunks, written, frame_size}
use Rattle.dss_laws.proofs.ChunkLaws.{chunks_last, chunks_more}
use Rattle.dss_laws.proofs.WritingLaws.{written_single, written_several, written_size}
use Rattle.ddm_change.proofs.CarriedLaws.{uncut_first, uncut_later}
use Rattle.ddm_change.specs.inner.Outlay.{raw_first, raw_at, outlaid}
use Rattle.ddm_change.proofs.OutlayLaws.{starts_yes, starts_before, outlaid_append, frame_size_grows, size_none, piece_between, piece_starting}
use Rattle.ddm_change.specs.Request.{reframed}

-- ---- a continuation, and the others behind it

module _ (n i : ℕ) (h : 32761 ≤ i) (z : (i - 32761) % 32765 ≡ 0) where
  started : (b : List ℕ) → 0 < length b → length b ≤ 32765 → outlaid n i b ≡ two (raw_at n i) ++ b
  started b o l = piece_starting n i b o (omega (arith, uncut_later i h)) (starts_yes i h z)

  outlaid_last : (b : List ℕ) → 0 < length b → length b ≤ 32765 → n ≡ i + length b → outlaid n i b ≡ two (length b + 2) ++ b
  outlaid_last b o l e =
      let k : n - i + 2 ≡ length b + 2 = omega arith in
      started b o l ∙ ap (λ (r : ℕ). two r ++ b) (pick_yes _ _ (le-leb (n - i) 32765 (omega arith)) ∙ k)

  outlaid_more : (x y c : List ℕ) → length x ≡ 32765 → 32765 < n - i → outlaid n (i + 32765) y ≡ c → outlaid n i (x ++ y) ≡ two 65535 ++ (x ++ c)
  outlaid_more x y c e l f =
      outlaid_append n i x y
      ∙ ap₂ (λ (a b : List ℕ). a ++ b) (started x (omega arith) (omega arith) ∙ ap (λ (r : ℕ). two r ++ x) (pick_no _ _ (lt-leb (n - i) 32765 l)))
      (ap (λ (m : ℕ). outlaid n (i + m) y) e ∙ f)
      ∙ append_assoc (two 65535) x c

-- by a count of chunks
chunks_outlaid : (k n i : ℕ) (b : List ℕ) → 32761 ≤ i → (i - 32761) % 32765 ≡ 0 → n ≡ i + length b → 0 < length b → length b ≤ suc k * 32765
    → outlaid n i b ≡ chunks b
chunks_outlaid zero n i b h z e o l = outlaid_last n i h z b o (omega arith) e ∙ sym (chunks_last b (omega arith))
chunks_outlaid (suc k) n i b h z e o l =
    elim (dec_le (length b) 32765) [
      | yes m ↦ outlaid_last n i h z b o m e ∙ sym (chunks_last b m)
      | no m ↦ ap (outlaid n i) (sym (take-append-drop 32765 b))
          ∙ outlaid_more n i h z (take 32765 b) (drop 32765 b) (chunks (drop 32765 b)) (length-take-le 32765 b (omega arith)) (omega arith)
          (chunks_outlaid k n (i + 32765) (drop 32765 b) (omega arith) (omega arith) (omega (arith, length-drop 32765 b))
          (omega (arith, length-drop 32765 b)) (omega (arith, length-drop 32765 b)))
          ∙ sym (chunks_more b (omega arith))
    ]

-- ---- a whole payload

outlaid_first : (n : ℕ) (b : List ℕ) → length b ≤ 32761 → outlaid n 0 b ≡ b
unfolding outlaid
outlaid_first n [] h = refl
outlaid_first n (x ∷ b) h = piece_between n 0 (x ∷ b) (omega arith) (omega (arith, uncut_first 0 (omega arith))) (starts_before 0 (omega arith))

outlaid_several : (n : ℕ) (x y : List ℕ) → length x ≡ 32761 → 0 < length y → n ≡ 32761 + length y → outlaid n 0 (x ++ y) ≡ x ++ chunks y
outlaid_several n x y e o f =
    let z : 0 + length x ≡ 32761 = omega arith in
    outlaid_append n 0 x y
    ∙ ap₂ (λ (a b : List ℕ). a ++ b) (outlaid_first n x (omega arith))
    (ap (λ (m : ℕ). outlaid n m y) z ∙ chunks_outlaid (length y / 32765) n 32761 y (omega arith) (omega arith) f o (omega arith))

-- ---- the frame

-- what the writer lays down: the head, and the payload cut
pub written_is : (f : Sent) → written f ≡ head_bytes (head_of f (raw_first (length f.payload))) ++ outlaid (length f.payload) 0 f.payload
written_is f =
    let b : List ℕ = f.payload in
    elim (dec_le (length b) 32761) [
      | yes h ↦ written_single f h
          ∙ ap₂ (λ (n : ℕ) (l : List ℕ). head_bytes (head_of f n) ++ l) (sym (pick_yes _ _ (le-leb (length b) 32761 h))) (sym (outlaid_first (length b) b h))
      | no h ↦ written_several f (omega arith)
          ∙ ap₂ (λ (n : ℕ) (l : List ℕ). head_bytes (head_of f n) ++ l) (sym (pick_no _ _ (lt-leb (length b) 32761 (omega arith))))
          (sym (ap (outlaid (length b) 0) (sym (take-append-drop 32761 b))
          ∙ outlaid_several (length b) (take 32761 b) (drop 32761 b) (length-take-le 32761 b (omega arith))
          (omega (arith, length-drop 32761 b)) (omega (arith, length-drop 32761 b))))
    ]

-- the frame that is written, with other bytes behind its length
abbrev plain : List ℕ → Sent
plain payload = record { type = Request; chained = false; same = false; correlation = 0; payload = payload }

reframed_eq : (s payload : List ℕ) → reframed s payload ≡ splice (written (plain payload)) 2 (part s 2 6)
unfolding reframed
reframed_eq s payload = refl

over : (f : Sent) (raw : ℕ) (q rest : List ℕ) → length q ≡ 4 → splice (head_bytes (head_of f raw) ++ rest) 2 q ≡ (two raw ++ q) ++ rest
unfolding splice
over f raw q rest e = ap (λ (n : ℕ). two raw ++ (q ++ drop (2 + n) (head_bytes (head_of f raw) ++ rest))) e

module _ (s payload : List ℕ) (six : 6 ≤ length s) where
  pub reframed_is : reframed s payload ≡ (two (raw_first (length payload)) ++ part s 2 6) ++ outlaid (length payload) 0 payload
  reframed_is =
      reframed_eq s payload
      ∙ ap (λ (l : List ℕ). splice l 2 (part s 2 6)) (written_is (plain payload))
      ∙ over (plain payload) (raw_first (length payload)) (part s 2 6) (outlaid (length payload) 0 payload) (part_length s 2 6 six)

  pub reframed_length : length (reframed s payload) ≡ frame_size (length payload)
  reframed_length =
      let z : frame_size 0 ≤ frame_size (length payload) = frame_size_grows 0 (length payload) (omega arith) in
      ap length (reframed_eq s payload)
      ∙ splice_length (written (plain payload)) 2 (part s 2 6) (omega (arith, part_length s 2 6 six, written_size (plain payload), size_none))
      ∙ written_size (plain payload)
