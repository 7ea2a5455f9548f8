-- A frame with another payload is read as the first one was: by the reader's rules one frame, with that payload, and with the same head but
-- for its length. Whatever the four bytes behind its length are.
use Rattle.std.specs.Prelude.{Result, Ok, Err}
use Prim.Native.Nat.{ℕ, ◌+◌, ◌-◌, ◌*◌, ◌%◌, ◌≤◌, ◌<◌}
use native.Mathlib.Omega.{arith}
use mathlib.Core.Path.{◌≡◌, refl, sym, ◌∙◌, ap, ap₂, subst}
use mathlib.Core.Bool.{true, false}
use mathlib.Core.List.{List, [], ◌∷◌, ◌++◌, append-nil}
use borrow.Author.Tests.{eq-eqb, le-leb, le-ltb, lt-ltb}
use lib.Dec.{eqb, ltb, leb}
use lib.ListN.{length, get_or, drop}
use lib.Seq.{take_all, get_or-drop}
use Rattle.wire.specs.Bytes.{be16, two, part}
use Rattle.wire.proofs.WireLaws.{pick_yes, pick_no, picked, and_both}
use Rattle.dss_head.specs.Heads.{head_at, head_with, length_of, type_at, flags_of}
use Rattle.dss_head.specs.declared.DssHeader.{DssHeader}
use Rattle.dss_head.specs.declared.DssType.TheVariants.{Request}
use Rattle.dss_frame.specs.declared.Rules.TheVariants.{Reader}
use Rattle.dss_frame.specs.Segments.{Segment, Walk, whole, short, dead, payload_of, end_of, frame_walk}
use Rattle.dss_frame.specs.Reading.{Frame, frame}
use Rattle.dss_frame.specs.Written.{Sent, written, frame_size}
use Rattle.dss_laws.proofs.Framed.{Framed, single, several, segments_of, segments_end, framed_walk, Even}
use Rattle.dss_laws.proofs.WritingLaws.{framed_written, payload_written, written_size}
use Rattle.dss_laws.proofs.HeadFields.{head_written}
use Rattle.ddm_change.specs.Alone.{alone_head, alone_walk, alone_at}
use Rattle.ddm_change.specs.inner.Carried.{carried_bytes, carried}
use Rattle.ddm_change.proofs.FramesCarried.{carriage_in, carries}
use Rattle.ddm_change.specs.inner.Outlay.{raw_first, outlaid}
use Rattle.ddm_change.proofs.Reframing.{written_is, reframed_is, reframed_length}
use Rattle.ddm_change.specs.Request.{reframed, unreadable}
use Rattle.change_laws.proofs.HeadKept.{part_six}
use Rattle.dss_head.specs.declared.DssType.{DssType}
use Rattle.answer.specs.declared.Refused.{Refused}

pub clash : {P : Type 0} → ◌≡◌ {A = ℕ} 0 1 → P
clash e = absurd (omega arith)

-- ---- heads

-- the head, with another length
abbrev pub relength : ℕ → DssHeader → DssHeader
relength n h = record { length = n; dss_type = h.dss_type; flags = h.flags; correlation_id = h.correlation_id }

head_read : (s : List ℕ) (f : Frame) → alone_at Reader s 0 ≡ frame f → head_at s 0 ≡ Ok f.head
unfolding alone_at
head_read s f e = picked (leb 0 (length s)) e (λ _ k. by_walk (frame_walk Reader s 0) k) (λ _ k. clash cc)
  where
    by_head : (gs : List Segment) (h : Result DssHeader Refused) → alone_head s 0 gs h ≡ frame f → h ≡ Ok f.head
    by_head gs (Err r) k = clash cc
    by_head gs (Ok h) k = picked (ltb (be16 s 0) 6) k (λ _ q. clash cc) (λ _ q. cc)

    by_walk : (x : Walk) → alone_walk s 0 x ≡ frame f → head_at s 0 ≡ Ok f.head
    by_walk short k = clash cc
    by_walk (dead q) k = clash cc
    by_walk (whole gs) k = by_head gs (head_at s 0) k

-- another length and other bytes about the four that make it
abbrev about : List ℕ → ℕ → List ℕ → List ℕ
about s raw rest = two raw ++ (get_or s 2 0 ∷ get_or s 3 0 ∷ get_or s 4 0 ∷ get_or s 5 0 ∷ rest)

head_same : (s : List ℕ) (raw : ℕ) (rest : List ℕ) (h : DssHeader) → head_at s 0 ≡ Ok h
    → head_at (about s raw rest) 0 ≡ Ok (relength (length_of (be16 (about s raw rest) 0)) h)
head_same s raw rest h e =
    picked (ltb (length s - 0) 6) e (λ _ k. clash cc) (λ _ k.
    picked (eqb (get_or s 2 0) 0xD0) k
    (λ u k. pick_no _ _ (le-ltb (length (about s raw rest) - 0) 6 (omega arith)) ∙ pick_yes _ _ u ∙ go (type_at (get_or s 3 0) 0) k) (λ _ k. clash cc))
  where
    go : (t : Result DssType Refused) → head_with s 0 t ≡ Ok h → head_with (about s raw rest) 0 t ≡ Ok (relength (length_of (be16 (about s raw rest) 0)) h)
    go (Err r) k = clash cc
    go (Ok t) k =
        let z : record { length = length_of (be16 s 0); dss_type = t; flags = flags_of (get_or s 3 0); correlation_id = be16 s 4 } ≡ h = cc in
        ap (λ (d : DssHeader). Ok (relength (length_of (be16 (about s raw rest) 0)) d)) z

-- ---- frames by their length fields

long : {n : ℕ} {b : List ℕ} → Framed n b → 6 ≤ be16 b 0
long (single h e w) = omega arith
long (several k r e lo hi w) = omega (arith, w.starts)

module _ {n : ℕ} {b : List ℕ} (x : Framed n b) (u : Even n → ⊥) (h : DssHeader) (e : head_at b 0 ≡ Ok h) where
  abbrev framed : Frame
  framed = record { head = h; segments = segments_of x 0 }

  alone_framed : alone_at Reader b 0 ≡ frame framed
  unfolding alone_at
  alone_framed =
      pick_yes _ _ (le-leb 0 (length b) (omega arith))
      ∙ ap (alone_walk b 0) (framed_walk x Reader u b [] 0 (sym (append-nil b)))
      ∙ ap (alone_head b 0 (segments_of x 0)) e
      ∙ pick_no _ _ (le-ltb (be16 b 0) 6 (long x))

  carried_framed : payload_of b (segments_of x 0) ≡ carried (carriage_in (length (segments_of x 0))) b
  carried_framed =
      (carries b framed alone_framed).payload_is
      ∙ ap (carried (carriage_in (length (segments_of x 0)))) (take_all (end_of 0 (segments_of x 0)) b (omega (arith, segments_end x 0)))

-- the same first length, and the same bytes behind the head
module _ (a b : List ℕ) (starts : be16 a 0 ≡ be16 b 0) (behind : drop 6 a ≡ drop 6 b) where
  two_same : (k : ℕ) → 6 ≤ k → be16 b k ≡ be16 a k
  two_same k h = sym (ap₂ (λ (x y : ℕ). x * 256 + y) (byte k h) (byte (k + 1) (omega arith)))
    where
      byte : (k : ℕ) → 6 ≤ k → get_or a k 0 ≡ get_or b k 0
      byte k h =
          let z : 6 + (k - 6) ≡ k = omega arith in
          subst (λ (j : ℕ). get_or a j 0 ≡ get_or b j 0) z (sym (get_or-drop 6 a (k - 6) 0) ∙ ap (λ (l : List ℕ). get_or l (k - 6) 0) behind ∙ get_or-drop 6 b (k - 6) 0)

  refit : {n : ℕ} → length a ≡ length b → (x : Framed n a) → record { cut : Framed n b; same : segments_of cut 0 ≡ segments_of x 0 }
  unfolding segments_of
  refit size (single h e w) = record { cut = single h (omega arith) (omega arith); same = refl }
  refit size (several k r e lo hi w) =
      let last : be16 b ((k + 1) * 32767) ≡ r + 2 = two_same ((k + 1) * 32767) (omega arith) ∙ w.last in
      let full : (i : ℕ) → i < k → be16 b ((i + 1) * 32767) ≡ 65535 = λ i h. two_same ((i + 1) * 32767) (omega arith) ∙ w.full i h in
      record { cut = several k r e lo hi (record { size = omega (arith, w.size); starts = sym starts ∙ w.starts; full = full; last = last }); same = refl }

  carried_same : (gs hs : List Segment) → gs ≡ hs → carried (carriage_in (length gs)) b ≡ carried (carriage_in (length hs)) a
  unfolding carried
  carried_same gs hs e = ap₂ (λ (g : List Segment) (l : List ℕ). carried_bytes 32761 (length g - 1) l) e (sym behind)

-- ---- the frame with another payload

-- read alone: wholly consumed, the head but for its length, the payload
pub record ReframedReadsAs (w : List ℕ) (h : DssHeader) (payload : List ℕ) : Type 0 where
  pub read : Frame
  pub stands : alone_at Reader w 0 ≡ frame read
  pub head_is : read.head ≡ relength (length_of (be16 w 0)) h
  pub ends : end_of 0 read.segments ≡ length w
  pub holds : payload_of w read.segments ≡ payload

not_even : (n : ℕ) → unreadable n ≡ false → Even n → ⊥
not_even n t e =
    let z : (n - 32761) % 32765 ≡ 0 = omega (arith, e.size) in
    let y : true ≡ false = sym (and_both _ _ (lt-ltb 32761 n (omega (arith, e.size))) (eq-eqb ((n - 32761) % 32765) 0 z)) ∙ t in
    clash cc

module _ (s p : List ℕ) (six : 6 ≤ length s) where
  after_is : reframed s p ≡ about s (raw_first (length p)) (outlaid (length p) 0 p)
  after_is = reframed_is s p six ∙ ap (λ (l : List ℕ). (two (raw_first (length p)) ++ l) ++ outlaid (length p) 0 p) (part_six s six)

  pub reframed_longer : 6 + length p ≤ length (reframed s p)
  unfolding frame_size
  reframed_longer = omega (arith, reframed_length s p six)

  -- once more with another one: as from the first
  pub reframed_again : (q : List ℕ) → reframed (reframed s p) q ≡ reframed s q
  reframed_again q =
      reframed_is (reframed s p) q (omega (arith, reframed_longer))
      ∙ ap (λ (l : List ℕ). (two (raw_first (length q)) ++ l) ++ outlaid (length q) 0 q) (ap (λ (l : List ℕ). part l 2 6) after_is ∙ sym (part_six s six))
      ∙ sym (reframed_is s q six)

  -- by the plain frame that the writer lays down
  pub reframed_reads : (f : Frame) → alone_at Reader s 0 ≡ frame f → unreadable (length p) ≡ false → ReframedReadsAs (reframed s p) f.head p
  reframed_reads f e t =
      let g : Sent = record { type = Request; chained = false; same = false; correlation = 0; payload = p } in
      let starts : be16 (written g) 0 ≡ be16 (reframed s p) 0 = ap (λ (l : List ℕ). be16 l 0) (written_is g) ∙ sym (ap (λ (l : List ℕ). be16 l 0) after_is) in
      let behind : drop 6 (written g) ≡ drop 6 (reframed s p) = ap (drop 6) (written_is g) ∙ sym (ap (drop 6) after_is) in
      let x = refit (written g) (reframed s p) starts behind (written_size g ∙ sym (reframed_length s p six)) (framed_written g) in
      let head : head_at (reframed s p) 0 ≡ Ok (relength (length_of (be16 (reframed s p) 0)) f.head) =
      rw after_is (head_same s (raw_first (length p)) (outlaid (length p) 0 p) f.head (head_read s f e)) in
      let u : Even (length p) → ⊥ = not_even (length p) t in
      record {
        read = framed x.cut u _ head;
        stands = alone_framed x.cut u _ head;
        head_is = refl;
        ends = segments_end x.cut 0 ∙ omega arith;
        holds = carried_framed x.cut u _ head
            ∙ carried_same (written g) (reframed s p) starts behind _ _ x.same
            ∙ sym (carried_framed (framed_written g) u _ (head_written g (omega arith)))
            ∙ payload_written g (framed_written g) (written g) [] 0 (sym (append-nil (written g)));
      }
