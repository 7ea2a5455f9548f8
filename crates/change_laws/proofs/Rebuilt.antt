-- "We build a request once a site and alter one value for each extension block": the frame of a request that was built and written, with
-- one value altered, is the frame of the request built with that value and written. As a statement over any function that alters frames.
use Prim.Native.Nat.{ℕ, ◌+◌, ◌-◌, ◌/◌, ◌%◌, ◌^◌, ◌≤◌, ◌<◌}
use native.Mathlib.Omega.{arith}
use mathlib.Core.Path.{◌≡◌, sym, ◌∙◌, ap}
use mathlib.Core.Bool.{true, false}
use mathlib.Core.List.{List, [], ◌∷◌, ◌++◌, append-nil}
use borrow.Author.Tests.{eq-eqb, ne_eqb, le-leb, lt-ltb, le-ltb, eqb-true, ltb-true}
use lib.Dec.{eqb, ltb}
use lib.ListN.{length}
use Rattle.wire.specs.Bytes.{be16, two, part}
use Rattle.wire.proofs.WireLaws.{by, pick_yes, pick_no, and_both, and_split}
use Rattle.dss_head.specs.Heads.{length_of, type_byte, flags_byte}
use Rattle.dss_frame.specs.declared.Rules.TheVariants.{Reader}
use Rattle.dss_frame.specs.Segments.{Segment, payload_of, end_of}
use Rattle.dss_frame.specs.Reading.{Frame, frame}
use Rattle.dss_frame.specs.Written.{Sent, head_of, written}
use Rattle.dss_laws.proofs.Framed.{Framed, single, several, segments_of, segments_end, framed_walk, Even}
use Rattle.dss_laws.proofs.WritingLaws.{framed_written, payload_written}
use Rattle.dss_laws.proofs.HeadFields.{head_written}
use Rattle.ddm_builder.specs.Built.{built, built_all, Fit}
use Rattle.ddm_object.specs.Objects.{Object, object, parsed}
use Rattle.ddm_object.proofs.ObjectReads.{Reads, made}
use Rattle.ddm_laws.proofs.LayoutLaws.{built_reads}
use Rattle.ddm_change.specs.Alone.{alone_head, alone_walk, alone_at}
use Rattle.ddm_change.proofs.AloneLaws.{alone_as}
use Rattle.ddm_change.specs.Change.{change_of}
use Rattle.ddm_change.specs.Request.{place_in, reframed, unreadable, Changed, lays_frame, built_of, unless_behind, request_object, request_read, request_of}
use Rattle.ddm_change.specs.inner.Outlay.{raw_first, outlaid}
use Rattle.ddm_change.proofs.Reframing.{written_is, reframed_is}
use Rattle.change_laws.proofs.SoundData.{reads_raw}
use Rattle.change_laws.proofs.Altered.{WithoutParam, alters}

abbrev pub Alterer : Type 0
Alterer = List ℕ → ℕ → List ℕ → Changed

-- a frame with another payload
abbrev pub holding : Sent → List ℕ → Sent
holding f payload = record { type = f.type; chained = f.chained; same = f.same; correlation = f.correlation; payload = payload }

-- the object that a request is: a code point, and a list of code points with data, one behind the other
abbrev pub request_is : ℕ → List (ℕ × List ℕ) → List ℕ
request_is code l = built code (built_all l)

-- neither the frame given nor the frame after is one that the reader says isn't whole
abbrev pub AltersFrames : Alterer → Type 0
AltersFrames alter = (f : Sent) (code : ℕ) (before after : List (ℕ × List ℕ)) (cp : ℕ) (old new : List ℕ)
    → f.correlation < 65536 → code < 65536 → cp < 65536 → Fit before → Fit after → length old < 2 ^ 63 → length (built_all (before ++ ((cp, old) ∷ after))) < 2 ^ 63 → WithoutParam cp before
    → (Even (length (request_is code (before ++ ((cp, old) ∷ after)))) → ⊥) → (Even (length (request_is code (before ++ ((cp, new) ∷ after)))) → ⊥)
    → alter (written (holding f (request_is code (before ++ ((cp, old) ∷ after))))) cp new ≡ lays_frame (written (holding f (request_is code (before ++ ((cp, new) ∷ after)))))

-- ---- the frame that is given

module _ (f : Sent) (small : f.correlation < 65536) (u : Even (length f.payload) → ⊥) where
  abbrev bytes : List ℕ
  bytes = written f

  abbrev cut : Framed (length f.payload) bytes
  cut = framed_written f

  abbrev segs : List Segment
  segs = segments_of cut 0

  long : {n : ℕ} {b : List ℕ} → Framed n b → (6 ≤ be16 b 0) × (6 ≤ length b)
  long (single h e w) = (omega arith, omega arith)
  long (several k r e lo hi w) = (omega (arith, w.starts), omega (arith, w.size))

  abbrev one : Frame
  one = record { head = head_of f (length_of (be16 bytes 0)); segments = segs }

  stands : alone_at Reader bytes 0 ≡ frame one
  stands =
      alone_as bytes
      ∙ ap (alone_walk bytes 0) (framed_walk cut Reader u bytes [] 0 (sym (append-nil bytes)))
      ∙ ap (alone_head bytes 0 segs) (head_written f small)
      ∙ pick_no _ _ (le-ltb (be16 bytes 0) 6 (long cut).0)

  holds : payload_of bytes segs ≡ f.payload
  holds = payload_written f cut bytes [] 0 (sym (append-nil bytes))

  -- nothing is left over behind it
  alone : (c : Changed) → unless_behind bytes segs c ≡ c
  alone c = pick_yes _ _ (le-leb (length bytes) (end_of 0 segs) (omega (arith, segments_end cut 0)))

  -- what it comes to, where its payload is one object
  comes : (o : Object) → Reads f.payload o → (cp : ℕ) (new : List ℕ) → request_of bytes cp new ≡ built_of bytes segs o (change_of o.content cp new)
  unfolding request_of
  comes o r cp new =
      let q : ℕ = place_in 0 segs 0 in
      let read : parsed (payload_of bytes segs) q ≡ object o = ap (λ (b : List ℕ). parsed b q) (holds ∙ sym (append-nil f.payload)) ∙ r.back [] q in
      let size : length (payload_of bytes segs) ≡ length f.payload = ap length holds in
      ap (request_read bytes cp new) stands
      ∙ ap (request_object bytes cp new segs) read
      ∙ pick_no _ _ (le-ltb o.consumed (length (payload_of bytes segs)) (omega (arith, r.whole)))
      ∙ alone _
      ∙ pick_no _ _ (ne_eqb (be16 (payload_of bytes segs) 0) 0x8004 (λ e. reads_raw r (sym (ap (λ (b : List ℕ). be16 b 0) holds) ∙ e)))

  -- its head stays
  head_part : part bytes 2 6 ≡ 0xD0 ∷ (type_byte f.type + flags_byte (head_of f 0).flags) ∷ two f.correlation
  head_part = ap (λ (l : List ℕ). part l 2 6) (written_is f)

  pub reframed_written : (payload : List ℕ) → reframed bytes payload ≡ written (holding f payload)
  reframed_written payload =
      reframed_is bytes payload (long cut).1
      ∙ ap (λ (l : List ℕ). (two (raw_first (length payload)) ++ l) ++ outlaid (length payload) 0 payload) head_part
      ∙ sym (written_is (holding f payload))

-- ---- readable sizes: 18 is exactly for those that the reader says aren't whole

pub readable : (n : ℕ) → (Even n → ⊥) → unreadable n ≡ false
readable n u =
    by (unreadable n)
    (λ t. let w = and_split (ltb 32761 n) (eqb ((n - 32761) % 32765) 0) t in
    let l : 32761 < n = ltb-true 32761 n w.0 in
    let z : (n - 32761) % 32765 ≡ 0 = eqb-true ((n - 32761) % 32765) 0 w.1 in
    absurd (u (even n l z)))
    (λ t. t)
  where
    even : (n : ℕ) → 32761 < n → (n - 32761) % 32765 ≡ 0 → Even n
    even n l z = record { times = (n - 32761) / 32765 - 1; size = omega arith }

pub unreadable_even : (n : ℕ) → Even n → unreadable n ≡ true
unreadable_even n u =
    and_both (ltb 32761 n) (eqb ((n - 32761) % 32765) 0) (lt-ltb 32761 n (omega (arith, u.size))) (eq-eqb ((n - 32761) % 32765) 0 (omega (arith, u.size)))

-- ---- ours does

pub alters_frames : AltersFrames request_of
alters_frames f code before after cp old new small coded pointed fit fit' few total without u v =
    let d : List ℕ = built_all (before ++ ((cp, old) ∷ after)) in
    let e : List ℕ = built_all (before ++ ((cp, new) ∷ after)) in
    let g : Sent = holding f (built code d) in
    comes g small u (made code d (length (built code d))) (built_reads code d coded total) cp new
    ∙ ap (built_of (written g) (segs g small u) (made code d (length (built code d)))) (alters before after cp old new fit fit' pointed few without)
    ∙ pick_no _ _ (readable (length (built code e)) v)
    ∙ ap lays_frame (reframed_written g small u (built code e))
