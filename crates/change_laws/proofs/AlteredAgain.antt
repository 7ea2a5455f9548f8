-- An altered request is a request again: the reader's rules read it as one frame of one object, and altering it again is altering the first
-- one with the last value.
use Prim.Native.Nat.{ℕ, zero, suc, ◌+◌, ◌/◌, ◌%◌, ◌^◌, ◌≤◌, ◌<◌}
use native.Mathlib.Omega.{arith}
use mathlib.Core.Path.{◌≡◌, refl, sym, ◌∙◌, ap, ap₂, subst}
use mathlib.Core.Bool.{false}
use mathlib.Core.List.{List, [], ◌∷◌, ◌++◌, append-nil}
use borrow.Author.Tests.{ne_eqb, le-leb, le-ltb, eqb-false, ltb-false, leb-true}
use lib.Dec.{eqb, ltb, leb}
use lib.ListN.{length, length-append}
use lib.Seq.{length-take-le}
use Rattle.wire.specs.Bytes.{be16, two, last}
use Rattle.wire.proofs.WireLaws.{pick_yes, pick_no, pick_same, picked}
use Rattle.dss_frame.specs.declared.Rules.TheVariants.{Reader}
use Rattle.dss_frame.specs.Segments.{Segment, payload_of, end_of}
use Rattle.dss_frame.specs.Reading.{Frame, Read, frame, refused}
use Rattle.ddm_builder.specs.Built.{length_bytes, built_with, built}
use Rattle.ddm_builder.proofs.BuiltForms.{length_built}
use Rattle.ddm_object.specs.Objects.{Object, Parsed, object, parsed, parameters}
use Rattle.ddm_object.specs.Objects as ddm
use Rattle.ddm_object.proofs.ObjectReads.{Reads, made}
use Rattle.ddm_laws.proofs.LayoutLaws.{built_reads}
use Rattle.ddm_change.specs.Alone.{alone_at}
use Rattle.ddm_change.specs.Change.{Change, changed, faulty, lacking, change_of}
use Rattle.ddm_change.proofs.FramesCarried.{carries}
use Rattle.ddm_change.specs.Request.{place_in, reframed, unreadable, lays_frame, framed_of, built_of, request_object, request_read, request_of}
use Rattle.change_laws.proofs.SoundData.{reads_raw}
use Rattle.change_laws.proofs.ReframedReads.{clash, ReframedReadsAs, reframed_longer, reframed_again, reframed_reads}
use Rattle.change_laws.proofs.ChangedList.{ChangedAs, changed_as, change_there, change_again}

-- ---- a request whose data decide

-- one frame with one object, nothing left over behind either
pub record OneIn (s : List ℕ) : Type 0 where
  pub read : Frame
  pub stands : alone_at Reader s 0 ≡ frame read
  pub one : Object
  pub parses : parsed (payload_of s read.segments) (place_in 0 read.segments 0) ≡ object one
  pub all : length (payload_of s read.segments) ≤ one.consumed
  pub ends : length s ≤ end_of 0 read.segments
  pub raw : ¬ (be16 (payload_of s read.segments) 0 ≡ 0x8004)

decided : (s : List ℕ) (x : OneIn s) (cp : ℕ) (new : List ℕ) → request_of s cp new ≡ built_of s x.read.segments x.one (change_of x.one.content cp new)
unfolding request_of
decided s x cp new =
    let gs : List Segment = x.read.segments in
    ap (request_read s cp new) x.stands
    ∙ ap (request_object s cp new gs) x.parses
    ∙ pick_no _ _ (le-ltb x.one.consumed (length (payload_of s gs)) x.all)
    ∙ pick_yes _ _ (le-leb (length s) (end_of 0 gs) x.ends)
    ∙ pick_no _ _ (ne_eqb (be16 (payload_of s gs) 0) 0x8004 x.raw)

-- what a frame after tells of the frame given
pub record AlteredAs (s : List ℕ) (cp : ℕ) (new w : List ℕ) : Type 0 where
  pub from : OneIn s
  pub after : List ℕ
  pub changes : change_of from.one.content cp new ≡ changed after
  pub readable : unreadable (length (built from.one.code_point after)) ≡ false
  pub bytes : w ≡ reframed s (built from.one.code_point after)

pub altered_as : (s : List ℕ) (cp : ℕ) (new w : List ℕ) → request_of s cp new ≡ lays_frame w → AlteredAs s cp new w
unfolding request_of
altered_as s cp new w e = by_read (alone_at Reader s 0) refl e
  where
    by_change : (x : OneIn s) (c : Change) → change_of x.one.content cp new ≡ c
        → built_of s x.read.segments x.one c ≡ lays_frame w → AlteredAs s cp new w
    by_change x (changed d) i k =
        picked (unreadable (length (built x.one.code_point d))) k (λ _ q. clash cc)
        (λ t q. record { from = x; after = d; changes = i; readable = t; bytes = cc })
    by_change x (faulty place) i k = clash cc
    by_change x lacking i k = clash cc

    by_object : (f : Frame) → alone_at Reader s 0 ≡ frame f → (p : Parsed) → parsed (payload_of s f.segments) (place_in 0 f.segments 0) ≡ p
        → request_object s cp new f.segments p ≡ lays_frame w → AlteredAs s cp new w
    by_object f i (ddm.refused r) j k = picked (leb (length s) (end_of 0 f.segments)) k (λ _ q. clash cc) (λ _ q. clash cc)
    by_object f i (object o) j k =
        let b : List ℕ = payload_of s f.segments in
        picked (ltb o.consumed (length b)) k (λ _ q. clash cc) (λ t k.
        picked (leb (length s) (end_of 0 f.segments)) k (λ u k.
        picked (eqb (be16 b 0) 0x8004) k (λ _ q. clash cc) (λ v k.
        by_change (record { read = f; stands = i; one = o; parses = j; all = ltb-false _ _ t; ends = leb-true _ _ u; raw = eqb-false _ _ v }) _ refl k))
        (λ _ q. clash cc))

    by_read : (r : Read) → alone_at Reader s 0 ≡ r → request_read s cp new r ≡ lays_frame w → AlteredAs s cp new w
    by_read (refused r) i k = clash cc
    by_read (frame f) i k = by_object f i _ refl k

-- ---- altered again

-- a code point is written by its last two bytes
built_low : (cp : ℕ) (d : List ℕ) → built cp d ≡ built (cp % 65536) d
unfolding built
built_low cp d = go (length_bytes (length d))
  where
    low : two cp ≡ two (cp % 65536)
    low =
        let a : cp / 256 % 256 ≡ cp % 65536 / 256 % 256 = omega arith in
        let b : cp % 256 ≡ cp % 65536 % 256 = omega arith in
        ap₂ (λ (m n : ℕ). m ∷ n ∷ []) a b

    go : (k : ℕ) → built_with k cp d ≡ built_with k (cp % 65536) d
    go zero = ap (λ (l : List ℕ). two (length d + 4) ++ (l ++ d)) low
    go (suc k) = ap (λ (l : List ℕ). two (0x8004 + suc k) ++ (l ++ (last (suc k) (length d) ++ d))) low

module _ (s : List ℕ) (cp : ℕ) (new w : List ℕ) (a : AlteredAs s cp new w) where
  abbrev code : ℕ
  code = a.from.one.code_point

  abbrev payload : List ℕ
  payload = built code a.after

  six_given : 6 ≤ length s
  six_given =
      let k = carries s a.from.read a.from.stands in
      omega (arith, k.sound.led, length-take-le (end_of 0 a.from.read.segments) s k.within, k.within)

  size_after : 6 + length payload ≤ length w
  size_after = omega (arith, ap length a.bytes, reframed_longer s payload six_given)

  -- the reader's rules read it
  pub altered_reads : ReframedReadsAs w a.from.read.head payload
  altered_reads =
      subst (λ (l : List ℕ). ReframedReadsAs l a.from.read.head payload) (sym a.bytes)
      (reframed_reads s payload six_given a.from.read a.from.stands a.readable)

  module _ (fits : length w < 2 ^ 63) where
    abbrev low : List ℕ
    low = built (code % 65536) a.after

    reads : Reads low (made (code % 65536) a.after (length low))
    reads = built_reads (code % 65536) a.after (omega arith) (omega (arith, size_after, length_built code a.after))

    abbrev again : OneIn w
    again =
        let r = altered_reads in
        let holds : payload_of w r.read.segments ≡ low = r.holds ∙ built_low code a.after in
        record {
          read = r.read;
          stands = r.stands;
          one = made (code % 65536) a.after (length low);
          parses = ap (λ (b : List ℕ). parsed b (place_in 0 r.read.segments 0)) (holds ∙ sym (append-nil low)) ∙ reads.back [] _;
          all = omega (arith, ap length holds);
          ends = omega (arith, r.ends);
          raw = λ e. reads_raw reads (sym (ap (λ (b : List ℕ). be16 b 0) holds) ∙ e);
        }

    framed_again : (d : List ℕ) → framed_of w (built (code % 65536) d) ≡ framed_of s (built code d)
    framed_again d =
        let same : reframed w (built code d) ≡ reframed s (built code d) =
        ap (λ (l : List ℕ). reframed l (built code d)) a.bytes
        ∙ reframed_again s payload six_given (built code d) in
        ap (framed_of w) (sym (built_low code d)) ∙ pick_same (unreadable (length (built code d))) (λ _. refl) (λ _. ap lays_frame same)

pub altered_again : (s : List ℕ) (cp : ℕ) (new w : List ℕ) → cp < 65536 → length w < 2 ^ 63 → request_of s cp new ≡ lays_frame w
    → (other : List ℕ) → request_of w cp other ≡ request_of s cp other
altered_again s cp new w small fits e other =
    let a : AlteredAs s cp new w = altered_as s cp new w e in
    let c : ChangedAs a.from.one.content cp new a.after = changed_as _ cp new a.after a.changes in
    let r : List ℕ = c.at.rest in
    let l : length a.after ≡ length c.at.head + length (built cp new ++ r) = ap length c.bytes ∙ length-append c.at.head (built cp new ++ r) in
    let few : length new < 2 ^ 63 =
    omega (arith, size_after s cp new w a, length_built a.from.one.code_point a.after, length-append (built cp new) r, length_built cp new) in
    decided w (again s cp new w a fits) cp other
    ∙ ap (built_of w _ _) (change_again cp new small few _ a.after c other ∙ change_there cp other c.at)
    ∙ framed_again s cp new w a fits _
    ∙ sym (decided s a.from cp other ∙ ap (built_of s _ _) (change_there cp other c.at))

-- ---- met

-- a request with flags, its parameter 0x2110 with such data
abbrev asked : List ℕ → List ℕ
asked x = two (length x + 14) ++ (0xD0 ∷ 0xF1 ∷ 0 ∷ 3 ∷ two (length x + 8) ++ (0x20 ∷ 0x0D ∷ two (length x + 4) ++ (0x21 ∷ 0x10 ∷ x)))

gives : request_of (asked (7 ∷ [])) 0x2110 (8 ∷ 9 ∷ []) ≡ lays_frame (asked (8 ∷ 9 ∷ []))
unfolding request_of parameters
gives = refl

met : request_of (asked (8 ∷ 9 ∷ [])) 0x2110 [] ≡ request_of (asked (7 ∷ [])) 0x2110 []
met = altered_again (asked (7 ∷ [])) 0x2110 (8 ∷ 9 ∷ []) (asked (8 ∷ 9 ∷ [])) (omega arith) (omega arith) gives []
