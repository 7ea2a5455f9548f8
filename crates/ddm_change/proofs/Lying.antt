-- Parts of a payload in a room that has room for the whole frame: a piece, and one piece behind the other.
use Prim.Native.Nat.{ℕ, ◌+◌, ◌-◌, ◌≤◌, ◌<◌}
use native.Mathlib.Omega.{arith}
use mathlib.Core.Path.{◌≡◌, refl, sym, ap, ap₂, ◌∙◌}
use mathlib.Core.Bool.{true, false}
use mathlib.Core.List.{List, [], ◌++◌}
use lib.ListN.{length, take, drop}
use lib.Seq.{take-add, drop-drop}
use Rattle.wire.specs.Bytes.{two, part, splice, laid}
use Rattle.wire.proofs.WireLaws.{part_length}
use Rattle.wire.proofs.Splicing.{splice_none, splice_length, splice_splice, laid_fits}
use Rattle.dss_frame.specs.Written.{frame_size}
use Rattle.ddm_length.proofs.LentData.{laid_next}
use Rattle.ddm_change.specs.inner.Carried.{uncut}
use Rattle.ddm_change.specs.inner.Outlay.{starts, raw_at, outlaid}
use Rattle.ddm_change.proofs.OutlayLaws.{outlaid_append, outlaid_length, frame_size_grows, piece_between, piece_starting}

pub outlaid_fits : (n i : ℕ) (b r : List ℕ) → i + length b ≤ n → frame_size n ≤ length r → frame_size i + length (outlaid n i b) ≤ length r
outlaid_fits n i b r h f = omega (arith, outlaid_length n i b, frame_size_grows (i + length b) n h)

-- a piece, behind its length where a continuation starts
module _ (r b : List ℕ) (n i : ℕ) (o : 0 < length b) (l : length b ≤ uncut i) (h : i + length b ≤ n) (f : frame_size n ≤ length r) where
  pub lays_between : (mark : ℕ) → mark ≡ frame_size i → starts i ≡ false → laid r mark b ≡ splice r (frame_size i) (outlaid n i b)
  lays_between mark k e =
      let p : outlaid n i b ≡ b = piece_between n i b o l e in
      ap₂ (laid r) k (sym p) ∙ laid_fits r (frame_size i) (outlaid n i b) (outlaid_fits n i b r h f)

  pub lays_starting : (mark raw : ℕ) (s : List ℕ) → mark ≡ frame_size i → raw ≡ raw_at n i → starts i ≡ true → s ≡ laid r mark (two raw)
      → laid s (mark + 2) b ≡ splice r (frame_size i) (outlaid n i b)
  lays_starting mark raw s k w e q =
      let p : outlaid n i b ≡ two (raw_at n i) ++ b = piece_starting n i b o l e in
      let z : mark + 2 + length b ≤ length r = omega (arith, outlaid_fits n i b r h f, ap length p) in
      ap (λ (v : List ℕ). laid v (mark + 2) b) q
      ∙ laid_next r mark (two raw) b (mark + 2) refl z
      ∙ ap₂ (laid r) k (ap (λ (m : ℕ). two m ++ b) w ∙ sym p)
      ∙ laid_fits r (frame_size i) (outlaid n i b) (outlaid_fits n i b r h f)

-- ---- one piece behind the other

-- the bytes of p from `from` up to i, laid down as those of a payload of n bytes from its byte `at` on, where the next one is j
pub record Lying (p : List ℕ) (from to n at : ℕ) (old room : List ℕ) (i j : ℕ) : Type 0 where
  pub low : from ≤ i
  pub high : i ≤ to
  pub count : j ≡ at + (i - from)
  pub room_is : room ≡ splice old (frame_size at) (outlaid n at (part p from i))

part_none : (p : List ℕ) (a : ℕ) → part p a a ≡ []
part_none p a = let z : a - a ≡ 0 = omega arith in ap (λ (m : ℕ). take m (drop a p)) z

part_more : (p : List ℕ) (a i m : ℕ) → a ≤ i → part p a (i + m) ≡ part p a i ++ take m (drop i p)
part_more p a i m h =
    let z : i + m - a ≡ i - a + m = omega arith in
    let w : a + (i - a) ≡ i = omega arith in
    ap (λ (k : ℕ). take k (drop a p)) z
    ∙ take-add (i - a) m (drop a p)
    ∙ ap (λ (q : List ℕ). part p a i ++ take m q) (drop-drop (i - a) a p ∙ ap (λ (k : ℕ). drop k p) w)

module _ (p : List ℕ) (from to n at : ℕ) (old : List ℕ) where
  pub lying_none : from ≤ to → Lying p from to n at old old from at
  unfolding outlaid
  lying_none h = record {
    low = omega arith;
    high = h;
    count = omega arith;
    room_is = sym (ap (λ (q : List ℕ). splice old (frame_size at) (outlaid n at q)) (part_none p from) ∙ splice_none old (frame_size at));
  }

  module _ (within : to ≤ length p) (short : at + (to - from) ≤ n) (fits : frame_size n ≤ length old) where
    -- up to a place, with room behind
    lying_fits : (i : ℕ) → from ≤ i → i ≤ to → frame_size at + length (outlaid n at (part p from i)) ≤ length old
    lying_fits i l h = outlaid_fits n at (part p from i) old (omega (arith, part_length p from i (omega arith))) fits

    pub lying_length : (room : List ℕ) (i j : ℕ) → Lying p from to n at old room i j → length room ≡ length old
    lying_length room i j w =
        ap length w.room_is ∙ splice_length old (frame_size at) (outlaid n at (part p from i)) (lying_fits i w.low w.high)

    pub lying_more : (room : List ℕ) (i j m : ℕ) (x t : List ℕ) → Lying p from to n at old room i j → i + m ≤ to → x ≡ take m (drop i p)
        → t ≡ splice room (frame_size j) (outlaid n j x) → Lying p from to n at old t (i + m) (j + m)
    lying_more room i j m x t w h e q =
        let b : List ℕ = part p from i in
        let c : at + length b ≡ j = omega (arith, part_length p from i (omega (arith, w.high)), w.count, w.low) in
        let z : frame_size j ≡ frame_size at + length (outlaid n at b) = ap frame_size (sym c) ∙ sym (outlaid_length n at b) in
        record {
          low = omega (arith, w.low);
          high = h;
          count = omega (arith, w.count, w.low);
          room_is =
              q
              ∙ ap₂ (λ (v : List ℕ) (k : ℕ). splice v k (outlaid n j x)) w.room_is z
              ∙ splice_splice old (frame_size at) (outlaid n at b) (outlaid n j x) (omega (arith, lying_fits i w.low w.high))
              ∙ ap (splice old (frame_size at))
              (ap (λ (k : ℕ). outlaid n at b ++ outlaid n k x) (sym c)
              ∙ sym (outlaid_append n at b x)
              ∙ ap (outlaid n at) (ap (λ (y : List ℕ). b ++ y) e ∙ sym (part_more p from i m w.low)));
        }

    pub lying_all : (room : List ℕ) (i j : ℕ) → Lying p from to n at old room i j → to ≤ i → room ≡ splice old (frame_size at) (outlaid n at (part p from to))
    lying_all room i j w h =
        let z : i ≡ to = omega (arith, w.high) in
        w.room_is ∙ ap (λ (k : ℕ). splice old (frame_size at) (outlaid n at (part p from k))) z
