-- The continuations that a walk finds: full ones and a last one, the payload that they carry, and where each of its bytes stands.
use Prim.Native.Nat.{ℕ, zero, suc, ◌+◌, ◌*◌, ◌-◌, ◌/◌, ◌≤◌, ◌<◌}
use native.Mathlib.Omega.{arith}
use mathlib.Core.Path.{◌≡◌, refl, sym, ap, ap₂, ◌∙◌}
use mathlib.Core.List.{List, [], ◌∷◌, ◌++◌, append-nil}
use lib.Dec.{ltb}
use lib.ListN.{length, take, drop, length-drop}
use lib.Seq.{length-take-le, take_all, drop-drop}
use borrow.Author.Tests.{le-ltb, lt-ltb, ltb-true, ltb-false}
use Rattle.wire.specs.Bytes.{pick, be16, part}
use Rattle.wire.proofs.WireLaws.{by, pick_yes, pick_no}
use Rattle.dss_frame.specs.declared.Rules.TheVariants.{Reader}
use Rattle.dss_frame.specs.Segments.{Segment, Walk, behind, continuation, continuations, payload_of}
use Rattle.dss_laws.proofs.WalkCases.{continuations_by}
use Rattle.dss_laws.proofs.Bounds.{OfWhole, is_whole, is_short, is_dead}
use Rattle.dss_laws.proofs.Framed.{later}
use Rattle.dss_measure.proofs.WalkLaws.{last_two}
use Rattle.ddm_change.specs.Request.{place_in}
use Rattle.ddm_change.specs.inner.Carried.{carried_bytes, passed}
use Rattle.ddm_change.proofs.CarriedLaws.{front_part, passed_some, passed_all}

-- ---- so many full ones and a last one

-- from q on, all inside the run
pub record FollowOn (s : List ℕ) (q : ℕ) (gs : List Segment) : Type 0 where
  pub many : ℕ
  pub last : ℕ
  pub is : gs ≡ later many q last
  pub two : 2 ≤ last
  pub there : q + many * 32767 + last ≤ length s

follow_last : (s : List ℕ) (q n : ℕ) → 2 ≤ n → q + n ≤ length s → FollowOn s q (continuation q n ∷ [])
unfolding later
follow_last s q n t h = record { many = 0; last = n; is = refl; two = t; there = omega arith }

follow_full : (s : List ℕ) (q : ℕ) (w : Walk) → OfWhole (FollowOn s (q + 32767)) w → OfWhole (FollowOn s q) (behind (continuation q 32767) w)
unfolding later
follow_full s q w (is_whole gs r) =
    is_whole (continuation q 32767 ∷ gs)
    (record {
      many = suc r.many;
      last = r.last;
      is = ap (λ (x : List Segment). continuation q 32767 ∷ x) r.is;
      two = r.two;
      there = omega (arith, r.there);
    })
follow_full s q w is_short = is_short
follow_full s q w (is_dead d) = is_dead d

pub continuations_follow : (s : List ℕ) (q : ℕ) → OfWhole (FollowOn s q) (continuations Reader s q)
continuations_follow s =
    continuations_by Reader s (λ q w. OfWhole (FollowOn s q) w) (λ q. is_short) (λ q l. is_dead q)
    (λ q l c h. is_whole _ (follow_last s q (be16 s q) (last_two Reader (be16 s q) c) (omega arith))) (λ q w l k. follow_full s q w k)

-- ---- their payload

-- a part up to e
pub taken_rest : (s : List ℕ) (a e : ℕ) → e ≤ length s → a ≤ e → part s a e ≡ drop a (take e s)
taken_rest s a e h k =
    sym (front_part e s a (e - a) h (omega arith)) ∙ take_all (e - a) (drop a (take e s)) (omega (arith, length-drop a (take e s), length-take-le e s h))

-- a full segment's part, behind n bytes of framing, and what stands behind it
pub taken_full : (s : List ℕ) (e q n m room : ℕ) → e ≤ length s → q + n + room ≤ e → n + room ≡ m → part s (q + n + 0) (q + m) ≡ take room (drop (q + n) (take e s))
taken_full s e q n m room h k i =
    let z : q + m - (q + n + 0) ≡ room = omega arith in
    let y : q + n + 0 ≡ q + n = omega arith in
    ap₂ (λ (x a : ℕ). take x (drop a s)) z y ∙ sym (front_part e s (q + n) room h k)

pub taken_next : (b : List ℕ) (a m r : ℕ) → a + m ≡ r → drop m (drop a b) ≡ drop r b
taken_next b a m r i = drop-drop m a b ∙ ap (λ (n : ℕ). drop n b) i

pub later_payload : (k : ℕ) (s : List ℕ) (q l e : ℕ) → 2 ≤ l → e ≡ q + k * 32767 + l → e ≤ length s
    → payload_of s (later k q l) ≡ carried_bytes 32765 k (drop (q + 2) (take e s))
unfolding later payload_of carried_bytes
later_payload zero s q l e t i h =
    let z : q + l ≡ e = omega arith in
    let y : q + 2 + 0 ≡ q + 2 = omega arith in
    append-nil (part s (q + 2 + 0) (q + l))
    ∙ ap₂ (λ (a x : ℕ). part s a x) y z
    ∙ taken_rest s (q + 2) e h (omega arith)
later_payload (suc k) s q l e t i h =
    ap₂ (λ (x y : List ℕ). x ++ y) (taken_full s e q 2 32767 32765 h (omega arith) refl)
    (later_payload k s (q + 32767) l e t (omega arith) h
    ∙ ap (carried_bytes 32765 k) (sym (taken_next (take e s) (q + 2) 32767 (q + 32767 + 2) (omega arith))))

-- ---- their places

pub later_length : (k q l : ℕ) → length (later k q l) ≡ suc k
unfolding later
later_length zero q l = refl
later_length (suc k) q l = ap suc (later_length k (q + 32767) l)

-- how many of k full segments end at payload byte i or before it
abbrev pub ended : ℕ → ℕ → ℕ
ended k i = pick (ltb (i / 32765) k) (i / 32765) k

ended_under : (k i : ℕ) → i / 32765 < k → ended k i ≡ i / 32765
ended_under k i h = pick_yes _ _ (lt-ltb (i / 32765) k h)

ended_all : (k i : ℕ) → k ≤ i / 32765 → ended k i ≡ k
ended_all k i h = pick_no _ _ (le-ltb (i / 32765) k h)

ended_suc : (k i : ℕ) → 32765 ≤ i → ended (suc k) i ≡ suc (ended k (i - 32765))
ended_suc k i h =
    by (ltb (i / 32765) (suc k))
    (λ t. let u : i / 32765 < suc k = ltb-true _ _ t in omega (arith, ended_under (suc k) i u, ended_under k (i - 32765) (omega arith)))
    (λ t. let u : suc k ≤ i / 32765 = ltb-false _ _ t in omega (arith, ended_all (suc k) i u, ended_all k (i - 32765) (omega arith)))

-- a byte of the first segment, whose m bytes of payload stand from a on, and a byte behind it
pub place_in_lem : (from : ℕ) (g : Segment) (gs : List Segment) (i a m : ℕ) → g.at + g.framing ≡ a → g.end ≡ a + m → i < m → place_in from (g ∷ gs) i ≡ a + i
unfolding place_in
place_in_lem from g gs i a m x y h =
    pick_yes _ _ (lt-ltb i (g.end - (g.at + g.framing)) (omega arith)) ∙ omega arith

pub place_behind : (from : ℕ) (g : Segment) (gs : List Segment) (i a m : ℕ) → g.at + g.framing ≡ a → g.end ≡ a + m → m ≤ i
    → place_in from (g ∷ gs) i ≡ place_in (a + m) gs (i - m)
unfolding place_in
place_behind from g gs i a m x y h =
    let z : g.end - (g.at + g.framing) ≡ m = omega arith in
    pick_no _ _ (le-ltb i (g.end - (g.at + g.framing)) (omega arith)) ∙ ap₂ (λ (e n : ℕ). place_in e gs (i - n)) y z

place_none : (from i : ℕ) → place_in from [] i ≡ from + i
unfolding place_in
place_none from i = refl

-- the last segment's places, also beyond it
pub place_last : (from : ℕ) (g : Segment) (i a m : ℕ) → g.at + g.framing ≡ a → g.end ≡ a + m → place_in from (g ∷ []) i ≡ a + i
place_last from g i a m x y =
    by (ltb i m) (λ t. place_in_lem from g [] i a m x y (ltb-true _ _ t))
    (λ t. let h : m ≤ i = ltb-false _ _ t in place_behind from g [] i a m x y h ∙ place_none (a + m) (i - m) ∙ omega arith)

pub later_places : (k from q l i : ℕ) → 2 ≤ l → place_in from (later k q l) i ≡ q + 2 + i + 2 * ended k i
unfolding later
later_places zero from q l i t =
    place_last from (continuation q l) i (q + 2) (l - 2) refl (omega arith) ∙ omega (arith, ended_all 0 i (omega arith))
later_places (suc k) from q l i t =
    by (ltb i 32765)
    (λ u. let h : i < 32765 = ltb-true _ _ u in
    place_in_lem from (continuation q 32767) (later k (q + 32767) l) i (q + 2) 32765 refl (omega arith) h ∙ omega (arith, ended_under (suc k) i (omega arith)))
    (λ u. let h : 32765 ≤ i = ltb-false _ _ u in
    place_behind from (continuation q 32767) (later k (q + 32767) l) i (q + 2) 32765 refl (omega arith) h
    ∙ later_places k (q + 2 + 32765) (q + 32767) l (i - 32765) t
    ∙ omega (arith, ended_suc k i h))

-- the continuations before a byte, once it stands behind the first segment
pub passed_behind : (k i : ℕ) → 32761 ≤ i → passed (suc k) i ≡ suc (ended k (i - 32761))
passed_behind k i h =
    let j : ℕ = i - 32761 in
    by (ltb (j / 32765) k)
    (λ t. let u : j / 32765 < k = ltb-true _ _ t in omega (arith, passed_some (suc k) i h (omega arith), ended_under k j u))
    (λ t. let u : k ≤ j / 32765 = ltb-false _ _ t in omega (arith, passed_all (suc k) i h (omega arith), ended_all k j u))
