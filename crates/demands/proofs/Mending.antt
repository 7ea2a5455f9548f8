-- 16 is exactly what no further bytes can mend: a walk that is short is whole with some bytes more, by what it is short of.
use Rattle.std.specs.Prelude.{Result}
use Prim.Native.Nat.{ℕ, zero, suc, ◌+◌, ◌-◌, ◌≤◌, ◌<◌}
use native.Mathlib.Omega.{arith}
use mathlib.Core.Path.{◌≡◌, refl, sym, ap, ◌∙◌}
use mathlib.Core.Bool.{Bool, true, false}
use mathlib.Core.Logic.{◌↔◌, inl, inr}
use mathlib.Core.List.{List, [], ◌∷◌, ◌++◌, append_assoc}
use lib.Dec.{ltb, leb, eqb}
use lib.ListN.{length, get_or, replicate, length-append, length-replicate}
use lib.Seq.{get_or-append-add}
use borrow.Author.Tests.{ltb-true, ltb-false, leb-true, leb-false, eqb-true, eqb-false, eq-eqb, ne_eqb, le-leb, le-ltb}
use Rattle.wire.specs.Bytes.{be16, or, Octets}
use Rattle.wire.proofs.WireLaws.{by, pick_by, pick_yes, pick_no, be16_front, be16_behind, true_false}
use Rattle.wire.proofs.OctetLaws.{octets_none, octets_more, octets_append}
use Rattle.answer.specs.Numbers.{number_of, not_whole}
use Rattle.answer.specs.declared.Refused.{Refused}
use Rattle.dss_head.specs.Heads.{head_at}
use Rattle.dss_head.specs.declared.Chunk.{Chunk}
use Rattle.dss_head.specs.declared.Chunk.TheVariants.{Dead, Last, Full}
use Rattle.dss_frame.specs.Rules.{chunk_under}
use Rattle.dss_frame.specs.declared.Rules.{Rules}
use Rattle.dss_frame.specs.Segments.{Segment, Walk, whole, short, dead, behind, continuation, first, step, continuations, frame_walk}
use Rattle.dss_frame.specs.Reading.{Read, refused, absorb, read_head, read_walk, read_at, position_after}
use Rattle.dss_laws.proofs.RawLengths.{chunk_last, chunk_alive}
use Rattle.dss_laws.proofs.Continuations.{continuations_step, continuations_last, continuations_full}
use Rattle.demands.specs.Mending.{waits, Mended, StopsWaiting}
use Rattle.demands.proofs.LongerRuns.{HeadSays, finds, refuses_head, head_says, walk_few}
use Rattle.demands.proofs.Longer.{On, on_frame, on_refused, absorb_on, head_refuses, same_refused, refusals_stay, dead_stays}
use Rattle.dss_head.specs.declared.DssHeader.{DssHeader}

-- ---- bytes that make a walk whole

record Mends (walk : List ℕ → Walk) (s : List ℕ) : Type 0 where
  more : List ℕ
  bytes : Octets more
  segments : List Segment
  walks : walk (s ++ more) ≡ whole segments

abbrev zeros : ℕ → List ℕ
zeros n = replicate n 0

pub octets_same : (n b : ℕ) → b < 256 → Octets (replicate n b)
octets_same zero b h = octets_none
octets_same (suc n) b h = octets_more b (replicate n b) h (octets_same n b h)

octets_zeros : (n : ℕ) → Octets (zeros n)
octets_zeros n = octets_same n 0 (omega arith)

-- with some bytes, then with more
mends_later : (walk : List ℕ → Walk) (s t : List ℕ) → Octets t → Mends walk (s ++ t) → Mends walk s
mends_later walk s t o m =
    record {
      more = t ++ m.more;
      bytes = octets_append t m.more o m.bytes;
      segments = m.segments;
      walks = ap walk (sym (append_assoc s t m.more)) ∙ m.walks;
    }

-- with zeros alone
mends_zeros : (walk : List ℕ → Walk) (s : List ℕ) (n : ℕ) (gs : List Segment) → walk (s ++ zeros n) ≡ whole gs → Mends walk s
mends_zeros walk s n gs e = record { more = zeros n; bytes = octets_zeros n; segments = gs; walks = e }

module _ (rules : Rules) where
  abbrev From : ℕ → List ℕ → Walk
  From q s = continuations rules s q

  long : (s : List ℕ) (n : ℕ) → length (s ++ zeros n) ≡ length s + n
  long s n = length-append s (zeros n) ∙ ap (λ (k : ℕ). length s + k) (length-replicate {A = ℕ} n 0)

  -- nothing is there: a length of 2, and no bytes
  at_end : (s : List ℕ) (q : ℕ) → length s ≡ q → Mends (From q) s
  at_end s q e =
      let two : List ℕ = 0 ∷ 2 ∷ [] in
      let raw : be16 (s ++ two) q ≡ 2 = be16_behind s two q 0 q e (omega arith) in
      let l : length (s ++ two) ≡ q + 2 = length-append s two ∙ ap (λ (k : ℕ). k + 2) e in
      record {
        more = two;
        bytes = octets_more 0 (2 ∷ []) (omega arith) (octets_more 2 [] (omega arith) octets_none);
        segments = _;
        walks = continuations_last rules (s ++ two) q (omega arith) (ap (chunk_under rules) raw ∙ chunk_last rules 2 (omega arith) (omega arith)) (omega arith);
      }

  -- a full one stands at q, and behind it is mended
  behind_full : (s : List ℕ) (q : ℕ) → chunk_under rules (be16 s q) ≡ Full → 32767 ≤ length s - q → Mends (From (q + 32767)) s → Mends (From q) s
  behind_full s q c l m =
      let b : List ℕ = s ++ m.more in
      let raw : be16 b q ≡ be16 s q = be16_front s m.more q (omega arith) in
      record {
        more = m.more;
        bytes = m.bytes;
        segments = continuation q 32767 ∷ m.segments;
        walks = continuations_full rules b q (ap (chunk_under rules) raw ∙ c) (omega (arith, length-append s m.more)) ∙ ap (behind (continuation q 32767)) m.walks;
      }

  -- a length stands at q that isn't dead, and bytes of its continuation may be missing
  last_mends : (s : List ℕ) (q : ℕ) → 2 ≤ length s - q → chunk_under rules (be16 s q) ≡ Last → Mends (From q) s
  last_mends s q l c =
      let n : ℕ = be16 s q - (length s - q) in
      let raw : be16 (s ++ zeros n) q ≡ be16 s q = be16_front s (zeros n) q (omega arith) in
      mends_zeros (From q) s n _ (continuations_last rules (s ++ zeros n) q (omega (arith, long s n)) (ap (chunk_under rules) raw ∙ c) (omega (arith, long s n, raw)))

  full_mends : (s : List ℕ) (q : ℕ) → 2 ≤ length s - q → length s - q < 32767 → chunk_under rules (be16 s q) ≡ Full → Mends (From q) s
  full_mends s q l k c =
      let n : ℕ = 32767 - (length s - q) in
      let b : List ℕ = s ++ zeros n in
      let raw : be16 b q ≡ be16 s q = be16_front s (zeros n) q (omega arith) in
      mends_later (From q) s (zeros n) (octets_zeros n)
      (behind_full b q (ap (chunk_under rules) raw ∙ c) (omega (arith, long s n)) (at_end b (q + 32767) (omega (arith, long s n))))

  alive_mends : (s : List ℕ) (q : ℕ) → 2 ≤ length s - q → length s - q < 32767 → 2 ≤ be16 s q → Mends (From q) s
  alive_mends s q l k r =
      elim (chunk_alive rules (be16 s q) r) [
        | inl c ↦ last_mends s q l c
        | inr c ↦ full_mends s q l k c
      ]

  -- one byte of the length is there: any such length can be one of 2 or more
  half_mends : (s : List ℕ) (q : ℕ) → length s ≡ q + 1 → Mends (From q) s
  half_mends s q e =
      let b : List ℕ = s ++ (2 ∷ []) in
      let l : length b ≡ q + 2 = length-append s (2 ∷ []) ∙ ap (λ (k : ℕ). k + 1) e ∙ omega arith in
      let low : get_or b (q + 1) 0 ≡ 2 = ap (λ (j : ℕ). get_or b j 0) (omega arith) ∙ get_or-append-add s (2 ∷ []) 0 0 in
      mends_later (From q) s (2 ∷ []) (octets_more 2 [] (omega arith) octets_none) (alive_mends b q (omega arith) (omega arith) (omega arith))

  few_mends : (s : List ℕ) (q : ℕ) → q ≤ length s → length s - q < 2 → Mends (From q) s
  few_mends s q i h =
      by (leb (length s) q) (λ t. at_end s q (omega (arith, leb-true (length s) q t))) (λ t. half_mends s q (omega (arith, leb-false (length s) q t)))

  -- ---- the continuations

  behind_short : (g : Segment) (w : Walk) → behind g w ≡ short → w ≡ short
  behind_short g (whole gs) e = let z : ◌≡◌ {A = ℕ} 0 1 = cc in absurd (omega arith)
  behind_short g short e = refl
  behind_short g (dead q) e = let z : ◌≡◌ {A = ℕ} 0 1 = cc in absurd (omega arith)

  dead_short : (q : ℕ) → dead q ≡ short → ⊥
  dead_short q e = let z : ◌≡◌ {A = ℕ} 0 1 = cc in omega arith

  walk_mends : (k : ℕ) (s : List ℕ) (q : ℕ) → length s - q ≤ k → q ≤ length s → continuations rules s q ≡ short → Mends (From q) s
  walk_mends zero s q f i e = few_mends s q i (omega arith)
  walk_mends (suc k) s q f i e =
      by (ltb (length s - q) 2) (λ t. few_mends s q i (ltb-true _ _ t))
      (λ t. by_chunk (chunk_under rules (be16 s q)) refl (ltb-false _ _ t) (λ l. walk_mends k s (q + 32767) (omega arith) (omega arith)))
    where
      by_chunk : (c : Chunk) → chunk_under rules (be16 s q) ≡ c → 2 ≤ length s - q → (32767 ≤ length s - q → continuations rules s (q + 32767) ≡ short → Mends (From (q + 32767)) s)
          → Mends (From q) s
      by_chunk Dead c l go = absurd (dead_short q (ap (λ (x : Chunk). step s q x (continuations rules s)) (sym c) ∙ sym (continuations_step rules s q l) ∙ e))
      by_chunk Last c l go = last_mends s q l c
      by_chunk Full c l go =
          by (leb 32767 (length s - q))
          (λ t. let m : 32767 ≤ length s - q = leb-true _ _ t in
          behind_full s q c m (go m (behind_short (continuation q 32767) (continuations rules s (q + 32767)) (sym (continuations_full rules s q c m) ∙ e))))
          (λ t. full_mends s q l (leb-false _ _ t) c)

  -- ---- the frame

  module _ (p : ℕ) where
    abbrev At : List ℕ → Walk
    At s = frame_walk rules s p

    -- its first segment is whole, in several
    first_full : (s : List ℕ) → be16 s p ≡ 0xFFFF → 32767 ≤ length s - p → frame_walk rules s p ≡ behind (first p 32767) (continuations rules s (p + 32767))
    unfolding frame_walk
    first_full s raw l = pick_no _ _ (le-ltb (length s - p) 6 (omega arith)) ∙ pick_yes _ _ (eq-eqb (be16 s p) 0xFFFF raw) ∙ pick_yes _ _ (le-leb 32767 (length s - p) l)

    first_only : (s : List ℕ) → 6 ≤ length s - p → (be16 s p ≡ 0xFFFF → ⊥) → be16 s p ≤ length s - p → frame_walk rules s p ≡ whole (first p (be16 s p) ∷ [])
    unfolding frame_walk
    first_only s l ne k = pick_no _ _ (le-ltb (length s - p) 6 l) ∙ pick_no _ _ (ne_eqb (be16 s p) 0xFFFF ne) ∙ pick_yes _ _ (le-leb (be16 s p) (length s - p) k)

    behind_first : (s : List ℕ) → be16 s p ≡ 0xFFFF → 32767 ≤ length s - p → Mends (From (p + 32767)) s → Mends At s
    behind_first s raw l m =
        record {
          more = m.more;
          bytes = m.bytes;
          segments = first p 32767 ∷ m.segments;
          walks =
              first_full (s ++ m.more) (be16_front s m.more p (omega arith) ∙ raw) (omega (arith, length-append s m.more))
              ∙ ap (behind (first p 32767)) m.walks;
        }

    one_mends : (s : List ℕ) → 6 ≤ length s - p → (be16 s p ≡ 0xFFFF → ⊥) → Mends At s
    one_mends s l ne =
        let n : ℕ = be16 s p - (length s - p) in
        let raw : be16 (s ++ zeros n) p ≡ be16 s p = be16_front s (zeros n) p (omega arith) in
        mends_zeros At s n _ (first_only (s ++ zeros n) (omega (arith, long s n)) (λ e. ne (sym raw ∙ e)) (omega (arith, long s n, raw)))

    several_mends : (s : List ℕ) → 6 ≤ length s - p → be16 s p ≡ 0xFFFF → length s - p < 32767 → Mends At s
    several_mends s l raw k =
        let n : ℕ = 32767 - (length s - p) in
        let b : List ℕ = s ++ zeros n in
        mends_later At s (zeros n) (octets_zeros n)
        (behind_first b (be16_front s (zeros n) p (omega arith) ∙ raw) (omega (arith, long s n)) (at_end b (p + 32767) (omega (arith, long s n))))

    -- a head is there, and nothing behind the first segment
    head_mends : (s : List ℕ) → 6 ≤ length s - p → length s - p < 32767 → Mends At s
    head_mends s l k = by (eqb (be16 s p) 0xFFFF) (λ t. several_mends s l (eqb-true _ _ t) k) (λ t. one_mends s l (eqb-false _ _ t))

    frame_mends : (s : List ℕ) → p ≤ length s → frame_walk rules s p ≡ short → Mends At s
    frame_mends s i e =
        by (ltb (length s - p) 6) (λ t. few (ltb-true _ _ t)) (λ t. by (leb 32767 (length s - p)) (λ u. far (ltb-false _ _ t) (leb-true _ _ u)) (λ u. head_mends s (ltb-false _ _ t) (leb-false _ _ u)))
      where
        few : length s - p < 6 → Mends At s
        few h =
            let n : ℕ = 6 - (length s - p) in
            mends_later At s (zeros n) (octets_zeros n) (head_mends (s ++ zeros n) (omega (arith, long s n)) (omega (arith, long s n)))

        far : 6 ≤ length s - p → 32767 ≤ length s - p → Mends At s
        far l m =
            by (eqb (be16 s p) 0xFFFF)
            (λ t. let raw : be16 s p ≡ 0xFFFF = eqb-true _ _ t in
            behind_first s raw m (walk_mends (length s) s (p + 32767) (omega arith) (omega arith)
            (behind_short (first p 32767) (continuations rules s (p + 32767)) (sym (first_full s raw m) ∙ e))))
            (λ t. one_mends s l (eqb-false _ _ t))

-- ---- what is read

-- a whole frame is handed out, or a head is refused
head_settles : (rules : Rules) (s : List ℕ) (p : ℕ) (gs : List Segment) (x : Result DssHeader Refused) → HeadSays p x → waits (read_head rules s p gs x) ≡ false
unfolding absorb
head_settles rules s p gs x (refuses_head r n k) = head_refuses r n
head_settles rules s p gs x (finds h) =
    pick_by (λ (y : Read). waits y ≡ false) (ltb (be16 s p) 6) _ _ (λ t. refl)
    (λ t. pick_by (λ (y : Read). waits y ≡ false) (eqb (be16 s p) 0xFFFF) _ _ (λ u. refl)
    (λ u. absorbed _ (absorb_on (length s) rules s p h gs)))
  where
    absorbed : (y : Read) → On p h gs y → waits y ≡ false
    absorbed y (on_frame c more) = refl
    absorbed y (on_refused r n l) = head_refuses r n

module _ (rules : Rules) (s : List ℕ) (p : ℕ) (i : p ≤ length s) where
  reads_walk : (w : Walk) → frame_walk rules s p ≡ w → read_at rules s p ≡ read_walk rules s p w
  unfolding read_at
  reads_walk w e = pick_yes _ _ (le-leb p (length s) i) ∙ ap (read_walk rules s p) e

  pub whole_settles : (gs : List Segment) → frame_walk rules s p ≡ whole gs → waits (read_at rules s p) ≡ false
  whole_settles gs e =
      ap waits (reads_walk (whole gs) e)
      ∙ by (ltb (length s - p) 6)
      (λ t. let z : whole gs ≡ short = sym e ∙ walk_few rules s p (ltb-true _ _ t) in let y : ◌≡◌ {A = ℕ} 0 1 = cc in absurd (omega arith))
      (λ t. head_settles rules s p gs (head_at s p) (head_says s p (ltb-false _ _ t)))

  -- 1 or 16 is answered where the walk isn't whole, and nowhere else
  pub unwhole_waits : (waits (read_at rules s p) ≡ true) ↔ ((gs : List Segment) → frame_walk rules s p ≡ whole gs → ⊥)
  unwhole_waits = ((λ w gs e. true_false (waits (read_at rules s p)) w (whole_settles gs e)), (λ ne. back (frame_walk rules s p) refl ne))
    where
      back : (w : Walk) → frame_walk rules s p ≡ w → ((gs : List Segment) → frame_walk rules s p ≡ whole gs → ⊥) → waits (read_at rules s p) ≡ true
      back (whole gs) e ne = absurd (ne gs e)
      back short e ne = ap waits (reads_walk short e)
      back (dead q) e ne = ap waits (reads_walk (dead q) e)

  -- 1 is answered where the walk is short, at p
  record OfOne (r : Refused) : Type 0 where
    walks : frame_walk rules s p ≡ short
    place : r.place ≡ p

  of_one : (r : Refused) → read_at rules s p ≡ refused r → number_of r.why ≡ 1 → OfOne r
  of_one r e k = go (frame_walk rules s p) refl
    where
      go : (w : Walk) → frame_walk rules s p ≡ w → OfOne r
      go short j = record { walks = j; place = ap (λ (x : Refused). x.place) (same_refused _ _ (sym e ∙ reads_walk short j)) }
      go (dead q) j =
          let z : number_of r.why ≡ 16 = ap (λ (x : Refused). number_of x.why) (same_refused _ _ (sym e ∙ reads_walk (dead q) j)) in
          absurd (omega arith)
      go (whole gs) j =
          let z : not_whole r.why ≡ false = sym (ap waits e) ∙ whole_settles gs j in
          absurd (true_false (not_whole r.why) (ap (λ (n : ℕ). or (eqb n 1) (eqb n 16)) k) z)

-- ---- the statement

pub stops_waiting : (rules : Rules) → StopsWaiting rules (read_at rules) (λ s p. position_after p (read_at rules s p))
stops_waiting rules = record { none = unwhole_waits rules; dead = dead_stays rules; never = never; yet = yet }
  where
    never : (s t : List ℕ) (p : ℕ) (r : Refused) → p ≤ length s → read_at rules s p ≡ refused r → number_of r.why ≡ 16
        → (read_at rules (s ++ t) p ≡ refused r) × (position_after p (read_at rules (s ++ t) p) ≡ p)
    never s t p r i e k =
        let x = (refusals_stay rules s t p r i e (λ j. omega arith)).1 in
        (x, ap (position_after p) x ∙ pick_yes _ _ (eq-eqb (number_of r.why) 16 k))

    yet : (s : List ℕ) (p : ℕ) (r : Refused) → p ≤ length s → read_at rules s p ≡ refused r → number_of r.why ≡ 1
        → (position_after p (read_at rules s p) ≡ p) × Mended rules (read_at rules) s p
    yet s p r i e k =
        let o = of_one rules s p i r e k in
        let m = frame_mends rules p s i o.walks in (
          ap (position_after p) e ∙ pick_no _ _ (ne_eqb (number_of r.why) 16 (λ j. omega arith)) ∙ o.place,
          record {
            more = m.more;
            bytes = m.bytes;
            segments = m.segments;
            walks = m.walks;
            says = whole_settles rules (s ++ m.more) p (omega (arith, length-append s m.more)) m.segments m.walks;
          },
        )

-- So for any such reader a frame that isn't whole is answered with 16 exactly where no bytes make it whole.
pub exactly_dead : (rules : Rules) (reads : List ℕ → ℕ → Read) (stands : List ℕ → ℕ → ℕ) → StopsWaiting rules reads stands
    → (s : List ℕ) (p : ℕ) (r : Refused) → p ≤ length s → reads s p ≡ refused r → not_whole r.why ≡ true
    → (number_of r.why ≡ 16) ↔ ((t : List ℕ) → Octets t → waits (reads (s ++ t) p) ≡ true)
exactly_dead rules reads stands w s p r i e k = (there, back)
  where
    there : number_of r.why ≡ 16 → (t : List ℕ) → Octets t → waits (reads (s ++ t) p) ≡ true
    there n t o = ap waits (w.never s t p r i e n).0 ∙ k

    back : ((t : List ℕ) → Octets t → waits (reads (s ++ t) p) ≡ true) → number_of r.why ≡ 16
    back h =
        by (eqb (number_of r.why) 16) (λ t. eqb-true _ _ t)
        (λ t. by (eqb (number_of r.why) 1)
        (λ u. let m = (w.yet s p r i e (eqb-true _ _ u)).1 in absurd (true_false (waits (reads (s ++ m.more) p)) (h m.more m.bytes) m.says))
        (λ u. absurd (true_false (not_whole r.why) k (neither (eqb (number_of r.why) 1) (eqb (number_of r.why) 16) u t))))
      where
        neither : (a b : Bool) → a ≡ false → b ≡ false → or a b ≡ false
        neither a b x y = ap (λ (c : Bool). or c b) x ∙ y
