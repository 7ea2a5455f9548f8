-- The laws of what a walk over continuations comes to, one for each answer of a step.
use Rattle.std.specs.Prelude.{Result, Ok, Err}
use Prim.Native.Nat.{ℕ, ◌+◌, ◌-◌, ◌≤◌, ◌<◌}
use native.Mathlib.Nat.{add_assoc}
use native.Mathlib.Numerals.{one-add}
use native.Mathlib.Omega.{arith}
use mathlib.Core.Path.{◌≡◌, refl, sym, ap, ap₂, ◌∙◌}
use mathlib.Core.List.{List, [], ◌∷◌}
use lib.Dec.{ltb}
use lib.ListN.{length, length-append}
use borrow.Author.Tests.{le-ltb, lt-ltb, le-leb, lt-leb, eq-eqb, ne_eqb, ltb-true, ltb-false}
use Rattle.wire.specs.Bytes.{be16}
use Rattle.wire.proofs.WireLaws.{by, pick_yes, pick_no, part_length}
use Rattle.dss_head.specs.declared.Chunk.{Chunk}
use Rattle.dss_head.specs.declared.Chunk.TheVariants.{Dead, Last, Full}
use Rattle.dss_frame.specs.Rules.{chunk_under}
use Rattle.dss_frame.specs.declared.Rules.{Rules}
use Rattle.dss_frame.specs.Segments.{Segment, Walk, whole, short, dead, behind, segment_bytes, continuation, first, step, payload_of, end_of, continuations, frame_walk}
use Rattle.dss_laws.proofs.RawLengths.{chunk_dead}
use Rattle.dss_laws.proofs.Continuations.{continuations_short, continuations_step, continuations_last, continuations_last_short, continuations_full, continuations_full_short}
use Rattle.dss_measure.specs.declared.Walked.{Walked}
use Rattle.answer.specs.declared.Refusal.TheVariants.{Incomplete, DeadContinuation}
use Rattle.answer.specs.declared.Refused.{Refused}
use Rattle.dss_measure.specs.inner.Walking.{walked, walked_from, walked_of, walked_at, adds}

-- the frame at p isn't whole; a continuation length of 0 or 1 stands at q
abbrev pub waits_at : ℕ → Result Walked Refused
waits_at p = Err (record { why = Incomplete; place = p })

abbrev pub dead_at : ℕ → Result Walked Refused
dead_at q = Err (record { why = DeadContinuation; place = q })

-- a segment before a walk adds one segment and its bytes
pub walked_behind : (s : List ℕ) (p x : ℕ) (g : Segment) (w : Walk) → walked_from s p x (behind g w) ≡ adds 1 (length (segment_bytes s g)) (walked_from s p g.end w)
unfolding end_of payload_of
walked_behind s p x g (whole gs) =
    ap₂ (λ (k n : ℕ). Ok (walked (end_of g.end gs) k n)) (sym (one-add (length gs))) (length-append (segment_bytes s g) (payload_of s gs))
walked_behind s p x g short = refl
walked_behind s p x g (dead q) = refl

-- one segment alone
pub walked_one : (s : List ℕ) (p x : ℕ) (g : Segment) → walked_from s p x (whole (g ∷ [])) ≡ Ok (walked g.end 1 (length (segment_bytes s g)))
unfolding end_of payload_of
walked_one s p x g = ap (λ (n : ℕ). Ok (walked g.end 1 n)) (length-append (segment_bytes s g) [] ∙ omega arith)

adds_adds : (k n k' n' : ℕ) (w : Result Walked Refused) → adds k n (adds k' n' w) ≡ adds (k + k') (n + n') w
adds_adds k n k' n' (Ok w) = ap₂ (λ (x y : ℕ). Ok (walked w.end x y)) (sym (add_assoc k k' w.segments)) (sym (add_assoc n n' w.payload_len))
adds_adds k n k' n' (Err r) = refl

-- a continuation that is the last has its two length bytes
pub last_two : (rules : Rules) (raw : ℕ) → chunk_under rules raw ≡ Last → 2 ≤ raw
last_two rules raw e =
    by (ltb raw 2)
    (λ t. let d : chunk_under rules raw ≡ Dead = chunk_dead rules raw (ltb-true raw 2 t) in let z : ◌≡◌ {A = ℕ} 0 1 = cc in absurd (omega arith))
    (λ t. ltb-false raw 2 t)

-- what a walk from q on comes to behind k segments with n bytes, of the frame at p
abbrev pub walked_on : Rules → List ℕ → ℕ → ℕ → ℕ → ℕ → Result Walked Refused
walked_on rules s p q k n = adds k n (walked_from s p q (continuations rules s q))

module _ (rules : Rules) (s : List ℕ) (p q k n : ℕ) where
  comes : (w : Walk) → continuations rules s q ≡ w → walked_on rules s p q k n ≡ adds k n (walked_from s p q w)
  comes w e = ap (λ (x : Walk). adds k n (walked_from s p q x)) e

  -- no length field is there
  pub on_nothing : length s - q < 2 → walked_on rules s p q k n ≡ waits_at p
  on_nothing h = comes short (continuations_short rules s q h)

  module _ (raw : ℕ) (e : raw ≡ be16 s q) (two : 2 ≤ length s - q) where
    at_raw : (c : Chunk) → chunk_under rules raw ≡ c → chunk_under rules (be16 s q) ≡ c
    at_raw c k = ap (chunk_under rules) (sym e) ∙ k

    -- a length of 0 or 1
    pub on_dead : chunk_under rules raw ≡ Dead → walked_on rules s p q k n ≡ dead_at q
    on_dead c = comes (dead q) (continuations_step rules s q two ∙ ap (λ (d : Chunk). step s q d (continuations rules s)) (at_raw Dead c))

    -- the last, and it is there, or not
    pub on_last : chunk_under rules raw ≡ Last → raw ≤ length s - q → walked_on rules s p q k n ≡ Ok (walked (q + raw) (k + 1) (n + (raw - 2)))
    on_last c h =
        let l : 2 ≤ raw = last_two rules raw c in
        let g : Segment = continuation q (be16 s q) in
        comes (whole (g ∷ [])) (continuations_last rules s q two (at_raw Last c) (omega arith))
        ∙ ap (adds k n) (walked_one s p q g)
        ∙ ap (λ (m : ℕ). Ok (walked g.end (k + 1) (n + m))) (part_length s (q + 2 + 0) (q + be16 s q) (omega arith))
        ∙ ap₂ (λ (x y : ℕ). Ok (walked x (k + 1) (n + y))) (omega arith) (omega arith)

    pub on_last_short : chunk_under rules raw ≡ Last → length s - q < raw → walked_on rules s p q k n ≡ waits_at p
    on_last_short c h = comes short (continuations_last_short rules s q two (at_raw Last c) (omega arith))

    -- 32,767 bytes and another, or not
    pub on_full : chunk_under rules raw ≡ Full → 32767 ≤ length s - q → walked_on rules s p q k n ≡ walked_on rules s p (q + 32767) (k + 1) (n + 32765)
    on_full c h =
        let g : Segment = continuation q 32767 in
        let w : Result Walked Refused = walked_from s p (q + 32767) (continuations rules s (q + 32767)) in
        comes (behind g (continuations rules s (q + 32767))) (continuations_full rules s q (at_raw Full c) h)
        ∙ ap (adds k n) (walked_behind s p q g (continuations rules s (q + 32767)))
        ∙ adds_adds k n 1 (length (segment_bytes s g)) w
        ∙ ap (λ (m : ℕ). adds (k + 1) (n + m) w) (part_length s (q + 2 + 0) (q + 32767) (omega arith) ∙ omega arith)

    pub on_full_short : chunk_under rules raw ≡ Full → length s - q < 32767 → walked_on rules s p q k n ≡ waits_at p
    on_full_short c h = comes short (continuations_full_short rules s q two (at_raw Full c) h)

-- ---- the walk over a frame

module _ (rules : Rules) (s : List ℕ) (p : ℕ) where
  gives : (w : Walk) → frame_walk rules s p ≡ w → walked_at rules s p ≡ walked_of s p w
  unfolding walked_at
  gives w e = ap (walked_of s p) e

  -- no head is there
  pub frame_nothing : length s - p < 6 → walked_at rules s p ≡ waits_at p
  unfolding frame_walk
  frame_nothing h = gives short (pick_yes _ _ (lt-ltb (length s - p) 6 h))

  module _ (raw : ℕ) (e : raw ≡ be16 s p) (six : 6 ≤ length s - p) where
    -- 0xFFFF: 32,767 bytes and continuations, or too few bytes
    pub several_short : raw ≡ 65535 → length s - p < 32767 → walked_at rules s p ≡ waits_at p
    unfolding frame_walk
    several_short k h =
        gives short
        (pick_no _ _ (le-ltb (length s - p) 6 six)
        ∙ pick_yes _ _ (eq-eqb (be16 s p) 65535 (sym e ∙ k))
        ∙ pick_no _ _ (lt-leb 32767 (length s - p) h))

    pub several : raw ≡ 65535 → 32767 ≤ length s - p → walked_at rules s p ≡ walked_on rules s p (p + 32767) 1 32761
    unfolding frame_walk
    several k h =
        let w : Walk = continuations rules s (p + 32767) in
        gives (behind (first p 32767) w)
        (pick_no _ _ (le-ltb (length s - p) 6 six)
        ∙ pick_yes _ _ (eq-eqb (be16 s p) 65535 (sym e ∙ k))
        ∙ pick_yes _ _ (le-leb 32767 (length s - p) h))
        ∙ walked_behind s p p (first p 32767) w
        ∙ ap (λ (m : ℕ). adds 1 m (walked_from s p (p + 32767) w)) (part_length s (p + 6 + 0) (p + 32767) (omega arith) ∙ omega arith)

    -- any other length: so many bytes, or too few
    pub single_short : (raw ≡ 65535 → ⊥) → length s - p < raw → walked_at rules s p ≡ waits_at p
    unfolding frame_walk
    single_short k h =
        gives short
        (pick_no _ _ (le-ltb (length s - p) 6 six)
        ∙ pick_no _ _ (ne_eqb (be16 s p) 65535 (λ l. k (e ∙ l)))
        ∙ pick_no _ _ (lt-leb (be16 s p) (length s - p) (omega arith)))

    pub single_walk : (raw ≡ 65535 → ⊥) → raw ≤ length s - p → frame_walk rules s p ≡ whole (first p raw ∷ [])
    unfolding frame_walk
    single_walk k h =
        pick_no _ _ (le-ltb (length s - p) 6 six)
        ∙ pick_no _ _ (ne_eqb (be16 s p) 65535 (λ l. k (e ∙ l)))
        ∙ pick_yes _ _ (le-leb (be16 s p) (length s - p) (omega arith))
        ∙ ap (λ (n : ℕ). whole (first p n ∷ [])) (sym e)

    pub single : (raw ≡ 65535 → ⊥) → raw ≤ length s - p → walked_at rules s p ≡ Ok (walked (p + raw) 1 (raw - 6))
    single k h =
        gives (whole (first p raw ∷ [])) (single_walk k h)
        ∙ walked_one s p p (first p raw)
        ∙ ap (λ (m : ℕ). Ok (walked (p + raw) 1 m)) (part_length s (p + 6 + 0) (p + raw) (omega arith) ∙ omega arith)
