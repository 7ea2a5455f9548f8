-- The laws of taking a frame's continuations, one for each answer of a chunk's length.
use Prim.Native.Nat.{ℕ, ◌+◌, ◌-◌, ◌≤◌, ◌<◌}
use native.Mathlib.Nat.{add-zero}
use native.Mathlib.Omega.{arith}
use mathlib.Core.Path.{◌≡◌, sym, ap, ap₂, ◌∙◌}
use mathlib.Core.List.{List, [], ◌∷◌, ◌++◌, append-nil}
use lib.Dec.{ltb, leb}
use lib.ListN.{length, drop}
use borrow.Author.Tests.{ltb-true, ltb-false, leb-true, leb-false}
use Rattle.wire.specs.Bytes.{be16, part}
use Rattle.wire.proofs.WireLaws.{by, part_length}
use Rattle.wire.proofs.Places.{here_next}
use Rattle.dss_head.specs.declared.Chunk.{Chunk}
use Rattle.dss_head.specs.declared.Chunk.TheVariants.{Dead, Last, Full}
use Rattle.dss_frame.specs.Rules.{chunk_under}
use Rattle.dss_frame.specs.declared.Rules.{Rules}
use Rattle.dss_frame.specs.Segments.{Segment, whole, dead, continuation, step, payload_of, continuations}
use Rattle.dss_laws.proofs.Continuations.{continuations_short, continuations_step, continuations_last, continuations_last_short, continuations_full, continuations_full_short}
use Rattle.dss_measure.proofs.WalkLaws.{last_two}
use Rattle.dss_laws.proofs.Ends.{payload_one}
use Rattle.dss_take.specs.Take.{payload_at}
use Rattle.dss_take.specs.inner.Payloads.{FitsRoom}
use Rattle.dss_take.proofs.PayloadLaws.{payload_is, Next}
use Rattle.dss_take.proofs.TakenFrames.{Behind, behind_whole, not_whole_lem, Several, several}

-- the walk from q on is whole, and what is left of a payload is that of its segments
pub record WalkingChunks (rules : Rules) (s payload : List ℕ) (q fill : ℕ) : Type 0 where
  pub segments : List Segment
  pub is : continuations rules s q ≡ whole segments
  pub left : drop fill payload ≡ payload_of s segments

-- a segment's part comes next, and then the walk behind it
walking_next : (rules : Rules) (s payload : List ℕ) (gs : List Segment) (fill from end m : ℕ) → from ≤ end → end ≤ length s → fill + (end - from) ≡ m
    → drop fill payload ≡ part s (from + 0) end ++ payload_of s gs → continuations rules s end ≡ whole gs → Next s payload fill from end × WalkingChunks rules s payload end m
walking_next rules s payload gs fill from end m o i k e w =
    let d : drop fill payload ≡ part s from end ++ payload_of s gs = e ∙ ap (λ (a : ℕ). part s a end ++ payload_of s gs) (add-zero from) in
    let l : fill + length (part s from end) ≡ m = omega (arith, part_length s from end i) in (
      record { order = o; there = i; rest = payload_of s gs; splits = d },
      record { segments = gs; is = w; left = here_next payload (part s from end) (payload_of s gs) fill m d l },
    )

-- the first segment of a frame of raw length 0xFFFF
pub chunks_first : {rules : Rules} {s : List ℕ} {p : ℕ} {room : List ℕ} → FitsRoom rules s p room → be16 s p ≡ 65535
    → Next s (payload_at rules s p) 0 (p + 6) (p + 32767) × WalkingChunks rules s (payload_at rules s p) (p + 32767) 32761
unfolding payload_of
chunks_first {rules} {s} {p} w k =
    let v : Several rules s p w.read = several rules s p w.read w.is k in
    walking_next rules s (payload_at rules s p) v.rest 0 (p + 6) (p + 32767) 32761 (omega arith) v.there (omega arith)
    (payload_is w ∙ ap (payload_of s) v.segments) v.walk

module _ {rules : Rules} {s payload : List ℕ} {q fill : ℕ} (w : WalkingChunks rules s payload q fill) where
  two : 2 ≤ length s - q
  two =
      by (ltb (length s - q) 2) (λ t. absurd (not_whole_lem _ (sym (continuations_short rules s q (ltb-true _ _ t)) ∙ w.is)))
      (λ t. ltb-false _ _ t)

  module _ {raw : ℕ} (e : raw ≡ be16 s q) where
    at_raw : (c : Chunk) → chunk_under rules raw ≡ c → chunk_under rules (be16 s q) ≡ c
    at_raw c k = ap (chunk_under rules) (sym e) ∙ k

    -- "0 and 1 are never whole"
    pub walking_dead : chunk_under rules raw ≡ Dead → ⊥
    walking_dead c =
        let k : dead q ≡ whole w.segments =
        sym (continuations_step rules s q two ∙ ap (λ (d : Chunk). step s q d (continuations rules s)) (at_raw Dead c)) ∙ w.is in
        let z : ◌≡◌ {A = ℕ} 0 1 = cc in omega arith

    -- the last: its bytes are all that is left
    module _ (c : chunk_under rules raw ≡ Last) where
      last_there : raw ≤ length s - q
      last_there =
          by (leb raw (length s - q)) (λ t. leb-true _ _ t)
          (λ t. let l : length s - q < raw = leb-false _ _ t in
          absurd (not_whole_lem _ (sym (continuations_last_short rules s q two (at_raw Last c) (omega arith)) ∙ w.is)))

      pub last_left : drop fill payload ≡ part s (q + 2) (q + raw)
      last_left =
          let g : Segment = continuation q (be16 s q) in
          let k : whole (g ∷ []) ≡ whole w.segments = sym (continuations_last rules s q two (at_raw Last c) (omega (arith, last_there))) ∙ w.is in
          let z : g ∷ [] ≡ w.segments = cc in
          w.left ∙ ap (payload_of s) (sym z) ∙ payload_one s g ∙ ap₂ (λ (a n : ℕ). part s a (q + n)) (add-zero (q + 2)) (sym e)

      pub last_next : Next s payload fill (q + 2) (q + raw)
      last_next =
          let i : 2 ≤ raw = last_two rules raw c in
          record { order = omega arith; there = omega (arith, two, last_there); rest = []; splits = last_left ∙ sym (append-nil _) }

    -- 32,767 bytes and another: their 32,765 bytes of payload come next
    pub full_next : chunk_under rules raw ≡ Full → Next s payload fill (q + 2) (q + 32767) × WalkingChunks rules s payload (q + 32767) (fill + 32765)
    unfolding payload_of
    full_next c =
        let i : 32767 ≤ length s - q =
        by (leb 32767 (length s - q)) (λ t. leb-true _ _ t)
        (λ t. absurd (not_whole_lem _ (sym (continuations_full_short rules s q two (at_raw Full c) (leb-false _ _ t)) ∙ w.is))) in
        let b : Behind (continuation q 32767) (continuations rules s (q + 32767)) w.segments =
        behind_whole _ _ _ (sym (continuations_full rules s q (at_raw Full c) i) ∙ w.is) in
        walking_next rules s payload b.rest fill (q + 2) (q + 32767) (fill + 32765) (omega arith) (omega arith) (omega arith)
        (w.left ∙ ap (payload_of s) b.segments) b.is
