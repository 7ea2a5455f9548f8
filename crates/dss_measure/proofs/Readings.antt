-- The laws of what measuring answers, one for each answer, in document 01's order: 10, 1 or 16, 2, 3, 7, then the frame.
use Rattle.std.specs.Prelude.{Result, Ok, Err}
use Prim.Native.Nat.{ℕ, ◌-◌, ◌≤◌, ◌<◌}
use native.Mathlib.Omega.{arith}
use mathlib.Core.Path.{◌≡◌, refl, sym, ap, ◌∙◌}
use mathlib.Core.List.{List, [], ◌∷◌}
use lib.Dec.{ltb, leb}
use lib.ListN.{length}
use borrow.Author.Tests.{le-ltb, lt-ltb, le-leb, lt-leb, eq-eqb, ne_eqb, ltb-true, ltb-false, leb-true, leb-false}
use Rattle.wire.specs.Bytes.{be16}
use Rattle.wire.proofs.WireLaws.{by, pick_yes, pick_no}
use Rattle.answer.specs.Rooms.{out_of_bounds}
use Rattle.answer.specs.declared.Refusal.TheVariants.{Incomplete, LengthTooShort, DeadContinuation}
use Rattle.answer.specs.declared.Refused.{Refused}
use Rattle.dss_head.specs.Heads.{head_at}
use Rattle.dss_head.specs.declared.DssHeader.{DssHeader}
use Rattle.dss_frame.specs.declared.Rules.{Rules}
use Rattle.dss_frame.specs.Segments.{Segment, Walk, whole, short, dead, first, payload_of, end_of, frame_walk}
use Rattle.dss_frame.specs.Reading.{refused, read_at, read_walk, read_head, absorb}
use Rattle.dss_measure.specs.declared.Walked.{Walked}
use Rattle.dss_measure.specs.inner.Walking.{walked_of, walked_at}
use Rattle.dss_measure.specs.Measure.{measured_of, measured_at}
use Rattle.dss_measure.proofs.WalkLaws.{waits_at, dead_at, frame_nothing, single_short, single_walk}

module _ (rules : Rules) (s : List ℕ) (p : ℕ) where
  -- "order: 10"
  pub measured_beyond : length s < p → measured_at rules s p ≡ Err (out_of_bounds p (length s))
  unfolding measured_at read_at
  measured_beyond h = ap (measured_of s p) (pick_no _ _ (lt-leb p (length s) h))

  reads : p ≤ length s → (w : Walk) → frame_walk rules s p ≡ w → measured_at rules s p ≡ measured_of s p (read_walk rules s p w)
  unfolding measured_at read_at
  reads h w e = ap (measured_of s p) (pick_yes _ _ (le-leb p (length s) h) ∙ ap (read_walk rules s p) e)

  -- "1", and 16
  not_walk : (w : Walk) (r : Refused) → walked_of s p w ≡ Err r → read_walk rules s p w ≡ refused r
  not_walk (whole gs) r e = let z : ◌≡◌ {A = ℕ} 0 1 = cc in absurd (omega arith)
  not_walk short r e = ap refused cc
  not_walk (dead q) r e = ap refused cc

  pub measured_not_whole : (r : Refused) → p ≤ length s → walked_at rules s p ≡ Err r → measured_at rules s p ≡ Err r
  unfolding walked_at
  measured_not_whole r h e = reads h (frame_walk rules s p) refl ∙ ap (measured_of s p) (not_walk (frame_walk rules s p) r e)

  pub measured_short : p ≤ length s → walked_at rules s p ≡ waits_at p → measured_at rules s p ≡ Err (record { why = Incomplete; place = p })
  measured_short h e = measured_not_whole _ h e

  pub measured_dead : (d : ℕ) → p ≤ length s → walked_at rules s p ≡ dead_at d → measured_at rules s p ≡ Err (record { why = DeadContinuation; place = d })
  measured_dead d h e = measured_not_whole _ h e

  -- ---- the frame is whole

  -- what is walked over are the walk's segments: where they end, how many they are and how many bytes they hold
  record OfWalk (x : Walked) (w : Walk) : Type 0 where
    segments : List Segment
    is : w ≡ whole segments
    ends : end_of p segments ≡ x.end
    counted : length segments ≡ x.segments
    long : length (payload_of s segments) ≡ x.payload_len

  whole_walk : (x : Walked) (w : Walk) → walked_of s p w ≡ Ok x → OfWalk x w
  whole_walk x (whole gs) e =
      record { segments = gs; is = refl; ends = cc; counted = cc; long = cc }
  whole_walk x short e = let z : ◌≡◌ {A = ℕ} 0 1 = cc in absurd (omega arith)
  whole_walk x (dead q) e = let z : ◌≡◌ {A = ℕ} 0 1 = cc in absurd (omega arith)

  module _ (x : Walked) (w : walked_at rules s p ≡ Ok x) where
    -- six bytes are there
    pub whole_six : 6 ≤ length s - p
    whole_six =
        by (ltb (length s - p) 6)
        (λ t. let y : walked_at rules s p ≡ waits_at p = frame_nothing rules s p (ltb-true _ _ t) in let z : ◌≡◌ {A = ℕ} 0 1 = cc in absurd (omega arith))
        (λ t. ltb-false _ _ t)

    of_walk : OfWalk x (frame_walk rules s p)
    unfolding walked_at
    of_walk = whole_walk x (frame_walk rules s p) w

    headed : (f : Result DssHeader Refused) → f ≡ head_at s p → measured_at rules s p ≡ measured_of s p (read_head rules s p of_walk.segments f)
    headed f i = reads (omega (arith, whole_six)) (whole of_walk.segments) of_walk.is ∙ ap (λ (y : Result DssHeader Refused). measured_of s p (read_head rules s p of_walk.segments y)) (sym i)

    -- "then head 2, 3"
    pub measured_refused : (r : Refused) → Err r ≡ head_at s p → measured_at rules s p ≡ Err r
    measured_refused r i = headed (Err r) i

    module _ (h : DssHeader) (i : Ok h ≡ head_at s p) (raw : ℕ) (l : raw ≡ be16 s p) where
      -- "7"
      pub measured_length : raw < 6 → measured_at rules s p ≡ Err (record { why = LengthTooShort raw; place = p })
      measured_length m =
          headed (Ok h) i
          ∙ ap (measured_of s p) (pick_yes _ _ (lt-ltb (be16 s p) 6 (omega arith)))
          ∙ ap (λ (y : ℕ). Err (record { why = LengthTooShort y; place = p })) (sym l)

      -- "A 0xFFFF frame is its chunks joined, head length 32,767, and nothing is absorbed"
      pub measured_several : raw ≡ 65535 → measured_at rules s p ≡ Ok (record { header = h; payload_len = x.payload_len; segments = x.segments; end = x.end })
      measured_several m =
          headed (Ok h) i
          ∙ ap (measured_of s p) (pick_no _ _ (le-ltb (be16 s p) 6 (omega arith)) ∙ pick_yes _ _ (eq-eqb (be16 s p) 65535 (sym l ∙ m)))
          ∙ (λ j. Ok (record { header = h; payload_len = of_walk.long j; segments = of_walk.counted j; end = of_walk.ends j }))

      module _ (m : raw ≡ 65535 → ⊥) where
        -- its bytes are there
        pub single_there : raw ≤ length s - p
        single_there =
            by (leb raw (length s - p)) (λ t. leb-true _ _ t)
            (λ t. let y : walked_at rules s p ≡ waits_at p = single_short rules s p raw l whole_six m (leb-false _ _ t) in let z : ◌≡◌ {A = ℕ} 0 1 = cc in absurd (omega arith))

        -- "Any other frame then looks at what follows"
        pub measured_single : 6 ≤ raw → measured_at rules s p ≡ measured_of s p (absorb rules s p h (first p raw ∷ []))
        measured_single j =
            reads (omega (arith, whole_six)) (whole (first p raw ∷ [])) (single_walk rules s p raw l whole_six m single_there)
            ∙ ap (λ (y : Result DssHeader Refused). measured_of s p (read_head rules s p (first p raw ∷ []) y)) (sym i)
            ∙ ap (measured_of s p) (pick_no _ _ (le-ltb (be16 s p) 6 (omega arith)) ∙ pick_no _ _ (ne_eqb (be16 s p) 65535 (λ y. m (l ∙ y))))
