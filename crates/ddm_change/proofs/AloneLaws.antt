-- A frame read alone: 1 or 16, then head 2, 3, 7, then the frame, by what its walk comes to.
use Rattle.std.specs.Prelude.{Result, Ok, Err}
use Prim.Native.Nat.{ℕ, ◌≤◌, ◌<◌}
use native.Mathlib.Omega.{arith}
use mathlib.Core.Path.{◌≡◌, refl, sym, ap, ap₂, ◌∙◌}
use mathlib.Core.List.{List}
use lib.ListN.{length}
use borrow.Author.Tests.{le-ltb, lt-ltb, le-leb}
use Rattle.wire.specs.Bytes.{be16}
use Rattle.wire.proofs.WireLaws.{pick_yes, pick_no}
use Rattle.answer.specs.declared.Refusal.TheVariants.{Incomplete, LengthTooShort, DeadContinuation}
use Rattle.answer.specs.declared.Refused.{Refused}
use Rattle.dss_head.specs.Heads.{head_at}
use Rattle.dss_head.specs.declared.DssHeader.{DssHeader}
use Rattle.dss_frame.specs.declared.Rules.TheVariants.{Reader}
use Rattle.dss_frame.specs.Segments.{Segment, Walk, whole, short, dead, payload_of, frame_walk, end_of}
use Rattle.dss_measure.specs.declared.Walked.{Walked}
use Rattle.dss_measure.specs.inner.Walking.{walked, walked_of, walked_at}
use Rattle.ddm_change.specs.Alone.{alone_at, alone_walk, alone_head}
use Rattle.ddm_change.specs.inner.Planning.{alone, alone_of}

module _ (s : List ℕ) where
  -- the frame at the start is in bounds
  pub alone_as : alone_at Reader s 0 ≡ alone_walk s 0 (frame_walk Reader s 0)
  unfolding alone_at
  alone_as = pick_yes _ _ (le-leb 0 (length s) (omega arith))

  not_walked : (r : Refused) (w : Walk) → walked_of s 0 w ≡ Err r → alone_of (alone_walk s 0 w) ≡ Err r
  not_walked r (whole gs) e = let z : ◌≡◌ {A = ℕ} 0 1 = cc in absurd (omega arith)
  not_walked r short e = let z : record { why = Incomplete; place = 0 } ≡ r = cc in ap Err z
  not_walked r (dead q) e = let z : record { why = DeadContinuation; place = q } ≡ r = cc in ap Err z

  -- 1, and 16
  pub alone_not_whole : (r : Refused) → walked_at Reader s 0 ≡ Err r → alone_of (alone_at Reader s 0) ≡ Err r
  unfolding walked_at
  alone_not_whole r e = ap alone_of alone_as ∙ not_walked r (frame_walk Reader s 0) e

  -- the walk's segments end where it says, and are as many as it says
  record OfWalk (v : Walked) (w : Walk) : Type 0 where
    segments : List Segment
    is : w ≡ whole segments
    ends : end_of 0 segments ≡ v.end
    counted : length segments ≡ v.segments

  whole_walk : (v : Walked) (w : Walk) → walked_of s 0 w ≡ Ok v → OfWalk v w
  whole_walk v (whole gs) e =
      let z : walked (end_of 0 gs) (length gs) (length (payload_of s gs)) ≡ v = cc in
      record { segments = gs; is = refl; ends = ap (λ (x : Walked). x.end) z; counted = ap (λ (x : Walked). x.segments) z }
  whole_walk v short e = let z : ◌≡◌ {A = ℕ} 0 1 = cc in absurd (omega arith)
  whole_walk v (dead q) e = let z : ◌≡◌ {A = ℕ} 0 1 = cc in absurd (omega arith)

  module _ (v : Walked) (w : walked_at Reader s 0 ≡ Ok v) where
    of_walk : OfWalk v (frame_walk Reader s 0)
    unfolding walked_at
    of_walk = whole_walk v (frame_walk Reader s 0) w

    headed : (f : Result DssHeader Refused) → f ≡ head_at s 0 → alone_of (alone_at Reader s 0) ≡ alone_of (alone_head s 0 of_walk.segments f)
    headed f i =
        ap alone_of (alone_as ∙ ap (alone_walk s 0) of_walk.is)
        ∙ ap (λ (x : Result DssHeader Refused). alone_of (alone_head s 0 of_walk.segments x)) (sym i)

    -- 2, 3
    pub alone_refused : (r : Refused) → Err r ≡ head_at s 0 → alone_of (alone_at Reader s 0) ≡ Err r
    alone_refused r i = headed (Err r) i

    module _ (h : DssHeader) (i : Ok h ≡ head_at s 0) (raw : ℕ) (l : raw ≡ be16 s 0) where
      -- 7
      pub alone_length : raw < 6 → alone_of (alone_at Reader s 0) ≡ Err (record { why = LengthTooShort raw; place = 0 })
      alone_length m =
          headed (Ok h) i
          ∙ ap alone_of (pick_yes _ _ (lt-ltb (be16 s 0) 6 (omega arith)))
          ∙ ap (λ (x : ℕ). Err (record { why = LengthTooShort x; place = 0 })) (sym l)

      pub alone_stands : 6 ≤ raw → alone_of (alone_at Reader s 0) ≡ Ok (alone v.end v.segments)
      alone_stands m =
          headed (Ok h) i
          ∙ ap alone_of (pick_no _ _ (le-ltb (be16 s 0) 6 (omega arith)))
          ∙ ap₂ (λ (e k : ℕ). Ok (alone e k)) of_walk.ends of_walk.counted
