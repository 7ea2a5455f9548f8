-- `ddm_change::request::lay` meets its contract: the parts stand one behind the other, each where the one before it ends.
use Rattle.std.proofs.Common.{rules}
use Prim.Native.Nat.{ℕ, ◌+◌, ◌-◌, ◌^◌, ◌≤◌, ◌<◌}
use native.Mathlib.Omega.{arith}
use mathlib.Core.Path.{◌≡◌, refl, ap, ◌∙◌}
use mathlib.Core.List.{List, [], ◌++◌}
use lib.ListN.{length, length-append}
use Rattle.wire.specs.Bytes.{two, part, splice}
use Rattle.wire.proofs.WireLaws.{part_length}
use Rattle.wire.proofs.LentParts.{tail_drop}
use Rattle.dss_frame.specs.Written.{frame_size}
use Rattle.ddm_builder.specs.Built.{length_bytes}
use Rattle.ddm_builder.specs.Headers.{header_of}
use Rattle.ddm_change.specs.declared.laying.Laying.{Laying}
use Rattle.ddm_change.specs.declared.Plan.{Plan}
use Rattle.ddm_change.specs.inner.LaysOn.{LaysOn}
use Rattle.ddm_change.specs.inner.Outlay.{raw_first, outlaid}
use Rattle.ddm_change.specs.inner.Planning.{payload_of_plan, payload_after, LayingRequest}
use Rattle.ddm_change.specs.Request.{reframed}
use Rattle.ddm_change.proofs.OutlayLaws.{frame_size_grows, size_none}
use Rattle.ddm_change.proofs.LaidOut.{Holds, holds_none, holds_more, framed, sizes, laid_frame}
use Rattle.ddm_change.proofs.request.lay.Goals as goal

module _ (plan : Plan) (cp : ℕ) (new room : List ℕ) (laying : LayingRequest plan.payload.run.now cp (length new) plan)
    (fits : frame_size plan.payload_len ≤ length room) (small : length room < 2 ^ 63) where
  abbrev frame : List ℕ
  frame = plan.payload.run.now

  abbrev n : ℕ
  n = plan.payload_len

  known : (6 ≤ length frame) × (6 ≤ length room)
  known = (framed frame cp (length new) plan laying, omega (arith, fits, size_none, frame_size_grows 0 n (omega arith)))

  abbrev head : List ℕ
  head = two (raw_first n) ++ part frame 2 6

  head_six : length head ≡ 6
  head_six = omega (arith, part_length frame 2 6 known.0)

  -- the object's header, the data up to the parameter, the parameter's header, the data behind it
  abbrev h1 : List ℕ
  h1 = header_of plan.code_point plan.data_len

  abbrev ahead : List ℕ
  ahead = part (payload_of_plan plan) plan.first plan.from

  abbrev h2 : List ℕ
  h2 = header_of cp (length new)

  abbrev behind : List ℕ
  behind = part (payload_of_plan plan) plan.to (length (payload_of_plan plan))

  sized : (n ≡ 4 + length_bytes plan.data_len + (plan.from - plan.first + (4 + length_bytes (length new) + length new) + (length (payload_of_plan plan) - plan.to)))
      × (length h1 ≡ 4 + length_bytes plan.data_len) × (length ahead ≡ plan.from - plan.first)
      × (length h2 ≡ 4 + length_bytes (length new)) × (length behind ≡ length (payload_of_plan plan) - plan.to)
  sized = sizes frame plan cp new room laying fits small

  -- ---- one part behind the other

  -- the room holds the payload's bytes x behind the head, and the next one goes behind them
  record Stands (x : List ℕ) (y : Laying) : Type 0 where
    holds : Holds room head n x y.room.now
    next : y.at ≡ length x
    long : y.len ≡ n

  more : (x b : List ℕ) (y z : Laying) → Stands x y → LaysOn b y z → Stands (x ++ b) z
  more x b y z h o =
      record {
        holds =
            holds_more room head n head_six x b y.room.now z.room.now y.at h.next h.holds
            (o.room_is ∙ ap (λ (k : ℕ). splice y.room.now (frame_size y.at) (outlaid k y.at b)) h.long);
        next = omega (arith, o.next, h.next, length-append x b);
        long = o.same_len ∙ h.long;
      }

  one : (y z : Laying) → LaysOn h1 y z → y.room.now ≡ splice room 0 head → y.at ≡ 0 → y.len ≡ n → Stands h1 z
  one y z o e a l = more [] h1 y z (record { holds = holds_none room head n head_six y.room.now e; next = a; long = l }) o

  two_fits : (z : Laying) → Stands h1 z → z.at + (plan.from - plan.first) ≤ z.len
  two_fits z h = omega (arith, h.next, h.long, sized)

  three_fits : (z : Laying) → Stands (h1 ++ ahead) z → z.at + length h2 ≤ z.len
  three_fits z h = omega (arith, h.next, h.long, sized, length-append h1 ahead)

  four_fits : (z : Laying) → Stands ((h1 ++ ahead) ++ h2) z → z.at + length new ≤ z.len
  four_fits z h = omega (arith, h.next, h.long, sized, length-append h1 ahead, length-append (h1 ++ ahead) h2)

  five_fits : (z : Laying) → Stands (((h1 ++ ahead) ++ h2) ++ new) z → z.at + (length (payload_of_plan plan) - plan.to) ≤ z.len
  five_fits z h =
      omega (arith, h.next, h.long, sized, length-append h1 ahead, length-append (h1 ++ ahead) h2, length-append ((h1 ++ ahead) ++ h2) new)

  -- the new bytes carry themselves
  whole : (v : List ℕ) → v ≡ new → part v 0 (length new) ≡ new
  whole v e = ap (λ (x : List ℕ). part x 0 (length new)) e ∙ tail_drop new 0

  all : (z : Laying) → Stands ((((h1 ++ ahead) ++ h2) ++ new) ++ behind) z → z.room.now ≡ splice room 0 (reframed frame (payload_after plan cp new))
  all z h = laid_frame frame plan cp new room laying fits small z.room.now h.holds

pub lay_head-requires : goal.lay_head-requires
lay_head-requires c =
    let a = c.args in
    known a.plan.now a.code_point a.new.now a.room.now c.requires.planned c.requires.fits (omega arith)

pub header-requires : goal.header-requires
header-requires c =
    let a = c.args in
    omega (arith, sized a.plan.now a.code_point a.new.now a.room.now c.requires.planned c.requires.fits (omega arith))

pub part-requires-clause-inside : goal.part-requires-clause-inside
part-requires-clause-inside c =
    let a = c.args in
    let small : length a.room.now < 2 ^ 63 = omega arith in
    let p = c.requires in
    let s1 = one a.plan.now a.code_point a.new.now a.room.now p.planned p.fits small _ _ c.header.ensures c.lay_head.ensures refl refl in
    two_fits a.plan.now a.code_point a.new.now a.room.now p.planned p.fits small _ s1

pub header-requires-2 : goal.header-requires-2
header-requires-2 c =
    let a = c.args in
    let small : length a.room.now < 2 ^ 63 = omega arith in
    let p = c.requires in
    let s1 = one a.plan.now a.code_point a.new.now a.room.now p.planned p.fits small _ _ c.header.ensures c.lay_head.ensures refl refl in
    let s2 = more a.plan.now a.code_point a.new.now a.room.now p.planned p.fits small _ _ _ _ s1 c.part.ensures in
    three_fits a.plan.now a.code_point a.new.now a.room.now p.planned p.fits small _ s2

pub part-requires-2-clause-inside : goal.part-requires-2-clause-inside
part-requires-2-clause-inside c =
    let a = c.args in
    let small : length a.room.now < 2 ^ 63 = omega arith in
    let p = c.requires in
    let s1 = one a.plan.now a.code_point a.new.now a.room.now p.planned p.fits small _ _ c.header.ensures c.lay_head.ensures refl refl in
    let s2 = more a.plan.now a.code_point a.new.now a.room.now p.planned p.fits small _ _ _ _ s1 c.part.ensures in
    let s3 = more a.plan.now a.code_point a.new.now a.room.now p.planned p.fits small _ _ _ _ s2 c.header-2.ensures in
    omega (arith, four_fits a.plan.now a.code_point a.new.now a.room.now p.planned p.fits small _ s3)

pub part-requires-3-clause-inside : goal.part-requires-3-clause-inside
part-requires-3-clause-inside c =
    let a = c.args in
    let small : length a.room.now < 2 ^ 63 = omega arith in
    let p = c.requires in
    let s1 = one a.plan.now a.code_point a.new.now a.room.now p.planned p.fits small _ _ c.header.ensures c.lay_head.ensures refl refl in
    let s2 = more a.plan.now a.code_point a.new.now a.room.now p.planned p.fits small _ _ _ _ s1 c.part.ensures in
    let s3 = more a.plan.now a.code_point a.new.now a.room.now p.planned p.fits small _ _ _ _ s2 c.header-2.ensures in
    let new_is = whole a.plan.now a.code_point a.new.now a.room.now p.planned p.fits small _ c.plain.ensures in
    let s4 = more a.plan.now a.code_point a.new.now a.room.now p.planned p.fits small _ _ _ _ s3 (rw new_is at c.part-2.ensures) in
    omega (arith, c.len.ensures, five_fits a.plan.now a.code_point a.new.now a.room.now p.planned p.fits small _ s4)

pub returns : goal.returns
returns c =
    let a = c.args in
    let small : length a.room.now < 2 ^ 63 = omega arith in
    let p = c.requires in
    let s1 = one a.plan.now a.code_point a.new.now a.room.now p.planned p.fits small _ _ c.header.ensures c.lay_head.ensures refl refl in
    let s2 = more a.plan.now a.code_point a.new.now a.room.now p.planned p.fits small _ _ _ _ s1 c.part.ensures in
    let s3 = more a.plan.now a.code_point a.new.now a.room.now p.planned p.fits small _ _ _ _ s2 c.header-2.ensures in
    let new_is = whole a.plan.now a.code_point a.new.now a.room.now p.planned p.fits small _ c.plain.ensures in
    let s4 = more a.plan.now a.code_point a.new.now a.room.now p.planned p.fits small _ _ _ _ s3 (rw new_is at c.part-2.ensures) in
    let s5 = more a.plan.now a.code_point a.new.now a.room.now p.planned p.fits small _ _ _ _ s4 (rw c.len.ensures at c.part-3.ensures) in
    (search rules) ∙ all a.plan.now a.code_point a.new.now a.room.now p.planned p.fits small _ s5
