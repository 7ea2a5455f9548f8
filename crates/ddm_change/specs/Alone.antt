-- A frame before anything behind it is looked at: its own segments, and the refusals of its own head.
use Rattle.std.specs.Prelude.{ℕ, List, ltb, leb, length, Result, Ok, Err}
use Rattle.answer.specs.Rooms.{out_of_bounds}
use Rattle.answer.specs.declared.Refusal.TheVariants.{LengthTooShort}
use Rattle.wire.specs.Bytes.{pick, be16}
use Rattle.dss_head.specs.Heads.{head_at}
use Rattle.dss_frame.specs.declared.Rules.{Rules}
use Rattle.dss_frame.specs.Segments.{Segment, Walk, frame_walk}
use Rattle.dss_frame.specs.Reading.{Read, frame, refused, if_whole}
use Rattle.dss_head.specs.declared.DssHeader.{DssHeader}
use Rattle.answer.specs.declared.Refused.{Refused}

abbrev pub alone_head : List ℕ → ℕ → List Segment → Result DssHeader Refused → Read
alone_head s p gs (Err r) = refused r
alone_head s p gs (Ok h) =
    pick (ltb (be16 s p) 6) (refused (record { why = LengthTooShort (be16 s p); place = p }))
    (frame (record { head = h; segments = gs }))

abbrev pub alone_walk : List ℕ → ℕ → Walk → Read
alone_walk s p = if_whole p refused (λ gs. alone_head s p gs (head_at s p))

-- the order is `next_frame`'s: 10, 1 or 16, then head 2, 3, 7
unfoldable pub alone_at : Rules → List ℕ → ℕ → Read
unfolding frame_walk
alone_at rules s p = pick (leb p (length s)) (alone_walk s p (frame_walk rules s p)) (refused (out_of_bounds p (length s)))
