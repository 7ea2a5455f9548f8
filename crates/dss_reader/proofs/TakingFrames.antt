-- The laws of payloads taken into lent room: one frame's, and all of them end to end.
use Rattle.std.specs.Prelude.{Result, Ok, Err}
use Prim.Native.Nat.{ℕ, suc, ◌+◌, ◌-◌, ◌≤◌, ◌<◌}
use native.Mathlib.Omega.{arith}
use mathlib.Core.Path.{◌≡◌, refl, sym, ap, ap₂, ◌∙◌}
use mathlib.Core.List.{List, [], ◌∷◌, ◌++◌, append-nil}
use lib.Dec.{leb}
use lib.ListN.{length, take, drop, length-append, length-drop, take-append-drop}
use lib.Seq.{take_all, drop-length}
use borrow.Author.Tests.{leb-true, leb-false}
use Rattle.wire.specs.Bytes.{splice}
use Rattle.wire.proofs.WireLaws.{by, pick_yes, pick_no, picked}
use Rattle.wire.proofs.Splicing.{splice_none, splice_lent, splice_length, splice_splice, laid_fits}
use Rattle.answer.specs.Numbers.{not_whole}
use Rattle.answer.specs.declared.Refused.{Refused}
use Rattle.dss_frame.specs.declared.Rules.TheVariants.{Reader}
use Rattle.dss_frame.specs.Segments.{payload_of, end_of}
use Rattle.dss_frame.specs.Reading.{Frame, Read, frame, refused, read_at}
use Rattle.dss_frame.specs.Frames.{AllRead, frames, refused_all, before, and_on, all_frames}
use Rattle.dss_frame.specs.FrameRecords.{payloads_of}
use Rattle.dss_laws.proofs.Bounds.{OfFrame, is_frame, is_refused, Past, read_past}
use Rattle.dss_laws.proofs.FramesLaws.{frames_step, frames_more}
use Rattle.dss_measure.specs.declared.FrameMeasure.{FrameMeasure}
use Rattle.dss_measure.specs.Measure.{measure_of, measured_of, measured_at}
use Rattle.dss_take.specs.Take.{taken_of, room_read, Takes}
use Rattle.dss_reader.specs.Reader.{given_frame, read_of, NextFrame}
use Rattle.dss_reader.specs.inner.TakingAll.{all_payloads, FitsAll}

-- ---- one frame

module _ (s : List ℕ) (p : ℕ) where
  read_is : (size : ℕ) (r : Read) → read_of p (taken_of s p size r) ≡ given_frame s p size r
  read_is size (refused r) = refl
  read_is size (frame f) =
      by (leb (length (payload_of s f.segments)) size)
      (λ t. ap (read_of p) (pick_yes _ _ t) ∙ sym (pick_yes _ _ t))
      (λ t. ap (read_of p) (pick_no _ _ t) ∙ sym (pick_no _ _ t))

  -- W-208: what was taken is what `next_frame` answers
  pub next_is : (room : List ℕ) (m r : Result FrameMeasure Refused) (after : List ℕ) → Takes Reader s p room r after → r ≡ m → NextFrame s p room (read_of p m) after
  next_is room m r after w e =
      record {
        answers = ap (read_of p) (sym e ∙ w.answers) ∙ read_is (length room) (read_at Reader s p);
        room_is = w.room_is;
      }

-- ---- what taking says of the frame

-- the frame at p was taken into a room: m is its measure, and its payload lies at the room's start
record Took (s : List ℕ) (p : ℕ) (room : List ℕ) (m : FrameMeasure) (after : List ℕ) : Type 0 where
  read : Frame
  is : read_at Reader s p ≡ frame read
  measure : measure_of s p read ≡ m
  fits : length (payload_of s read.segments) ≤ length room
  room_is : after ≡ splice room 0 (payload_of s read.segments)

module _ (s : List ℕ) (p : ℕ) (room : List ℕ) (after : List ℕ) where
  took : (m : FrameMeasure) (a : Result FrameMeasure Refused) → Takes Reader s p room a after → a ≡ Ok m → Took s p room m after
  took m a w n = of_read (read_at Reader s p) refl (sym n ∙ w.answers) w.room_is
    where
      of_read : (r : Read) → read_at Reader s p ≡ r → Ok m ≡ taken_of s p (length room) r → after ≡ room_read s room r → Took s p room m after
      of_read (refused r) i k l = let z : ◌≡◌ {A = ℕ} 0 1 = cc in absurd (omega arith)
      of_read (frame f) i k l =
          picked (leb (length (payload_of s f.segments)) (length room)) (sym k)
          (λ t e. let h : length (payload_of s f.segments) ≤ length room = leb-true _ _ t in
          let same : measure_of s p f ≡ m = cc in
          record { read = f; is = i; measure = same; fits = h; room_is = l ∙ laid_fits room 0 (payload_of s f.segments) (omega arith) })
          (λ t e. let z : ◌≡◌ {A = ℕ} 0 1 = cc in absurd (omega arith))

  -- nothing was taken: there is none, and the room is as it was, or it didn't fit
  not_taken : {ℓ : Type 0} (x : Refused) (a : Result FrameMeasure Refused) → Takes Reader s p room a after → a ≡ Err x
      → ((r : Refused) → read_at Reader s p ≡ refused r → after ≡ room → ℓ)
      → ((f : Frame) → read_at Reader s p ≡ frame f → (length (payload_of s f.segments) ≤ length room → ⊥) → ℓ)
      → ℓ
  not_taken {ℓ} x a w n none wide = of_read (read_at Reader s p) refl (sym n ∙ w.answers) w.room_is
    where
      of_read : (r : Read) → read_at Reader s p ≡ r → Err x ≡ taken_of s p (length room) r → after ≡ room_read s room r → ℓ
      of_read (refused r) i k l = none r i l
      of_read (frame f) i k l =
          picked (leb (length (payload_of s f.segments)) (length room)) (sym k)
          (λ t e. let z : ◌≡◌ {A = ℕ} 0 1 = cc in absurd (omega arith))
          (λ t e. wide f i (λ h. omega (arith, leb-false (length (payload_of s f.segments)) (length room) t)))

-- ---- all frames

-- While they are taken: those that are left, and the room with these laid down from the mark on is the one that is to come.
pub record TakingAll (s : List ℕ) (whole : List ℕ) (room : List ℕ) (at mark : ℕ) : Type 0 where
  pub left : List Frame
  pub end : ℕ
  pub is : all_frames s at ≡ frames left end
  pub fits : mark + length (payloads_of s left) ≤ length room
  pub same : whole ≡ splice room mark (payloads_of s left)

pub taking_start : (s : List ℕ) (p : ℕ) (room : List ℕ) → FitsAll s p room → TakingAll s (splice room 0 (all_payloads s (all_frames s p))) room p 0
taking_start s p room w =
    record { left = w.read; end = w.end; is = w.is; fits = omega (arith, w.fits); same = ap (λ (a : AllRead). splice room 0 (all_payloads s a)) w.is }

pub start_left : (s : List ℕ) (p : ℕ) (room : List ℕ) (w : FitsAll s p room) → length (taking_start s p room w).left ≡ length w.read
unfolding taking_start
start_left s p room w = refl

-- the tail of a room that was lent came back as t
lent : (room : List ℕ) (mark : ℕ) (t : List ℕ) → take mark room ++ (t ++ drop (length room - mark) (drop mark room)) ≡ take mark room ++ t
lent room mark t =
    let none : drop (length room - mark) (drop mark room) ≡ [] = ap (λ (n : ℕ). drop n (drop mark room)) (sym (length-drop mark room)) ∙ drop-length (drop mark room) in
    ap (λ (x : List ℕ). take mark room ++ (t ++ x)) none ∙ ap (λ (x : List ℕ). take mark room ++ x) (append-nil t)

lent_tail : (room : List ℕ) (mark : ℕ) → take (length room - mark) (drop mark room) ≡ drop mark room
lent_tail room mark = take_all (length room - mark) (drop mark room) (omega (arith, length-drop mark room))

module _ {s whole room : List ℕ} {at mark : ℕ} (w : TakingAll s whole room at mark) (t : List ℕ) where
  abbrev tail : List ℕ
  tail = take (length room - mark) (drop mark room)

  abbrev back : List ℕ
  back = take mark room ++ (t ++ drop (length room - mark) (drop mark room))

  tail_length : length tail ≡ length room - mark
  tail_length = ap length (lent_tail room mark) ∙ length-drop mark room

  -- what follows the frame that was taken
  record Follows (f : Frame) : Type 0 where
    rest : List Frame
    cons : w.left ≡ f ∷ rest
    on : all_frames s (end_of at f.segments) ≡ frames rest w.end

  follows : (f : Frame) → read_at Reader s at ≡ frame f → Follows f
  follows f e = of_rest (all_frames s (end_of at f.segments)) refl (sym (frames_more s at f e) ∙ w.is)
    where
      of_rest : (a : AllRead) → all_frames s (end_of at f.segments) ≡ a → before f a ≡ frames w.left w.end → Follows f
      of_rest (frames gs q) i k =
          let x : q ≡ w.end = cc in
          let y : f ∷ gs ≡ w.left = cc in
          record { rest = gs; cons = sym y; on = i ∙ ap (frames gs) x }
      of_rest (refused_all r) i k = let z : ◌≡◌ {A = ℕ} 0 1 = cc in absurd (omega arith)

  payloads_cons : (f : Frame) (v : Follows f) → payloads_of s w.left ≡ payload_of s f.segments ++ payloads_of s v.rest
  unfolding payloads_of
  payloads_cons f v = ap (payloads_of s) v.cons

  -- the frame that is read fits what is left of the room
  first_fits : (f : Frame) → read_at Reader s at ≡ frame f → mark + length (payload_of s f.segments) ≤ length room
  first_fits f e =
      let v : Follows f = follows f e in
      omega (arith, w.fits, ap length (payloads_cons f v), length-append (payload_of s f.segments) (payloads_of s v.rest))

  -- a frame's payload was laid down, and more follow
  pub taking_more : (m : FrameMeasure) (a : Result FrameMeasure Refused) → Takes Reader s at tail a t → a ≡ Ok m → TakingAll s whole back m.end (mark + m.payload_len)
  taking_more m a k i = made (took s at tail t m a k i)
    where
      made : Took s at tail m t → TakingAll s whole back m.end (mark + m.payload_len)
      made o =
          let f : Frame = o.read in
          let x : List ℕ = payload_of s f.segments in
          let v : Follows f = follows f o.is in
          let y : List ℕ = payloads_of s v.rest in
          let n : length x ≡ m.payload_len = ap (λ (z : FrameMeasure). z.payload_len) o.measure in
          let e : end_of at f.segments ≡ m.end = ap (λ (z : FrameMeasure). z.end) o.measure in
          let fit : mark + length x ≤ length room = first_fits f o.is in
          let laid : back ≡ splice room mark x =
          lent room mark t ∙ ap (λ (z : List ℕ). take mark room ++ z) (o.room_is ∙ ap (λ (z : List ℕ). splice z 0 x) (lent_tail room mark)) ∙ splice_lent room mark x in
          record {
            left = v.rest;
            end = w.end;
            is = ap (all_frames s) (sym e) ∙ v.on;
            fits = omega (arith, w.fits, ap length (payloads_cons f v), length-append x y, ap length laid, splice_length room mark x fit);
            same =
                w.same
                ∙ ap (λ (z : List ℕ). splice room mark z) (payloads_cons f v)
                ∙ sym (splice_splice room mark x y (omega arith))
                ∙ ap₂ (λ (r : List ℕ) (a : ℕ). splice r (mark + a) y) (sym laid) n;
          }

  -- it fits
  pub taking_room : (m : FrameMeasure) (a : Result FrameMeasure Refused) → Takes Reader s at tail a t → a ≡ Ok m → mark + m.payload_len ≤ length room
  taking_room m a k i =
      let o : Took s at tail m t = took s at tail t m a k i in
      omega (arith, first_fits o.read o.is, ap (λ (z : FrameMeasure). z.payload_len) o.measure)

  -- and it takes bytes of the run
  pub taking_past : (m : FrameMeasure) (a : Result FrameMeasure Refused) → Takes Reader s at tail a t → a ≡ Ok m → (at + 6 ≤ m.end) × (m.end ≤ length s)
  taking_past m a k i = of_took (took s at tail t m a k i) (read_past Reader s at)
    where
      of_frame : (o : Took s at tail m t) (r : Read) → read_at Reader s at ≡ r → OfFrame (Past s at (at + 6)) r → (at + 6 ≤ m.end) × (m.end ≤ length s)
      of_frame o r j (is_frame f l) =
          let z : frame f ≡ frame o.read = sym j ∙ o.is in
          let y : f ≡ o.read = cc in
          let e : end_of at f.segments ≡ m.end = ap (λ (g : Frame). end_of at g.segments) y ∙ ap (λ (z : FrameMeasure). z.end) o.measure in
          (omega arith, omega arith)
      of_frame o r j (is_refused x) = let e : refused x ≡ frame o.read = sym j ∙ o.is in let z : ◌≡◌ {A = ℕ} 0 1 = cc in absurd (omega arith)

      of_took : Took s at tail m t → OfFrame (Past s at (at + 6)) (read_at Reader s at) → (at + 6 ≤ m.end) × (m.end ≤ length s)
      of_took o l = of_frame o (read_at Reader s at) refl l

  -- nothing is read, so that none is left
  none_left : (r : Refused) → read_at Reader s at ≡ refused r → w.left ≡ []
  none_left r e =
      let k : and_on at (refused r) (all_frames s) ≡ frames w.left w.end = ap (λ (a : Read). and_on at a (all_frames s)) (sym e) ∙ sym (frames_step s at) ∙ w.is in
      picked (not_whole r.why) k
      (λ t i. let z : [] ≡ w.left = cc in sym z)
      (λ t i. let z : ◌≡◌ {A = ℕ} 0 1 = cc in absurd (omega arith))

  -- the last was taken: the room is the one that was to come
  pub taking_done : (x : Refused) (a : Result FrameMeasure Refused) → Takes Reader s at tail a t → a ≡ Err x → back ≡ whole
  unfolding payloads_of
  taking_done x a k j =
      not_taken s at tail t x a k j
      (λ r e i. lent room mark t ∙ ap (λ (z : List ℕ). take mark room ++ z) (i ∙ lent_tail room mark) ∙ take-append-drop mark room ∙ sym (splice_none room mark)
      ∙ ap (λ (l : List Frame). splice room mark (payloads_of s l)) (sym (none_left r e))
      ∙ sym w.same)
      (λ f e h. absurd (h (omega (arith, first_fits f e, tail_length))))

  -- ---- the same, with how many are left

  pub taking_measured : (m : FrameMeasure) (a : Result FrameMeasure Refused) → Takes Reader s at tail a t → a ≡ Ok m → measured_at Reader s at ≡ Ok m
  unfolding measured_at
  taking_measured m a k i =
      let o : Took s at tail m t = took s at tail t m a k i in
      ap (measured_of s at) o.is ∙ ap Ok o.measure

  -- one fewer
  pub taking_fewer : (m : FrameMeasure) (a : Result FrameMeasure Refused) (k : Takes Reader s at tail a t) (i : a ≡ Ok m) → length w.left ≡ suc (length (taking_more m a k i).left)
  unfolding taking_more
  taking_fewer m a k i =
      let o : Took s at tail m t = took s at tail t m a k i in
      ap length (follows o.read o.is).cons

  -- where one is left, one is taken
  pub taking_never : (x : Refused) (a : Result FrameMeasure Refused) → Takes Reader s at tail a t → a ≡ Err x → 0 < length w.left → ⊥
  taking_never x a k j h =
      not_taken s at tail t x a k j (λ r e i. let z : length w.left ≡ 0 = ap length (none_left r e) in omega arith)
      (λ f e l. l (omega (arith, first_fits f e, tail_length)))

-- none is left: the room is the one that was to come
no_frames : (fs : List Frame) → length fs ≡ 0 → fs ≡ []
no_frames [] e = refl
no_frames (f ∷ fs) e = absurd (omega arith)

pub taking_empty : {s whole room : List ℕ} {at mark : ℕ} (w : TakingAll s whole room at mark) → length w.left ≡ 0 → room ≡ whole
unfolding payloads_of
taking_empty {s} {whole} {room} {at} {mark} w e =
    sym (w.same ∙ ap (λ (l : List Frame). splice room mark (payloads_of s l)) (no_frames w.left e) ∙ splice_none room mark)
