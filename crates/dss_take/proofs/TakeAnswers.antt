-- The laws of what taking a frame answers, and of what the room then holds: a refusal, 9, and the frame.
use Rattle.std.specs.Prelude.{Ok, Err}
use Prim.Native.Nat.{ℕ, ◌≤◌, ◌<◌}
use native.Mathlib.Omega.{arith}
use mathlib.Core.Path.{◌≡◌, sym, ap, ◌∙◌}
use mathlib.Core.List.{List}
use lib.ListN.{length}
use borrow.Author.Tests.{le-leb, lt-leb}
use Rattle.wire.specs.Bytes.{splice}
use Rattle.wire.proofs.WireLaws.{pick_yes, pick_no}
use Rattle.wire.proofs.Splicing.{laid_fits, laid_kept}
use Rattle.answer.specs.Rooms.{no_room}
use Rattle.answer.specs.declared.Refused.{Refused}
use Rattle.dss_frame.specs.declared.Rules.{Rules}
use Rattle.dss_frame.specs.Segments.{payload_of}
use Rattle.dss_frame.specs.Reading.{Frame, frame, refused, read_at}
use Rattle.dss_measure.specs.declared.FrameMeasure.{FrameMeasure}
use Rattle.dss_measure.specs.Measure.{measured_at}
use Rattle.dss_measure.proofs.Measures.{Measures, measured_not}
use Rattle.dss_take.specs.Take.{taken_of, room_read, payload_at, Takes}
use Rattle.dss_take.specs.inner.Payloads.{FitsRoom, Typed}
use Rattle.dss_take.proofs.PayloadLaws.{payload_is}

module _ (rules : Rules) (s : List ℕ) (p : ℕ) where
  -- any refusal but 9
  pub takes_refusal : (room : List ℕ) (x : Refused) → measured_at rules s p ≡ Err x → Takes rules s p room (Err x) room
  takes_refusal room x e =
      let k : read_at rules s p ≡ refused x = measured_not rules s p x e in
      record { answers = sym (ap (taken_of s p (length room)) k); room_is = sym (ap (room_read s room) k) }

module _ {rules : Rules} {s : List ℕ} {p : ℕ} {m : FrameMeasure} (w : Measures rules s p m) where
  abbrev payload : List ℕ
  payload = payload_of s w.whole.segments

  long : length payload ≡ m.payload_len
  long = ap (λ (x : FrameMeasure). x.payload_len) w.same

  pub takes_size : m.payload_len ≡ length (payload_at rules s p)
  takes_size =
      let v : FitsRoom rules s p payload = record { read = w.whole; is = w.reads; fits = omega arith } in
      sym (ap length (payload_is v) ∙ long)

  pub takes_typed : Typed rules s p m.header.dss_type
  takes_typed f k =
      let z : frame f ≡ frame w.whole = sym k ∙ w.reads in
      let y : f ≡ w.whole = cc in
      ap (λ (x : Frame). x.head.dss_type) y ∙ ap (λ (x : FrameMeasure). x.header.dss_type) w.same

  module _ {room : List ℕ} where
    -- 9
    pub takes_short : length room < m.payload_len → Takes rules s p room (Err (no_room p m.payload_len 0)) room
    takes_short h =
        record {
          answers =
              sym
              (ap (taken_of s p (length room)) w.reads
              ∙ pick_no _ _ (lt-leb (length payload) (length room) (omega (arith, long)))
              ∙ ap (λ (n : ℕ). Err (no_room p n 0)) long);
          room_is = sym (ap (room_read s room) w.reads ∙ laid_kept room 0 payload (omega (arith, long)));
        }

    module _ (h : m.payload_len ≤ length room) where
      pub takes_fits : FitsRoom rules s p room
      takes_fits = record { read = w.whole; is = w.reads; fits = omega (arith, long) }

      -- the frame
      pub takes_frame : {after : List ℕ} → after ≡ splice room 0 (payload_at rules s p) → Takes rules s p room (Ok m) after
      unfolding takes_fits
      takes_frame k =
          record {
            answers =
                sym
                (ap (taken_of s p (length room)) w.reads
                ∙ pick_yes _ _ (le-leb (length payload) (length room) (omega (arith, long)))
                ∙ ap Ok w.same);
            room_is =
                k ∙ ap (splice room 0) (payload_is takes_fits)
                ∙ sym (ap (room_read s room) w.reads ∙ laid_fits room 0 payload (omega (arith, long)));
          }
