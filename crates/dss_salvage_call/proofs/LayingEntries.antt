-- Payloads laid end to end while the walk goes on: what is left of them, and the room that they lead to.
use Rattle.std.specs.Prelude.{Result, Err}
use Prim.Native.Nat.{ℕ, ◌+◌, ◌-◌, ◌≤◌}
use native.Mathlib.Omega.{arith}
use mathlib.Core.Path.{◌≡◌, refl, sym, ap, ap₂, ◌∙◌, subst}
use mathlib.Core.List.{List, [], ◌++◌, append-nil}
use lib.ListN.{length, take, drop, length-append, length-drop, take-append-drop}
use lib.Seq.{take_all, drop-length}
use borrow.Author.Tests.{le-leb}
use Rattle.wire.specs.Bytes.{splice}
use Rattle.wire.proofs.WireLaws.{pick_yes}
use Rattle.wire.proofs.Splicing.{splice_none, splice_lent, splice_length, splice_splice, laid_fits}
use Rattle.answer.specs.declared.Refused.{Refused}
use Rattle.dss_frame.specs.declared.Rules.TheVariants.{Salvage}
use Rattle.dss_frame.specs.Segments.{payload_of}
use Rattle.dss_frame.specs.Reading.{Read, frame, refused, read_at}
use Rattle.dss_frame.specs.Salvage.{Salvaged, stop}
use Rattle.dss_laws.proofs.SalvageLaws.{salvaged_from, salvaged_from_lem}
use Rattle.dss_measure.specs.declared.FrameMeasure.{FrameMeasure}
use Rattle.dss_measure.specs.Measure.{measure_of, measured_of, measured_at}
use Rattle.dss_take.specs.Take.{taken_of, room_read, Takes}
use Rattle.dss_salvage.specs.SalvageEntries.{salvaged_bytes}
use Rattle.dss_measure.proofs.Measures.{measured_not}
use Rattle.dss_salvage.specs.declared.Step.{Step}
use Rattle.dss_salvage.specs.declared.Step.TheVariants.{Frame as OneFrame, Over, Last, End}
use Rattle.dss_salvage.specs.inner.SalvageSteps.{step_at}
use Rattle.dss_salvage.proofs.SalvageStepping.{OnFrame, OnOver, OnLast, on_frame, on_last, on_end, step_frame}
use Rattle.dss_salvage_call.specs.inner.SalvageGathered.{bytes_in}

-- the payloads from a place on
unfoldable pub bytes_from : List ℕ → ℕ → List ℕ
unfolding salvaged_from salvaged_bytes
bytes_from s p = salvaged_bytes s (salvaged_from s p).entries

-- ---- what is left

module _ (s : List ℕ) (p : ℕ) where
  bytes_frame : (m : FrameMeasure) (w : OnFrame s p m) → bytes_from s p ≡ payload_of s w.measured.whole.segments ++ bytes_from s m.end
  unfolding bytes_from salvaged_bytes
  bytes_frame m w =
      ap (λ (x : Salvaged). salvaged_bytes s x.entries) w.onward
      ∙ ap (λ (x : FrameMeasure). payload_of s w.measured.whole.segments ++ bytes_from s x.end) w.measured.same

  bytes_over : (r : Refused) (q : ℕ) → OnOver s p r q → bytes_from s p ≡ bytes_from s q
  unfolding bytes_from salvaged_bytes
  bytes_over r q w = ap (λ (x : Salvaged). salvaged_bytes s x.entries) w.onward

  pub bytes_last : (r : Refused) → OnLast s p r → bytes_from s p ≡ []
  unfolding bytes_from salvaged_bytes
  bytes_last r w = ap (λ (x : Salvaged). salvaged_bytes s x.entries) w.onward

  pub bytes_end : salvaged_from s p ≡ stop p → bytes_from s p ≡ []
  unfolding bytes_from salvaged_bytes
  bytes_end i = ap (λ (x : Salvaged). salvaged_bytes s x.entries) i

  -- nothing is left where a refusal isn't stepped over
  pub bytes_stop : (r : Refused) (t : Step) → measured_at Salvage s p ≡ Err r → step_at s p ≡ t → ((x : Refused) (q : ℕ) → t ≡ Over x q → ⊥) → bytes_from s p ≡ []
  bytes_stop r (OneFrame m) i e n =
      let f = (on_frame s p m e).measured.reads in
      let g = measured_not Salvage s p r i in
      let z : ◌≡◌ {A = ℕ} 0 1 = cc in
      absurd (omega arith)
  bytes_stop r (Over x q) i e n = absurd (n x q refl)
  bytes_stop r (Last x) i e n = bytes_last x (on_last s p x e)
  bytes_stop r End i e n = bytes_end (on_end s p e)

-- ---- the room that it leads to

-- what is left from p on fits behind the first n bytes of the room, and laid there leads to the room aim
pub record LayingEntry (s aim room : List ℕ) (p n : ℕ) : Type 0 where
  pub fits : n + length (bytes_from s p) ≤ length room
  pub leads : aim ≡ splice room n (bytes_from s p)

pub laying_start : (s room : List ℕ) → length (bytes_in s) ≤ length room → LayingEntry s (splice room 0 (bytes_in s)) room 0 0
unfolding bytes_in bytes_from
laying_start s room h =
    let i : bytes_in s ≡ bytes_from s 0 = ap (λ (x : Salvaged). salvaged_bytes s x.entries) (salvaged_from_lem s) in
    let k : length (bytes_in s) ≡ length (bytes_from s 0) = ap length i in
    record { fits = omega arith; leads = ap (splice room 0) i }

module _ (s aim room : List ℕ) (p n : ℕ) (l : LayingEntry s aim room p n) where
  -- as many bytes as the room that it leads to
  pub laying_length : length aim ≡ length room
  laying_length = ap length l.leads ∙ splice_length room n (bytes_from s p) l.fits

  -- nothing is left
  laying_end : bytes_from s p ≡ [] → room ≡ aim
  laying_end i = sym (l.leads ∙ ap (splice room n) i ∙ splice_none room n)

  laying_over : (r : Refused) (q : ℕ) → OnOver s p r q → LayingEntry s aim room q n
  laying_over r q w =
      let i : bytes_from s p ≡ bytes_from s q = bytes_over s p r q w in
      let k : length (bytes_from s p) ≡ length (bytes_from s q) = ap length i in
      record { fits = omega (arith, l.fits); leads = l.leads ∙ ap (splice room n) i }

  module _ (m : FrameMeasure) (w : OnFrame s p m) where
    abbrev payload : List ℕ
    payload = payload_of s w.measured.whole.segments

    payload_long : length payload ≡ m.payload_len
    payload_long = ap (λ (x : FrameMeasure). x.payload_len) w.measured.same

    -- it fits
    pub laying_room : n + m.payload_len + length (bytes_from s m.end) ≤ length room
    laying_room =
        let k : length (bytes_from s p) ≡ length (payload ++ bytes_from s m.end) = ap length (bytes_frame s p m w) in
        omega (arith, l.fits, payload_long, length-append payload (bytes_from s m.end))

    -- and is laid
    laying_frame : (after : List ℕ) → after ≡ splice room n payload → LayingEntry s aim after m.end (n + m.payload_len)
    laying_frame after a =
        let k : length after ≡ length room = ap length a ∙ splice_length room n payload (omega (arith, laying_room, payload_long)) in
        record {
          fits = omega (arith, laying_room);
          leads =
              l.leads ∙ ap (splice room n) (bytes_frame s p m w)
              ∙ sym (splice_splice room n payload (bytes_from s m.end) (omega (arith, laying_room)))
              ∙ ap₂ (λ (x : List ℕ) (j : ℕ). splice x (n + j) (bytes_from s m.end)) (sym a) payload_long;
        }

  -- ---- what taking comes to

  -- the tail that is lent
  abbrev tail : List ℕ
  tail = take (length room - n) (drop n room)

  tail_is : tail ≡ drop n room
  tail_is = take_all (length room - n) (drop n room) (omega (arith, length-drop n room))

  tail_long : length tail ≡ length room - n
  tail_long = ap length tail_is ∙ length-drop n room

  of_read : (a : Read) → read_at Salvage s p ≡ a → taken_of s p (length tail) a ≡ measured_of s p a
  unfolding measured_at
  of_read (refused r) i = refl
  of_read (frame f) i =
      let w : OnFrame s p (measure_of s p f) = on_frame s p (measure_of s p f) (step_frame s p (measure_of s p f) (ap (measured_of s p) i)) in
      pick_yes _ _ (le-leb (length (payload_of s f.segments)) (length tail) (omega (arith, tail_long, laying_room (measure_of s p f) w)))

  -- the frame's measure, or the refusal: never 9
  pub taken_measured : (r : Result FrameMeasure Refused) (t : List ℕ) → Takes Salvage s p tail r t → r ≡ measured_at Salvage s p
  unfolding measured_at
  taken_measured r t k = k.answers ∙ of_read (read_at Salvage s p) refl

  -- the room, once the tail came back as t
  abbrev back : List ℕ → List ℕ
  back t = take n room ++ (t ++ drop (length room - n) (drop n room))

  back_is : (t : List ℕ) → back t ≡ take n room ++ t
  back_is t =
      let none : drop (length room - n) (drop n room) ≡ [] = ap (λ (k : ℕ). drop k (drop n room)) (sym (length-drop n room)) ∙ drop-length (drop n room) in
      ap (λ (x : List ℕ). take n room ++ (t ++ x)) none ∙ ap (λ (x : List ℕ). take n room ++ x) (append-nil t)

  -- a frame was taken
  pub taken_frame : (r : Result FrameMeasure Refused) (t : List ℕ) (m : FrameMeasure) (w : OnFrame s p m) → Takes Salvage s p tail r t → LayingEntry s aim (back t) m.end (n + m.payload_len)
  taken_frame r t m w k =
      let b : List ℕ = payload m w in
      laying_frame m w (back t)
      (back_is t
      ∙ ap (λ (x : List ℕ). take n room ++ x)
      (k.room_is ∙ ap (λ (x : Read). room_read s tail x) w.measured.reads ∙ laid_fits tail 0 b (omega (arith, tail_long, payload_long m w, laying_room m w)) ∙ ap (λ (x : List ℕ). splice x 0 b) tail_is)
      ∙ splice_lent room n b)

  -- nothing was taken: the room is as it was
  taken_none : (r : Result FrameMeasure Refused) (t : List ℕ) (x : Refused) → read_at Salvage s p ≡ refused x → Takes Salvage s p tail r t → back t ≡ room
  taken_none r t x i k =
      back_is t ∙ ap (λ (y : List ℕ). take n room ++ y) (k.room_is ∙ ap (λ (y : Read). room_read s tail y) i ∙ tail_is) ∙ take-append-drop n room

  -- and the walk goes on, or ends
  pub taken_over : (r : Result FrameMeasure Refused) (t : List ℕ) (x y : Refused) (q : ℕ) → read_at Salvage s p ≡ refused x → Takes Salvage s p tail r t → OnOver s p y q → LayingEntry s aim (back t) q n
  taken_over r t x y q i k w = subst (λ (z : List ℕ). LayingEntry s aim z q n) (sym (taken_none r t x i k)) (laying_over y q w)

  pub taken_end : (r : Result FrameMeasure Refused) (t : List ℕ) (x : Refused) → read_at Salvage s p ≡ refused x → Takes Salvage s p tail r t → bytes_from s p ≡ [] → back t ≡ aim
  taken_end r t x i k e = taken_none r t x i k ∙ laying_end e
