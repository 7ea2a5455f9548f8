-- The payload of the frame at a place, laid over a room part by part: what is left of it, laid down, gives the room at the end.
use Prim.Native.Nat.{ℕ, ◌+◌, ◌-◌, ◌≤◌}
use native.Mathlib.Omega.{arith}
use mathlib.Core.Path.{◌≡◌, refl, sym, ap, ap₂, ◌∙◌}
use mathlib.Core.List.{List, ◌++◌}
use lib.ListN.{length, take, drop, drop_of_length-le}
use lib.Seq.{take-add, take_at}
use Rattle.wire.specs.Bytes.{part, splice}
use Rattle.wire.proofs.Places.{here_length, here_next}
use Rattle.wire.proofs.Splicing.{splice_none, splice_length, splice_written, splice_splice}
use Rattle.dss_frame.specs.declared.Rules.{Rules}
use Rattle.dss_frame.specs.Segments.{payload_of}
use Rattle.wire.proofs.WireLaws.{part_length}
use Rattle.dss_frame.specs.FrameRecords.{read_bytes}
use Rattle.dss_take.specs.Take.{payload_at}
use Rattle.dss_take.specs.inner.Payloads.{FitsRoom}

-- ---- the payload of what is read

module _ {rules : Rules} {s : List ℕ} {p : ℕ} {room : List ℕ} (w : FitsRoom rules s p room) where
  pub payload_is : payload_at rules s p ≡ payload_of s w.read.segments
  unfolding payload_at
  payload_is = ap (read_bytes s) w.is

  pub payload_fits : length (payload_at rules s p) ≤ length room
  payload_fits = omega (arith, ap length payload_is, w.fits)

-- ---- laying it down

-- behind a payload's first `fill` bytes comes a part of the run
pub record Next (s payload : List ℕ) (fill from end : ℕ) : Type 0 where
  pub order : from ≤ end
  pub there : end ≤ length s
  pub rest : List ℕ
  pub splits : drop fill payload ≡ part s from end ++ rest

-- the room holds a payload's first `fill` bytes, and what is left of the payload, laid behind them, gives the room at the end
pub record LayingChunks (payload final room : List ℕ) (fill : ℕ) : Type 0 where
  pub few : fill ≤ length payload
  pub fits : length payload ≤ length room
  pub holds : take fill room ≡ take fill payload
  pub gives : splice room fill (drop fill payload) ≡ final

-- nothing is laid down yet
pub laying_none : (payload room : List ℕ) → length payload ≤ length room → LayingChunks payload (splice room 0 payload) room 0
laying_none payload room h = record { few = omega arith; fits = h; holds = refl; gives = refl }

module _ {payload final room : List ℕ} {fill : ℕ} (w : LayingChunks payload final room fill) where
  -- the same, from here on
  pub laying_on : LayingChunks payload (splice room fill (drop fill payload)) room fill
  laying_on = record { few = w.few; fits = w.fits; holds = w.holds; gives = refl }

  -- all is laid down
  pub laying_all : fill ≡ length payload → room ≡ final
  laying_all e =
      sym (splice_none room fill)
      ∙ ap (splice room fill) (sym (drop_of_length-le payload {i = fill} (omega arith)))
      ∙ w.gives

  -- the last part, and with it all
  pub laying_last : (y after : List ℕ) → after ≡ splice room fill y → drop fill payload ≡ y → after ≡ final
  laying_last y after a e = a ∙ ap (splice room fill) (sym e) ∙ w.gives

  -- the part that comes next: there is room for it, and the room with it
  module _ {s : List ℕ} {from end : ℕ} (n : Next s payload fill from end) where
    long : length (part s from end) ≡ end - from
    long = part_length s from end n.there

    few : fill + (end - from) ≤ length payload
    few = omega (arith, here_length payload (part s from end) n.rest fill n.splits, long, w.few)

    pub laying_room : fill + (end - from) ≤ length room
    laying_room = omega (arith, few, w.fits)

    pub laying_more : (after : List ℕ) (m : ℕ) → after ≡ splice room fill (part s from end) → fill + (end - from) ≡ m → LayingChunks payload final after m
    laying_more after m a k =
        let y : List ℕ = part s from end in
        let l : fill + length y ≡ m = omega (arith, long) in
        let i : fill ≤ length room = omega (arith, w.few, w.fits) in
        record {
          few = omega (arith, few);
          fits = omega (arith, ap length a ∙ splice_length room fill y (omega (arith, laying_room)), w.fits);
          holds =
              ap₂ (λ (x : ℕ) (r : List ℕ). take x r) (sym l) a
              ∙ splice_written room fill y i
              ∙ ap₂ (λ (x z : List ℕ). x ++ z) w.holds (sym (ap (take (length y)) n.splits ∙ take_at y n.rest (length y) refl))
              ∙ sym (take-add fill (length y) payload)
              ∙ ap (λ (x : ℕ). take x payload) l;
          gives =
              ap₂ (λ (r x : List ℕ). splice r m x) a (here_next payload y n.rest fill m n.splits l)
              ∙ ap (λ (x : ℕ). splice (splice room fill y) x n.rest) (sym l)
              ∙ splice_splice room fill y n.rest i
              ∙ ap (splice room fill) (sym n.splits)
              ∙ w.gives;
        }
