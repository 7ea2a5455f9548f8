-- A run of two frames that stand by themselves, the second by its object: what is read, by computation; and readers that the
-- demand rules out.
use Prim.Native.Nat.{ℕ}
use native.Mathlib.Omega.{arith}
use mathlib.Core.Path.{◌≡◌, refl, ap, subst}
use mathlib.Core.Logic.{inl, inr}
use mathlib.Core.Bool.{Bool, true, false}
use mathlib.Core.List.{List, [], ◌∷◌}
use lib.ListN.{length}
use Rattle.wire.specs.Bytes.{last, joined}
use Rattle.wire.proofs.WireLaws.{true_false}
use Rattle.wire.proofs.OctetLaws.{octets_tested}
use Rattle.dss_head.specs.declared.DssType.TheVariants.{Reply, Object}
use Rattle.dss_frame.specs.Segments.{payload_of, end_of, frame_walk, continuations, walk_fuel}
use Rattle.dss_frame.specs.Reading.{Frame, read_at, absorb, absorb_fuel, look}
use Rattle.dss_frame.specs.Frames.{AllRead, frames, refused_all, frames_fuel, all_frames}
use Rattle.dss_frame.specs.Written.{Sent, written, chunks, chunks_fuel}
use Rattle.ddm_builder.specs.Built.{built, length_bytes}
use Rattle.demands.specs.Demands.{Writer, StartsObject}
use Rattle.demands.specs.AllFrames.{Alone, AllAlone, AllGive, ReadsAll}
use Rattle.demands.proofs.AllFramesBack.{reads_all}

unfoldable pub reply : Sent
reply = record { type = Reply; chained = true; same = false; correlation = 1; payload = 0xAA ∷ [] }

-- same correlation, and a type that a reply absorbs: it stands by its object
unfoldable pub object : Bool → Sent
object chained = record { type = Object; chained = chained; same = true; correlation = 1; payload = 0 ∷ 5 ∷ 0x24 ∷ 0x1B ∷ 1 ∷ [] }

unfoldable pub pair : Bool → List Sent
pair chained = reply ∷ object chained ∷ []

object_starts : (chained : Bool) → StartsObject (object chained)
unfolding object built length_bytes last
object_starts chained =
    record { code_point = 0x241B; content = 1 ∷ []; more = []; starts = refl; inline = omega arith; above = omega arith; fits = omega arith; five = omega arith }

reply_alone : Alone reply
unfolding reply
reply_alone =
    record { sendable = record { correlation = omega arith; payload = octets_tested (0xAA ∷ []) refl }; readable = λ u. omega (arith, u.size); stands = inl refl }

object_alone : (chained : Bool) → Alone (object chained)
unfolding object
object_alone chained =
    record {
      sendable = record { correlation = omega arith; payload = octets_tested (0 ∷ 5 ∷ 0x24 ∷ 0x1B ∷ 1 ∷ []) refl };
      readable = λ u. omega (arith, u.size);
      stands = inr (inr (object_starts chained));
    }

pub pair_alone : (chained : Bool) → AllAlone (pair chained)
unfolding pair AllAlone
pair_alone chained = (reply_alone, (object_alone chained, tt))

-- the bytes on the wire
pub pair_run : joined written (pair false) ≡ 0 ∷ 7 ∷ 0xD0 ∷ 0x42 ∷ 0 ∷ 1 ∷ 0xAA ∷ 0 ∷ 11 ∷ 0xD0 ∷ 0x13 ∷ 0 ∷ 1 ∷ 0 ∷ 5 ∷ 0x24 ∷ 0x1B ∷ 1 ∷ []
unfolding pair reply object joined written chunks chunks_fuel
pair_run = refl

pub reply_read : Frame
reply_read = record {
  head = record { length = 7; dss_type = Reply; flags = record { chained = true; continue_on_error = false; same_correlation = false }; correlation_id = 1 };
  segments = record { at = 0; framing = 6; dropped = 0; end = 7 } ∷ [];
}

pub object_read : Bool → Frame
object_read chained = record {
  head = record { length = 11; dss_type = Object; flags = record { chained = chained; continue_on_error = false; same_correlation = true }; correlation_id = 1 };
  segments = record { at = 7; framing = 6; dropped = 0; end = 18 } ∷ [];
}

-- what is read: the two, and nothing is left; whether the second is chained or not
pub pair_read : (chained : Bool) → all_frames (joined written (pair chained)) 0 ≡ frames (reply_read ∷ object_read chained ∷ []) 18
unfolding pair reply object reply_read object_read joined written chunks chunks_fuel all_frames frames_fuel read_at absorb absorb_fuel look payload_of end_of frame_walk continuations walk_fuel
pair_read true = refl
pair_read false = refl

-- and that is what the demand says of this run
pub pair_back :
    record { read : List Frame; is : all_frames (joined written (pair false)) 0 ≡ frames read (length (joined written (pair false))); gives : AllGive (joined written (pair false)) (pair false) read }
pair_back = reads_all (pair false) (pair_alone false)

-- ---- impostors

-- one answer is one list
same_list : (x : AllRead) (gs hs : List Frame) (m n : ℕ) → x ≡ frames gs m → x ≡ frames hs n → gs ≡ hs
same_list x gs hs m n e k = cc

-- nothing is due of no frames, and something of two
none_or_two : (s u : List ℕ) (f : Sent) (fs : List Sent) (gs : List Frame) → AllGive s [] gs → AllGive u (f ∷ fs) gs → ⊥
unfolding AllGive
none_or_two s u f fs [] a b = b
none_or_two s u f fs (g ∷ gs) a b = a

-- no reader with one fixed answer meets the demand, whatever the writer
pub no_fixed_all : (writes : Writer) (x : AllRead) → ReadsAll writes (λ s p. x) → ⊥
unfolding pair AllAlone
no_fixed_all writes x all =
    let a = all [] tt in
    let b = all (pair false) (pair_alone false) in
    none_or_two (joined writes []) (joined writes (pair false)) reply (object false ∷ []) a.read a.gives
    (subst (AllGive (joined writes (pair false)) (pair false)) (same_list x b.read a.read _ _ b.is a.is) b.gives)

-- the first frame as it was read, and then whatever is made of it and of where the run ends
abbrev first_then : (Frame → ℕ → List Frame) → AllRead → AllRead
first_then invent (frames [] q) = frames [] q
first_then invent (frames (f ∷ fs) q) = frames (f ∷ invent f q) q
first_then invent (refused_all r) = refused_all r

-- one frame is not both the chained object and the other
apart : (s u : List ℕ) (gs : List Frame) → AllGive s (object true ∷ []) gs → AllGive u (object false ∷ []) gs → ⊥
unfolding AllGive object
apart s u [] a b = a
apart s u (g ∷ gs) a b = true_false g.head.flags.chained a.0.chained b.0.chained

invented : (invent : Frame → ℕ → List Frame) → ReadsAll written (λ s p. first_then invent (all_frames s p)) → (chained : Bool)
    → AllGive (joined written (pair chained)) (object chained ∷ []) (invent reply_read 18)
unfolding pair AllGive
invented invent all chained =
    let b = all (pair chained) (pair_alone chained) in
    let e : b.read ≡ reply_read ∷ invent reply_read 18 =
    same_list (first_then invent (all_frames (joined written (pair chained)) 0)) b.read (reply_read ∷ invent reply_read 18) _ _ b.is (ap (first_then invent) (pair_read chained)) in
    (subst (AllGive (joined written (pair chained)) (pair chained)) e b.gives).1

-- no reader that reads the first frame properly and then invents meets it; one that drops the rest invents no frames
pub no_inventor : (invent : Frame → ℕ → List Frame) → ReadsAll written (λ s p. first_then invent (all_frames s p)) → ⊥
no_inventor invent all = apart (joined written (pair true)) (joined written (pair false)) (invent reply_read 18) (invented invent all true) (invented invent all false)

pub no_dropper : ReadsAll written (λ s p. first_then (λ f q. []) (all_frames s p)) → ⊥
no_dropper all = no_inventor (λ f q. []) all
