-- A run of a good frame, a spoilt one, and a good one that stands by its object: what salvage hands out, by computation.
use Prim.Native.Nat.{ℕ, zero, suc}
use native.Mathlib.Omega.{arith}
use mathlib.Core.Path.{◌≡◌, refl}
use mathlib.Core.Logic.{inl, inr}
use mathlib.Core.Bool.{true, false}
use mathlib.Core.List.{List, [], ◌∷◌, ◌++◌, map}
use lib.ListN.{length, get_or}
use Rattle.wire.specs.Bytes.{last}
use Rattle.wire.proofs.OctetLaws.{octets_tested}
use Rattle.answer.specs.declared.Refusal.TheVariants.{InvalidMagic}
use Rattle.dss_head.specs.declared.DssType.TheVariants.{Reply, Object}
use Rattle.dss_frame.specs.Segments.{payload_of, end_of, frame_walk, continuations, walk_fuel}
use Rattle.dss_frame.specs.Reading.{Frame, frame, refused, read_at, absorb, absorb_fuel, look}
use Rattle.dss_frame.specs.Salvage.{Entry, salvaged, salvage_fuel}
use Rattle.dss_frame.specs.Written.{Sent, written, chunks, chunks_fuel}
use Rattle.ddm_builder.specs.Built.{built, length_bytes}
use Rattle.demands.specs.Demands.{Sendable, StartsObject, Spoilt, LengthField, Item, good, spoilt, run, AllDue, Salvages}
use Rattle.demands.proofs.Salvaging.{salvages}
use Rattle.demands.specs.KeptLists.{all_bytes}

pub reply : Sent
reply = record { type = Reply; chained = true; same = false; correlation = 1; payload = 0xAA ∷ [] }

middle : Sent
middle = record { type = Object; chained = true; same = false; correlation = 2; payload = 0xCC ∷ [] }

-- same correlation, and a type that a reply absorbs: it stands by its object
object : Sent
object = record { type = Object; chained = false; same = true; correlation = 1; payload = 0 ∷ 5 ∷ 0x24 ∷ 0x1B ∷ 1 ∷ [] }

-- the middle one with another magic byte, format, correlation and payload, and its lengths as they were
broken : List ℕ
broken = 0 ∷ 7 ∷ 0x55 ∷ 0x13 ∷ 9 ∷ 9 ∷ 0xBB ∷ []

reply_sendable : Sendable reply
unfolding reply
reply_sendable = record { correlation = omega arith; payload = octets_tested (0xAA ∷ []) refl }

middle_sendable : Sendable middle
unfolding middle
middle_sendable = record { correlation = omega arith; payload = octets_tested (0xCC ∷ []) refl }

object_sendable : Sendable object
unfolding object
object_sendable = record { correlation = omega arith; payload = octets_tested (0 ∷ 5 ∷ 0x24 ∷ 0x1B ∷ 1 ∷ []) refl }

object_starts : StartsObject object
unfolding object built length_bytes last
object_starts =
    record { code_point = 0x241B; content = 1 ∷ []; more = []; starts = refl; inline = omega arith; above = omega arith; fits = omega arith; five = omega arith }

broken_lengths : (k : ℕ) → LengthField middle k → get_or broken k 0 ≡ get_or (written middle) k 0
unfolding middle broken written chunks chunks_fuel
broken_lengths zero l = refl
broken_lengths (suc zero) l = refl
broken_lengths (suc (suc k)) (inl h) = absurd (omega arith)
broken_lengths (suc (suc k)) (inr r) = absurd (omega (arith, r.several))

broken_spoilt : Spoilt written middle broken
unfolding middle broken written chunks chunks_fuel
broken_spoilt =
    record { length_kept = refl; bytes = octets_tested (0 ∷ 7 ∷ 0x55 ∷ 0x13 ∷ 9 ∷ 9 ∷ 0xBB ∷ []) refl; lengths_kept = broken_lengths; reason = record { why = InvalidMagic 0x55; place = 0 }; head_refused = refl }

pub reply_item : Item written
unfolding reply
reply_item = good reply reply_sendable (inl refl)

pub broken_item : Item written
unfolding middle
broken_item = spoilt middle middle_sendable (inl refl) broken broken_spoilt

pub object_item : Item written
unfolding object
object_item = good object object_sendable (inr (inr object_starts))

unfoldable pub three : List (Item written)
three = reply_item ∷ broken_item ∷ object_item ∷ []

-- the bytes on the wire
pub three_run : run three ≡ 0 ∷ 7 ∷ 0xD0 ∷ 0x42 ∷ 0 ∷ 1 ∷ 0xAA ∷ 0 ∷ 7 ∷ 0x55 ∷ 0x13 ∷ 9 ∷ 9 ∷ 0xBB ∷ 0 ∷ 11 ∷ 0xD0 ∷ 0x13 ∷ 0 ∷ 1 ∷ 0 ∷ 5 ∷ 0x24 ∷ 0x1B ∷ 1 ∷ []
unfolding three run reply_item broken_item object_item reply broken object written chunks chunks_fuel
three_run = refl

-- three of them, and six bytes of payload in the good ones
pub three_sizes : (length three ≡ 3) × (length (all_bytes three) ≡ 6)
unfolding three all_bytes reply_item broken_item object_item reply object
three_sizes = (refl, refl)

-- what is handed out: the reply, a refusal at byte 7, the object; and no tail
pub three_salvaged : salvaged (run three) ≡ record {
  entries =
      record {
        at = 0;
        end = 7;
        read =
            frame (record {
              head = record { length = 7; dss_type = Reply; flags = record { chained = true; continue_on_error = false; same_correlation = false }; correlation_id = 1 };
              segments = record { at = 0; framing = 6; dropped = 0; end = 7 } ∷ [];
            });
      }
      ∷ record { at = 7; end = 14; read = refused (record { why = InvalidMagic 0x55; place = 7 }) }
      ∷ record {
        at = 14;
        end = 25;
        read =
            frame (record {
              head = record { length = 11; dss_type = Object; flags = record { chained = false; continue_on_error = false; same_correlation = true }; correlation_id = 1 };
              segments = record { at = 14; framing = 6; dropped = 0; end = 25 } ∷ [];
            });
      }
      ∷ [];
  tail = 25;
}
unfolding three run reply_item broken_item object_item reply broken object written chunks chunks_fuel salvaged salvage_fuel read_at absorb absorb_fuel look payload_of end_of frame_walk continuations walk_fuel
three_salvaged = refl

-- and that is what the demand says of this run
pub three_due : AllDue (run three) 0 three (salvaged (run three)).entries × ((salvaged (run three)).tail ≡ length (run three))
three_due = salvages three

-- ---- what the demand would not hold without

-- an object frame with the reply's correlation that starts no object of its own
pub straggler : Sent
straggler = record { type = Object; chained = false; same = true; correlation = 1; payload = 0xBB ∷ [] }

-- behind the reply it is absorbed: one entry for two frames, so `Stands` is needed
pub absorbed : (salvaged (written reply ++ written straggler)).entries ≡ record {
  at = 0;
  end = 14;
  read =
      frame (record {
        head = record { length = 7; dss_type = Reply; flags = record { chained = false; continue_on_error = false; same_correlation = false }; correlation_id = 1 };
        segments = record { at = 0; framing = 6; dropped = 0; end = 7 } ∷ record { at = 7; framing = 6; dropped = 0; end = 14 } ∷ [];
      });
} ∷ []
unfolding reply straggler written chunks chunks_fuel salvaged salvage_fuel read_at absorb absorb_fuel look payload_of end_of frame_walk continuations walk_fuel
absorbed = refl

-- ---- a salvage that hands out frames alone

-- a frame at a place, up to another
abbrev placed : ℕ × ℕ × Frame → Entry
placed x = record { at = x.0; end = x.1; read = frame x.2 }

only_frames : (s : List ℕ) (p : ℕ) (gs : List (ℕ × ℕ × Frame)) → AllDue s p (broken_item ∷ []) (map placed gs) → ⊥
unfolding AllDue broken_item
only_frames s p [] d = d
only_frames s p (g ∷ gs) d = d.0.read

-- is ruled out: the spoilt frame's refusal is due
pub no_mute_salvage : (gs : List ℕ → List (ℕ × ℕ × Frame)) (tail : List ℕ → ℕ) → Salvages written (λ s. record { entries = map placed (gs s); tail = tail s }) → ⊥
no_mute_salvage gs tail all = only_frames (run (broken_item ∷ [])) 0 (gs (run (broken_item ∷ []))) (all (broken_item ∷ [])).0
