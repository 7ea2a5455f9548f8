-- A run of a small frame, a spoilt one of several segments, and a good one of several segments, which stands by itself for that: the
-- premises of demand 3 are met, and what salvage hands out, by computation at the real sizes.
use Rattle.std.specs.Prelude.{Result, Ok}
use Prim.Native.Nat.{ℕ, zero, suc, ◌+◌, ◌*◌, ◌≤◌, ◌<◌}
use native.Mathlib.Omega.{arith}
use native.Mathlib.Decide.{dec_le}
use mathlib.Core.Path.{◌≡◌, refl, sym, subst, ◌∙◌}
use mathlib.Core.Logic.{inl, inr}
use mathlib.Core.Bool.{Bool, true, false}
use mathlib.Core.List.{List, [], ◌∷◌, ◌++◌}
use lib.ListN.{length, get_or, replicate, length-replicate, get_or-eq_default}
use Rattle.dss_salvage_call.specs.SalvageCall.{SalvagesRun}
use Rattle.wire.proofs.OctetLaws.{octets_tested}
use Rattle.answer.specs.declared.Refusal.TheVariants.{InvalidMagic}
use Rattle.dss_head.specs.declared.DssType.{DssType}
use Rattle.dss_head.specs.declared.DssType.TheVariants.{Reply, Object}
use Rattle.dss_frame.specs.Segments.{payload_of, end_of, frame_walk, continuations, walk_fuel}
use Rattle.dss_frame.specs.Reading.{frame, refused, read_at, absorb, absorb_fuel, look}
use Rattle.dss_frame.specs.Salvage.{salvaged, salvage_fuel}
use Rattle.dss_frame.specs.Written.{Sent, written, chunks, chunks_fuel}
use Rattle.dss_salvage.specs.declared.SalvageEntry.{SalvageEntry}
use Rattle.demands.specs.Demands.{Sendable, Spoilt, LengthField, Item, good, spoilt, run, AllDue}
use Rattle.demands.proofs.Salvaging.{salvages}
use Rattle.demands.specs.KeptLists.{all_bytes}
use Rattle.demands.proofs.SalvageKeeps.{answered}
use Rattle.answer.specs.declared.Refused.{Refused}
use Rattle.dss_salvage.specs.declared.Salvaging.{Salvaging}
use Rattle.dss_salvage.specs.inner.SalvageMeasure.{counted}

-- a frame of so many bytes of payload, all alike
unfoldable pub sized : DssType → Bool → ℕ → Sent
sized t same n = record { type = t; chained = false; same = same; correlation = 1; payload = replicate n 0xC1 }

pub alike : (n k : ℕ) → get_or (replicate n 0xC1) k 0 < 256
alike zero k = omega arith
alike (suc n) zero = omega arith
alike (suc n) (suc k) = alike n k

pub sendable : (t : DssType) (same : Bool) (n : ℕ) → Sendable (sized t same n)
unfolding sized
sendable t same n = record { correlation = omega arith; payload = alike n }

long : (t : DssType) (same : Bool) (n : ℕ) → 32761 < n → 32761 < length (sized t same n).payload
unfolding sized
long t same n h = omega (arith, length-replicate {A = ℕ} n 0xC1)

-- ---- the spoilt one

-- one of 32,762 bytes with another magic byte, format, correlation and payload; both its lengths, FFFF and 0003, as they were
lost : List ℕ
lost = 0xFF ∷ 0xFF ∷ 0x55 ∷ 0x13 ∷ 9 ∷ 9 ∷ (replicate 32761 0xBB ++ (0x00 ∷ 0x03 ∷ 0xBB ∷ []))

-- two that are as long, of two segments at most, agree at every length field if they agree at those of both segments
pub agree : (f : Sent) (b w : List ℕ) → length b ≡ length w → length w ≤ 65534
    → get_or b 0 0 ≡ get_or w 0 0 → get_or b 1 0 ≡ get_or w 1 0 → get_or b 32767 0 ≡ get_or w 32767 0 → get_or b 32768 0 ≡ get_or w 32768 0
    → (k : ℕ) → LengthField f k → get_or b k 0 ≡ get_or w k 0
agree f b w lb lw e₀ e₁ e₂ e₃ zero l = e₀
agree f b w lb lw e₀ e₁ e₂ e₃ (suc zero) l = e₁
agree f b w lb lw e₀ e₁ e₂ e₃ (suc (suc k)) (inl h) = absurd (omega arith)
agree f b w lb lw e₀ e₁ e₂ e₃ (suc (suc k)) (inr r) = go (suc (suc k)) r.i r.at
  where
    go : (n i : ℕ) → ((i + 1) * 32767 ≤ n) × (n < (i + 1) * 32767 + 2) → get_or b n 0 ≡ get_or w n 0
    go n i h =
        elim (dec_le n 32767) [
          | yes a ↦ let e : n ≡ 32767 = omega arith in subst (λ (m : ℕ). get_or b m 0 ≡ get_or w m 0) (sym e) e₂
          | no a ↦ elim (dec_le n 32768) [
            | yes c ↦ let e : n ≡ 32768 = omega arith in subst (λ (m : ℕ). get_or b m 0 ≡ get_or w m 0) (sym e) e₃
            | no c ↦ get_or-eq_default b 0 {n = n} (omega arith) ∙ sym (get_or-eq_default w 0 {n = n} (omega arith))
          ]
        ]

lost_spoilt : Spoilt written (sized Reply false 32762) lost
unfolding sized lost written chunks chunks_fuel
lost_spoilt = record {
  length_kept = refl;
  bytes = octets_tested lost refl;
  lengths_kept = agree (sized Reply false 32762) lost (written (sized Reply false 32762)) refl (omega arith) refl refl refl refl;
  reason = record { why = InvalidMagic 0x55; place = 0 };
  head_refused = refl;
}

-- ---- the run

unfoldable pub small : Item written
unfolding sized
small = good (sized Reply false 1) (sendable Reply false 1) (inl refl)

pub lost_item : Item written
unfolding sized
lost_item = spoilt (sized Reply false 32762) (sendable Reply false 32762) (inl refl) lost lost_spoilt

pub big : Item written
big = good (sized Object true 32762) (sendable Object true 32762) (inr (inl (long Object true 32762 (omega arith))))

unfoldable pub several : List (Item written)
several = small ∷ lost_item ∷ big ∷ []

-- what is handed out: the small one, a refusal at byte 7, and the one of two segments; and no tail
pub several_salvaged : salvaged (run several) ≡ record {
  entries =
      record {
        at = 0;
        end = 7;
        read =
            frame (record {
              head = record { length = 7; dss_type = Reply; flags = record { chained = false; continue_on_error = false; same_correlation = false }; correlation_id = 1 };
              segments = record { at = 0; framing = 6; dropped = 0; end = 7 } ∷ [];
            });
      }
      ∷ record { at = 7; end = 32777; read = refused (record { why = InvalidMagic 0x55; place = 7 }) }
      ∷ record {
        at = 32777;
        end = 65547;
        read =
            frame (record {
              head = record { length = 32767; dss_type = Object; flags = record { chained = false; continue_on_error = false; same_correlation = true }; correlation_id = 1 };
              segments = record { at = 32777; framing = 6; dropped = 0; end = 65544 } ∷ record { at = 65544; framing = 2; dropped = 0; end = 65547 } ∷ [];
            });
      }
      ∷ [];
  tail = 65547;
}
unfolding several run small lost_item big sized lost written chunks chunks_fuel salvaged salvage_fuel read_at absorb absorb_fuel look payload_of end_of frame_walk continuations walk_fuel
several_salvaged = refl

-- and that is what the demand says of this run
pub several_due : AllDue (run several) 0 several (salvaged (run several)).entries × ((salvaged (run several)).tail ≡ length (run several))
several_due = salvages several

-- ---- over the call

sizes : (length several ≡ 3) × (length (all_bytes several) ≡ 32763) × (length (run several) ≡ 65547)
unfolding several run all_bytes small lost_item big sized lost written chunks chunks_fuel
sizes = (refl, refl, refl)

-- with a room of 32,763 bytes and a row of three, whatever its contract allows answers 0
pub several_answered : (room : List ℕ) (row : List SalvageEntry) → 32763 ≤ length room → 3 ≤ length row → (r : Result Salvaging Refused) (roomAfter : List ℕ) (rowAfter : List SalvageEntry)
    → SalvagesRun (run several) room row r roomAfter rowAfter → r ≡ Ok (counted 3 32763 65547)
several_answered = answered several 3 32763 65547 sizes
