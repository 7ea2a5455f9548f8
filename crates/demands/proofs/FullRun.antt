-- W-205, "Station lists of 65,526 bytes then swallow the next frame": a run of such a frame, a short one, such a frame spoilt, and a
-- short one. The premises of demand 3 are met, and what salvage and the reader make of it, by computation at the real sizes.
use Rattle.std.specs.Prelude.{Result, Ok}
use Prim.Native.Nat.{ℕ, ◌≤◌}
use native.Mathlib.Omega.{arith}
use mathlib.Core.Path.{◌≡◌, refl, ap, ap₂, ◌∙◌}
use mathlib.Core.Logic.{inl}
use mathlib.Core.Bool.{false}
use mathlib.Core.List.{List, [], ◌∷◌, ◌++◌}
use lib.ListN.{length, take, replicate}
use Rattle.dss_salvage_call.specs.SalvageCall.{SalvagesRun}
use Rattle.wire.proofs.OctetLaws.{octets_tested}
use Rattle.answer.specs.declared.Refusal.TheVariants.{InvalidMagic}
use Rattle.dss_head.specs.declared.DssType.{DssType}
use Rattle.dss_head.specs.declared.DssType.TheVariants.{Reply, Object}
use Rattle.dss_head.specs.declared.DssHeader.{DssHeader}
use Rattle.dss_frame.specs.Segments.{payload_of, end_of, frame_walk, continuations, walk_fuel}
use Rattle.dss_frame.specs.Reading.{frame, refused, read_at, absorb, absorb_fuel, look}
use Rattle.dss_frame.specs.Frames.{refused_all, all_frames, frames_fuel}
use Rattle.dss_frame.specs.Salvage.{salvaged, salvage_fuel}
use Rattle.dss_frame.specs.Written.{written, chunks, chunks_fuel}
use Rattle.dss_salvage.specs.declared.SalvageEntry.{SalvageEntry}
use Rattle.gateway_words.specs.AnswerWords.{done_words}
use Rattle.gateway_salvage.specs.SalvageWords.{SalvagesInWords}
use Rattle.demands.specs.Demands.{Spoilt, Item, good, spoilt, run, AllDue}
use Rattle.demands.proofs.Salvaging.{salvages}
use Rattle.demands.specs.KeptLists.{all_bytes}
use Rattle.demands.proofs.SalvageKeeps.{answered}
use Rattle.demands.proofs.KeptRows.{recovers_words}
use Rattle.demands.proofs.SeveralRun.{sized, sendable, agree, small}
use Rattle.answer.specs.declared.Refused.{Refused}
use Rattle.dss_salvage.specs.declared.Salvaging.{Salvaging}
use Rattle.dss_salvage.specs.inner.SalvageMeasure.{counted}

-- ---- the spoilt one

-- with another magic byte, format, correlation and payload; both its lengths, FFFF and 7FFF, as they were
lost : List ℕ
lost = 0xFF ∷ 0xFF ∷ 0x55 ∷ 0x13 ∷ 9 ∷ 9 ∷ (replicate 32761 0xBB ++ (0x7F ∷ 0xFF ∷ replicate 32765 0xBB))

lost_spoilt : Spoilt written (sized Object false 65526) lost
unfolding sized lost written chunks chunks_fuel
lost_spoilt = record {
  length_kept = refl;
  bytes = octets_tested lost refl;
  lengths_kept = agree (sized Object false 65526) lost (written (sized Object false 65526)) refl (omega arith) refl refl refl refl;
  reason = record { why = InvalidMagic 0x55; place = 0 };
  head_refused = refl;
}

-- ---- the run

pub stations : Item written
unfolding sized
stations = good (sized Object false 65526) (sendable Object false 65526) (inl refl)

pub lost_item : Item written
unfolding sized
lost_item = spoilt (sized Object false 65526) (sendable Object false 65526) (inl refl) lost lost_spoilt

unfoldable pub fulls : List (Item written)
fulls = stations ∷ small ∷ lost_item ∷ small ∷ []

-- an object's head, or a reply's
abbrev headed : DssType → ℕ → DssHeader
headed t n = record { length = n; dss_type = t; flags = record { chained = false; continue_on_error = false; same_correlation = false }; correlation_id = 1 }

-- what is handed out: the long frame in two segments, the short one, a refusal at the spoilt one's first byte, the other short one; and
-- no tail
pub fulls_salvaged : salvaged (run fulls) ≡ record {
  entries =
      record {
        at = 0;
        end = 65534;
        read =
            frame (record {
              head = headed Object 32767;
              segments = record { at = 0; framing = 6; dropped = 0; end = 32767 } ∷ record { at = 32767; framing = 2; dropped = 0; end = 65534 } ∷ [];
            });
      }
      ∷ record { at = 65534; end = 65541; read = frame (record { head = headed Reply 7; segments = record { at = 65534; framing = 6; dropped = 0; end = 65541 } ∷ [] }) }
      ∷ record { at = 65541; end = 131075; read = refused (record { why = InvalidMagic 0x55; place = 65541 }) }
      ∷ record { at = 131075; end = 131082; read = frame (record { head = headed Reply 7; segments = record { at = 131075; framing = 6; dropped = 0; end = 131082 } ∷ [] }) }
      ∷ [];
  tail = 131082;
}
unfolding fulls run stations small lost_item sized lost written chunks chunks_fuel salvaged salvage_fuel read_at absorb absorb_fuel look payload_of end_of frame_walk continuations walk_fuel
fulls_salvaged = refl

-- and that is what the demand says of this run
pub fulls_due : AllDue (run fulls) 0 fulls (salvaged (run fulls)).entries × ((salvaged (run fulls)).tail ≡ length (run fulls))
fulls_due = salvages fulls

-- the reader keeps the Rust's rule: each of the long ones swallows the short one behind it, and what is left to refuse is the second
pub fulls_read : all_frames (run fulls) 0 ≡ refused_all (record { why = InvalidMagic 0x55; place = 65541 })
unfolding fulls run stations small lost_item sized lost written chunks chunks_fuel all_frames frames_fuel read_at absorb absorb_fuel look payload_of end_of frame_walk continuations walk_fuel
fulls_read = refl

-- ---- over the call

sizes : (length fulls ≡ 4) × (length (all_bytes fulls) ≡ 65528) × (length (run fulls) ≡ 131082)
unfolding fulls run all_bytes stations small lost_item sized lost written chunks chunks_fuel
sizes = (refl, refl, refl)

-- with a room of 65,528 bytes and a row of four, whatever its contract allows answers 0
pub fulls_answered : (room : List ℕ) (row : List SalvageEntry) → 65528 ≤ length room → 4 ≤ length row → (r : Result Salvaging Refused) (roomAfter : List ℕ) (rowAfter : List SalvageEntry)
    → SalvagesRun (run fulls) room row r roomAfter rowAfter → r ≡ Ok (counted 4 65528 131082)
fulls_answered = answered fulls 4 65528 131082 sizes

-- and so does the exported function, lent as many words as four records and an answer have
pub fulls_in_words : (room row words : List ℕ) → 65528 ≤ length room → 40 ≤ length row → 8 ≤ length words → (n : ℕ) (room_after row_after answer : List ℕ)
    → SalvagesInWords (run fulls) room row words n room_after row_after answer → (n ≡ 0) × (take 8 answer ≡ done_words 4 65528 131082 0)
fulls_in_words room row words h k l n room_after row_after answer p =
    let b = recovers_words fulls room row words (omega (arith, sizes)) (omega (arith, sizes)) l n room_after row_after answer p in (
      b.number_is,
      b.words_say
          ∙ ap₂ (λ (i j : ℕ). done_words i j (length (run fulls)) 0) sizes.0 sizes.1
          ∙ ap (λ (t : ℕ). done_words 4 65528 t 0) sizes.2,
    )
