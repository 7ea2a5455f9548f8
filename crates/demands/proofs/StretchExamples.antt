-- W-201: cases of document 01 that meet what Kept's lines ask, with the numbers that document 02 gives them; and what is ruled out.
use Prim.Native.Nat.{ℕ, zero, suc, ◌<◌}
use native.Mathlib.Omega.{arith}
use mathlib.Core.Path.{◌≡◌, refl}
use mathlib.Core.Bool.{true, false}
use mathlib.Core.List.{List, [], ◌∷◌, map}
use lib.ListN.{get_or, replicate}
use contract.Lifetimes.{Lfts}
use Rattle.wire.specs.Bytes.{splice, laid, joined}
use Rattle.answer.specs.declared.Refusal.TheVariants.{InvalidMagic}
use Rattle.dss_head.specs.declared.DssType.TheVariants.{Object}
use Rattle.dss_frame.specs.Segments.{payload_of, end_of, frame_walk, continuations, walk_fuel}
use Rattle.dss_frame.specs.Reading.{read_at, absorb, absorb_fuel, look}
use Rattle.dss_frame.specs.Frames.{all_frames, frames_fuel}
use Rattle.dss_frame.specs.FrameRecords.{payloads_of, frame_records}
use Rattle.dss_frame.specs.Salvage.{salvaged, salvage_fuel}
use Rattle.dss_frame.specs.Following.{Follow, ComesFrom}
use Rattle.dss_frame.specs.declared.DssFrame.{DssFrame}
use Rattle.dss_salvage.specs.SalvageEntries.{salvaged_bytes, salvaged_row}
use Rattle.dss_salvage.specs.declared.Entry.TheVariants.{Frame as Framed, Refused as Refuses}
use Rattle.dss_salvage.specs.declared.SalvageEntry.{SalvageEntry}
use Rattle.dss_reader.specs.Reader.{stands_at}
use Rattle.gateway_row.specs.RowWords.{record_len, cut}
use Rattle.demands.proofs.Table.{p8}
use Rattle.demands.specs.Stretches.{FramesStood, EntriesStood, WordsStood, AnswerStood}
use Rattle.demands.proofs.KeptRequests.{next_read_stood, exported_next_read_stood, exported_all_read_stood, exported_salvage_stood}
use Rattle.demands.proofs.KeptExamples.{lending, lending_room, taken_example}
use Rattle.demands.proofs.SalvageClauses.{lists}
use Rattle.demands.proofs.StretchCalls.{all_stood}

-- P9, whose second segment the first absorbs
abbrev pub p9 : List ℕ
p9 = 0x00 ∷ 0x07 ∷ 0xD0 ∷ 0x03 ∷ 0x00 ∷ 0x01 ∷ 0xAA ∷ 0x00 ∷ 0x07 ∷ 0xD0 ∷ 0x53 ∷ 0x00 ∷ 0x01 ∷ 0xBB ∷ []

-- where each record of a row stood
abbrev stretches : ℕ → List ℕ → List (ℕ × ℕ)
stretches count row = map (λ (w : List ℕ). (get_or w 8 0, get_or w 9 0)) (cut record_len count row)

-- ---- P8: (0, 6), (6, 6), tail 6

abbrev p8_row : List ℕ
p8_row = 0 ∷ 0 ∷ 6 ∷ 0x02 ∷ 7 ∷ 0 ∷ 1 ∷ 0 ∷ 0 ∷ 6 ∷ 2 ∷ 6 ∷ 0 ∷ 0 ∷ 0 ∷ 0 ∷ 0 ∷ 0 ∷ 6 ∷ 6 ∷ 9 ∷ []

p8_stretches : stretches 2 p8_row ≡ (0, 6) ∷ (6, 6) ∷ []
unfolding cut
p8_stretches = refl

pub p8_salvaged : (κs : Lfts 4) → WordsStood p8 [] 0 6 (cut record_len 2 p8_row)
unfolding splice laid salvaged salvage_fuel read_at absorb absorb_fuel look payload_of end_of frame_walk continuations walk_fuel salvaged_bytes salvaged_row joined
p8_salvaged κs =
    exported_salvage_stood (lending p8) (lending_room []) (lending_room (replicate 8 9)) [] (0 ∷ 0 ∷ 2 ∷ 0 ∷ 6 ∷ 0 ∷ 0 ∷ 0 ∷ []) (omega arith) κs (lending_room (replicate 21 9)) p8_row
    (record { answers = record { number_is = refl; words_are = refl }; room_is = refl; row_is = refl })

-- ---- P9: (0, 14), by each call

abbrev p9_row : List ℕ
p9_row = 0 ∷ 0 ∷ 7 ∷ 0x43 ∷ 1 ∷ 2 ∷ 2 ∷ 0 ∷ 0 ∷ 14 ∷ []

abbrev p9_room : List ℕ
p9_room = 0xAA ∷ 0xBB ∷ []

pub p9_salvaged : (κs : Lfts 4) → WordsStood p9 p9_room 0 14 (cut record_len 1 p9_row)
unfolding splice laid salvaged salvage_fuel read_at absorb absorb_fuel look payload_of end_of frame_walk continuations walk_fuel salvaged_bytes salvaged_row joined
p9_salvaged κs =
    exported_salvage_stood (lending p9) (lending_room (9 ∷ 9 ∷ [])) (lending_room (replicate 8 9)) p9_room (0 ∷ 0 ∷ 1 ∷ 2 ∷ 14 ∷ 0 ∷ 0 ∷ 0 ∷ []) (omega arith) κs (lending_room (replicate 10 9)) p9_row
    (record { answers = record { number_is = refl; words_are = refl }; room_is = refl; row_is = refl })

pub p9_all : (κs : Lfts 4) → WordsStood p9 p9_room 0 14 (cut record_len 1 p9_row)
unfolding splice laid all_frames frames_fuel read_at absorb absorb_fuel look payload_of end_of frame_walk continuations walk_fuel payloads_of frame_records joined
p9_all κs =
    exported_all_read_stood (lending p9) (lending_room (9 ∷ 9 ∷ [])) (lending_room (replicate 8 9)) p9_room (0 ∷ 14 ∷ 1 ∷ 2 ∷ 0 ∷ 0 ∷ 0 ∷ 0 ∷ []) (omega arith) κs (lending_room (replicate 10 9)) p9_row 0
    (record { answers = record { number_is = refl; words_are = refl }; room_is = refl; row_is = refl })

pub p9_next : (κs : Lfts 3) → AnswerStood p9 0 p9_room (0 ∷ 14 ∷ 7 ∷ 0x43 ∷ 1 ∷ 2 ∷ 2 ∷ 0 ∷ [])
unfolding splice laid read_at absorb absorb_fuel look payload_of end_of frame_walk continuations walk_fuel
p9_next κs =
    exported_next_read_stood (lending p9) (lending_room (9 ∷ 9 ∷ [])) (lending_room (replicate 8 9)) p9_room (0 ∷ 14 ∷ 7 ∷ 0x43 ∷ 1 ∷ 2 ∷ 2 ∷ 0 ∷ []) (omega arith) κs 0
    (record { answers = record { number_is = refl; words_are = refl }; room_is = refl })

abbrev p9_frame : DssFrame
p9_frame = record {
  header = record { length = 7; dss_type = Object; flags = record { chained = true; continue_on_error = false; same_correlation = false }; correlation_id = 1 };
  payload_at = 0;
  payload_len = 2;
  segments = 2;
  at = 0;
  end = 14;
}

pub p9_handed : (κs : Lfts 2) → FramesStood p9 p9_room 0 14 (p9_frame ∷ [])
unfolding splice laid read_at absorb absorb_fuel look payload_of end_of frame_walk continuations walk_fuel
p9_handed κs =
    next_read_stood κs (stands_at 0) (stands_at 14) (lending p9) (lending_room (9 ∷ 9 ∷ [])) p9_frame p9_room (record { answers = refl; room_is = refl })

-- ---- the same in rows of structs, which are lent with what they then hold; `taken` is the record of P2, with which P8 begins

abbrev p8_entries : List SalvageEntry
p8_entries = record { entry = Framed taken_example } ∷ record { entry = Refuses (record { why = InvalidMagic 0; place = 6 }) 6 6 } ∷ []

pub p8_listed : EntriesStood p8 [] 0 6 p8_entries
unfolding splice salvaged salvage_fuel read_at absorb absorb_fuel look payload_of end_of frame_walk continuations walk_fuel salvaged_bytes salvaged_row
p8_listed = (lists p8 [] p8_entries 2 0 6 [] p8_entries (record { answers = refl; room_is = refl; row_is = refl })).stood

pub p9_listed : FramesStood p9 p9_room 0 14 (p9_frame ∷ [])
unfolding splice all_frames frames_fuel read_at absorb absorb_fuel look payload_of end_of frame_walk continuations walk_fuel payloads_of frame_records
p9_listed = all_stood p9 0 (9 ∷ 9 ∷ []) (p9_frame ∷ []) 1 2 (stands_at 14) p9_room (p9_frame ∷ []) (record { answers = refl; room_is = refl; row_is = refl })

-- ---- what is ruled out

abbrev Stretched : List (ℕ × ℕ) → ℕ → Type 0
Stretched = λ l t. Follow (λ (x : ℕ × ℕ). x.0) (λ (x : ℕ × ℕ). x.1) 0 l t

-- two stray bytes between two records; a byte in both; a last one that ends before the tail; one that ends before it starts
gap : Stretched ((0, 6) ∷ (8, 14) ∷ []) 14 → ⊥
unfolding Follow
gap k = omega (arith, k)

overlap : Stretched ((0, 6) ∷ (5, 14) ∷ []) 14 → ⊥
unfolding Follow
overlap k = omega (arith, k)

-- P9 without what it absorbed
sooner : Stretched ((0, 7) ∷ []) 14 → ⊥
unfolding Follow
sooner k = omega (arith, k)

backwards : Stretched ((0, 14) ∷ (14, 6) ∷ []) 6 → ⊥
unfolding Follow
backwards k = omega (arith, k)

-- no byte before the seventh of P9 is BB, so that its payload doesn't come from the first segment alone
no_second : (k : ℕ) → k < 7 → get_or p9 k 0 ≡ 0xBB → ⊥
no_second zero h e = omega arith
no_second (suc zero) h e = omega arith
no_second (suc (suc zero)) h e = omega arith
no_second (suc (suc (suc zero))) h e = omega arith
no_second (suc (suc (suc (suc zero)))) h e = omega arith
no_second (suc (suc (suc (suc (suc zero))))) h e = omega arith
no_second (suc (suc (suc (suc (suc (suc zero)))))) h e = omega arith
no_second (suc (suc (suc (suc (suc (suc (suc k))))))) h e = omega arith

outside : ComesFrom p9 0 7 p9_room → ⊥
unfolding ComesFrom
outside k = let w = k.others in no_second w.place (omega (arith, w.others)) w.is
