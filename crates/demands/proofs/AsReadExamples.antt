-- Salvaged as read: a run that meets what is asked, and that the two premises are needed, of a frame and of what is left behind the last.
use Rattle.std.specs.Prelude.{Err}
use Prim.Native.Nat.{ℕ, zero, suc, ◌+◌, ◌*◌, ◌≤◌}
use native.Mathlib.Omega.{arith}
use mathlib.Core.Path.{◌≡◌, refl, ap, subst, ◌∙◌}
use mathlib.Core.Logic.{inl}
use mathlib.Core.Bool.{false}
use mathlib.Core.List.{List, [], ◌∷◌, ◌++◌, append-nil, map}
use lib.ListN.{length, replicate, length-replicate}
use contract.Lifetimes.{Lfts}
use Rattle.wire.specs.Bytes.{be16, splice, laid, joined}
use Rattle.answer.specs.declared.Refusal.TheVariants.{Incomplete, DeadContinuation}
use Rattle.answer.specs.declared.Refused.{Refused}
use Rattle.dss_head.specs.declared.DssType.TheVariants.{Reply, Object}
use Rattle.dss_frame.specs.declared.Rules.TheVariants.{Salvage}
use Rattle.dss_frame.specs.Segments.{short, dead, payload_of, end_of, frame_walk, continuations, walk_fuel}
use Rattle.dss_frame.specs.Reading.{Frame, frame, read_at, absorb, absorb_fuel, look}
use Rattle.dss_frame.specs.Frames.{AllRead, frames, refused_all, all_frames, frames_fuel}
use Rattle.dss_frame.specs.FrameRecords.{payloads_of, frame_records}
use Rattle.dss_frame.specs.Salvage.{Entry, Salvaged, salvaged, salvage_fuel}
use Rattle.dss_frame.specs.Written.{Sent, written, chunks, chunks_fuel}
use Rattle.dss_laws.proofs.FramesLaws.{frames_end}
use Rattle.dss_reader.specs.Reader.{frame_end}
use Rattle.dss_salvage.specs.SalvageEntries.{salvaged_bytes, salvaged_row}
use Rattle.gateway_frames.proofs.lattrugone_read_all_frames.Reads as lattrugone_read_all_frames
use Rattle.gateway_salvage.proofs.lattrugone_salvage.Reads as lattrugone_salvage
use Rattle.demands.specs.Demands.{Sendable, Unreadable, Stands, Item, good, run, AllDue, Salvages}
use Rattle.demands.specs.AsRead.{MeetsFull, NoneFull, entries_of}
use Rattle.demands.proofs.Table.{p2}
use Rattle.demands.proofs.Edges.{full}
use Rattle.demands.proofs.ReadBack.{not_whole_lem}
use Rattle.demands.proofs.AsRead.{salvages_as_read, tells_why}
use Rattle.demands.specs.KeptMeaning.{SameInWords}
use Rattle.demands.proofs.Kept.{exported_salvaged_as_read}
use Rattle.demands.proofs.KeptExamples.{lending, lending_room}
use Rattle.demands.proofs.SeveralRun.{sized, sendable}

-- ---- a reply, and behind it a frame that isn't whole: of its first continuation, FFFF, only the length is there

pub cut : List ℕ
cut = p2 ++ (0xFF ∷ 0xFF ∷ 0xD0 ∷ 0x03 ∷ 0 ∷ 1 ∷ (replicate 32761 0xC1 ++ (0xFF ∷ 0xFF ∷ [])))

pub reply : Frame
reply = record {
  head = record { length = 6; dss_type = Reply; flags = record { chained = false; continue_on_error = false; same_correlation = false }; correlation_id = 7 };
  segments = record { at = 0; framing = 6; dropped = 0; end = 6 } ∷ [];
}

cut_read : all_frames cut 0 ≡ frames (reply ∷ []) 6
unfolding cut reply all_frames frames_fuel read_at absorb absorb_fuel look payload_of end_of frame_walk continuations walk_fuel
cut_read = refl

cut_lengths : (be16 cut 0 ≡ 6) × (be16 cut 32773 ≡ 0xFFFF) × (be16 cut 65540 ≡ 0)
unfolding cut
cut_lengths = (refl, refl, refl)

none_first : MeetsFull cut 0 → ⊥
none_first m = let e : 0xFFFF ≤ be16 cut 0 = m.lengths 0 (omega arith) in omega (arith, cut_lengths)

none_left : MeetsFull cut 6 → ⊥
none_left m = go m.before m.lengths m.full
  where
    go : (n : ℕ) → ((i : ℕ) → i ≤ n → 0xFFFF ≤ be16 cut (6 + i * 32767)) → be16 cut (6 + (n + 1) * 32767) ≡ 0x7FFF → ⊥
    go zero l f = let e : be16 cut 32773 ≡ 0x7FFF = f in omega (arith, cut_lengths)
    go (suc zero) l f = let e : be16 cut 65540 ≡ 0x7FFF = f in omega (arith, cut_lengths)
    go (suc (suc n)) l f = let e : 0xFFFF ≤ be16 cut 65540 = l 2 (omega arith) in omega (arith, cut_lengths)

cut_long : 6 ≤ length cut
unfolding cut
cut_long = omega arith

cut_short : frame_walk Salvage cut 6 ≡ short
unfolding cut frame_walk continuations walk_fuel
cut_short = refl

dead_cut : List ℕ
dead_cut = 0xFF ∷ 0xFF ∷ 0xD0 ∷ 0x03 ∷ 0 ∷ 1 ∷ (replicate 32761 0xC1 ++ (0x00 ∷ 0x01 ∷ []))

dead_walk : frame_walk Salvage dead_cut 0 ≡ dead 32767
unfolding dead_cut frame_walk continuations walk_fuel
dead_walk = refl

cut_none : NoneFull cut 0 (reply ∷ [])
unfolding NoneFull reply end_of
cut_none = (none_first, none_left)

pub cut_salvaged : salvaged cut ≡ record { entries = record { at = 0; end = 6; read = frame reply } ∷ []; tail = 6 }
unfolding entries_of reply end_of
cut_salvaged = salvages_as_read cut (reply ∷ []) 6 cut_read cut_none

-- ---- the exported calls, on a reply with one byte behind it

abbrev left : List ℕ
left = p2 ++ (0 ∷ [])

left_read : all_frames left 0 ≡ frames (reply ∷ []) 6
unfolding reply all_frames frames_fuel read_at absorb absorb_fuel look payload_of end_of frame_walk continuations walk_fuel
left_read = refl

left_none : NoneFull left 0 (reply ∷ [])
unfolding NoneFull reply end_of
left_none = ((λ m. let e : 0xFFFF ≤ 6 = m.lengths 0 (omega arith) in omega arith), (λ m. let e : 0xFFFF ≤ 0 = m.lengths 0 (omega arith) in omega arith))

-- the record of the reply, and a word of the row that stays
abbrev left_row : List ℕ
left_row = 0 ∷ 0 ∷ 6 ∷ 0x02 ∷ 7 ∷ 0 ∷ 1 ∷ 0 ∷ 0 ∷ 6 ∷ 9 ∷ []

left_reads : (κs : Lfts 4) → lattrugone_read_all_frames.Post κs (lending left, (0, (lending_room (9 ∷ []), (lending_room (replicate 11 9), (lending_room (replicate 8 9), tt)))))
    0 (lending left, (0, (lending_room (9 ∷ []), (lending_room left_row, (lending_room (0 ∷ 6 ∷ 1 ∷ 0 ∷ 0 ∷ 0 ∷ 0 ∷ 0 ∷ []), tt)))))
unfolding splice laid all_frames frames_fuel read_at absorb absorb_fuel look payload_of end_of frame_walk continuations walk_fuel payloads_of frame_records joined
left_reads κs = record { answers = record { number_is = refl; words_are = refl }; room_is = refl; row_is = refl }

left_salvages : (κs : Lfts 4) → lattrugone_salvage.Post κs (lending left, (lending_room (9 ∷ []), (lending_room (replicate 11 9), (lending_room (replicate 8 9), tt))))
    0 (lending left, (lending_room (9 ∷ []), (lending_room left_row, (lending_room (0 ∷ 0 ∷ 1 ∷ 0 ∷ 6 ∷ 0 ∷ 0 ∷ 0 ∷ []), tt))))
unfolding splice laid salvaged salvage_fuel read_at absorb absorb_fuel look payload_of end_of frame_walk continuations walk_fuel salvaged_bytes salvaged_row joined
left_salvages κs = record { answers = record { number_is = refl; words_are = refl }; room_is = refl; row_is = refl }

pub left_same : (κs κs' : Lfts 4) → SameInWords 1 0 6 0 (0 ∷ 6 ∷ 1 ∷ 0 ∷ 0 ∷ 0 ∷ 0 ∷ 0 ∷ []) (9 ∷ []) left_row 0 (0 ∷ 0 ∷ 1 ∷ 0 ∷ 6 ∷ 0 ∷ 0 ∷ 0 ∷ []) (9 ∷ []) left_row
unfolding reply payloads_of payload_of
left_same κs κs' =
    exported_salvaged_as_read κs κs' (lending left) (lending_room (9 ∷ [])) (lending_room (replicate 11 9)) (lending_room (replicate 8 9)) (lending_room (9 ∷ [])) (lending_room (replicate 11 9)) (lending_room (replicate 8 9))
    0 0 (9 ∷ []) left_row (0 ∷ 6 ∷ 1 ∷ 0 ∷ 0 ∷ 0 ∷ 0 ∷ 0 ∷ []) (9 ∷ []) left_row (0 ∷ 0 ∷ 1 ∷ 0 ∷ 6 ∷ 0 ∷ 0 ∷ 0 ∷ [])
    (reply ∷ []) 6 left_read left_none refl refl (omega arith) (omega arith) (left_reads κs) (left_salvages κs')

-- ---- why it ended: at the tail of `cut` bytes are missing; with 0001 in that length's place, they never come

cut_yet : frame_end cut 6 ≡ Err (record { why = Incomplete; place = 6 })
cut_yet = tells_why.yet cut 6 cut_long cut_short

dead_never : frame_end dead_cut 0 ≡ Err (record { why = DeadContinuation; place = 32767 })
dead_never = tells_why.never dead_cut 0 32767 (omega arith) dead_walk

-- ---- what is asked is needed

-- of a frame: what the reader swallows (`Limits`, `swallowed`), salvage hands out by itself, ends at 65,534 and 65,540
pub handed_out : map (λ (e : Entry). e.end) (salvaged (written (full 65526) ++ p2)).entries ≡ 65534 ∷ 65540 ∷ []
unfolding full written chunks chunks_fuel salvaged salvage_fuel read_at absorb absorb_fuel look payload_of end_of frame_walk continuations walk_fuel
handed_out = refl

-- of what is left behind the last: a salvage that hands on what the reader reads, and what it likes where that is refused, loses a frame
-- of 65,526 bytes that stands alone, which is due
pub handed_on : (Refused → Salvaged) → AllRead → Salvaged
handed_on x (frames fs q) = record { entries = entries_of 0 fs; tail = q }
handed_on x (refused_all r) = x r

alone_missed : (x : Refused → Salvaged) (f : Sent) → Sendable f → Unreadable f → Stands f → Salvages written (λ s. handed_on x (all_frames s 0)) → ⊥
unfolding run AllDue handed_on entries_of
alone_missed x f v u st all =
    let i : Item written = good f v st in
    let e : all_frames (written f ++ []) 0 ≡ frames [] 0 = ap (λ (s : List ℕ). all_frames s 0) (append-nil (written f)) ∙ frames_end (written f) 0 _ (not_whole_lem f v u) refl in
    subst (λ (a : AllRead). AllDue (written f ++ []) 0 (i ∷ []) (handed_on x a).entries) e (all (i ∷ [])).0

pub no_reader_salvage : (x : Refused → Salvaged) → Salvages written (λ s. handed_on x (all_frames s 0)) → ⊥
unfolding sized
no_reader_salvage x = alone_missed x (sized Object false 65526) (sendable Object false 65526) (record { times = 0; size = length-replicate {A = ℕ} 65526 0xC1 }) (inl refl)
