-- Demand 2's clause on layouts, over the contracts of the writer's and the reader's calls: what a call laid down between two fill
-- marks has the volume's layout, and whatever answer and room `next_frame`'s contract allows on bytes that have it says so.
use Rattle.std.specs.Prelude.{Result, Ok, Err}
use Prim.Native.Nat.{ℕ, ◌+◌, ◌-◌, ◌≤◌}
use native.Mathlib.Omega.{arith}
use mathlib.Core.Path.{◌≡◌, refl, sym, ap, subst, ◌∙◌}
use mathlib.Core.Bool.{Bool}
use mathlib.Core.List.{List, ◌++◌}
use lib.Dec.{leb}
use lib.ListN.{length, take, drop}
use lib.Seq.{drop_at, length-take-le}
use borrow.Author.Tests.{le-leb, leb-true}
use contract.Lifetimes.{Lfts}
use denote.Ref.{Bor, MutBor, at_last}
use Rattle.wire.specs.Bytes.{part, splice, laid}
use Rattle.wire.proofs.WireLaws.{pick_yes, picked}
use Rattle.wire.proofs.Places.{here_part}
use Rattle.wire.proofs.Splicing.{laid_fits}
use Rattle.answer.specs.Rooms.{room_for}
use Rattle.answer.specs.declared.Refused.{Refused}
use Rattle.dss_head.specs.declared.DssType.{DssType}
use Rattle.dss_frame.specs.Segments.{payload_of}
use Rattle.dss_frame.specs.FrameRecords.{frame_record}
use Rattle.dss_frame.specs.Written.{Sent, written}
use Rattle.dss_take.specs.Take.{room_read}
use Rattle.dss_writer.specs.Writer.{sent, wrote_by, Writes}
use Rattle.dss_writer.specs.declared.DssWriter.{DssWriter}
use Rattle.dss_writer.proofs.DssWriter.write_dss_full.Reads as write_dss_full
use Rattle.dss_reader.specs.Reader.{stands_at, given_frame, NextFrame}
use Rattle.dss_reader.specs.declared.DssReader.{DssReader}
use Rattle.dss_reader.proofs.DssReader.next_frame.Reads as next_frame
use Rattle.layouts.specs.DssLayout.{Structure, Allowed, Dss, FullLast}
use Rattle.demands.specs.DssLayouts.{structure_of}
use Rattle.demands.specs.KeptMeaning.{StructureBack, not_yet}
use Rattle.demands.proofs.WrittenLayout.{writes_layout}
use Rattle.demands.proofs.LayoutReads.{reads_layout, waits_behind_full}
use Rattle.dss_frame.specs.declared.DssFrame.{DssFrame}

-- ---- the writer

pub done_refused : (d : DssWriter) (r : Refused) → Err r ≡ Ok d → ⊥
done_refused d r e = let z : ◌≡◌ {A = ℕ} 0 1 = cc in omega arith

pub same_done : (c d : DssWriter) → ◌≡◌ {A = Result DssWriter Refused} (Ok c) (Ok d) → c ≡ d
same_done c d e = cc

refuses_enough : (r : Refused) → ◌≡◌ {A = Result (Unit {0}) Refused} (Err r) (Ok tt) → ⊥
refuses_enough r e = let z : ◌≡◌ {A = ℕ} 0 1 = cc in omega arith

-- a call that is done had room, and moved the mark by what it laid down
done_enough : (w d : DssWriter) (n : ℕ) (x : Result (Unit {0}) Refused) → wrote_by w n x ≡ Ok d → (x ≡ Ok tt) × (w.fill + n ≡ d.fill)
done_enough w d n (Ok tt) e = (refl, ap (λ (c : DssWriter). c.fill) (same_done _ d e))
done_enough w d n (Err r) e = absurd (done_refused d r e)

enough_fits : (mark size need : ℕ) → room_for mark size need ≡ Ok tt → mark + need ≤ size
enough_fits mark size need e =
    picked (leb mark size) e
    (λ k j. picked (leb need (size - mark)) j (λ k₁ j₁. let a : mark ≤ size = leb-true mark size k in let b : need ≤ size - mark = leb-true need (size - mark) k₁ in omega arith) (λ k₁ j₁. absurd (refuses_enough _ j₁)))
    (λ k j. absurd (refuses_enough _ j))

-- what stands between the mark before and the mark after
laid_between : (room b : List ℕ) (a : ℕ) → a + length b ≤ length room → part (laid room a b) a (a + length b) ≡ b
unfolding splice
laid_between room b a h =
    ap (λ (s : List ℕ). part s a (a + length b)) (laid_fits room a b h)
    ∙ here_part (splice room a b) b (drop (a + length b) room) a (a + length b) (drop_at (take a room) (b ++ drop (a + length b) room) a (length-take-le a room (omega arith))) (omega arith)

pub written_between : (w d : DssWriter) (f : Sent) (room after : List ℕ) → Writes w f room (Ok d) after → part after w.fill d.fill ≡ written f
written_between w d f room after p =
    let n : ℕ = length (written f) in
    let x = done_enough w d n (room_for w.fill (length room) n) (sym p.answers) in
    ap (λ (s : List ℕ). part s w.fill d.fill) p.room_is
    ∙ ap (part (laid room w.fill (written f)) w.fill) (sym x.1)
    ∙ laid_between room (written f) w.fill (enough_fits w.fill (length room) n x.0)

pub between_laid : (w d : DssWriter) (f : Sent) → Allowed (structure_of f) → (room after : List ℕ) → Writes w f room (Ok d) after → Dss (structure_of f) (part after w.fill d.fill)
between_laid w d f a room after p = subst (Dss (structure_of f)) (sym (written_between w d f room after p)) (writes_layout f a)

-- over the contract of `write_dss_full` itself, of which the other calls are cases
pub write_dss_laid : (κs : Lfts 2) (w d : DssWriter) (t : DssType) (chained same : Bool) (payload : Bor (List ℕ)) (room : MutBor (List ℕ)) (after : List ℕ)
    → Allowed (structure_of (sent w.correlation_id t chained same payload.now))
    → write_dss_full.Post κs (w, (t, (chained, (same, (payload, (room, tt)))))) (Ok d) (w, (t, (chained, (same, (payload, (at_last room after, tt))))))
    → Dss (structure_of (sent w.correlation_id t chained same payload.now)) (part after w.fill d.fill)
write_dss_laid κs w d t chained same payload room after a p = between_laid w d (sent w.correlation_id t chained same payload.now) a room.now after p

-- ---- the reader

module _ (w : Structure) (b : List ℕ) (l : Dss w b) (room : List ℕ) (r : Result DssFrame Refused × DssReader) (after : List ℕ) (p : NextFrame b 0 room r after) where
  pub layout_back : (FullLast l → ⊥) → length w.payload ≤ length room → StructureBack w b room r after
  layout_back k h =
      let x = reads_layout w b l k in
      let g = x.read in
      let e : payload_of b g.segments ≡ w.payload = x.says.payload in
      let fits : length (payload_of b g.segments) ≤ length room = omega (arith, ap length e) in
      record {
        read = g;
        is =
            p.answers
            ∙ ap (given_frame b 0 (length room)) x.is
            ∙ pick_yes _ _ (le-leb (length (payload_of b g.segments)) (length room) fits)
            ∙ ap (λ (n : ℕ). (Ok (frame_record b 0 0 g), stands_at n)) x.consumed;
        says = x.says;
        room_is = p.room_is ∙ ap (room_read b room) x.is ∙ ap (laid room 0) e ∙ laid_fits room 0 w.payload (omega arith);
      }

  -- the difference: 1, position and room as they were
  pub layout_not_whole : FullLast l → (r ≡ (Err (not_yet 0), stands_at 0)) × (after ≡ room)
  layout_not_whole k = (p.answers ∙ ap (given_frame b 0 (length room)) (waits_behind_full w b l k), p.room_is ∙ ap (room_read b room) (waits_behind_full w b l k))

-- over the contract of `next_frame` itself
pub next_frame_laid : (κs : Lfts 2) (reader : DssReader) (run : Bor (List ℕ)) (room : MutBor (List ℕ)) (r : Result DssFrame Refused × DssReader) (after : List ℕ) (w : Structure) (l : Dss w run.now)
    → reader ≡ stands_at 0 → (FullLast l → ⊥) → length w.payload ≤ length room.now
    → next_frame.Post κs (reader, (run, (room, tt))) r (reader, (run, (at_last room after, tt))) → StructureBack w run.now room.now r after
next_frame_laid κs reader run room r after w l e k h p =
    layout_back w run.now l room.now r after (subst (λ (d : DssReader). NextFrame run.now d.position room.now r after) e p) k h
