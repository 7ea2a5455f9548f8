-- A run of written frames reads back as their list: each is read where it stands, and what follows closes it.
use Prim.Native.Nat.{ℕ, ◌+◌, ◌-◌, ◌≤◌, ◌<◌}
use native.Mathlib.Omega.{arith}
use mathlib.Core.Path.{◌≡◌, refl, ap, ◌∙◌}
use mathlib.Core.List.{List, [], ◌∷◌}
use lib.ListN.{length, drop, length-append}
use borrow.Author.Tests.{lt-ltb, le-leb}
use Rattle.wire.proofs.WireLaws.{pick_yes}
use Rattle.wire.proofs.Places.{here_next}
use Rattle.answer.specs.declared.Refusal.TheVariants.{Incomplete}
use Rattle.dss_frame.specs.declared.Rules.TheVariants.{Reader}
use Rattle.dss_frame.specs.Segments.{frame_walk}
use Rattle.dss_frame.specs.Reading.{Frame, refused, read_walk, read_at}
use Rattle.dss_frame.specs.Frames.{frames, before, all_frames}
use Rattle.dss_frame.specs.Written.{Sent, written}
use Rattle.demands.specs.AllFrames.{AllAlone, AllGive, ReadsAll}
use Rattle.wire.specs.Bytes.{joined}
use Rattle.dss_laws.proofs.Looking.{look_nothing}
use Rattle.dss_laws.proofs.Framed.{segments_end}
use Rattle.dss_laws.proofs.WritingLaws.{framed_written}
use Rattle.dss_laws.proofs.FramesLaws.{frames_more, frames_end}
use Rattle.demands.proofs.WrittenFrames.{Closed, sent_at, read_written, gives_written}
use Rattle.demands.proofs.Standing.{closed_stands}

-- what follows a frame closes it: the next one, or the end
closed_next : (fs : List Sent) → AllAlone fs → (s : List ℕ) (q : ℕ) → drop q s ≡ joined written fs → q + length (joined written fs) ≡ length s → Closed Reader s q
unfolding joined AllAlone
closed_next [] a s q d l = look_nothing Reader s q (omega arith)
closed_next (f ∷ fs) a s q d l = closed_stands f a.0.sendable a.0.stands Reader s (joined written fs) q d

-- with fewer than six bytes left, a frame isn't whole
pub few_read : (s : List ℕ) (p : ℕ) → p ≤ length s → length s - p < 6 → read_at Reader s p ≡ refused (record { why = Incomplete; place = p })
unfolding read_at frame_walk
few_read s p i h = pick_yes _ _ (le-leb p (length s) i) ∙ ap (read_walk Reader s p) (pick_yes _ _ (lt-ltb (length s - p) 6 h))

-- the rest of a run, from a place on, reads as the rest of the list
abbrev ReadsFrom : List ℕ → ℕ → List Sent → Type 0
ReadsFrom s p fs = record { read : List Frame; is : all_frames s p ≡ frames read (length s); gives : AllGive s fs read }

reads_from : (fs : List Sent) → AllAlone fs → (s : List ℕ) (p : ℕ) → drop p s ≡ joined written fs → p + length (joined written fs) ≡ length s → ReadsFrom s p fs
unfolding joined AllAlone AllGive
reads_from [] a s p d l =
    let e : p ≡ length s = omega arith in
    record { read = []; is = frames_end s p _ (few_read s p (omega arith) (omega arith)) refl ∙ ap (frames []) e; gives = tt }
reads_from (f ∷ fs) a s p d l =
    let q : ℕ = p + length (written f) in
    let d₁ : drop q s ≡ joined written fs = here_next s (written f) (joined written fs) p q d refl in
    let l₁ : q + length (joined written fs) ≡ length s = omega (arith, length-append (written f) (joined written fs)) in
    let ih : ReadsFrom s q fs = reads_from fs a.1 s q d₁ l₁ in
    record {
      read = sent_at f p ∷ ih.read;
      is =
          frames_more s p (sent_at f p) (read_written f a.0.sendable Reader a.0.readable s (joined written fs) p d (λ h. closed_next fs a.1 s q d₁ l₁))
          ∙ ap (before (sent_at f p)) (ap (all_frames s) (segments_end (framed_written f) p) ∙ ih.is);
      gives = (gives_written f s (joined written fs) p d, ih.gives);
    }

pub reads_all : ReadsAll written all_frames
reads_all fs a = reads_from fs a (joined written fs) 0 refl (omega arith)
