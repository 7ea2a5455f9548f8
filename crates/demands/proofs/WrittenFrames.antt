-- Reading a written frame wherever it stands, if what follows closes it.
use Rattle.std.specs.Prelude.{Result, Ok, Err}
use Prim.Native.Nat.{ℕ, ◌+◌, ◌-◌, ◌≤◌}
use native.Mathlib.Omega.{arith}
use mathlib.Core.Path.{◌≡◌, refl, ap, ◌∙◌}
use mathlib.Core.Bool.{Bool}
use mathlib.Core.List.{List, ◌++◌}
use lib.Dec.{eqb}
use lib.ListN.{length, drop}
use borrow.Author.Tests.{le-ltb, le-leb, eq-eqb, ne_eqb}
use Rattle.wire.specs.Bytes.{pick, be16}
use Rattle.answer.specs.declared.Refused.{Refused}
use Rattle.dss_head.specs.Heads.{head_at, length_of}
use Rattle.dss_head.specs.declared.DssType.{DssType}
use Rattle.dss_head.specs.declared.DssHeader.{DssHeader}
use Rattle.dss_frame.specs.declared.Rules.{Rules}
use Rattle.dss_frame.specs.declared.Rules.TheVariants.{Reader, Salvage}
use Rattle.dss_frame.specs.Segments.{payload_of}
use Rattle.dss_frame.specs.Reading.{finished, look, frame, refused, Frame, absorb, read_head, read_walk, read_at, starts_extended}
use Rattle.dss_frame.specs.Written.{Sent, head_of, written}
use Rattle.demands.specs.Demands.{Sendable, Unreadable, Gives}
use Rattle.wire.proofs.WireLaws.{pick_yes, pick_no}
use Rattle.wire.proofs.Places.{here_first, here_length}
use Rattle.dss_laws.proofs.Looking.{absorb_finished}
use Rattle.dss_laws.proofs.Framed.{Framed, single, several, WholeUnder, segments_of, segments_end, framed_walk}
use Rattle.dss_laws.proofs.WritingLaws.{framed_written, payload_written}
use Rattle.dss_head.proofs.HeadLaws.{moved_to}
use Rattle.dss_laws.proofs.HeadFields.{head_moved, head_written}

-- nothing that follows at q is absorbed
abbrev pub Closed : Rules → List ℕ → ℕ → Type 0
Closed rules s q = (t : DssType) (extended : Bool) → look rules s t extended q ≡ finished

-- a frame is six bytes at least, and its length says so
pub framed_six : {n : ℕ} {b : List ℕ} → Framed n b → 6 ≤ length b
framed_six (single h e w) = omega arith
framed_six (several k r e lo hi w) = omega (arith, w.size)

pub framed_raw : {n : ℕ} {b : List ℕ} → Framed n b → 6 ≤ be16 b 0
framed_raw (single h e w) = omega arith
framed_raw (several k r e lo hi w) = omega (arith, w.starts)

-- up to the head: the walk, and then the head
pub read_walked : {n : ℕ} {b : List ℕ} (w : Framed n b) (rules : Rules) → WholeUnder rules n → (s rest : List ℕ) (p : ℕ) (h : Result DssHeader Refused) → drop p s ≡ b ++ rest → head_at s p ≡ h
    → read_at rules s p ≡ read_head rules s p (segments_of w p) h
unfolding read_at
read_walked {n} {b} w rules u s rest p h d e =
    let l : length s - p ≡ length b + length rest = here_length s b rest p d in
    let six : 6 ≤ length b = framed_six w in
    pick_yes _ _ (le-leb p (length s) (omega arith))
    ∙ ap (read_walk rules s p) (framed_walk w rules u s rest p d)
    ∙ ap (read_head rules s p (segments_of w p)) e

-- a head that is found: the frame, if what follows closes it
pub read_found : {n : ℕ} {b : List ℕ} (w : Framed n b) (rules : Rules) → WholeUnder rules n → (s rest : List ℕ) (p : ℕ) (h : DssHeader) → drop p s ≡ b ++ rest → head_at s p ≡ Ok h
    → (n ≤ 32761 → Closed rules s (p + length b)) → read_at rules s p ≡ frame (record { head = h; segments = segments_of w p })
read_found {n} {b} w rules u s rest p h d e c =
    let l : length s - p ≡ length b + length rest = here_length s b rest p d in
    let six : 6 ≤ length b = framed_six w in
    let raw : be16 s p ≡ be16 b 0 = here_first s b rest p d (omega arith) in
    read_walked w rules u s rest p (Ok h) d e
    ∙ pick_no _ _ (le-ltb (be16 s p) 6 (omega (arith, framed_raw w)))
    ∙ by_shape w raw c
  where
    by_shape : (w : Framed n b) → be16 s p ≡ be16 b 0 → (n ≤ 32761 → Closed rules s (p + length b))
        → pick (eqb (be16 s p) 65535) (frame (record { head = h; segments = segments_of w p })) (absorb rules s p h (segments_of w p)) ≡ frame (record { head = h; segments = segments_of w p })
    by_shape (single k z y) raw c =
        let v : Framed n b = single k z y in
        pick_no _ _ (ne_eqb (be16 s p) 65535 (omega arith))
        ∙ absorb_finished rules s p h (segments_of v p)
        (ap (λ (q : ℕ). look rules s h.dss_type (starts_extended (payload_of s (segments_of v p))) q) (segments_end v p) ∙ c k h.dss_type (starts_extended (payload_of s (segments_of v p))))
    by_shape (several k r z lo hi y) raw c = pick_yes _ _ (eq-eqb (be16 s p) 65535 (raw ∙ y.starts))

-- a head that is refused
pub read_refused : {n : ℕ} {b : List ℕ} (w : Framed n b) (rules : Rules) → WholeUnder rules n → (s rest : List ℕ) (p : ℕ) (r : Refused) → drop p s ≡ b ++ rest → head_at s p ≡ Err r
    → read_at rules s p ≡ refused r
read_refused w rules u s rest p r d e = read_walked w rules u s rest p (Err r) d e

-- ---- a written frame

-- the sizes that the rules find whole
abbrev pub SizeRead : Rules → Sent → Type 0
SizeRead Reader f = Unreadable f → ⊥
SizeRead Salvage f = Unit {0}

size_whole : (rules : Rules) (f : Sent) → SizeRead rules f → WholeUnder rules (length f.payload)
size_whole Reader f u = λ e. u (record { times = e.times; size = e.size })
size_whole Salvage f u = tt

-- the frame that is handed out
abbrev pub sent_at : Sent → ℕ → Frame
sent_at f p = record { head = head_of f (length_of (be16 (written f) 0)); segments = segments_of (framed_written f) p }

pub read_written : (f : Sent) → Sendable f → (rules : Rules) → SizeRead rules f → (s rest : List ℕ) (p : ℕ) → drop p s ≡ written f ++ rest
    → (length f.payload ≤ 32761 → Closed rules s (p + length (written f))) → read_at rules s p ≡ frame (sent_at f p)
read_written f v rules u s rest p d c =
    read_found (framed_written f) rules (size_whole rules f u) s rest p (head_of f (length_of (be16 (written f) 0))) d
    (head_moved s (written f) rest p d (framed_six (framed_written f)) ∙ ap (moved_to p) (head_written f v.correlation)) c

-- it gives what was sent
pub gives_written : (f : Sent) (s rest : List ℕ) (p : ℕ) → drop p s ≡ written f ++ rest → Gives f s (sent_at f p)
gives_written f s rest p d =
    record { type = refl; chained = refl; no_continue = refl; same = refl; correlation = refl; payload = payload_written f (framed_written f) s rest p d }
