-- What the demands rule out: readers that refuse everything or answer one thing, and a salvage that hands out nothing or one
-- thing. What the statements on layouts rule out stands in LayoutExamples.
use Prim.Native.Nat.{ℕ, zero, suc}
use native.Mathlib.Omega.{arith}
use mathlib.Core.Path.{◌≡◌, refl, sym, ap, ap₂, ◌∙◌}
use mathlib.Core.Logic.{inl}
use mathlib.Core.Bool.{false}
use mathlib.Core.List.{List, [], ◌∷◌}
use lib.ListN.{length, get_or, replicate, length-replicate}
use Rattle.answer.specs.declared.Refused.{Refused}
use Rattle.answer.specs.declared.Refusal.TheVariants.{Incomplete}
use Rattle.dss_head.specs.Heads.{type_byte}
use Rattle.dss_head.specs.declared.DssType.{DssType}
use Rattle.dss_head.specs.declared.DssType.TheVariants.{Request, Reply}
use Rattle.dss_frame.specs.Reading.{Read, frame, refused, Frame}
use Rattle.dss_frame.specs.Segments.{payload_of}
use Rattle.dss_frame.specs.Salvage.{Entry, Salvaged}
use Rattle.dss_frame.specs.Written.{Sent}
use Rattle.demands.specs.Demands.{Writer, Reader, Sendable, Unreadable, ReadsBack, ReadsEverySize, NotWhole, Item, good, run, AllDue, Salvages}

-- an empty frame of a type
abbrev pub empty : DssType → Sent
empty t = record { type = t; chained = false; same = false; correlation = 0; payload = [] }

pub sendable : (t : DssType) → Sendable (empty t)
sendable t = record { correlation = omega arith; payload = λ k. omega arith }

readable : (t : DssType) → Unreadable (empty t) → ⊥
readable t u = omega (arith, u.size)

-- a frame is no refusal
pub frame_refused : (x : Read) (g : Frame) (r : Refused) → x ≡ frame g → x ≡ refused r → ⊥
frame_refused x g r e k = let z : ◌≡◌ {A = ℕ} 0 1 = cc in omega arith

pub same_frame : (x : Read) (g h : Frame) → x ≡ frame g → x ≡ frame h → g ≡ h
same_frame x g h e k = cc

-- no reader that always refuses reads back, whatever the writer
pub no_refuser : (writes : Writer) (r : List ℕ → ℕ → Refused) → ReadsBack writes (λ s p. refused (r s p)) → ⊥
no_refuser writes r back =
    let b = back (empty Request) (sendable Request) (readable Request) in
    frame_refused (refused (r (writes (empty Request)) 0)) b.read (r (writes (empty Request)) 0) b.is refl

-- nor one with a fixed answer
pub no_fixed : (writes : Writer) (x : Read) → ReadsBack writes (λ s p. x) → ⊥
no_fixed writes x back =
    let a = back (empty Request) (sendable Request) (readable Request) in
    let b = back (empty Reply) (sendable Reply) (readable Reply) in
    let e : a.read ≡ b.read = same_frame x a.read b.read a.is b.is in
    let t : Request ≡ Reply = sym a.gives.type ∙ ap (λ (g : Frame). g.head.dss_type) e ∙ b.gives.type in
    let z : type_byte Request ≡ type_byte Reply = ap type_byte t in
    omega arith

-- one of the sizes that are never whole
abbrev filled : List ℕ → Sent
filled b = record { type = Request; chained = false; same = false; correlation = 0; payload = b }

zeros : (n k : ℕ) → ◌≡◌ {A = ℕ} (get_or (replicate n 0) k 0) 0
zeros zero k = refl
zeros (suc n) zero = refl
zeros (suc n) (suc k) = zeros n k

frames_refuse : (writes : Writer) (g : List ℕ → ℕ → Frame) (b : List ℕ) → length b ≡ 65526 → ((k : ℕ) → get_or b k 0 ≡ 0) → NotWhole writes (λ s p. frame (g s p)) → ⊥
frames_refuse writes g b l z back =
    frame_refused (frame (g (writes (filled b)) 0)) (g (writes (filled b)) 0) (record { why = Incomplete; place = 0 }) refl
    (back (filled b) (record { correlation = omega arith; payload = λ k. omega (arith, z k) }) (record { times = 0; size = omega arith }))

-- no reader that always hands out a frame says when one isn't whole
pub no_yes_man : (writes : Writer) (g : List ℕ → ℕ → Frame) → NotWhole writes (λ s p. frame (g s p)) → ⊥
no_yes_man writes g = frames_refuse writes g (replicate 65526 0) (length-replicate {A = ℕ} 65526 0) (zeros 65526)

-- and none has both: a reader that reads every size back says of none that it isn't whole, so neither's rule does for the other
both_wrong : (writes : Writer) (reads : Reader) (b : List ℕ) → length b ≡ 65526 → ((k : ℕ) → get_or b k 0 ≡ 0) → ReadsEverySize writes reads → NotWhole writes reads → ⊥
both_wrong writes reads b l z every back =
    let v : Sendable (filled b) = record { correlation = omega arith; payload = λ k. omega (arith, z k) } in
    let c = every (filled b) v in
    frame_refused (reads (writes (filled b)) 0) c.read (record { why = Incomplete; place = 0 }) c.is (back (filled b) v (record { times = 0; size = omega arith }))

pub no_both : (writes : Writer) (reads : Reader) → ReadsEverySize writes reads → NotWhole writes reads → ⊥
no_both writes reads = both_wrong writes reads (replicate 65526 0) (length-replicate {A = ℕ} 65526 0) (zeros 65526)

-- a fixed salvage: nothing is due of an empty run, and something of a frame's
fixed : (writes : Writer) (s : List ℕ) (i : Item writes) (es : List Entry) → AllDue {writes = writes} [] 0 [] es → AllDue s 0 (i ∷ []) es → ⊥
unfolding AllDue
fixed writes s i [] a b = b
fixed writes s i (e ∷ es) a b = a

pub no_fixed_salvage : (writes : Writer) (x : Salvaged) → Salvages writes (λ s. x) → ⊥
unfolding run
no_fixed_salvage writes x all =
    let i : Item writes = good (empty Request) (sendable Request) (inl refl) in
    fixed writes (run (i ∷ [])) i x.entries (all []).0 (all (i ∷ [])).0

-- a writer that reads back lays down different bytes for frames that differ in what they say
pub separates : (writes : Writer) (reads : Reader) → ReadsBack writes reads → (f g : Sent) → Sendable f → Sendable g → (Unreadable f → ⊥) → (Unreadable g → ⊥)
    → writes f ≡ writes g → (f.type ≡ g.type) × (f.payload ≡ g.payload)
separates writes reads back f g v w u y e =
    let a = back f v u in
    let b = back g w y in
    let k : a.read ≡ b.read = same_frame (reads (writes f) 0) a.read b.read a.is (ap (λ (s : List ℕ). reads s 0) e ∙ b.is) in (
      sym a.gives.type ∙ ap (λ (h : Frame). h.head.dss_type) k ∙ b.gives.type,
      sym a.gives.payload ∙ ap₂ (λ (s : List ℕ) (h : Frame). payload_of s h.segments) e k ∙ b.gives.payload,
    )

-- so no writer lays down one thing for all
pub no_fixed_writer : (s : List ℕ) (reads : Reader) → ReadsBack (λ f. s) reads → ⊥
no_fixed_writer s reads back =
    let t : Request ≡ Reply = (separates (λ f. s) reads back (empty Request) (empty Reply) (sendable Request) (sendable Reply) (readable Request) (readable Reply) refl).0 in
    let z : type_byte Request ≡ type_byte Reply = ap type_byte t in
    omega arith
