-- What `StopsWaiting` asks is met, and what it rules out: a reader that gives 16 where bytes are merely missing, one that moves to
-- the dead length, and one that waits at it.
use Prim.Native.Nat.{ℕ}
use native.Mathlib.Omega.{arith}
use mathlib.Core.Path.{◌≡◌, refl, sym, ap, ◌∙◌}
use mathlib.Core.Bool.{true}
use mathlib.Core.List.{List, [], ◌∷◌, ◌++◌, append-nil}
use Rattle.wire.specs.Bytes.{pick, Octets}
use Rattle.answer.specs.Numbers.{number_of, not_whole}
use Rattle.answer.specs.declared.Refusal.TheVariants.{Incomplete, DeadContinuation}
use Rattle.answer.specs.declared.Refused.{Refused}
use Rattle.dss_frame.specs.declared.Rules.TheVariants.{Reader as AsReader}
use Rattle.dss_frame.specs.Segments.{end_of, dead, frame_walk, continuations, walk_fuel}
use Rattle.dss_frame.specs.Reading.{Read, frame, refused, read_at, position_after}
use Rattle.demands.specs.Demands.{Reader}
use Rattle.demands.proofs.Table.{p2}
use Rattle.demands.specs.Mending.{Stand, waits, Mended, StopsWaiting}
use Rattle.demands.proofs.DeadEdges.{fulls, several}
use Rattle.demands.proofs.Longer.{same_refused, frame_refused}
use Rattle.demands.proofs.LongerExamples.{reply, one_before, one_frame}
use Rattle.demands.proofs.Mending.{stops_waiting, exactly_dead}

-- ---- met: a first continuation length of 1, and two bytes of a head

unfoldable pub stuck : List ℕ
unfolding several
stuck = several 0xD0 0 (0 ∷ 1 ∷ [])

abbrev dead_there : Refused
dead_there = record { why = DeadContinuation; place = 32767 }

walks_dead : frame_walk AsReader stuck 0 ≡ dead 32767
unfolding stuck several fulls frame_walk continuations walk_fuel
walks_dead = refl

-- 16 with the length's place, whatever follows
pub dies : (t : List ℕ) → read_at AsReader (stuck ++ t) 0 ≡ refused dead_there
dies t = (stops_waiting AsReader).dead stuck t 0 32767 (omega arith) walks_dead

dies_alone : read_at AsReader stuck 0 ≡ refused dead_there
dies_alone = ap (λ (s : List ℕ). read_at AsReader s 0) (sym (append-nil stuck)) ∙ dies []

pub stays : (t : List ℕ) → (read_at AsReader (stuck ++ t) 0 ≡ refused dead_there) × (position_after 0 (read_at AsReader (stuck ++ t) 0) ≡ 0)
stays t = (stops_waiting AsReader).never stuck t 0 dead_there (omega arith) dies_alone refl

pub mended : Mended AsReader (read_at AsReader) (0x00 ∷ 0x06 ∷ []) 0
mended = ((stops_waiting AsReader).yet (0x00 ∷ 0x06 ∷ []) 0 (record { why = Incomplete; place = 0 }) (omega arith) one_before refl).1

-- and no bytes make the first whole
pub exactly : (t : List ℕ) → Octets t → waits (read_at AsReader (stuck ++ t) 0) ≡ true
exactly = (exactly_dead AsReader (read_at AsReader) (λ s p. position_after p (read_at AsReader s p)) (stops_waiting AsReader) stuck 0 dead_there (omega arith) dies_alone refl).0 refl

-- ---- ruled out

-- no reader gives 16 on two bytes of a head and a frame on six, wherever it stands
pub no_hasty : (reads : Reader) (stands : Stand) → (r : Refused) → reads (0x00 ∷ 0x06 ∷ []) 0 ≡ refused r → number_of r.why ≡ 16 → reads p2 0 ≡ frame reply
    → StopsWaiting AsReader reads stands → ⊥
no_hasty reads stands r e k f w = frame_refused reply r (sym f ∙ (w.never (0x00 ∷ 0x06 ∷ []) (0xD0 ∷ 0x02 ∷ 0x00 ∷ 0x07 ∷ []) 0 r (omega arith) e k).0)

-- such a one: 16 for every frame that isn't whole
abbrev hastily : Read → Read
hastily (frame f) = frame f
hastily (refused r) = pick (not_whole r.why) (refused (record { why = DeadContinuation; place = r.place })) (refused r)

pub hasty : (stands : Stand) → StopsWaiting AsReader (λ s p. hastily (read_at AsReader s p)) stands → ⊥
hasty stands =
    no_hasty (λ s p. hastily (read_at AsReader s p)) stands (record { why = DeadContinuation; place = 0 }) (ap hastily one_before) refl (ap hastily one_frame)

-- nor does one stand at the length: that the place is the position held before 16, and no more
abbrev moved : ℕ → Read → ℕ
moved p (frame f) = end_of p f.segments
moved p (refused r) = r.place

pub no_mover : StopsWaiting AsReader (read_at AsReader) (λ s p. moved p (read_at AsReader s p)) → ⊥
no_mover w =
    let z : ◌≡◌ {A = ℕ} 32767 0 = ap (moved 0) (sym (dies [])) ∙ (w.never stuck [] 0 dead_there (omega arith) dies_alone refl).1 in
    omega arith

-- nor does one wait there: 1 for both, as it was before
abbrev patiently : ℕ → Read → Read
patiently p (frame f) = frame f
patiently p (refused r) = pick (not_whole r.why) (refused (record { why = Incomplete; place = p })) (refused r)

pub no_waiter : (stands : Stand) → StopsWaiting AsReader (λ s p. patiently p (read_at AsReader s p)) stands → ⊥
no_waiter stands w =
    let z : ◌≡◌ {A = ℕ} 1 16 = ap (λ (x : Refused). number_of x.why) (same_refused _ _ (ap (patiently 0) (sym (dies [])) ∙ w.dead stuck [] 0 32767 (omega arith) walks_dead)) in
    omega arith
