-- W-205, what stays as it was: where no continuation that is walked has length 0x7FFF, the two rules walk alike, and a run that the
-- reader reads without refusal is salvaged as it is read.
use Prim.Native.Nat.{ℕ, zero, suc, ◌+◌, ◌*◌, ◌-◌, ◌/◌, ◌≤◌, ◌<◌}
use native.Mathlib.Omega.{arith}
use mathlib.Core.Path.{◌≡◌, refl, sym, ap, ap₂, subst, ◌∙◌}
use mathlib.Core.Bool.{Bool, true, false}
use mathlib.Core.List.{List, [], ◌∷◌, ◌++◌}
use lib.Dec.{ltb, leb, eqb}
use lib.ListN.{length}
use borrow.Author.Tests.{eqb-true, eqb-false, le-leb}
use Rattle.wire.specs.Bytes.{pick, be16, joined}
use Rattle.wire.proofs.WireLaws.{by, pick_yes}
use Rattle.answer.specs.Numbers.{not_whole}
use Rattle.answer.specs.Rooms.{out_of_bounds}
use Rattle.answer.specs.declared.Refused.{Refused}
use Rattle.dss_head.specs.declared.Chunk.{Chunk}
use Rattle.dss_head.specs.declared.Chunk.TheVariants.{Dead, Last, Full}
use Rattle.dss_frame.specs.Rules.{chunk_under}
use Rattle.dss_frame.specs.declared.Rules.TheVariants.{Reader, Salvage}
use Rattle.dss_frame.specs.Segments.{Segment, Walk, whole, short, dead, behind, continuation, first, step, walk_fuel, continuations, frame_walk, payload_of, end_of}
use Rattle.dss_frame.specs.Reading.{Read, frame, refused, Frame, read_walk, read_at}
use Rattle.dss_frame.specs.Frames.{AllRead, frames, refused_all, before, and_on, frames_fuel, all_frames}
use Rattle.dss_frame.specs.FrameRecords.{frame_record, payloads_of, frame_records}
use Rattle.dss_frame.specs.Salvage.{Salvaged, entry, at_walk, salvage_fuel, salvaged}
use Rattle.dss_laws.proofs.RawLengths.{chunk_same, chunk_full_low, chunk_last_full, full_above}
use Rattle.dss_laws.proofs.Bounds.{OfFrame, is_frame, is_refused, Past, read_past}
use Rattle.dss_reader.specs.Reader.{end_found, frame_end}
use Rattle.dss_salvage.specs.SalvageEntries.{salvaged_bytes, salvaged_row}
use Rattle.gateway_row.specs.RowWords.{record_words}
use Rattle.gateway_salvage.specs.SalvageWords.{entry_words}
use Rattle.demands.specs.Mending.{waits}
use Rattle.demands.specs.AsRead.{MeetsFull, NoneFull, entries_of, SalvagesAsRead, TellsWhy}
use Rattle.demands.proofs.LongerRuns.{picks}
use Rattle.demands.proofs.Longer.{frame_refused}
use Rattle.demands.proofs.LongerTaken.{salvage_reads}
use Rattle.demands.proofs.Mending.{unwhole_waits}

-- ---- the walk

-- the walk from a continuation on comes to one of length 0x7FFF, behind others of FFFF
record Meets (s : List ℕ) (q : ℕ) : Type 0 where
  before : ℕ
  lengths : (i : ℕ) → i < before → 0xFFFF ≤ be16 s (q + i * 32767)
  full : be16 s (q + before * 32767) ≡ 0x7FFF

meets_here : (s : List ℕ) (q : ℕ) → be16 s q ≡ 0x7FFF → Meets s q
meets_here s q e =
    let z : q + 0 * 32767 ≡ q = omega arith in
    record { before = 0; lengths = λ i h. absurd (omega arith); full = ap (be16 s) z ∙ e }

-- one length more stands before
longer : (s : List ℕ) (q : ℕ) → 0xFFFF ≤ be16 s q → (m : Meets s (q + 32767)) (i : ℕ) → i ≤ m.before → 0xFFFF ≤ be16 s (q + i * 32767)
longer s q h m zero l = let z : q ≡ q + 0 * 32767 = omega arith in subst (λ (k : ℕ). 0xFFFF ≤ be16 s k) z h
longer s q h m (suc i) l =
    let z : q + 32767 + i * 32767 ≡ q + suc i * 32767 = omega arith in
    subst (λ (k : ℕ). 0xFFFF ≤ be16 s k) z (m.lengths i (omega arith))

meets_behind : (s : List ℕ) (q : ℕ) → 0xFFFF ≤ be16 s q → Meets s (q + 32767) → MeetsFull s q
meets_behind s q h m =
    let z : q + (m.before + 1) * 32767 ≡ q + 32767 + m.before * 32767 = omega arith in
    record { before = m.before; lengths = longer s q h m; full = ap (be16 s) z ∙ m.full }

meets_next : (s : List ℕ) (q : ℕ) → 0xFFFF ≤ be16 s q → Meets s (q + 32767) → Meets s q
meets_next s q h m =
    let f = meets_behind s q h m in
    record { before = f.before + 1; lengths = λ i l. f.lengths i (omega arith); full = f.full }

-- the reader's walk and salvage's are the same; or salvage's is whole, and comes to such a length
data Alike (Met : Type 0) : Walk → Walk → Type 0 where
  alike : (w : Walk) → Alike Met w w
  ended : (w : Walk) (gs : List Segment) → Met → Alike Met w (whole gs)

behind_alike : {Met Met' : Type 0} (g : Segment) {w w' : Walk} → (Met → Met') → Alike Met w w' → Alike Met' (behind g w) (behind g w')
behind_alike g f (alike w) = alike (behind g w)
behind_alike g f (ended w gs m) = ended (behind g w) (g ∷ gs) (f m)

-- what the two come to behind a continuation, by what they decide of it
module _ (f : ℕ) (s : List ℕ) (q : ℕ) where
  abbrev Parts : Chunk → Chunk → Type 0
  Parts c d = Alike (Meets s q) (step s q c (λ r. walk_fuel f Reader s r)) (step s q d (λ r. walk_fuel f Salvage s r))

  abbrev Decided : Type 0
  Decided = Parts (chunk_under Reader (be16 s q)) (chunk_under Salvage (be16 s q))

  decided : (c d : Chunk) → chunk_under Reader (be16 s q) ≡ c → chunk_under Salvage (be16 s q) ≡ d → Parts c d → Decided
  decided c d e k p = subst (λ (x : Chunk). Parts x (chunk_under Salvage (be16 s q))) (sym e) (subst (Parts c) (sym k) p)

  at_full : be16 s q ≡ 0x7FFF → Decided
  at_full e =
      decided Full Last (chunk_full_low (be16 s q) e) (chunk_last_full (be16 s q) (omega arith) (omega arith))
      (picks (Alike (Meets s q)) (leb 32767 (length s - q)) (leb (be16 s q) (length s - q)) (ap (λ (n : ℕ). leb n (length s - q)) (sym e))
      (λ t. ended _ _ (meets_here s q e)) (λ t. alike short))

  elsewhere : (be16 s q ≡ 0x7FFF → ⊥) → Alike (Meets s (q + 32767)) (walk_fuel f Reader s (q + 32767)) (walk_fuel f Salvage s (q + 32767)) → (c : Chunk) → chunk_under Reader (be16 s q) ≡ c → Decided
  elsewhere ne go Dead e = decided Dead Dead e (chunk_same (be16 s q) ne ∙ e) (alike _)
  elsewhere ne go Last e = decided Last Last e (chunk_same (be16 s q) ne ∙ e) (alike _)
  elsewhere ne go Full e =
      decided Full Full e (chunk_same (be16 s q) ne ∙ e)
      (picks (Alike (Meets s q)) (leb 32767 (length s - q)) (leb 32767 (length s - q)) refl
      (λ t. behind_alike (continuation q 32767) (meets_next s q (full_above (be16 s q) e ne)) go) (λ t. alike short))

fuel_alike : (f : ℕ) (s : List ℕ) (q : ℕ) → Alike (Meets s q) (walk_fuel f Reader s q) (walk_fuel f Salvage s q)
unfolding walk_fuel
fuel_alike zero s q = alike short
fuel_alike (suc f) s q =
    picks (Alike (Meets s q)) (ltb (length s - q) 2) (ltb (length s - q) 2) refl (λ e. alike short)
    (λ e. by (eqb (be16 s q) 0x7FFF) (λ t. at_full f s q (eqb-true (be16 s q) 0x7FFF t))
    (λ t. elsewhere f s q (eqb-false (be16 s q) 0x7FFF t) (fuel_alike f s (q + 32767)) (chunk_under Reader (be16 s q)) refl))

frame_alike : (s : List ℕ) (p : ℕ) → Alike (MeetsFull s p) (frame_walk Reader s p) (frame_walk Salvage s p)
unfolding frame_walk continuations
frame_alike s p =
    picks (Alike (MeetsFull s p)) (ltb (length s - p) 6) (ltb (length s - p) 6) refl (λ e. alike short)
    (λ e. picks (Alike (MeetsFull s p)) (eqb (be16 s p) 0xFFFF) (eqb (be16 s p) 0xFFFF) refl
    (λ t. picks (Alike (MeetsFull s p)) (leb 32767 (length s - p)) (leb 32767 (length s - p)) refl
    (λ u. behind_alike (first p 32767) (meets_behind s p (omega (arith, eqb-true (be16 s p) 0xFFFF t))) (fuel_alike (suc ((length s - (p + 32767)) / 32767)) s (p + 32767))) (λ u. alike short))
    (λ t. alike _))

-- where none is met, they are the same
pub walk_same : (s : List ℕ) (p : ℕ) → (MeetsFull s p → ⊥) → frame_walk Reader s p ≡ frame_walk Salvage s p
walk_same s p n = go (frame_alike s p)
  where
    go : {w w' : Walk} → Alike (MeetsFull s p) w w' → w ≡ w'
    go (alike w) = refl
    go (ended w gs m) = absurd (n m)

-- and where salvage's isn't whole
alike_short : {Met : Type 0} (w w' : Walk) → Alike Met w w' → w' ≡ short → w ≡ short
alike_short w w' (alike x) e = e
alike_short w w' (ended x gs m) e = let z : ◌≡◌ {A = ℕ} 0 1 = cc in absurd (omega arith)

alike_dead : {Met : Type 0} (w w' : Walk) (q : ℕ) → Alike Met w w' → w' ≡ dead q → w ≡ dead q
alike_dead w w' q (alike x) e = e
alike_dead w w' q (ended x gs m) e = let z : ◌≡◌ {A = ℕ} 0 1 = cc in absurd (omega arith)

pub tells_why : TellsWhy (λ s p. frame_end s p)
unfolding frame_end
tells_why = record {
  yet = λ s p i e. pick_yes _ _ (le-leb p (length s) i) ∙ ap (end_found p) (alike_short _ _ (frame_alike s p) e);
  never = λ s p q i e. pick_yes _ _ (le-leb p (length s) i) ∙ ap (end_found p) (alike_dead _ _ q (frame_alike s p) e);
}

-- ---- all frames, and all entries

-- what is read is a frame: the walk was whole
whole_read : (s : List ℕ) (p : ℕ) (f : Frame) → read_at Reader s p ≡ frame f → record { segments : List Segment; is : frame_walk Reader s p ≡ whole segments }
unfolding read_at
whole_read s p f e = go (leb p (length s)) (frame_walk Reader s p) refl e
  where
    go : (b : Bool) (w : Walk) → frame_walk Reader s p ≡ w → pick b (read_walk Reader s p w) (refused (out_of_bounds p (length s))) ≡ frame f
        → record { segments : List Segment; is : frame_walk Reader s p ≡ whole segments }
    go true (whole gs) j k = record { segments = gs; is = j }
    go true short j k = absurd (frame_refused f _ (sym k))
    go true (dead q) j k = absurd (frame_refused f _ (sym k))
    go false w j k = absurd (frame_refused f _ (sym k))

-- what salvage comes to is what reading does, if that is no refusal
abbrev Same : List ℕ → ℕ → AllRead → Salvaged → Type 0
Same s p (frames fs q) x = NoneFull s p fs → x ≡ record { entries = entries_of p fs; tail = q }
Same s p (refused_all r) x = Unit {0}

same_frame : (s : List ℕ) (p : ℕ) (f : Frame) (more : ℕ → Salvaged) → read_at Reader s p ≡ frame f → (a : AllRead) → Same s (end_of p f.segments) a (more (end_of p f.segments))
    → Same s p (before f a) (at_walk s p (frame_walk Salvage s p) (read_at Salvage s p) more)
unfolding NoneFull entries_of
same_frame s p f more e (refused_all r) go = tt
same_frame s p f more e (frames fs q) go = λ n.
    let w = whole_read s p f e in
    let alike : frame_walk Reader s p ≡ frame_walk Salvage s p = walk_same s p n.0 in
    ap₂ (λ (x : Walk) (y : Read). at_walk s p x y more) (sym alike ∙ w.is) (salvage_reads s p f alike e)
    ∙ ap (entry p (end_of p f.segments) (frame f)) (go n.1)

same_refused : (s : List ℕ) (p : ℕ) (r : Refused) (more : ℕ → Salvaged) → p ≤ length s → read_at Reader s p ≡ refused r → (b : Bool) → not_whole r.why ≡ b
    → Same s p (pick b (frames [] p) (refused_all r)) (at_walk s p (frame_walk Salvage s p) (read_at Salvage s p) more)
unfolding NoneFull entries_of
same_refused s p r more i e false k = tt
same_refused s p r more i e true k = λ n.
    ap (λ (x : Walk). at_walk s p x (read_at Salvage s p) more) (sym (walk_same s p n))
    ∙ by_walk (frame_walk Reader s p) refl
  where
    by_walk : (w : Walk) → frame_walk Reader s p ≡ w → at_walk s p w (read_at Salvage s p) more ≡ record { entries = []; tail = p }
    by_walk short j = refl
    by_walk (dead q) j = refl
    by_walk (whole gs) j = absurd ((unwhole_waits Reader s p i).0 (ap waits e ∙ k) gs j)

fuel_as_read : (f : ℕ) (s : List ℕ) (p : ℕ) → p ≤ length s → Same s p (frames_fuel f s p) (salvage_fuel f s p)
unfolding frames_fuel salvage_fuel entries_of
fuel_as_read zero s p i = λ n. refl
fuel_as_read (suc k) s p i = by_read (read_at Reader s p) refl (read_past Reader s p) (λ q l. fuel_as_read k s q l)
  where
    by_read : (x : Read) → read_at Reader s p ≡ x → OfFrame (Past s p (p + 6)) x → ((q : ℕ) → q ≤ length s → Same s q (frames_fuel k s q) (salvage_fuel k s q))
        → Same s p (and_on p x (λ q. frames_fuel k s q)) (at_walk s p (frame_walk Salvage s p) (read_at Salvage s p) (λ q. salvage_fuel k s q))
    by_read x e (is_frame f l) go = same_frame s p f (λ q. salvage_fuel k s q) e (frames_fuel k s (end_of p f.segments)) (go (end_of p f.segments) l.1)
    by_read x e (is_refused r) go = same_refused s p r (λ q. salvage_fuel k s q) i e (not_whole r.why) refl

pub salvages_as_read : SalvagesAsRead (λ s p. all_frames s p) salvaged
unfolding all_frames salvaged
salvages_as_read s fs q e = subst (λ (a : AllRead). Same s 0 a (salvage_fuel (suc (length s)) s 0)) e (fuel_as_read (suc (length s)) s 0 (omega arith))

-- ---- as many, the same bytes, the same records

pub entries_counted : (p : ℕ) (fs : List Frame) → length (entries_of p fs) ≡ length fs
unfolding entries_of
entries_counted p [] = refl
entries_counted p (f ∷ fs) = ap suc (entries_counted (end_of p f.segments) fs)

pub entries_bytes : (s : List ℕ) (p : ℕ) (fs : List Frame) → salvaged_bytes s (entries_of p fs) ≡ payloads_of s fs
unfolding entries_of salvaged_bytes payloads_of
entries_bytes s p [] = refl
entries_bytes s p (f ∷ fs) = ap (λ (b : List ℕ). payload_of s f.segments ++ b) (entries_bytes s (end_of p f.segments) fs)

pub entries_words : (s : List ℕ) (p at : ℕ) (fs : List Frame) → joined entry_words (salvaged_row s at (entries_of p fs)) ≡ joined record_words (frame_records s p at fs)
unfolding entries_of salvaged_row frame_records joined
entries_words s p at [] = refl
entries_words s p at (f ∷ fs) =
    ap (λ (w : List ℕ). record_words (frame_record s p at f) ++ w) (entries_words s (end_of p f.segments) (at + length (payload_of s f.segments)) fs)
