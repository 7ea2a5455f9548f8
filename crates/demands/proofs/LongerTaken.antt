-- When a frame may be taken while bytes still come in: once a whole frame stands behind it, and what waiting for that costs.
use Rattle.std.specs.Prelude.{Result, Ok, Err}
use Prim.Native.Nat.{ℕ, zero, suc, ◌-◌, ◌≤◌}
use mathlib.Core.Path.{◌≡◌, refl, sym, ap, subst, ◌∙◌}
use mathlib.Core.Logic.{inr}
use mathlib.Core.Bool.{Bool, true, false}
use mathlib.Core.List.{List, [], ◌++◌, append-nil}
use lib.Dec.{ltb, leb, eqb}
use lib.ListN.{length}
use borrow.Author.Tests.{ne_eqb}
use Rattle.wire.specs.Bytes.{pick, be16}
use Rattle.wire.proofs.WireLaws.{true_false, pick_by, pick_no, pick_same}
use Rattle.answer.specs.Rooms.{out_of_bounds}
use Rattle.answer.specs.declared.Refused.{Refused}
use Rattle.dss_head.specs.Heads.{head_at}
use Rattle.dss_head.specs.declared.DssType.{DssType}
use Rattle.dss_head.specs.declared.DssHeader.{DssHeader}
use Rattle.dss_frame.specs.declared.Rules.TheVariants.{Reader as AsReader, Salvage as AsSalvage}
use Rattle.dss_frame.specs.Segments.{Segment, Walk, whole, short, dead, payload_of, end_of, frame_walk}
use Rattle.dss_frame.specs.Reading.{Look, finished, absorbs, refuses, look, look_at, Read, frame, refused, Frame, follows, own_object, starts_extended, behind_frame, absorb, absorb_fuel, read_head, read_walk, read_at}
use Rattle.dss_reader.specs.Reader.{end_found, frame_end, is_end}
use Rattle.demands.specs.Demands.{Reader}
use Rattle.demands.specs.Longer.{SettledStay, OfHead, Grown, goes_on, refused_behind, FramesGrow, Complete, WholeBehindSettles, TakenStay, Begins, WaitingLosesNothing, SalvageKeepsWaiting, EarlyStay}
use Rattle.demands.specs.Mending.{decided}
use Rattle.dss_laws.proofs.Looking.{absorb_finished}
use Rattle.demands.proofs.LongerRuns.{SameBytes}
use Rattle.demands.proofs.LongerLooks.{unsettled_short, apart_finished}
use Rattle.demands.proofs.Longer.{absorb_grown, Becomes, same_refusal, same_frame, open_frame, not_whole_lem, read_becomes, frame_refused, same_refused, same_framed, inside, settled_stay, frames_grow}

-- ---- taken once a whole frame stands behind it

-- `has_complete_frame` at a place
abbrev pub complete : Complete
complete s q = is_end (frame_end s q)

short_no_end : (s : List ℕ) (q : ℕ) → frame_walk AsReader s q ≡ short → is_end (frame_end s q) ≡ false
unfolding frame_end
short_no_end s q k = pick_by (λ (x : Result ℕ Refused). is_end x ≡ false) (leb q (length s)) _ _ (λ e. ap (λ (w : Walk). is_end (end_found q w)) k) (λ e. refl)

pub whole_behind_settles : WholeBehindSettles complete
whole_behind_settles s p f e =
    let q : ℕ = end_of p f.segments in
    inr (λ u. true_false (is_end (frame_end s q)) e (short_no_end s q (unsettled_short AsReader s f.head.dss_type q u)))

-- any reader whose settled frames stay, by any such test
pub taken_stay : (reads : Reader) (test : Complete) → SettledStay reads → WholeBehindSettles test → TakenStay reads test
taken_stay reads test stay settles s t p f e k = stay s t p f e (settles s p f k)

pub reader_taken_stay : TakenStay (read_at AsReader) complete
reader_taken_stay = taken_stay (read_at AsReader) complete (settled_stay AsReader) whole_behind_settles

-- a frame behind it that is never whole settles it too
short_undecided : (s : List ℕ) (q : ℕ) → frame_walk AsReader s q ≡ short → decided (frame_end s q) ≡ false
unfolding frame_end
short_undecided s q k = pick_by (λ (x : Result ℕ Refused). decided x ≡ false) (leb q (length s)) _ _ (λ e. ap (λ (w : Walk). decided (end_found q w)) k) (λ e. refl)

pub decided_behind_settles : WholeBehindSettles (λ s q. decided (frame_end s q))
decided_behind_settles s p f e =
    let q : ℕ = end_of p f.segments in
    inr (λ u. true_false (decided (frame_end s q)) e (short_undecided s q (unsettled_short AsReader s f.head.dss_type q u)))

pub reader_decided_stay : TakenStay (read_at AsReader) (λ s q. decided (frame_end s q))
reader_decided_stay = taken_stay (read_at AsReader) (λ s q. decided (frame_end s q)) (settled_stay AsReader) decided_behind_settles

-- ---- what waiting costs

grown_begins : (s t : List ℕ) (p : ℕ) (f : Frame) (x : Read) → Grown s t p f x
    → ((g : Frame) → x ≡ frame g → Begins s t f g) × ((r : Refused) → x ≡ refused r → OfHead r × (end_of p f.segments ≤ r.place))
grown_begins s t p f x (goes_on c more e) = (
  (λ g k. subst (Begins s t f) (same_framed _ g k) (record { type = refl; correlation = refl; more = payload_of (s ++ t) more; payload = e })),
  (λ r k. absurd (frame_refused _ r k)),
)
grown_begins s t p f x (refused_behind r n l) = (
  (λ g k. absurd (frame_refused g r (sym k))),
  (λ r₁ k. subst (λ (z : Refused). OfHead z × (end_of p f.segments ≤ z.place)) (same_refused r r₁ k) (n, l)),
)

-- any reader whose frames grow
pub waiting_loses_nothing : (reads : Reader) → FramesGrow reads → WaitingLosesNothing reads
waiting_loses_nothing reads grow s t p f e = grown_begins s t p f (reads (s ++ t) p) (grow s t p f e)

pub reader_loses_nothing : WaitingLosesNothing (read_at AsReader)
reader_loses_nothing = waiting_loses_nothing (read_at AsReader) (frames_grow AsReader)

-- ---- taken early

pub early_stay : EarlyStay (read_at AsReader)
early_stay s t p f e a = go (read_at AsReader s p) (read_at AsReader (s ++ t) p) (read_becomes AsReader s t p (inside AsReader s p f e)) e
  where
    go : (x y : Read) → Becomes AsReader s t p x y → x ≡ frame f → (y ≡ frame f) × SameBytes s t f.segments
    go x y (same_refusal r n) k = absurd (frame_refused f r (sym k))
    go x y (same_frame g b) k = (k, subst (λ (h : Frame). SameBytes s t h.segments) (same_framed g f k) b)
    go x y (open_frame g z u v b w) k =
        let j : g ≡ f = same_framed g f k in (
          w ∙ ap (λ (h : Frame). absorb AsReader (s ++ t) p h.head h.segments) j
              ∙ absorb_finished AsReader (s ++ t) p f.head f.segments (apart_finished AsReader (s ++ t) f.head.dss_type _ (end_of p f.segments) a),
          subst (λ (h : Frame). SameBytes s t h.segments) j b,
        )
    go x y (not_whole_lem z) k = absurd (frame_refused f _ (sym k))

-- ---- salvage has what waited

-- where the reader's look doesn't refuse, salvage's is the same, and salvage's never refuses
data Both : Look → Look → Type 0 where
  done : Both finished finished
  takes : (g : Segment) (c : Bool) → Both (absorbs g c) (absorbs g c)
  closes : (r : Refused) → Both (refuses r) finished

both_at : (s : List ℕ) (type : DssType) (extended : Bool) (q : ℕ) (h : Result DssHeader Refused) → Both (look_at AsReader s type extended q h) (look_at AsSalvage s type extended q h)
both_at s type extended q (Err r) = closes r
both_at s type extended q (Ok h) =
    both (eqb (be16 s q) 65535) done
    (both h.flags.same_correlation
    (both (follows type h.dss_type)
    (both (leb (be16 s q) (length s - q)) (both (ltb (be16 s q) 6) (closes _) (both (own_object s q) done (takes _ _))) done)
    done)
    done)
  where
    both : (b : Bool) {x x' y y' : Look} → Both x x' → Both y y' → Both (pick b x y) (pick b x' y')
    both true u v = u
    both false u v = v

both_looks : (s : List ℕ) (type : DssType) (extended : Bool) (q : ℕ) → Both (look AsReader s type extended q) (look AsSalvage s type extended q)
unfolding look
both_looks s type extended q = go (ltb (length s - q) 6)
  where
    go : (b : Bool) → Both (pick b finished (look_at AsReader s type extended q (head_at s q))) (pick b finished (look_at AsSalvage s type extended q (head_at s q)))
    go true = done
    go false = both_at s type extended q (head_at s q)

-- a frame, whatever it is
data Framed : Read → Type 0 where
  framed : (f : Frame) → Framed (frame f)

salvage_frames : (k : ℕ) (s : List ℕ) (p : ℕ) (h : DssHeader) (gs : List Segment) → Framed (absorb_fuel k AsSalvage s p h gs)
unfolding absorb_fuel
salvage_frames zero s p h gs = framed _
salvage_frames (suc k) s p h gs =
    by_look _ _ (both_looks s h.dss_type (starts_extended (payload_of s gs)) (end_of p gs)) (λ h' gs'. salvage_frames k s p h' gs')
  where
    by_look : (l₁ l₂ : Look) → Both l₁ l₂ → ((h' : DssHeader) (gs' : List Segment) → Framed (absorb_fuel k AsSalvage s p h' gs'))
        → Framed (behind_frame h gs l₂ (λ h' gs'. absorb_fuel k AsSalvage s p h' gs'))
    by_look l₁ l₂ done go = framed _
    by_look l₁ l₂ (takes g c) go = go _ _
    by_look l₁ l₂ (closes r) go = framed _

-- what the reader reads, salvage reads, where the walks are the same
salvage_absorbs : (k : ℕ) (s : List ℕ) (p : ℕ) (h : DssHeader) (gs : List Segment) (f : Frame) → absorb_fuel k AsReader s p h gs ≡ frame f → absorb_fuel k AsSalvage s p h gs ≡ frame f
unfolding absorb_fuel
salvage_absorbs zero s p h gs f e = e
salvage_absorbs (suc k) s p h gs f e =
    by_look _ _ (both_looks s h.dss_type (starts_extended (payload_of s gs)) (end_of p gs)) e (λ h' gs'. salvage_absorbs k s p h' gs' f)
  where
    by_look : (l₁ l₂ : Look) → Both l₁ l₂ → behind_frame h gs l₁ (λ h' gs'. absorb_fuel k AsReader s p h' gs') ≡ frame f
        → ((h' : DssHeader) (gs' : List Segment) → absorb_fuel k AsReader s p h' gs' ≡ frame f → absorb_fuel k AsSalvage s p h' gs' ≡ frame f)
        → behind_frame h gs l₂ (λ h' gs'. absorb_fuel k AsSalvage s p h' gs') ≡ frame f
    by_look l₁ l₂ done j go = j
    by_look l₁ l₂ (takes g c) j go = go _ _ j
    by_look l₁ l₂ (closes r) j go = absurd (frame_refused f r (sym j))

-- the walk over one segment goes by no rules
walk_one : (s : List ℕ) (p : ℕ) → (be16 s p ≡ 0xFFFF → ⊥) → frame_walk AsReader s p ≡ frame_walk AsSalvage s p
unfolding frame_walk
walk_one s p ne = pick_same (ltb (length s - p) 6) (λ e. refl) (λ e. pick_no _ _ (ne_eqb (be16 s p) 65535 ne) ∙ sym (pick_no _ _ (ne_eqb (be16 s p) 65535 ne)))

salvage_head : (s : List ℕ) (p : ℕ) (gs : List Segment) (x : Result DssHeader Refused) (f : Frame) → read_head AsReader s p gs x ≡ frame f → read_head AsSalvage s p gs x ≡ frame f
unfolding absorb
salvage_head s p gs (Err r) f e = e
salvage_head s p gs (Ok h) f e = go (ltb (be16 s p) 6) (eqb (be16 s p) 65535) _ e
  where
    go : (a b : Bool) (r : Read) → pick a r (pick b (frame (record { head = h; segments = gs })) (absorb_fuel (length s) AsReader s p h gs)) ≡ frame f
        → pick a r (pick b (frame (record { head = h; segments = gs })) (absorb_fuel (length s) AsSalvage s p h gs)) ≡ frame f
    go true b r j = j
    go false true r j = j
    go false false r j = salvage_absorbs (length s) s p h gs f j

pub salvage_reads : (s : List ℕ) (p : ℕ) (f : Frame) → frame_walk AsReader s p ≡ frame_walk AsSalvage s p → read_at AsReader s p ≡ frame f → read_at AsSalvage s p ≡ frame f
unfolding read_at
salvage_reads s p f same e = go (leb p (length s)) e
  where
    by_walk : (w : Walk) → read_walk AsReader s p w ≡ frame f → read_walk AsSalvage s p w ≡ frame f
    by_walk short j = j
    by_walk (dead q) j = j
    by_walk (whole gs) j = salvage_head s p gs (head_at s p) f j

    go : (b : Bool) → pick b (read_walk AsReader s p (frame_walk AsReader s p)) (refused (out_of_bounds p (length s))) ≡ frame f
        → pick b (read_walk AsSalvage s p (frame_walk AsSalvage s p)) (refused (out_of_bounds p (length s))) ≡ frame f
    go true j = ap (read_walk AsSalvage s p) (sym same) ∙ by_walk (frame_walk AsReader s p) j
    go false j = j

abbrev Kept : List ℕ → List ℕ → Frame → Read → Type 0
Kept s t f x = record { read : Frame; is : x ≡ frame read; begins : Begins s t f read }

kept_frame : (s t : List ℕ) (p : ℕ) (f : Frame) (x : Read) → Framed x → Grown s t p f x → Kept s t f x
kept_frame s t p f x (framed g) w = record { read = g; is = refl; begins = (grown_begins s t p f (frame g) w).0 g refl }

pub salvage_keeps_waiting : SalvageKeepsWaiting (read_at AsReader) (read_at AsSalvage)
unfolding absorb
salvage_keeps_waiting s t p f ne e =
    let j : read_at AsSalvage s p ≡ frame f = salvage_reads s p f (walk_one s p ne) e in go (read_at AsSalvage s p) (read_at AsSalvage (s ++ t) p) (read_becomes AsSalvage s t p (inside AsSalvage s p f j)) j
  where
    go : (x y : Read) → Becomes AsSalvage s t p x y → x ≡ frame f → Kept s t f y
    go x y (same_refusal r n) k = absurd (frame_refused f r (sym k))
    go x y (same_frame g b) k =
        subst (λ (h : Frame). Kept s t h (frame g)) (same_framed g f k)
        (record { read = g; is = refl; begins = record { type = refl; correlation = refl; more = []; payload = b ∙ sym (append-nil _) } })
    go x y (open_frame g z u v b w) k =
        subst (λ (h : Frame). Kept s t h z) (same_framed g f k)
        (kept_frame s t p g z (subst Framed (sym w) (salvage_frames (length (s ++ t)) (s ++ t) p g.head g.segments))
        (subst (Grown s t p g) (sym w) (absorb_grown AsSalvage s t p g.head g.segments b)))
    go x y (not_whole_lem z) k = absurd (frame_refused f _ (sym k))
