-- The laws of taking a frame that absorbs what follows it, one for each answer of a look.
use Rattle.std.specs.Prelude.{None, Some, Result, Ok, Err}
use Prim.Native.Nat.{ℕ, zero, suc, ◌+◌, ◌-◌, ◌≤◌, ◌<◌}
use native.Mathlib.Nat.{add-zero}
use native.Mathlib.Omega.{arith}
use mathlib.Core.Path.{◌≡◌, refl, sym, ap, ap₂, subst, ◌∙◌}
use mathlib.Core.Bool.{Bool, false}
use mathlib.Core.List.{List, [], ◌∷◌, ◌++◌, append_assoc, append-nil}
use lib.Dec.{ltb, leb, eqb}
use lib.ListN.{length, take, drop, length-append}
use lib.Seq.{length-take-le, take_at, drop_at, get_or-take}
use borrow.Author.Tests.{le-leb, lt-leb}
use Rattle.wire.specs.Bytes.{be16, part}
use Rattle.wire.proofs.WireLaws.{pick_by, be16_same, part_length}
use Rattle.answer.specs.declared.Refused.{Refused}
use Rattle.dss_head.specs.Heads.{head_at}
use Rattle.dss_head.specs.declared.DssType.{DssType}
use Rattle.dss_head.specs.declared.DssHeader.{DssHeader}
use Rattle.dss_frame.specs.declared.Rules.{Rules}
use Rattle.dss_frame.specs.declared.Rules.TheVariants.{Reader, Salvage}
use Rattle.dss_frame.specs.Segments.{Segment, first, payload_of, end_of}
use Rattle.dss_frame.specs.Reading.{Look, finished, absorbs, refuses, refusal, look, look_at, follows, own_object, starts_extended, Frame, Read, frame, read_at, with_chained, behind_frame, absorb, absorb_fuel}
use Rattle.dss_laws.proofs.Bounds.{OfFrame, is_frame, is_refused}
use Rattle.dss_laws.proofs.Ends.{end_snoc, payload_append, payload_one}
use Rattle.dss_laws.proofs.Looking.{absorb_absorbs}
use Rattle.dss_measure.specs.declared.Absorbed.{Absorbed}
use Rattle.dss_measure.specs.declared.FrameMeasure.{FrameMeasure}
use Rattle.dss_measure.specs.inner.Walking.{looked_of, payload_so_far}
use Rattle.dss_measure.specs.Measure.{measure_of, measured_of}
use Rattle.dss_measure.proofs.Absorbing.{behind_at, Absorbing, absorbing_finished, absorbing_refused, absorbing_there}
use Rattle.dss_take.specs.Take.{payload_at}
use Rattle.dss_take.specs.inner.Payloads.{FitsRoom, Typed}
use Rattle.dss_take.proofs.PayloadLaws.{payload_is, Next}
use Rattle.dss_take.proofs.TakenFrames.{Single, single}

-- ---- what a look absorbs

-- a segment that is absorbed starts where the look is, with six bytes of framing
abbrev Here : ℕ → Look → Type 0
Here q finished = Unit
Here q (absorbs g c) = (g.at ≡ q) × (g.framing ≡ 6)
Here q (refuses r) = Unit

here_refusal : (rules : Rules) (q : ℕ) (r : Refused) → Here q (refusal rules r)
here_refusal Reader q r = tt
here_refusal Salvage q r = tt

here_at : (rules : Rules) (s : List ℕ) (t : DssType) (x : Bool) (q : ℕ) (f : Result DssHeader Refused) → Here q (look_at rules s t x q f)
here_at rules s t x q (Err r) = here_refusal rules q r
here_at rules s t x q (Ok h) =
    pick_by (Here q) (eqb (be16 s q) 65535) _ _ (λ _. tt)
    (λ _. pick_by (Here q) h.flags.same_correlation _ _
    (λ _. pick_by (Here q) (follows t h.dss_type) _ _
    (λ _. pick_by (Here q) (leb (be16 s q) (length s - q)) _ _
    (λ _. pick_by (Here q) (ltb (be16 s q) 6) _ _ (λ _. here_refusal rules q _)
    (λ _. pick_by (Here q) (own_object s q) _ _ (λ _. tt) (λ _. (refl, refl))))
    (λ _. tt))
    (λ _. tt))
    (λ _. tt))

look_here : (rules : Rules) (s : List ℕ) (t : DssType) (x : Bool) (q : ℕ) → Here q (look rules s t x q)
unfolding look
look_here rules s t x q = pick_by (Here q) (ltb (length s - q) 6) _ _ (λ _. tt) (λ _. here_at rules s t x q (head_at s q))

-- so the code's answer says which segment it is
absorbs_is : (q : ℕ) (a : Absorbed) (l : Look) → Here q l → looked_of l ≡ Ok (Some a) → l ≡ absorbs (behind_at q a.dropped a.end) a.chained
absorbs_is q a finished h k = let z : ◌≡◌ {A = ℕ} 0 1 = cc in absurd (omega arith)
absorbs_is q a (absorbs g b) h k =
    let x : g.dropped ≡ a.dropped = cc in
    let y : g.end ≡ a.end = cc in
    let z : b ≡ a.chained = cc in
    λ i. absorbs (record { at = h.0 i; framing = h.1 i; dropped = x i; end = y i }) (z i)
absorbs_is q a (refuses r) h k = let z : ◌≡◌ {A = ℕ} 0 1 = cc in absurd (omega arith)

-- ---- what absorbing keeps

-- a frame's segments start with these, and its head has this one's type
record Grows (h : DssHeader) (gs : List Segment) (f : Frame) : Type 0 where
  more : List Segment
  segments : f.segments ≡ gs ++ more
  typed : f.head.dss_type ≡ h.dss_type

grows_on : (h : DssHeader) (c : Bool) (gs : List Segment) (g : Segment) (r : Read) → OfFrame (Grows (with_chained h c) (gs ++ (g ∷ []))) r → OfFrame (Grows h gs) r
grows_on h c gs g r (is_frame f w) =
    is_frame f (record { more = g ∷ w.more; segments = w.segments ∙ append_assoc gs (g ∷ []) w.more; typed = w.typed })
grows_on h c gs g r (is_refused x) = is_refused x

grows_fuel : (k : ℕ) (rules : Rules) (s : List ℕ) (p : ℕ) (h : DssHeader) (gs : List Segment) → OfFrame (Grows h gs) (absorb_fuel k rules s p h gs)
unfolding absorb_fuel
grows_fuel zero rules s p h gs = is_frame _ (record { more = []; segments = sym (append-nil gs); typed = refl })
grows_fuel (suc k) rules s p h gs =
    by_look (look rules s h.dss_type (starts_extended (payload_of s gs)) (end_of p gs)) (λ g c. grows_fuel k rules s p (with_chained h c) (gs ++ (g ∷ [])))
  where
    by_look : (l : Look) → ((g : Segment) (c : Bool) → OfFrame (Grows (with_chained h c) (gs ++ (g ∷ []))) (absorb_fuel k rules s p (with_chained h c) (gs ++ (g ∷ []))))
        → OfFrame (Grows h gs) (behind_frame h gs l (λ h' gs'. absorb_fuel k rules s p h' gs'))
    by_look finished go = is_frame _ (record { more = []; segments = sym (append-nil gs); typed = refl })
    by_look (absorbs g c) go = grows_on h c gs g _ (go g c)
    by_look (refuses r) go = is_refused r

of_frame : (P : Frame → Type 0) (r : Read) (f : Frame) → OfFrame P r → r ≡ frame f → P f
of_frame P r f (is_frame x w) e = let z : x ≡ f = cc in subst P z w
of_frame P r f (is_refused x) e = let z : ◌≡◌ {A = ℕ} 0 1 = cc in absurd (omega arith)

absorb_grows : (rules : Rules) (s : List ℕ) (p : ℕ) (h : DssHeader) (gs : List Segment) (f : Frame) → absorb rules s p h gs ≡ frame f → Grows h gs f
unfolding absorb
absorb_grows rules s p h gs f e = of_frame (Grows h gs) _ f (grows_fuel (length s) rules s p h gs) e

-- ---- the payload so far, read off the room

module _ (room : List ℕ) (fill : ℕ) (h : fill ≤ length room) where
  pub extended_short : fill < 4 → starts_extended (take fill room) ≡ false
  extended_short l = rw (lt-leb 4 (length (take fill room)) (omega (arith, length-take-le fill room h)))

  pub extended_read : 4 ≤ fill → (n : ℕ) → n ≡ be16 room 0 → starts_extended (take fill room) ≡ eqb n 0x8004
  extended_read l n e =
      rw (le-leb 4 (length (take fill room)) (omega (arith, length-take-le fill room h)))
      (ap (λ (x : ℕ). eqb x 0x8004) (be16_same (take fill room) room 0 0 (get_or-take fill room 0 0 (omega arith)) (get_or-take fill room 1 0 (omega arith)) ∙ sym e))

-- ---- the state

-- The frame at p is what is read on from a head of type t and some segments, which end at q and hold `fill` bytes.
pub record TakingFrame (rules : Rules) (s : List ℕ) (p : ℕ) (t : DssType) (q fill : ℕ) : Type 0 where
  pub head : DssHeader
  pub segments : List Segment
  pub typed : head.dss_type ≡ t
  pub same : read_at rules s p ≡ absorb rules s p head segments
  pub ends : q ≡ end_of p segments
  pub size : fill ≡ length (payload_of s segments)

module _ {rules : Rules} {s : List ℕ} {p : ℕ} {room : List ℕ} (v : FitsRoom rules s p room) where
  -- what is read on from some segments starts with their payload
  payload_on : (h : DssHeader) (gs : List Segment) → read_at rules s p ≡ absorb rules s p h gs
      → (rest : List ℕ) × (payload_at rules s p ≡ payload_of s gs ++ rest)
  payload_on h gs k =
      let w : Grows h gs v.read = absorb_grows rules s p h gs v.read (sym k ∙ v.is) in
      (payload_of s w.more, payload_is v ∙ ap (payload_of s) w.segments ∙ payload_append s gs w.more)

  -- the first segment comes first, and then what is read on from it
  pub taking_first : {t : DssType} {raw : ℕ} → Typed rules s p t → raw ≡ be16 s p → (be16 s p ≡ 65535 → ⊥)
      → Next s (payload_at rules s p) 0 (p + 6) (p + raw) × TakingFrame rules s p t (p + raw) (raw - 6)
  unfolding end_of
  taking_first {t} {raw} j i k =
      let u : Single rules s p v.read = single rules s p v.read v.is k in
      let g : Segment = first p raw in
      let same : read_at rules s p ≡ absorb rules s p u.head (g ∷ []) = v.is ∙ sym u.reads ∙ ap (λ (n : ℕ). absorb rules s p u.head (first p n ∷ [])) (sym i) in
      let one : payload_of s (g ∷ []) ≡ part s (p + 6) (p + raw) = payload_one s g ∙ ap (λ (a : ℕ). part s a (p + raw)) (add-zero (p + 6)) in
      let there : p + raw ≤ length s = omega (arith, u.there) in
      let on = payload_on u.head (g ∷ []) same in (
        record { order = omega (arith, u.six); there = there; rest = on.0; splits = on.1 ∙ ap (λ (x : List ℕ). x ++ on.0) one },
        record {
          head = u.head;
          segments = g ∷ [];
          typed = sym (absorb_grows rules s p u.head (g ∷ []) v.read (sym same ∙ v.is)).typed ∙ j v.read v.is;
          same = same;
          ends = refl;
          size = sym (ap length one ∙ part_length s (p + 6) (p + raw) there ∙ omega arith);
        },
      )

  module _ {t : DssType} {q fill : ℕ} (w : TakingFrame rules s p t q fill) {x : Bool} (i : x ≡ starts_extended (take fill (payload_at rules s p))) where
    extended : x ≡ starts_extended (payload_of s w.segments)
    extended =
        let on = payload_on w.head w.segments w.same in
        i ∙ ap starts_extended (ap (take fill) on.1 ∙ take_at (payload_of s w.segments) on.0 fill (sym w.size))

    -- the same state, as measuring has it
    measuring : Absorbing rules s p (read_at rules s p) w.head (length w.segments) q (payload_so_far (payload_of s w.segments))
    measuring = record { segments = w.segments; same = w.same; counted = refl; ends = w.ends; holds = refl }

    looked : looked_of (look rules s w.head.dss_type x q) ≡ looked_of (look rules s t x q)
    looked = ap (λ (u : DssType). looked_of (look rules s u x q)) w.typed

    -- "finished": the payload so far is all
    pub taking_finished : looked_of (look rules s t x q) ≡ Ok None → fill ≡ length (payload_at rules s p)
    taking_finished l =
        let n : FrameMeasure = record { header = w.head; payload_len = length (payload_of s w.segments); segments = length w.segments; end = q } in
        let m : Ok (measure_of s p v.read) ≡ Ok n = sym (ap (measured_of s p) v.is) ∙ absorbing_finished rules s p (read_at rules s p) _ _ _ _ x measuring extended (looked ∙ l) in
        let z : measure_of s p v.read ≡ n = cc in
        w.size ∙ sym (ap length (payload_is v) ∙ ap (λ (y : FrameMeasure). y.payload_len) z)

    -- "refused": it isn't
    pub taking_refused : (r : Refused) → looked_of (look rules s t x q) ≡ Err r → ⊥
    taking_refused r l =
        let m : Ok (measure_of s p v.read) ≡ Err r = sym (ap (measured_of s p) v.is) ∙ absorbing_refused rules s p (read_at rules s p) _ _ _ _ x measuring extended r (looked ∙ l) in
        let z : ◌≡◌ {A = ℕ} 0 1 = cc in omega arith

    -- "absorbs": what it adds comes next, and then what is read on from there
    pub taking_absorbs : {b : Absorbed} → looked_of (look rules s t x q) ≡ Ok (Some b)
        → Next s (payload_at rules s p) fill (q + 6 + b.dropped) b.end × TakingFrame rules s p t b.end (fill + (b.end - (q + 6 + b.dropped)))
    taking_absorbs {b} l =
        let d : ℕ = b.dropped in
        let n : ℕ = b.end in
        let c : Bool = b.chained in
        let gs : List Segment = w.segments in
        let g : Segment = behind_at q d n in
        let y : List ℕ = part s (q + 6 + d) n in
        let a : (q + 6 + d ≤ n) × (n ≤ length s) = absorbing_there rules s p (read_at rules s p) _ _ _ _ x measuring extended b (looked ∙ l) in
        let k : look rules s w.head.dss_type x q ≡ absorbs g c = absorbs_is q b _ (look_here rules s w.head.dss_type x q) (looked ∙ l) in
        let same : read_at rules s p ≡ absorb rules s p (with_chained w.head c) (gs ++ (g ∷ [])) =
        w.same
        ∙ absorb_absorbs rules s p w.head gs g c (ap₂ (λ (y : Bool) (j : ℕ). look rules s w.head.dss_type y j) (sym extended) (sym w.ends) ∙ k) in
        let more : payload_of s (gs ++ (g ∷ [])) ≡ payload_of s gs ++ y = payload_append s gs (g ∷ []) ∙ ap (λ (j : List ℕ). payload_of s gs ++ j) (payload_one s g) in
        let on = payload_on (with_chained w.head c) (gs ++ (g ∷ [])) same in (
          record {
            order = a.0;
            there = a.1;
            rest = on.0;
            splits =
                ap (drop fill) (on.1 ∙ ap (λ (j : List ℕ). j ++ on.0) more ∙ append_assoc (payload_of s gs) y on.0)
                ∙ drop_at (payload_of s gs) (y ++ on.0) fill (sym w.size);
          },
          record {
            head = with_chained w.head c;
            segments = gs ++ (g ∷ []);
            typed = w.typed;
            same = same;
            ends = sym (end_snoc p gs g);
            size = ap₂ (λ (j m : ℕ). j + m) w.size (sym (part_length s (q + 6 + d) n a.1)) ∙ sym (ap length more ∙ length-append (payload_of s gs) y);
          },
        )
