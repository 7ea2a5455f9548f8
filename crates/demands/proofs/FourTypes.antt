-- The readings with five types and with four: the same, unless the four-type reading refuses a type 5.
use Rattle.std.specs.Prelude.{Result, Ok, Err}
use Prim.Native.Nat.{ℕ, zero, suc, ◌+◌, ◌-◌, ◌%◌}
use native.Mathlib.Omega.{arith}
use mathlib.Core.Path.{◌≡◌, refl, sym, ap, subst, ◌∙◌}
use mathlib.Core.Bool.{Bool}
use mathlib.Core.Logic.{◌⊎◌, inl, inr}
use mathlib.Core.List.{List, [], ◌∷◌, ◌++◌}
use lib.Dec.{ltb, leb, eqb}
use lib.ListN.{length, get_or}
use borrow.Author.Tests.{ne_eqb, eqb-true, eqb-false}
use Rattle.wire.specs.Bytes.{be16}
use Rattle.wire.proofs.WireLaws.{by}
use Rattle.answer.specs.declared.Refused.{Refused}
use Rattle.dss_head.specs.Heads.{type_at, head_with, head_at}
use Rattle.dss_head.specs.declared.DssType.{DssType}
use Rattle.dss_head.specs.declared.DssType.TheVariants.{Communication}
use Rattle.dss_head.specs.declared.DssHeader.{DssHeader}
use Rattle.dss_frame.specs.declared.Rules.TheVariants.{Reader}
use Rattle.dss_frame.specs.Segments.{Segment, Walk, whole, short, dead, payload_of, end_of, frame_walk, continuations, walk_fuel}
use Rattle.dss_frame.specs.Reading.{Read, frame, refused, Look, finished, absorbs, refuses, look, look_at, with_chained, behind_frame, absorb, absorb_fuel, read_head, read_walk, read_at, starts_extended, if_whole}
use Rattle.dss_frame.specs.Frames.{AllRead, refused_all, before, and_on, frames_fuel, all_frames}
use Rattle.demands.proofs.Table.{p2}
use Rattle.demands.specs.FourTypes.{four_types, Heads, four_heads, look_by, absorb_by, read_head_by, read_by, all_fuel_by, all_by, TypesAsFour, type_five, FiveAt, SameOrFive, HeadsAsFour, ReadsAsFour, AllAsFour}
use Rattle.demands.proofs.LongerRuns.{picks}
use Rattle.demands.proofs.Impostors.{frame_refused}
use Rattle.demands.proofs.LayoutExamples.{unanswered}

-- ---- types and heads

pub types_as_four : TypesAsFour type_at
types_as_four format place h = rw (ne_eqb (format % 16) 5 h)

five_refused : (format place : ℕ) → format % 16 ≡ 5 → four_types format place ≡ Err (type_five place)
five_refused format place e = rw e

pub heads_as_four : HeadsAsFour head_at
heads_as_four s p =
    picks (SameOrFive s Err) (ltb (length s - p) 6) _ refl (λ _. inl refl)
    (λ _. picks (SameOrFive s Err) (eqb (get_or s (p + 2) 0) 0xD0) _ refl (λ u. typed (eqb-true _ _ u)) (λ _. inl refl))
  where
    typed : get_or s (p + 2) 0 ≡ 0xD0 → SameOrFive s Err (head_with s p (type_at (get_or s (p + 3) 0) p)) (head_with s p (four_types (get_or s (p + 3) 0) p))
    typed m =
        let b : ℕ = get_or s (p + 3) 0 in
        by (eqb (b % 16) 5)
        (λ e. inr (record { q = p; five = record { magic = m; type = eqb-true _ _ e }; is = ap (head_with s p) (five_refused b p (eqb-true _ _ e)) }))
        (λ e. inl (ap (head_with s p) (types_as_four b p (eqb-false _ _ e))))

-- ---- a reading over heads that are ours, or a refusal of a type 5 that stands somewhere

module _ (At : List ℕ → ℕ → Type 0) (heads : Heads) where
  -- `SameOrFive`, by what is known of the place
  abbrev Same : {A : Type 0} → List ℕ → (Refused → A) → A → A → Type 0
  Same s refusal ours other = (ours ≡ other) ⊎ record { q : ℕ; five : At s q; is : other ≡ refusal (type_five q) }

  -- what is made alike of what is read, by functions that pass that refusal on
  passed : {A B : Type 0} (s : List ℕ) (no-a : Refused → A) (no-b : Refused → B) (f g : A → B) → ((x : A) → Same s no-b (f x) (g x)) → ((q : ℕ) → g (no-a (type_five q)) ≡ no-b (type_five q))
      → (x y : A) → Same s no-a x y → Same s no-b (f x) (g y)
  passed {A} s no-a no-b f g alike on x y (inl e) = subst (λ (z : A). Same s no-b (f x) (g z)) e (alike x)
  passed s no-a no-b f g alike on x y (inr r) = inr (record { q = r.q; five = r.five; is = ap g r.is ∙ on r.q })

  module _ (heads-same : (s : List ℕ) (p : ℕ) → Same s Err (head_at s p) (heads s p)) (s : List ℕ) where
    look_same : (t : DssType) (extended : Bool) (q : ℕ) → Same s refuses (look Reader s t extended q) (look_by heads s t extended q)
    unfolding look look_by
    look_same t extended q =
        picks (Same s refuses) (ltb (length s - q) 6) _ refl (λ _. inl refl)
        (λ _. passed s Err refuses (look_at Reader s t extended q) (look_at Reader s t extended q) (λ _. inl refl) (λ _. refl) _ _ (heads-same s q))

    behind_same : (h : DssHeader) (gs : List Segment) (l m : Look) (more more' : DssHeader → List Segment → Read) → Same s refuses l m
        → ((h' : DssHeader) (gs' : List Segment) → Same s refused (more h' gs') (more' h' gs')) → Same s refused (behind_frame h gs l more) (behind_frame h gs m more')
    behind_same h gs l m more more' e on = passed s refuses refused (λ (x : Look). behind_frame h gs x more) (λ (x : Look). behind_frame h gs x more') go (λ _. refl) l m e
      where
        go : (x : Look) → Same s refused (behind_frame h gs x more) (behind_frame h gs x more')
        go finished = inl refl
        go (absorbs g c) = on (with_chained h c) (gs ++ (g ∷ []))
        go (refuses r) = inl refl

    absorb_same : (fuel p : ℕ) (h : DssHeader) (gs : List Segment) → Same s refused (absorb_fuel fuel Reader s p h gs) (absorb_by heads fuel s p h gs)
    unfolding absorb_fuel absorb_by
    absorb_same zero p h gs = inl refl
    absorb_same (suc fuel) p h gs =
        behind_same h gs _ _ _ _ (look_same h.dss_type (starts_extended (payload_of s gs)) (end_of p gs)) (λ h' gs'. absorb_same fuel p h' gs')

    head_same : (p : ℕ) (gs : List Segment) → Same s refused (read_head Reader s p gs (head_at s p)) (read_head_by heads s p gs (heads s p))
    unfolding absorb
    head_same p gs = passed s Err refused (read_head Reader s p gs) (read_head_by heads s p gs) go (λ _. refl) _ _ (heads-same s p)
      where
        go : (x : Result DssHeader Refused) → Same s refused (read_head Reader s p gs x) (read_head_by heads s p gs x)
        go (Err r) = inl refl
        go (Ok h) =
            picks (Same s refused) (ltb (be16 s p) 6) _ refl (λ _. inl refl)
            (λ _. picks (Same s refused) (eqb (be16 s p) 0xFFFF) _ refl (λ _. inl refl) (λ _. absorb_same (length s) p h gs))

    read_same : (p : ℕ) → Same s refused (read_at Reader s p) (read_by heads s p)
    unfolding read_at read_by
    read_same p = picks (Same s refused) (leb p (length s)) _ refl (λ _. go (frame_walk Reader s p)) (λ _. inl refl)
      where
        go : (w : Walk) → Same s refused (read_walk Reader s p w) (if_whole p refused (λ gs. read_head_by heads s p gs (heads s p)) w)
        go short = inl refl
        go (dead q) = inl refl
        go (whole gs) = head_same p gs

    on_same : (p : ℕ) (more more' : ℕ → AllRead) → ((q : ℕ) → Same s refused_all (more q) (more' q)) → Same s refused_all (and_on p (read_at Reader s p) more) (and_on p (read_by heads s p) more')
    on_same p more more' on = passed s refused refused_all (λ (x : Read). and_on p x more) (λ (x : Read). and_on p x more') go (λ _. refl) _ _ (read_same p)
      where
        go : (x : Read) → Same s refused_all (and_on p x more) (and_on p x more')
        go (refused r) = inl refl
        go (frame f) = passed s refused_all refused_all (before f) (before f) (λ _. inl refl) (λ _. refl) _ _ (on (end_of p f.segments))

    fuel_same : (fuel p : ℕ) → Same s refused_all (frames_fuel fuel s p) (all_fuel_by heads fuel s p)
    unfolding frames_fuel all_fuel_by
    fuel_same zero p = inl refl
    fuel_same (suc fuel) p = on_same p _ _ (λ q. fuel_same fuel q)

    all_same : (p : ℕ) → Same s refused_all (all_frames s p) (all_by heads s p)
    unfolding all_frames all_by
    all_same p = fuel_same (suc (length s)) p

pub reads_as_four : ReadsAsFour (read_at Reader)
reads_as_four s p = read_same FiveAt four_heads heads_as_four s p

pub all_as_four : AllAsFour all_frames
all_as_four s p = all_same FiveAt four_heads heads_as_four s p

-- over heads of five types the readings are the reader's own
nowhere : List ℕ → ℕ → Type 0
nowhere s q = ⊥

never : {A : Type 0} (refusal : Refused → A) (s : List ℕ) (x y : A) → Same nowhere head_at s refusal x y → y ≡ x
unfolding nowhere
never refusal s x y (inl e) = sym e
never refusal s x y (inr f) = absurd f.five

pub reads_by_five : (s : List ℕ) (p : ℕ) → read_by head_at s p ≡ read_at Reader s p
reads_by_five s p = never refused s _ _ (read_same nowhere head_at (λ _ _. inl refl) s p)

pub all_by_five : (s : List ℕ) (p : ℕ) → all_by head_at s p ≡ all_frames s p
all_by_five s p = never refused_all s _ _ (all_same nowhere head_at (λ _ _. inl refl) s p)

-- ---- met: `0006D0050007` the four-type reading refuses, so at an object's place behind a reply; `0006D0020007` both read

met : (read_by four_heads unanswered 0 ≡ refused (type_five 0))
    × (read_by four_heads (p2 ++ unanswered) 0 ≡ refused (type_five 6))
    × (all_by four_heads (p2 ++ unanswered) 0 ≡ refused_all (type_five 6))
    × (read_by four_heads p2 0 ≡ read_at Reader p2 0)
unfolding read_at absorb absorb_fuel look read_by absorb_by look_by all_by all_fuel_by payload_of end_of frame_walk continuations walk_fuel
met = (refl, refl, refl, refl)

types_met : (0xF4 % 16 ≡ 5 → ⊥) × (type_at 0xF4 0 ≡ Ok Communication) × (four_types 0xF4 0 ≡ Ok Communication)
types_met = (λ e. omega arith, refl, refl)

-- ---- ruled out: a reader that takes every type for a type 5 and refuses it, and a type reading that refuses a communication

pub no_refusing_all : ReadsAsFour (λ s p. refused (type_five p)) → ⊥
unfolding read_by absorb_by look_by payload_of end_of frame_walk continuations walk_fuel
no_refusing_all all = go (all p2 0)
  where
    go : SameOrFive p2 refused (refused (type_five 0)) (read_by four_heads p2 0) → ⊥
    go (inl e) = frame_refused (read_by four_heads p2 0) _ (type_five 0) refl (sym e)
    go (inr f) = frame_refused (read_by four_heads p2 0) _ (type_five f.q) refl f.is

pub no_three_types : (types : ℕ → ℕ → Result DssType Refused) → types 4 0 ≡ Err (type_five 0) → TypesAsFour types → ⊥
no_three_types types e all = absurd (let z : Ok Communication ≡ Err (type_five 0) = sym (all 4 0 (λ k. omega arith)) ∙ e in let k : ◌≡◌ {A = ℕ} 0 1 = cc in omega arith)
