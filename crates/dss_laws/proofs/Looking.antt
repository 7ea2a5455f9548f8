-- The equations of `absorb`, with the count gone.
use Rattle.std.specs.Prelude.{Result, Ok, Err}
use Prim.Native.Nat.{ℕ, zero, suc, ◌+◌, ◌-◌, ◌≤◌, ◌<◌}
use native.Mathlib.Omega.{arith}
use mathlib.Core.Path.{◌≡◌, refl, sym, ap, ◌∙◌}
use mathlib.Core.Bool.{Bool}
use mathlib.Core.List.{List, [], ◌∷◌, ◌++◌}
use lib.Dec.{ltb, leb, eqb}
use lib.ListN.{length}
use borrow.Author.Tests.{lt-ltb, ltb-false, leb-true}
use Rattle.wire.specs.Bytes.{be16}
use Rattle.answer.specs.declared.Refused.{Refused}
use Rattle.dss_head.specs.Heads.{head_at}
use Rattle.dss_head.specs.declared.DssType.{DssType}
use Rattle.dss_head.specs.declared.DssHeader.{DssHeader}
use Rattle.dss_frame.specs.declared.Rules.{Rules}
use Rattle.dss_frame.specs.declared.Rules.TheVariants.{Reader, Salvage}
use Rattle.dss_frame.specs.Segments.{Segment, payload_of, end_of}
use Rattle.dss_frame.specs.Reading.{Look, finished, absorbs, refuses, look, look_at, refusal, frame, refused, follows, own_object, starts_extended, dropped_at, with_chained, behind_frame, absorb, absorb_fuel}
use Rattle.wire.proofs.WireLaws.{pick_yes, pick_by}
use Rattle.dss_laws.proofs.Ends.{end_snoc}

-- what a look that absorbs has found: at least six bytes, and they are there
pub record TakenLook (s : List ℕ) (q : ℕ) (g : Segment) : Type 0 where
  pub six : q + 6 ≤ g.end
  pub there : g.end ≤ length s

-- a look that absorbs absorbs what is there; of any other nothing is said
pub data SoundLook (s : List ℕ) (q : ℕ) : Look → Type 0 where
  finishes : SoundLook s q finished
  takes : (g : Segment) (c : Bool) → TakenLook s q g → SoundLook s q (absorbs g c)
  stops : (r : Refused) → SoundLook s q (refuses r)

sound_refusal : (rules : Rules) (s : List ℕ) (q : ℕ) (r : Refused) → SoundLook s q (refusal rules r)
sound_refusal Reader s q r = stops r
sound_refusal Salvage s q r = finishes

taken : (s : List ℕ) (q d : ℕ) → 6 ≤ length s - q → be16 s q ≤ length s - q → 6 ≤ be16 s q → TakenLook s q (record { at = q; framing = 6; dropped = d; end = q + be16 s q })
taken s q d l a b = record { six = omega arith; there = omega arith }

sound_at : (rules : Rules) (s : List ℕ) (t : DssType) (extended : Bool) (q : ℕ) (h : Result DssHeader Refused) → 6 ≤ length s - q → SoundLook s q (look_at rules s t extended q h)
sound_at rules s t extended q (Err r) l = sound_refusal rules s q r
sound_at rules s t extended q (Ok h) l =
    pick_by (SoundLook s q) (eqb (be16 s q) 65535) _ _ (λ e. finishes)
    (λ e. pick_by (SoundLook s q) h.flags.same_correlation _ _
    (λ e₁. pick_by (SoundLook s q) (follows t h.dss_type) _ _
    (λ e₂. pick_by (SoundLook s q) (leb (be16 s q) (length s - q)) _ _
    (λ e₃. pick_by (SoundLook s q) (ltb (be16 s q) 6) _ _ (λ e₄. sound_refusal rules s q _)
    (λ e₄. pick_by (SoundLook s q) (own_object s q) _ _ (λ e₅. finishes)
    (λ e₅. takes _ _ (taken s q (dropped_at s extended q) l (leb-true _ _ e₃) (ltb-false _ _ e₄)))))
    (λ e₃. finishes))
    (λ e₂. finishes))
    (λ e₁. finishes))

pub look_sound : (rules : Rules) (s : List ℕ) (t : DssType) (extended : Bool) (q : ℕ) → SoundLook s q (look rules s t extended q)
unfolding look
look_sound rules s t extended q =
    pick_by (SoundLook s q) _ _ _ (λ e. finishes) (λ e. sound_at rules s t extended q (head_at s q) (ltb-false _ _ e))

-- nothing is left to look at
pub look_nothing : (rules : Rules) (s : List ℕ) (q : ℕ) → length s - q < 6 → (t : DssType) (extended : Bool) → look rules s t extended q ≡ finished
unfolding look
look_nothing rules s q h t extended = pick_yes _ _ (lt-ltb (length s - q) 6 h)

-- fuel that suffices is as good as any other that does
enough : (f g : ℕ) (rules : Rules) (s : List ℕ) (p : ℕ) (h : DssHeader) (gs : List Segment) → length s - end_of p gs ≤ f → length s - end_of p gs ≤ g
    → absorb_fuel f rules s p h gs ≡ absorb_fuel g rules s p h gs
unfolding absorb_fuel
enough zero zero rules s p h gs a b = refl
enough zero (suc g) rules s p h gs a b = sym (ap (λ (l : Look). behind_frame h gs l (λ h' gs'. absorb_fuel g rules s p h' gs')) (look_nothing rules s (end_of p gs) (omega arith) _ _))
enough (suc f) zero rules s p h gs a b = ap (λ (l : Look). behind_frame h gs l (λ h' gs'. absorb_fuel f rules s p h' gs')) (look_nothing rules s (end_of p gs) (omega arith) _ _)
enough (suc f) (suc g) rules s p h gs a b =
    by_look (look rules s h.dss_type (starts_extended (payload_of s gs)) (end_of p gs)) (look_sound rules s h.dss_type (starts_extended (payload_of s gs)) (end_of p gs))
    (λ g' c k. enough f g rules s p (with_chained h c) (gs ++ (g' ∷ [])) (rw end_snoc (omega arith)) (rw end_snoc (omega arith)))
  where
    by_look : (l : Look) → SoundLook s (end_of p gs) l
        → ((g' : Segment) (c : Bool) → TakenLook s (end_of p gs) g'
        → absorb_fuel f rules s p (with_chained h c) (gs ++ (g' ∷ [])) ≡ absorb_fuel g rules s p (with_chained h c) (gs ++ (g' ∷ [])))
        → behind_frame h gs l (λ h' gs'. absorb_fuel f rules s p h' gs') ≡ behind_frame h gs l (λ h' gs'. absorb_fuel g rules s p h' gs')
    by_look l finishes go = refl
    by_look l (takes g' c k) go = go g' c k
    by_look l (stops r) go = refl

-- ---- the equations that a reader expects

-- what a look says is done
pub absorb_step : (rules : Rules) (s : List ℕ) (p : ℕ) (h : DssHeader) (gs : List Segment)
    → absorb rules s p h gs ≡ behind_frame h gs (look rules s h.dss_type (starts_extended (payload_of s gs)) (end_of p gs)) (absorb rules s p)
unfolding absorb absorb_fuel
absorb_step rules s p h gs =
    enough (length s) (suc (length s)) rules s p h gs (omega arith) (omega arith)

look_as : (rules : Rules) (s : List ℕ) (p : ℕ) (h : DssHeader) (gs : List Segment) (l : Look) → look rules s h.dss_type (starts_extended (payload_of s gs)) (end_of p gs) ≡ l
    → absorb rules s p h gs ≡ behind_frame h gs l (absorb rules s p)
look_as rules s p h gs l e = absorb_step rules s p h gs ∙ ap (λ (k : Look). behind_frame h gs k (absorb rules s p)) e

-- "finished"
pub absorb_finished : (rules : Rules) (s : List ℕ) (p : ℕ) (h : DssHeader) (gs : List Segment) → look rules s h.dss_type (starts_extended (payload_of s gs)) (end_of p gs) ≡ finished
    → absorb rules s p h gs ≡ frame (record { head = h; segments = gs })
absorb_finished rules s p h gs e = look_as rules s p h gs finished e

-- "absorbs"
pub absorb_absorbs : (rules : Rules) (s : List ℕ) (p : ℕ) (h : DssHeader) (gs : List Segment) (g : Segment) (c : Bool)
    → look rules s h.dss_type (starts_extended (payload_of s gs)) (end_of p gs) ≡ absorbs g c
    → absorb rules s p h gs ≡ absorb rules s p (with_chained h c) (gs ++ (g ∷ []))
absorb_absorbs rules s p h gs g c e = look_as rules s p h gs (absorbs g c) e

-- "refuses"
pub absorb_refuses : (rules : Rules) (s : List ℕ) (p : ℕ) (h : DssHeader) (gs : List Segment) (r : Refused)
    → look rules s h.dss_type (starts_extended (payload_of s gs)) (end_of p gs) ≡ refuses r → absorb rules s p h gs ≡ refused r
absorb_refuses rules s p h gs r e = look_as rules s p h gs (refuses r) e
