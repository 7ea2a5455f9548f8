-- The laws of a look at what follows a frame, one for each answer.
use Rattle.std.specs.Prelude.{Result, Ok}
use Prim.Native.Nat.{ℕ, ◌+◌, ◌-◌, ◌≤◌, ◌<◌}
use native.Mathlib.Omega.{arith}
use mathlib.Core.Path.{◌≡◌, sym, ap, ◌∙◌}
use mathlib.Core.Bool.{Bool, true, false}
use mathlib.Core.List.{List}
use lib.Dec.{leb, ltb, eqb}
use lib.ListN.{length}
use borrow.Author.Tests.{le-ltb, lt-ltb, le-leb, lt-leb, eq-eqb, ne_eqb}
use Rattle.wire.specs.Bytes.{pick, and, be16, marker}
use Rattle.wire.proofs.WireLaws.{pick_yes, pick_no, and_no}
use Rattle.answer.specs.declared.Refusal.TheVariants.{LengthTooShort}
use Rattle.dss_head.specs.Heads.{head_at, type_byte}
use Rattle.dss_head.specs.declared.DssType.{DssType}
use Rattle.dss_head.specs.declared.DssType.TheVariants.{Object}
use Rattle.dss_head.specs.declared.DssHeader.{DssHeader}
use Rattle.dss_frame.specs.declared.Rules.{Rules}
use Rattle.dss_frame.specs.Reading.{finished, absorbs, look, look_at, refusal, follows, own_object, dropped_at}
use Rattle.answer.specs.declared.Refused.{Refused}

-- ---- which types follow

module _ (t next : DssType) where
  pub follows_own : type_byte next ≡ type_byte t → follows t next ≡ true
  follows_own e = rw (eq-eqb (type_byte next) (type_byte t) e)

  pub follows_other : (type_byte next ≡ type_byte t → ⊥) → (type_byte next ≡ type_byte Object → ⊥) → follows t next ≡ false
  follows_other n o = rw (ne_eqb (type_byte next) (type_byte t) n, ne_eqb (type_byte next) (type_byte Object) o)

  pub follows_object : type_byte next ≡ type_byte Object → follows t next ≡ follows t Object
  follows_object e = rw e

-- ---- an object of its own

module _ (s : List ℕ) (q raw : ℕ) (e : raw ≡ be16 s q) where
  pub own_short : raw ≤ 10 → own_object s q ≡ false
  own_short h = rw (le-ltb 10 (be16 s q) (omega arith))

  pub own_low : 10 < raw → be16 s (q + 8) ≤ 0x0100 → own_object s q ≡ false
  own_low h k = rw (lt-ltb 10 (be16 s q) (omega arith), le-ltb 0x0100 (be16 s (q + 8)) k)

  pub own_fits : 10 < raw → 0x0100 < be16 s (q + 8) → own_object s q ≡ leb (be16 s (q + 6)) (raw - 2)
  own_fits h k = rw (lt-ltb 10 (be16 s q) (omega arith), lt-ltb 0x0100 (be16 s (q + 8)) k, e)

-- ---- the dropped marker

module _ (s : List ℕ) (extended : Bool) (q : ℕ) where
  pub dropped_plain : extended ≡ false → dropped_at s extended q ≡ 0
  dropped_plain h = rw h

  module _ (raw : ℕ) (e : raw ≡ be16 s q) where
    pub dropped_short : raw < 8 → dropped_at s extended q ≡ 0
    dropped_short h =
        pick_no _ _ (ap (λ (b : Bool). and extended (and b (marker (be16 s (q + 6))))) (lt-leb 8 (be16 s q) (omega arith)) ∙ and_no extended)

    module _ (h : extended ≡ true) (l : 8 ≤ raw) where
      pub dropped_two : marker (be16 s (q + 6)) ≡ true → dropped_at s extended q ≡ 2
      dropped_two m = rw (h, le-leb 8 (be16 s q) (omega arith), m)

      pub dropped_none : marker (be16 s (q + 6)) ≡ false → dropped_at s extended q ≡ 0
      dropped_none m = rw (h, le-leb 8 (be16 s q) (omega arith), m)

-- ---- a head behind a frame

module _ (rules : Rules) (s : List ℕ) (t : DssType) (extended : Bool) (q : ℕ) (h : DssHeader) (raw : ℕ) (e : raw ≡ be16 s q) where
  -- "Raw 0xFFFF"
  pub looks_several : raw ≡ 65535 → look_at rules s t extended q (Ok h) ≡ finished
  looks_several k = pick_yes _ _ (eq-eqb (be16 s q) 65535 (sym e ∙ k))

  module _ (k : raw ≡ 65535 → ⊥) where
    one : eqb (be16 s q) 65535 ≡ false
    one = ne_eqb (be16 s q) 65535 (λ l. k (e ∙ l))

    -- "or same correlation clear: finished"
    pub looks_other : h.flags.same_correlation ≡ false → look_at rules s t extended q (Ok h) ≡ finished
    looks_other c = pick_no _ _ one ∙ pick_no _ _ c

    module _ (c : h.flags.same_correlation ≡ true) where
      -- "Finished unless the type equals the first frame's, or is object after a first reply or request"
      pub looks_type : follows t h.dss_type ≡ false → look_at rules s t extended q (Ok h) ≡ finished
      looks_type f = pick_no _ _ one ∙ pick_yes _ _ c ∙ pick_no _ _ f

      module _ (f : follows t h.dss_type ≡ true) where
        -- "Length beyond the run: finished"
        pub looks_beyond : length s - q < raw → look_at rules s t extended q (Ok h) ≡ finished
        looks_beyond l =
            pick_no _ _ one ∙ pick_yes _ _ c ∙ pick_yes _ _ f ∙ pick_no _ _ (lt-leb (be16 s q) (length s - q) (omega arith))

-- what holds of a head that comes to a look at its segment: it has the same correlation and a type that follows, and its bytes are there
pub record Comes (s : List ℕ) (t : DssType) (q : ℕ) (h : DssHeader) (raw : ℕ) : Type 0 where
  pub raw_is : raw ≡ be16 s q
  pub one : raw ≡ 65535 → ⊥
  pub same : h.flags.same_correlation ≡ true
  pub typed : follows t h.dss_type ≡ true
  pub there : raw ≤ length s - q

module _ (rules : Rules) (s : List ℕ) (t : DssType) (extended : Bool) (q : ℕ) (h : DssHeader) (raw : ℕ) (w : Comes s t q h raw) where
  comes : look_at rules s t extended q (Ok h)
      ≡ pick (ltb raw 6) (refusal rules (record { why = LengthTooShort raw; place = q }))
      (pick (own_object s q) finished
      (absorbs (record { at = q; framing = 6; dropped = dropped_at s extended q; end = q + raw }) h.flags.chained))
  comes =
      pick_no _ _ (ne_eqb (be16 s q) 65535 (λ l. w.one (w.raw_is ∙ l)))
      ∙ pick_yes _ _ w.same
      ∙ pick_yes _ _ w.typed
      ∙ pick_yes _ _ (le-leb (be16 s q) (length s - q) (omega (arith, w.raw_is, w.there)))
      ∙ ap (λ (n : ℕ). pick (ltb n 6) (refusal rules (record { why = LengthTooShort n; place = q }))
      (pick (own_object s q) finished
      (absorbs (record { at = q; framing = 6; dropped = dropped_at s extended q; end = q + n }) h.flags.chained))) (sym w.raw_is)

  -- "Length 0 to 5: refusal 7, position at that head"
  pub looks_short : raw < 6 → look_at rules s t extended q (Ok h) ≡ refusal rules (record { why = LengthTooShort raw; place = q })
  looks_short m = comes ∙ pick_yes _ _ (lt-ltb raw 6 m)

  -- "finished, it is an object of its own"
  pub looks_own : 6 ≤ raw → own_object s q ≡ true → look_at rules s t extended q (Ok h) ≡ finished
  looks_own m o = comes ∙ pick_no _ _ (le-ltb raw 6 m) ∙ pick_yes _ _ o

  -- "Else absorb it"
  pub looks_absorbs : (d : ℕ) → d ≡ dropped_at s extended q → 6 ≤ raw → own_object s q ≡ false
      → look_at rules s t extended q (Ok h) ≡ absorbs (record { at = q; framing = 6; dropped = d; end = q + raw }) h.flags.chained
  looks_absorbs d z m o =
      comes ∙ pick_no _ _ (le-ltb raw 6 m) ∙ pick_no _ _ o
      ∙ ap (λ (x : ℕ). absorbs (record { at = q; framing = 6; dropped = x; end = q + raw }) h.flags.chained) (sym z)

-- ---- a look

-- "Fewer than six bytes left: finished"; else the head there decides
pub look_head : (rules : Rules) (s : List ℕ) (t : DssType) (extended : Bool) (q : ℕ) (f : Result DssHeader Refused) → 6 ≤ length s - q → f ≡ head_at s q
    → look rules s t extended q ≡ look_at rules s t extended q f
unfolding look
look_head rules s t extended q f h e = pick_no _ _ (le-ltb (length s - q) 6 h) ∙ ap (look_at rules s t extended q) (sym e)
