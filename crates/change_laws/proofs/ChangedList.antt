-- The theorems of document 02, W-204, over lists.
use Rattle.std.specs.Prelude.{Option, Some, None}
use Prim.Native.Nat.{ℕ, ◌+◌, ◌^◌, ◌<◌}
use native.Mathlib.Omega.{arith}
use mathlib.Core.Path.{◌≡◌, refl, sym, ◌∙◌, ap, ap₂, subst}
use mathlib.Core.Logic.{◌⊎◌, inl, inr}
use mathlib.Core.List.{List, ◌∷◌, ◌++◌}
use lib.ListN.{length, take, drop, length-append}
use lib.Seq.{take_at, drop_at, drop-append-add}
use Rattle.ddm_builder.specs.Built.{built, built_size}
use Rattle.ddm_builder.proofs.BuiltForms.{length_built}
use Rattle.ddm_object.specs.Objects.{Object, parameters}
use Rattle.ddm_object.proofs.ObjectReads.{made}
use Rattle.ddm_laws.proofs.LayoutLaws.{built_reads}
use Rattle.ddm_laws.proofs.BuiltLists.{BuiltPieces, more, reached, pieces_parameters, pieces_reach}
use Rattle.ddm_change.specs.Change.{fault_from, first_from, changed, faulty, lacking, rewritten_at, unless_faulty, change_of}
use Rattle.change_laws.proofs.SoundData.{sound_pieces, pieces_sound, pieces_append, LacksParam, Split, split, first_there, first_Nowhere}

-- ---- what changing comes to, each way

module _ (cp : ℕ) (new : List ℕ) where
  -- 17
  pub change_faulty : (d : List ℕ) (place : ℕ) → fault_from d 0 (parameters d) ≡ Some place → change_of d cp new ≡ faulty place
  unfolding change_of
  change_faulty d place e = ap (λ x. unless_faulty x (rewritten_at d cp new (first_from cp 0 (parameters d)))) e

  -- 11
  pub change_lacking : (d : List ℕ) {os : List Object} → BuiltPieces d os → LacksParam cp os → change_of d cp new ≡ lacking
  unfolding change_of
  change_lacking d {os} ps l =
      let e : parameters d ≡ os = pieces_parameters ps in
      ap (λ x. unless_faulty x (rewritten_at d cp new (first_from cp 0 (parameters d)))) (ap (fault_from d 0) e ∙ pieces_sound d 0 refl (omega arith) ps)
      ∙ ap (rewritten_at d cp new) (ap (first_from cp 0) e ∙ first_Nowhere cp 0 os l)

  -- 0: "All bytes before and after that parameter are copied as they are"
  pub change_there : {d : List ℕ} {os : List Object} (x : Split cp d os) → change_of d cp new ≡ changed (x.head ++ (built cp new ++ x.rest))
  unfolding change_of
  change_there {d} {os} x =
      let whole : BuiltPieces (x.head ++ (x.old ++ x.rest)) (x.before ++ (x.one ∷ x.after)) = pieces_append x.head_reads (more x.old_reads x.rest_reads) in
      let ps : BuiltPieces d (x.before ++ (x.one ∷ x.after)) = subst (λ (b : List ℕ). BuiltPieces b (x.before ++ (x.one ∷ x.after))) (sym x.bytes) whole in
      let e : parameters d ≡ x.before ++ (x.one ∷ x.after) = pieces_parameters ps in
      let n : ℕ = 0 + reached x.before in
      let m : ℕ = n + x.one.consumed in
      let ln : length x.head ≡ n = omega (arith, pieces_reach x.head_reads) in
      let lm : m ≡ length x.head + length x.old = omega (arith, x.old_reads.whole) in
      ap (λ y. unless_faulty y (rewritten_at d cp new (first_from cp 0 (parameters d)))) (ap (fault_from d 0) e ∙ pieces_sound d 0 refl (omega arith) ps)
      ∙ ap (rewritten_at d cp new) (ap (first_from cp 0) e ∙ first_there cp 0 x.before x.one x.after x.lacks x.has)
      ∙ ap (λ (b : List ℕ). changed (take n b ++ (built cp new ++ drop m b))) x.bytes
      ∙ ap₂ (λ (a b : List ℕ). changed (a ++ (built cp new ++ b))) (take_at x.head (x.old ++ x.rest) n ln)
      (ap (λ (k : ℕ). drop k (x.head ++ (x.old ++ x.rest))) lm ∙ drop-append-add x.head (x.old ++ x.rest) (length x.old) ∙ drop_at x.old x.rest (length x.old) refl)

-- ---- what changed data are

-- the data after, over a split of the data before
pub record ChangedAs (d : List ℕ) (cp : ℕ) (new b : List ℕ) : Type 0 where
  pub at : Split cp d (parameters d)
  pub bytes : b ≡ at.head ++ (built cp new ++ at.rest)

never : {P : Type 0} {b : List ℕ} {place : ℕ} → faulty place ≡ changed b → P
never e = absurd (let z : ◌≡◌ {A = ℕ} 0 1 = cc in omega arith)

never' : {P : Type 0} {b : List ℕ} → lacking ≡ changed b → P
never' e = absurd (let z : ◌≡◌ {A = ℕ} 0 1 = cc in omega arith)

pub changed_as : (d : List ℕ) (cp : ℕ) (new b : List ℕ) → change_of d cp new ≡ changed b → ChangedAs d cp new b
changed_as d cp new b e = go (fault_from d 0 (parameters d)) refl
  where
    sound : Split cp d (parameters d) ⊎ LacksParam cp (parameters d) → BuiltPieces d (parameters d) → ChangedAs d cp new b
    sound (inl x) ps = record { at = x; bytes = cc (change_there cp new x, e) }
    sound (inr l) ps = never' (sym (change_lacking cp new d ps l) ∙ e)

    go : (f : Option ℕ) → fault_from d 0 (parameters d) ≡ f → ChangedAs d cp new b
    go None q = let ps : BuiltPieces d (parameters d) = sound_pieces d q in sound (split cp ps) ps
    go (Some place) q = never (sym (change_faulty cp new d place q) ∙ e)

-- a split whose parameter is another one
module _ (cp : ℕ) (new : List ℕ) (small : cp < 65536) (few : length new < 2 ^ 63) where
  abbrev pub new_object : Object
  new_object = made cp new (length (built cp new))

  abbrev pub resplit : {d : List ℕ} {os : List Object} (x : Split cp d os) → Split cp (x.head ++ (built cp new ++ x.rest)) (x.before ++ (new_object ∷ x.after))
  resplit x = record {
    head = x.head;
    old = built cp new;
    rest = x.rest;
    before = x.before;
    one = new_object;
    after = x.after;
    bytes = refl;
    list = refl;
    head_reads = x.head_reads;
    old_reads = built_reads cp new small few;
    rest_reads = x.rest_reads;
    lacks = x.lacks;
    has = refl;
  }

  split_pieces : {d : List ℕ} {os : List Object} (x : Split cp d os) → BuiltPieces (x.head ++ (built cp new ++ x.rest)) (x.before ++ (new_object ∷ x.after))
  split_pieces x = pieces_append x.head_reads (more (built_reads cp new small few) x.rest_reads)

  module _ (d b : List ℕ) (c : ChangedAs d cp new b) where
    -- "the list of parameters read from the result is the old list with that one place changed"
    pub parameters_changed : (parameters d ≡ c.at.before ++ (c.at.one ∷ c.at.after)) × (parameters b ≡ c.at.before ++ (new_object ∷ c.at.after))
    parameters_changed = (c.at.list, ap parameters c.bytes ∙ pieces_parameters (split_pieces c.at))

    -- as many as before
    pub same_count : length (parameters b) ≡ length (parameters d)
    same_count =
        ap length parameters_changed.1 ∙ length-append c.at.before (new_object ∷ c.at.after)
        ∙ sym (ap length parameters_changed.0 ∙ length-append c.at.before (c.at.one ∷ c.at.after))

    -- and they reach the end still
    pub reached_changed : reached (parameters b) ≡ length b
    reached_changed = ap reached parameters_changed.1 ∙ pieces_reach (split_pieces c.at) ∙ ap length (sym c.bytes)

    -- the room that is needed: without the old parameter, with the new one
    pub need : length b + c.at.one.consumed ≡ length d + built_size (length new)
    unfolding built_size
    need =
        omega (
          arith,
          ap length c.bytes,
          length-append c.at.head (built cp new ++ c.at.rest),
          length-append (built cp new) c.at.rest,
          length_built cp new,
          ap length c.at.bytes,
          length-append c.at.head (c.at.old ++ c.at.rest),
          length-append c.at.old c.at.rest,
          c.at.old_reads.whole,
        )

    -- what was changed can be changed again, and that is changing once with the last
    pub change_again : (other : List ℕ) → change_of b cp other ≡ change_of d cp other
    change_again other =
        ap (λ (x : List ℕ). change_of x cp other) c.bytes ∙ change_there cp other (resplit c.at) ∙ sym (change_there cp other c.at)

-- ---- changing to what it is

-- a parameter that has the builder's form, changed to its own data: nothing changes
pub change_own : (d : List ℕ) (cp : ℕ) (x : Split cp d (parameters d)) → x.old ≡ built cp x.one.content → change_of d cp x.one.content ≡ changed d
change_own d cp x e =
    change_there cp x.one.content x ∙ ap (λ (p : List ℕ). changed (x.head ++ (p ++ x.rest))) (sym e) ∙ ap changed (sym x.bytes)
