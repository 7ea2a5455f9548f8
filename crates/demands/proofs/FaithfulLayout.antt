-- Demand 2's clause on layouts: the layout says what was sent. Bytes that are laid out for two structures are laid out for
-- structures that are the same.
use Prim.Native.Nat.{ℕ, ◌+◌, ◌*◌, ◌/◌, ◌%◌, ◌≤◌, ◌<◌}
use native.Mathlib.Omega.{arith}
use mathlib.Core.Path.{◌≡◌, refl, sym, ap, ap₂, subst, ◌∙◌}
use mathlib.Core.Bool.{Bool, true, false}
use mathlib.Core.List.{List, ◌++◌}
use lib.ListN.{length, get_or, take, drop}
use lib.Seq.{take_at, drop_at}
use borrow.Author.Tests.{eq-eqb, ne_eqb}
use Rattle.wire.specs.Bytes.{pick, be16, two}
use Rattle.dss_head.specs.Heads.{bit}
use Rattle.layouts.specs.DssLayout.{Structure, Allowed, Continued, ends, goes_on, Dss, one, several, format, rest}
use Rattle.demands.specs.DssLayouts.{LayoutFixes}

-- ---- the format byte says type and flags

most : (set : Bool) → pick set 1 0 ≤ 1
most true = omega arith
most false = omega arith

weigh : (set : Bool) (weight : ℕ) → pick set weight 0 ≡ weight * pick set 1 0
weigh true weight = omega arith
weigh false weight = omega arith

told : (set : Bool) (weight b : ℕ) → b / weight % 2 ≡ pick set 1 0 → bit weight b ≡ set
told true weight b e = eq-eqb (b / weight % 2) 1 e
told false weight b e = ne_eqb (b / weight % 2) 1 (omega arith)

-- what a format byte says
pub record Told (w : Structure) (b : ℕ) : Type 0 where
  pub type : b % 16 ≡ w.type
  pub chained : bit 0x40 b ≡ w.chained
  pub on_error_is : bit 0x20 b ≡ w.on_error
  pub same : bit 0x10 b ≡ w.same
  pub reserved : b < 0x80

pub format_told : (w : Structure) → w.type ≤ 5 → Told w (format w)
format_told w h =
    let c : ℕ = pick w.chained 1 0 in
    let d : ℕ = pick w.on_error 1 0 in
    let m : ℕ = pick w.same 1 0 in
    let c₁ : c ≤ 1 = most w.chained in
    let d₁ : d ≤ 1 = most w.on_error in
    let m₁ : m ≤ 1 = most w.same in
    let e : format w ≡ 64 * c + 32 * d + 16 * m + w.type = omega (arith, weigh w.chained 0x40, weigh w.on_error 0x20, weigh w.same 0x10) in
    let x : format w / 0x40 % 2 ≡ c = omega arith in
    let y : format w / 0x20 % 2 ≡ d = omega arith in
    let z : format w / 0x10 % 2 ≡ m = omega arith in
    record {
      type = omega arith;
      chained = told w.chained 0x40 (format w) x;
      on_error_is = told w.on_error 0x20 (format w) y;
      same = told w.same 0x10 (format w) z;
      reserved = omega arith;
    }

-- bytes that are laid out for a structure keep the rules, and say its format and its correlation
pub allowed_in : {w : Structure} {b : List ℕ} → Dss w b → Allowed w
allowed_in (one a h) = a
allowed_in (several a b more bytes e h c) = a

format_at : {w : Structure} {b : List ℕ} → Dss w b → get_or b 3 0 ≡ format w
format_at (one a h) = refl
format_at (several a b more bytes e h c) = refl

pub told_at : {w : Structure} {b : List ℕ} → Dss w b → Told w (get_or b 3 0)
told_at {w} l = subst (Told w) (sym (format_at l)) (format_told w (allowed_in l).type.1)

pub correlation_at : {w : Structure} {b : List ℕ} → Dss w b → be16 b 4 ≡ w.correlation
correlation_at (one a h) = let k = a.correlation in omega arith
correlation_at (several a b more bytes e h c) = let k = a.correlation in omega arith

-- ---- the payload

-- two lists cut at one length
front : (n : ℕ) (a b x y : List ℕ) → length a ≡ n → length b ≡ n → a ++ x ≡ b ++ y → a ≡ b
front n a b x y h k e = sym (take_at a x n h) ∙ ap (take n) e ∙ take_at b y n k

back : (n : ℕ) (a b x y : List ℕ) → length a ≡ n → length b ≡ n → a ++ x ≡ b ++ y → x ≡ y
back n a b x y h k e = sym (drop_at a x n h) ∙ ap (drop n) e ∙ drop_at b y n k

data Cases (s m : List ℕ) : Type 0 where
  last : s ≡ two (length m + 2) ++ m → length m + 2 ≤ 32767 → Cases s m
  more : (b r n : List ℕ) → s ≡ two 65535 ++ (b ++ r) → m ≡ b ++ n → length b + 2 ≡ 32767 → Continued r n → Cases s m

cases : {s m : List ℕ} → Continued s m → Cases s m
cases (ends b h) = last refl h
cases (goes_on b rest more' h c) = more b rest more' refl refl h c

-- a length field of at most 0x7FFF is not 0xFFFF
apart : (n : ℕ) (x y : List ℕ) → n ≤ 32767 → two n ++ x ≡ two 65535 ++ y → ⊥
apart n x y h e = let z : be16 (two n ++ x) 0 ≡ be16 (two 65535 ++ y) 0 = ap (λ (l : List ℕ). be16 l 0) e in omega arith

same_continued : {s m : List ℕ} → Continued s m → (m' : List ℕ) → Continued s m' → m ≡ m'
same_continued (ends b h) m' c = go (cases c)
  where
    go : Cases (two (length b + 2) ++ b) m' → b ≡ m'
    go (last e k) = ap (drop 2) e
    go (more b' r n e k l c') = absurd (apart (length b + 2) b (b' ++ r) h e)
same_continued (goes_on b r n h c) m' d = go (cases d) (λ n' c'. same_continued c n' c')
  where
    go : Cases (two 65535 ++ (b ++ r)) m' → ((n' : List ℕ) → Continued r n' → n ≡ n') → b ++ n ≡ m'
    go (last e k) ih = absurd (apart (length m' + 2) m' (b ++ r) k (sym e))
    go (more b' r' n' e k l c') ih =
        let j : b ++ r ≡ b' ++ r' = ap (drop 2) e in
        let eb : b ≡ b' = front 32765 b b' r r' (omega arith) (omega arith) j in
        let er : r ≡ r' = back 32765 b b' r r' (omega arith) (omega arith) j in
        ap₂ (λ (x y : List ℕ). x ++ y) eb (ih n' (subst (λ (x : List ℕ). Continued x n') (sym er) c')) ∙ sym k

data Forms (w : Structure) (s : List ℕ) : Type 0 where
  as_one : s ≡ two (length w.payload + 6) ++ (rest w ++ w.payload) → length w.payload + 6 ≤ 32767 → Forms w s
  as_several : (b more bytes : List ℕ) → s ≡ two 65535 ++ (rest w ++ (b ++ bytes)) → w.payload ≡ b ++ more → length b + 6 ≡ 32767 → Continued bytes more → Forms w s

forms : {w : Structure} {s : List ℕ} → Dss w s → Forms w s
forms (one a h) = as_one refl h
forms (several a b m bytes e h c) = as_several b m bytes refl e h c

payloads : (v w : Structure) (s : List ℕ) → Forms v s → Forms w s → v.payload ≡ w.payload
payloads v w s (as_one e h) (as_one k l) = ap (drop 6) (sym e ∙ k)
payloads v w s (as_one e h) (as_several b m y k j l c) = absurd (apart (length v.payload + 6) _ _ h (sym e ∙ k))
payloads v w s (as_several b m y k j l c) (as_one e h) = absurd (apart (length w.payload + 6) _ _ h (sym e ∙ k))
payloads v w s (as_several b m y k j l c) (as_several b' m' y' k' j' l' c') =
    let e : b ++ y ≡ b' ++ y' = ap (drop 6) (sym k ∙ k') in
    let eb : b ≡ b' = front 32761 b b' y y' (omega arith) (omega arith) e in
    let ey : y ≡ y' = back 32761 b b' y y' (omega arith) (omega arith) e in
    j ∙ ap₂ (λ (x z : List ℕ). x ++ z) eb (same_continued c m' (subst (λ (x : List ℕ). Continued x m') (sym ey) c')) ∙ sym j'

-- ---- the statement

same_structure : (v w : Structure) (s : List ℕ) → Told v (get_or s 3 0) → Told w (get_or s 3 0) → v.correlation ≡ w.correlation → v.payload ≡ w.payload → v ≡ w
same_structure v w s x y c p =
    λ i. record {
      type = (sym x.type ∙ y.type) i;
      chained = (sym x.chained ∙ y.chained) i;
      on_error = (sym x.on_error_is ∙ y.on_error_is) i;
      same = (sym x.same ∙ y.same) i;
      correlation = c i;
      payload = p i;
    }

pub layout_fixes : LayoutFixes Dss
layout_fixes v w s x y = same_structure v w s (told_at x) (told_at y) (sym (correlation_at x) ∙ correlation_at y) (payloads v w s (forms x) (forms y))
