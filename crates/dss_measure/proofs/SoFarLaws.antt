-- The laws of a payload so far: what its length and first two bytes become as a part follows.
use Prim.Native.Nat.{ℕ, ◌+◌, ◌-◌, ◌≤◌, ◌<◌}
use native.Mathlib.Omega.{arith}
use mathlib.Core.Path.{◌≡◌, refl, sym, ap, ◌∙◌}
use mathlib.Core.List.{List, [], ◌∷◌, ◌++◌}
use lib.ListN.{length, get_or, drop, length-append, length-take, get_or-append, get_or-eq_default}
use lib.Seq.{get_or-append-add, get_or-take, get_or-drop}
use Rattle.wire.specs.Bytes.{part}
use Rattle.dss_measure.specs.declared.PayloadSoFar.{PayloadSoFar}
use Rattle.dss_measure.specs.inner.Walking.{payload_so_far}

-- ---- a byte of a part

pub part_past : (s : List ℕ) (a e i : ℕ) → e - a ≤ i → get_or (part s a e) i 0 ≡ 0
part_past s a e i h = get_or-eq_default (part s a e) 0 (omega (arith, length-take (e - a) (drop a s)))

pub part_inside : (s : List ℕ) (a e i : ℕ) → i < e - a → get_or (part s a e) i 0 ≡ get_or s (a + i) 0
part_inside s a e i h = get_or-take (e - a) (drop a s) i 0 h ∙ get_or-drop a s i 0

-- ---- a part behind a payload

nothing_before : (p x : List ℕ) → length p ≡ 0 → p ++ x ≡ x
nothing_before [] x h = refl
nothing_before (a ∷ p) x h = absurd (omega arith)

module _ (p x : List ℕ) (v : PayloadSoFar) (e : v ≡ payload_so_far p) (n : ℕ) (k : length x ≡ n) where
  made : (l f g : ℕ) → length (p ++ x) ≡ l → get_or (p ++ x) 0 0 ≡ f → get_or (p ++ x) 1 0 ≡ g → record { len = l; first = f; second = g } ≡ payload_so_far (p ++ x)
  made l f g a b c = sym (λ i. record { len = a i; first = b i; second = c i })

  len_is : v.len ≡ length p
  len_is = ap (λ (u : PayloadSoFar). u.len) e

  first_is : 1 ≤ v.len → get_or (p ++ x) 0 0 ≡ v.first
  first_is h = get_or-append p x 0 0 (omega (arith, len_is)) ∙ sym (ap (λ (u : PayloadSoFar). u.first) e)

  -- behind nothing
  pub grown_none : (f g : ℕ) → f ≡ get_or x 0 0 → g ≡ get_or x 1 0 → v.len ≡ 0 → record { len = n; first = f; second = g } ≡ payload_so_far (p ++ x)
  grown_none f g a b h =
      let z : p ++ x ≡ x = nothing_before p x (sym len_is ∙ h) in
      made n f g (ap length z ∙ k) (ap (λ (l : List ℕ). get_or l 0 0) z ∙ sym a) (ap (λ (l : List ℕ). get_or l 1 0) z ∙ sym b)

  -- behind one byte
  pub grown_one : (g : ℕ) → g ≡ get_or x 0 0 → v.len ≡ 1 → record { len = 1 + n; first = v.first; second = g } ≡ payload_so_far (p ++ x)
  grown_one g b h =
      let z : 1 ≡ length p + 0 = omega (arith, len_is) in
      made (1 + n) v.first g (length-append p x ∙ omega (arith, len_is)) (first_is (omega arith))
      (ap (λ (j : ℕ). get_or (p ++ x) j 0) z ∙ get_or-append-add p x 0 0 ∙ sym b)

  -- behind two bytes or more
  pub grown_more : 2 ≤ v.len → record { len = v.len + n; first = v.first; second = v.second } ≡ payload_so_far (p ++ x)
  grown_more h =
      made (v.len + n) v.first v.second (length-append p x ∙ omega (arith, len_is)) (first_is (omega arith))
      (get_or-append p x 0 1 (omega (arith, len_is)) ∙ sym (ap (λ (u : PayloadSoFar). u.second) e))
