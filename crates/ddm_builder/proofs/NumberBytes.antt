-- A number's bytes laid down one by one, the last one first: one law for every width.
use Prim.Native.Nat.{ℕ, suc, ◌+◌, ◌-◌, ◌/◌, ◌%◌, ◌^◌, ◌≤◌, ◌<◌}
use native.Mathlib.Nat.{pow-succ', mul_comm, div-div-eq-div-mul}
use native.Mathlib.Omega.{arith}
use mathlib.Core.Path.{◌≡◌, sym, ◌∙◌, ap, ap₂}
use mathlib.Core.List.{List, [], ◌∷◌, ◌++◌, append_assoc}
use lib.ListN.{length, get_or, set, take, drop}
use lib.Seq.{take-suc, set_at, length-take-le}
use Rattle.std.specs.Int.{w32, to_be_bytes}
use Rattle.wire.specs.Bytes.{last, splice, laid}
use Rattle.wire.proofs.Widths.{length_last, last_first}
use Rattle.wire.proofs.Splicing.{splice_none, splice_length, laid_fits}

-- a byte stored right before bytes that were laid down
pub set_splice : (r : List ℕ) (a : ℕ) (b : List ℕ) (x : ℕ) → a < length r → set (splice r (suc a) b) a x ≡ splice r a (x ∷ b)
unfolding splice
set_splice r a b x h =
    let z : suc a + length b ≡ a + suc (length b) = omega arith in
    let rest : List ℕ = b ++ drop (suc a + length b) r in
    ap (λ (l : List ℕ). set (l ++ rest) a x) (take-suc r a 0 h)
    ∙ ap (λ (l : List ℕ). set l a x) (append_assoc (take a r) (get_or r a 0 ∷ []) rest)
    ∙ set_at (take a r) (get_or r a 0) rest x a (length-take-le a r (omega arith))
    ∙ ap (λ (n : ℕ). take a r ++ (x ∷ (b ++ drop n r))) z

-- the loop: `room` is `r` with all bytes from i on laid down, and `left` is the number without them
pub record LayingNumber (r : List ℕ) (width n : ℕ) (room : List ℕ) (left i : ℕ) : Type 0 where
  pub within : i ≤ width
  pub shifted : left ≡ n / 256 ^ (width - i)
  pub holds : room ≡ splice r i (last (width - i) n)

pub laying_start : (r : List ℕ) (width n : ℕ) → LayingNumber r width n r n width
unfolding last
laying_start r width n =
    let z : width - width ≡ 0 = omega arith in
    record {
      within = omega arith;
      shifted = sym (ap (λ (k : ℕ). n / 256 ^ k) z ∙ omega arith);
      holds = sym (ap (λ (k : ℕ). splice r width (last k n)) z ∙ splice_none r width);
    }

module _ (r : List ℕ) (width n : ℕ) (fits : width ≤ length r) (room : List ℕ) (left i : ℕ) (l : LayingNumber r width n room left i) where
  pub laying_length : length room ≡ length r
  laying_length = ap length l.holds ∙ splice_length r i (last (width - i) n) (omega (arith, l.within, length_last (width - i) n))

  pub laying_step : 0 < i → LayingNumber r width n (set room (i - 1) (left % 256)) (left / 256) (i - 1)
  laying_step h =
      let k : ℕ = width - i in
      let j : ℕ = i - 1 in
      let z : width - j ≡ suc k = omega (arith, l.within) in
      let y : i ≡ suc j = omega arith in
      record {
        within = omega (arith, l.within);
        shifted = ap (λ (x : ℕ). x / 256) l.shifted ∙ div-div-eq-div-mul n (256 ^ k) 256
            ∙ ap (λ (x : ℕ). n / x) (mul_comm (256 ^ k) 256 ∙ sym (pow-succ' 256 k)) ∙ ap (λ (x : ℕ). n / 256 ^ x) (sym z);
        holds = ap₂ (λ (x : List ℕ) (m : ℕ). set x j (m % 256)) (l.holds ∙ ap (λ (m : ℕ). splice r m (last k n)) y) l.shifted
            ∙ set_splice r j (last k n) (n / 256 ^ k % 256) (omega (arith, l.within))
            ∙ ap (splice r j) (sym (last_first k n) ∙ ap (λ (m : ℕ). last m n) (sym z));
      }

-- at the end all are there
pub laying_end : (r : List ℕ) (width n : ℕ) (room : List ℕ) (left i : ℕ) → width ≤ length r → LayingNumber r width n room left i → i ≤ 0 → room ≡ laid r 0 (last width n)
laying_end r width n room left i fits l h =
    let z : i ≡ 0 = omega arith in
    let y : width - i ≡ width = omega arith in
    l.holds ∙ ap₂ (λ (a k : ℕ). splice r a (last k n)) z y ∙ sym (laid_fits r 0 (last width n) (omega (arith, length_last width n)))

-- std's bytes of a number of four
pub four_last : (n : ℕ) → to_be_bytes w32 n ≡ last 4 n
unfolding last
four_last n =
    let a : n / 65536 ≡ n / 256 / 256 = omega arith in
    let b : n / 16777216 ≡ n / 256 / 256 / 256 = omega arith in
    ap₂ (λ (x y : ℕ). x % 256 ∷ y % 256 ∷ n / 256 % 256 ∷ n % 256 ∷ []) b a
