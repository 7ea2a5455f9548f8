-- A signed number of 32 bits as a word of 64, as the machine finds it.
use Prim.Native.Nat.{ℕ, suc, ◌-◌, ◌^◌, ◌≤◌, ◌<◌}
use native.Mathlib.Omega.{arith}
use mathlib.Core.Path.{◌≡◌, refl, ◌∙◌, ap}
use mathlib.Core.Bool.{true, false}
use borrow.Author.Tests.{ltb-true, le-ltb}
use lib.Dec.{T}
use lib.IntN.{ℤ, pos, negsuc, ◌-ℤ◌, nat_abs}
use lib.Signed.{lt_z, non_neg}
use mir.Syntax.{w32, w64}
use mir.Val.{SFits, Fits, to_z, of_z}
use mir.ValLaws.{to_z_pos, to_z-of_z}
use Rattle.gateway_object.specs.ObjectWords.{word_of}

-- what a local of 32 bits holds
abbrev pub held : ℤ → ℤ
held z = to_z w32 (of_z w32 z)

-- how far a negative number is below -1
abbrev pub word_below : ℤ → ℤ
word_below z = negsuc 0 -ℤ held z

record Below (z : ℤ) : Type 0 where
  pub far : ℕ
  pub small : far < 2 ^ 31
  pub is : word_below z ≡ pos far
  pub word : 2 ^ 64 - 1 - far ≡ word_of z

module _ (z : ℤ) (f : SFits w32 z) where
  there : held z ≡ z
  there = to_z-of_z w32 z f

  module _ (t : lt_z (held z) (pos 0) ≡ true) where
    negative : Below z
    negative = go z f (rw there at t)
      where
        go : (z : ℤ) → SFits w32 z → lt_z z (pos 0) ≡ true → Below z
        go (pos n) f t = absurd (omega (arith, ltb-true n 0 t))
        go (negsuc k) f t =
            record {
              far = k;
              small = f.sfits;
              is = ap (λ (z : ℤ). negsuc 0 -ℤ z) (to_z-of_z w32 (negsuc k) f) ∙ simp (le-ltb (suc k) 1 (omega arith)) (ap pos (omega arith));
              word = omega arith;
            }

    back : held (word_below z) ≡ pos negative.far
    back = ap held negative.is ∙ to_z_pos w32 negative.far negative.small

    pub below_fits : SFits w32 (word_below z)
    below_fits = rw negative.is (record { sfits = negative.small })

    pub below_cast : T (non_neg (held (word_below z))) × Fits w64 (nat_abs (held (word_below z)))
    below_cast = rw back (tt, record { fits = omega (arith, negative.small) })

    pub below_small : nat_abs (held (word_below z)) ≤ 2 ^ 64 - 1
    below_small = rw back (omega (arith, negative.small))

    pub below_word : 2 ^ 64 - 1 - nat_abs (held (word_below z)) ≡ word_of z
    below_word = rw back negative.word

  module _ (t : lt_z (held z) (pos 0) ≡ false) where
    same : (non_neg (held z) ≡ true) × (nat_abs (held z) ≡ word_of z) × (word_of z < 2 ^ 31)
    same = rw there (go z f (rw there at t))
      where
        go : (z : ℤ) → SFits w32 z → lt_z z (pos 0) ≡ false → (non_neg z ≡ true) × (nat_abs z ≡ word_of z) × (word_of z < 2 ^ 31)
        go (pos n) f t = (refl, refl, f.sfits)
        go (negsuc k) f t = absurd (let w : ◌≡◌ {A = ℕ} 0 1 = cc in omega arith)

    pub same_cast : T (non_neg (held z)) × Fits w64 (nat_abs (held z))
    same_cast = (rw same.0 tt, record { fits = omega (arith, same.1, same.2) })

    pub same_word : nat_abs (held z) ≡ word_of z
    same_word = same.1
