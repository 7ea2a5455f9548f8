-- Bytes are below 256.
use Prim.Native.Nat.{ℕ, zero, suc, ◌/◌, ◌%◌, ◌<◌}
use native.Mathlib.Omega.{arith}
use mathlib.Core.Path.{◌≡◌}
use mathlib.Core.Bool.{Bool, true}
use mathlib.Core.List.{List, [], ◌∷◌, ◌++◌}
use borrow.Author.Tests.{ltb-true}
use lib.Dec.{ltb}
use lib.ListN.{length, get_or, take}
use Rattle.wire.specs.Bytes.{and, two, Octets}
use Rattle.wire.proofs.WireLaws.{and_split}

pub octets_none : Octets []
octets_none i = omega arith

pub octets_more : (x : ℕ) (s : List ℕ) → x < 256 → Octets s → Octets (x ∷ s)
octets_more x s h o zero = h
octets_more x s h o (suc i) = o i

pub octets_append : (s t : List ℕ) → Octets s → Octets t → Octets (s ++ t)
octets_append [] t a b i = b i
octets_append (x ∷ s) t a b zero = a zero
octets_append (x ∷ s) t a b (suc i) = octets_append s t (λ j. a (suc j)) b i

pub octets_take : (n : ℕ) (s : List ℕ) → Octets s → Octets (take n s)
octets_take zero s o i = omega arith
octets_take (suc n) [] o i = omega arith
octets_take (suc n) (x ∷ s) o zero = o 0
octets_take (suc n) (x ∷ s) o (suc i) = octets_take n s (λ j. o (suc j)) i

pub octets_two : (n : ℕ) → Octets (two n)
octets_two n = octets_more (n / 256 % 256) (n % 256 ∷ []) (omega arith) (octets_more (n % 256) [] (omega arith) octets_none)

-- by a test, for bytes that are written out
abbrev pub below : List ℕ → Bool
below [] = true
below (x ∷ s) = and (ltb x 256) (below s)

pub octets_tested : (s : List ℕ) → below s ≡ true → Octets s
octets_tested [] e = octets_none
octets_tested (x ∷ s) e = let k : (ltb x 256 ≡ true) × (below s ≡ true) = and_split (ltb x 256) (below s) e in
    octets_more x s (ltb-true x 256 k.0) (octets_tested s k.1)

-- from what a slice's contract says of its bytes
pub octets_of : (s : List ℕ) → ((i : ℕ) → i < length s → get_or s i 0 < 256) → Octets s
octets_of [] h i = omega arith
octets_of (x ∷ s) h zero = h 0 (omega arith)
octets_of (x ∷ s) h (suc i) = octets_of s (λ j l. h (suc j) (omega arith)) i
