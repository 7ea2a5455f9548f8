-- What is built of bytes is bytes.
use Prim.Native.Nat.{ℕ, zero, suc, ◌+◌, ◌/◌, ◌%◌}
use native.Mathlib.Omega.{arith}
use mathlib.Core.List.{List, [], ◌∷◌, ◌++◌}
use lib.ListN.{length}
use Rattle.wire.specs.Bytes.{two, last, Octets}
use Rattle.wire.proofs.OctetLaws.{octets_none, octets_more, octets_append, octets_two}
use Rattle.ddm_builder.specs.Built.{length_bytes, built_with, built}

pub octets_last : (k n : ℕ) → Octets (last k n)
unfolding last
octets_last zero n = octets_none
octets_last (suc k) n = octets_append (last k (n / 256)) (n % 256 ∷ []) (octets_last k (n / 256)) (octets_more (n % 256) [] (omega arith) octets_none)

-- what is built of bytes is bytes
pub octets_built : (cp : ℕ) (d : List ℕ) → Octets d → Octets (built cp d)
unfolding built
octets_built cp d o = go (length_bytes (length d))
  where
    go : (k : ℕ) → Octets (built_with k cp d)
    go zero = octets_append (two (length d + 4)) (two cp ++ d) (octets_two (length d + 4)) (octets_append (two cp) d (octets_two cp) o)
    go (suc k) =
        octets_append (two (0x8004 + suc k)) (two cp ++ (last (suc k) (length d) ++ d)) (octets_two (0x8004 + suc k))
        (octets_append (two cp) (last (suc k) (length d) ++ d) (octets_two cp) (octets_append (last (suc k) (length d)) d (octets_last (suc k) (length d)) o))
