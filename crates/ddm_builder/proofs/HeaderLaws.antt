-- An object's header by itself: raw length, code point, length bytes.
use Prim.Native.Nat.{ℕ, zero, suc, ◌+◌}
use native.Mathlib.Omega.{arith}
use mathlib.Core.Path.{◌≡◌, refl, sym, ◌∙◌, ap, ap₂}
use mathlib.Core.List.{List, ◌++◌}
use lib.ListN.{length}
use Rattle.wire.specs.Bytes.{two, last}
use Rattle.wire.proofs.Widths.{length_last}
use Rattle.ddm_builder.specs.Built.{length_bytes, built}
use Rattle.ddm_builder.specs.inner.FormsLaid.{raw_length}
use Rattle.ddm_builder.proofs.BuiltForms.{built_is}
use Rattle.ddm_builder.specs.Headers.{header_with, header_of}

-- one form for every number of length bytes
header_with_lem : (k cp n : ℕ) → header_with k cp n ≡ two (raw_length k n) ++ (two cp ++ last k n)
unfolding last
header_with_lem zero cp n = refl
header_with_lem (suc k) cp n = refl

header_is : (cp n : ℕ) → header_of cp n ≡ two (raw_length (length_bytes n) n) ++ (two cp ++ last (length_bytes n) n)
unfolding header_of
header_is cp n = header_with_lem (length_bytes n) cp n

pub length_header : (cp n : ℕ) → length (header_of cp n) ≡ 4 + length_bytes n
length_header cp n = ap length (header_is cp n) ∙ omega (arith, length_last (length_bytes n) n)

-- an object is its header and its data
pub built_header : (cp : ℕ) (d : List ℕ) → built cp d ≡ header_of cp (length d) ++ d
built_header cp d = built_is cp d ∙ sym (ap (λ (h : List ℕ). h ++ d) (header_is cp (length d)))

-- from its parts
pub header_from : (cp n k raw : ℕ) → k ≡ length_bytes n → raw ≡ raw_length k n → two raw ++ (two cp ++ last k n) ≡ header_of cp n
header_from cp n k raw e f =
    ap₂ (λ (j m : ℕ). two m ++ (two cp ++ last j n)) e (f ∙ ap (λ (j : ℕ). raw_length j n) e) ∙ sym (header_is cp n)
