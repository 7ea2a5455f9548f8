-- Some values, computed.
use mathlib.Core.Path.{◌≡◌, refl}
use mathlib.Core.List.{[], ◌∷◌}
use Rattle.wire.specs.Bytes.{last}
use Rattle.ddm_length.specs.Markers.{unmarked}
use Rattle.ddm_object.specs.Objects.{object, parsed}
use Rattle.ddm_object.proofs.ObjectReads.{made}

inline_example : parsed (0 ∷ 7 ∷ 0x21 ∷ 0x10 ∷ 1 ∷ 2 ∷ 3 ∷ 9 ∷ []) 0 ≡ object (made 0x2110 (1 ∷ 2 ∷ 3 ∷ []) 7)
unfolding parsed
inline_example = refl

extended_example : parsed (0x80 ∷ 8 ∷ 0x21 ∷ 0x10 ∷ 0 ∷ 0 ∷ 0 ∷ 2 ∷ 5 ∷ 6 ∷ 9 ∷ []) 0 ≡ object (made 0x2110 (5 ∷ 6 ∷ []) 10)
unfolding parsed
extended_example = refl

-- raw 0x8004: data to the end
streamed_example : parsed (0x80 ∷ 4 ∷ 0x24 ∷ 0x12 ∷ 5 ∷ 6 ∷ 9 ∷ []) 0 ≡ object (made 0x2412 (5 ∷ 6 ∷ 9 ∷ []) 7)
unfolding parsed unmarked
streamed_example = refl

last_example : last 4 66051 ≡ 0 ∷ 1 ∷ 2 ∷ 3 ∷ []
unfolding last
last_example = refl
