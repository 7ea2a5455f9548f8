-- The header of what is built, by itself: length field, extended length and code point.
use Rattle.std.specs.Prelude.{ℕ, zero, suc, ◌+◌, List, ◌++◌}
use Rattle.wire.specs.Bytes.{two, last}
use Rattle.ddm_builder.specs.Built.{length_bytes}

-- what the builder lays down before n bytes of data
abbrev pub header_with : ℕ → ℕ → ℕ → List ℕ
header_with zero cp n = two (n + 4) ++ two cp
header_with (suc k) cp n = two (0x8004 + suc k) ++ (two cp ++ last (suc k) n)

unfoldable pub header_of : ℕ → ℕ → List ℕ
unfolding last length_bytes
header_of cp n = header_with (length_bytes n) cp n
