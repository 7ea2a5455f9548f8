-- What stands in a payload from one of its bytes on.
use Prim.Native.Nat.{ℕ, ◌+◌}
use native.Mathlib.Nat.{add_assoc}
use mathlib.Core.Path.{◌≡◌, sym, ap, ◌∙◌}
use mathlib.Core.List.{List}
use lib.ListN.{get_or, drop}
use lib.Seq.{get_or-drop}
use Rattle.wire.specs.Bytes.{be16}
use Rattle.wire.proofs.WireLaws.{be16_same}

pub drop_two : (v : List ℕ) (at i : ℕ) → be16 (drop at v) i ≡ be16 v (at + i)
drop_two v at i = be16_same (drop at v) v i (at + i) (get_or-drop at v i 0) (get_or-drop at v (i + 1) 0 ∙ ap (λ (j : ℕ). get_or v j 0) (sym (add_assoc at i 1)))
