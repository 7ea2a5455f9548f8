-- The number that some bytes spell, as the loop that reads an extended length makes it.
use Rattle.std.specs.Prelude.{ℕ, ◌^◌, List, ltb, Option, Some, None}
use Rattle.wire.specs.Bytes.{pick, spelled}

unfoldable pub spelled_number : List ℕ → Option ℕ
unfolding spelled
spelled_number bs = pick (ltb (spelled 0 bs) (2 ^ 64)) (Some (spelled 0 bs)) None
