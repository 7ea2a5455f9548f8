-- `ddm_builder::built_size` meets its contract: a sum that stops at 2^64 - 1.
use Rattle.std.specs.Prelude.{min}
use Prim.Native.Nat.{ℕ, ◌-◌, ◌^◌, ◌≤◌, ◌<◌}
use native.Mathlib.Omega.{arith}
use mathlib.Core.Path.{◌≡◌, sym, ◌∙◌}
use borrow.Author.Tests.{ltb-true, ltb-false}
use lib.Dec.{ltb}
use Rattle.wire.proofs.WireLaws.{by, pick_yes, pick_no}
use Rattle.answer.specs.Rooms.{capped}
use Rattle.ddm_builder.specs.Built.{built_size}
use Rattle.ddm_builder.proofs.built_size.Goals as goal

capped_is : (n r : ℕ) → r ≡ min n (2 ^ 64 - 1) → r ≡ capped n
capped_is n r e =
    by (ltb n (2 ^ 64))
    (λ t. let l : n < 2 ^ 64 = ltb-true n (2 ^ 64) t in let s : r ≡ n = omega arith in s ∙ sym (pick_yes n (2 ^ 64 - 1) t))
    (λ t. let l : 2 ^ 64 ≤ n = ltb-false n (2 ^ 64) t in let s : r ≡ 2 ^ 64 - 1 = omega arith in s ∙ sym (pick_no n (2 ^ 64 - 1) t))

pub returns : goal.returns
unfolding built_size
returns c = capped_is (built_size c.args.n) _ (rw (← c.serialized_header_len.ensures) c.saturating_add.ensures)
