-- `dss_writer::frame_size` meets its contract: its division is the definition's, and the size that saturates is the definition's.
use Prim.Native.Nat.{ℕ, ◌+◌, ◌*◌, ◌-◌, ◌/◌, ◌<◌}
use native.Mathlib.Omega.{arith}
use mathlib.Core.Path.{◌≡◌, sym, ap, ◌∙◌}
use Rattle.answer.specs.Rooms.{capped}
use Rattle.dss_frame.specs.Written.{frame_size}
use Rattle.dss_writer.proofs.LayingLaws.{capped_min, capped_same}
use Rattle.dss_writer.proofs.frame_size.Goals as goal

-- one taken off before the division and added behind it is rounding up
divided : (n : ℕ) → 32761 < n → n + (6 + 2 * ((n - 32761 - 1) / 32765 + 1)) ≡ frame_size n
unfolding frame_size
divided n h = omega arith

-- one segment is no larger than a number
single : (n : ℕ) → n < 32762 → n + 6 ≡ frame_size n
unfolding frame_size
single n h = omega arith

pub returns-then-payload_len-le-DSS_FIRST_PAYLOAD_LEN : goal.returns-then-payload_len-le-DSS_FIRST_PAYLOAD_LEN
returns-then-payload_len-le-DSS_FIRST_PAYLOAD_LEN c =
    let n = c.args.payload_len in
    let e : n + 6 ≡ frame_size n = single n (omega arith) in
    e ∙ sym (capped_same (frame_size n) (omega arith))

pub returns : goal.returns
returns c =
    let n = c.args.payload_len in
    c.saturating_add.ensures ∙ capped_min _ ∙ ap capped (divided n (omega arith))
