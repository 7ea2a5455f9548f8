-- `dss_writer::lay_segment` meets its contract: what is laid down from the sixth byte on stands behind the head.
use Prim.Native.Nat.{ℕ, ◌+◌, ◌≤◌}
use native.Mathlib.Omega.{arith}
use mathlib.Core.Path.{◌≡◌, ap, ap₂, ◌∙◌}
use mathlib.Core.List.{List, ◌++◌}
use lib.ListN.{length}
use borrow.Author.Tests.{le-leb}
use Rattle.std.proofs.Common.{Ok}
use Rattle.wire.specs.Bytes.{splice, laid}
use Rattle.wire.proofs.WireLaws.{pick_yes}
use Rattle.wire.proofs.Splicing.{splice_length, splice_splice, laid_fits}
use Rattle.dss_head.specs.Heads.{head_bytes}
use Rattle.dss_writer.proofs.lay_segment.Goals as goal

-- x at the start of a room, and y behind it
behind : (r x y s t : List ℕ) (n : ℕ) → n ≡ length x → length x + length y ≤ length r → s ≡ laid r 0 x → t ≡ laid s n y → t ≡ splice r 0 (x ++ y)
behind r x y s t n z h e f =
    let k : s ≡ splice r 0 x = e ∙ laid_fits r 0 x (omega arith) in
    let l : length s ≡ length r = ap length k ∙ splice_length r 0 x (omega arith) in
    let w : n ≡ 0 + length x = omega arith in
    f ∙ laid_fits s n y (omega arith) ∙ ap₂ (λ (v : List ℕ) (n : ℕ). splice v n y) k w ∙ splice_splice r 0 x y (omega arith)

pub returns : goal.returns
returns c =
    let a = c.args in
    let wrote : c.serialize.result ≡ Ok 6 = c.serialize.ensures.answers ∙ pick_yes _ _ (le-leb 6 (length a.room.now) (omega arith)) in
    let six : c.unwrap-behind.result ≡ 6 = cc in
    behind a.room.now (head_bytes a.header) a.bytes.now _ _ c.unwrap-behind.result six (omega arith) c.serialize.ensures.room_is c.lay_at.ensures
