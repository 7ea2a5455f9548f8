-- `ddm_change::laying::lay_head` meets its contract: the four bytes stand behind the length.
use Prim.Native.Nat.{ℕ, ◌≤◌}
use native.Mathlib.Omega.{arith}
use mathlib.Core.Path.{◌≡◌, refl, ap, ◌∙◌}
use mathlib.Core.List.{List, ◌++◌}
use lib.ListN.{length}
use Rattle.wire.specs.Bytes.{two, part, splice, laid}
use Rattle.wire.proofs.WireLaws.{part_length}
use Rattle.wire.proofs.Splicing.{laid_fits}
use Rattle.ddm_length.proofs.LentData.{laid_next}
use Rattle.ddm_change.proofs.laying.lay_head.Goals as goal

-- two bytes, and four behind them
headed : (r q s : List ℕ) (raw : ℕ) → 6 ≤ length r → length q ≡ 4 → s ≡ laid r 0 (two raw) → laid s 2 q ≡ splice r 0 (two raw ++ q)
headed r q s raw h l e =
    ap (λ (v : List ℕ). laid v 2 q) e ∙ laid_next r 0 (two raw) q 2 refl (omega arith) ∙ laid_fits r 0 (two raw ++ q) (omega arith)

pub returns : goal.returns
returns c =
    let s = c in
    let raw = c.raw_first in
    let q : List ℕ = part s.args.frame.now 2 6 in
    c.lay_at.ensures
    ∙ headed s.args.room.now q _ raw.result s.requires.1 (part_length s.args.frame.now 2 6 s.requires.0)
    c.put_u16.ensures
    ∙ ap (λ (w : ℕ). splice s.args.room.now 0 (two w ++ q)) raw.ensures
