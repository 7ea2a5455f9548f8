-- `gateway_words::put_words` meets its contract: the eight words go over the first eight that stand there.
use native.Mathlib.Omega.{arith}
use mathlib.Core.Path.{◌≡◌, refl, sym, ap, ◌∙◌}
use mathlib.Core.List.{◌++◌}
use Prim.Native.Nat.{ℕ, ◌+◌, ◌≤◌, ◌<◌}
use lib.ListN.{length, drop}
use Rattle.wire.proofs.Splicing.{laid_kept, laid_fits}
use Rattle.wire.specs.Bytes.{splice}
use Rattle.gateway_words.proofs.put_words.Goals as goal

pub returns-in-Some : goal.returns-in-Some
unfolding splice
returns-in-Some c =
    let a = c.args in
    let l : length a.answer ≡ 8 = omega (arith, c) in
    let k : 8 ≤ length a.words.now = c.in-Some.ensures.variant.0 refl in
    let z : 8 ≡ 0 + length a.answer = omega arith in
    ap (λ (n : ℕ). a.answer ++ drop n a.words.now) z ∙ sym (laid_fits a.words.now 0 a.answer (omega arith))

pub returns-in_default : goal.returns-in_default
returns-in_default c =
    let a = c.args in
    let l : length a.answer ≡ 8 = omega (arith, c) in
    let k : length a.words.now < 8 = c.in_default.ensures.cases in
    sym (laid_kept a.words.now 0 a.answer (omega arith))
