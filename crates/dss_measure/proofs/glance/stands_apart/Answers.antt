-- `dss_measure::glance::stands_apart` meets its contract: fewer than six bytes, or a head with same correlation clear.
use Prim.Native.Nat.{◌+◌, ◌/◌, ◌%◌}
use native.Mathlib.Omega.{arith}
use lib.ListN.{get_or}
use borrow.Author.Tests.{eqb-true, ne_eqb}
use Rattle.dss_measure.proofs.GlanceLaws.{apart_nothing, apart_clear}
use Rattle.dss_measure.proofs.glance.stands_apart.Goals as goal

pub returns-then-left-lt-DSS_HEADER_LEN : goal.returns-then-left-lt-DSS_HEADER_LEN
returns-then-left-lt-DSS_HEADER_LEN c _ =
    let a = c.args in
    apart_nothing a.run.now a.at (omega arith)

pub returns : goal.returns
returns c e =
    let a = c.args in
    let low = get_or a.run.now (a.at + 3) 0 / 0x10 % 2 in
    apart_clear a.run.now a.at (c.has_head.ensures c.if-not-has_head.false)
    (ne_eqb low 1 (omega (arith, eqb-true low 0 e)))
