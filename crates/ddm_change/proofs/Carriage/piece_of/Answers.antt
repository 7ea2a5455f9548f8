-- `ddm_change::Carriage::piece_of` meets its contract: each return is one case.
use native.Mathlib.Omega.{arith}
use mathlib.Core.Path.{sym}
use Rattle.ddm_change.proofs.CarriedLaws.{piece_all, piece_min}
use Rattle.ddm_change.proofs.Carriage.piece_of.Goals as goal

pub returns-then-self-passed_by : goal.returns-then-self-passed_by
returns-then-self-passed_by c = sym (piece_all _ _ _ (omega (arith, c.passed_by.ensures)))

pub returns : goal.returns
returns c = piece_min _ _ _ _ (omega (arith, c.passed_by.ensures)) (omega (arith, c.min.ensures, c.uncut_from.ensures))
