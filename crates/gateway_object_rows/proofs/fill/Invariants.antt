-- `gateway_object_rows::fill` meets its contract. The invariant: so many records are met, and stand in the row.
use Rattle.gateway_object_rows.proofs.FillingLaws.{Filling}
use Rattle.gateway_object_rows.proofs.fill.Given as goal

abbrev pub invariant-loop-i : goal.invariant-loop-i
invariant-loop-i l = Filling l.data l.n l.initial.row l.i l.at l.row
