-- `lent_table::fill` meets its contract. The loop keeps: the place of each row written has that row or one before it. Assumes nothing.
use Rattle.lent_table.proofs.First.{Filling}
use Rattle.lent_table.proofs.fill.Given as goal

abbrev pub invariant-loop-i : goal.invariant-loop-i
invariant-loop-i l = Filling l.table l.ids l.n l.i
