-- `number_rows` meets its contract. Assumes nothing.
use borrow.Author.Rules.{rules}
use Prim.Native.Nat.{◌-◌, ◌≤◌}
use native.Mathlib.Omega.{arith}
use mathlib.Core.Path.{◌≡◌}
use Rattle.kernel_renumber.specs.Renumbers.{RowsNumbered}
use Rattle.kernel_renumber.proofs.Rows.{numbering_start, numbering_turn}
use Rattle.kernel_renumber.proofs.number_rows.Given as goal

abbrev pub invariant-loop-i : goal.invariant-loop-i
invariant-loop-i l = (l.i ≤ l.n) × RowsNumbered l.i l.initial.ids l.ids
