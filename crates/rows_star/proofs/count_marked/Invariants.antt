-- `rows_star::count_marked` meets its contract. Assumes nothing.
use lib.ListN.{take, get_or}
use borrow.Author.Rules.{rules}
use Prim.Native.Nat.{◌≤◌, ◌-◌}
use mathlib.Core.Path.{◌≡◌}
use mathlib.Core.Bool.{false}
use native.Mathlib.Omega.{arith}
use Rattle.complex.specs.Lists.{total}
use Rattle.store.specs.Places.{bit}
use Rattle.rows_marks.proofs.Marking.{sum_on}
use Rattle.rows_star.proofs.Marking.{bit_most}
use Rattle.rows_star.proofs.count_marked.Given as goal

abbrev pub invariant-loop-i : goal.invariant-loop-i
invariant-loop-i l = (l.i ≤ l.n) × (l.sum ≤ l.i) × (l.sum ≡ total bit (take l.i l.marks))
