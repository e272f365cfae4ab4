-- `edges_at` meets its contract. Assumes nothing.
use borrow.Author.Rules.{rules}
use Prim.Native.Nat.{◌≤◌, ◌-◌}
use mathlib.Core.Path.{◌≡◌, refl}
use native.Mathlib.Omega.{arith}
use Rattle.rows_marks.proofs.Marking.{EdgesMarked, edges_turn}
use Rattle.rows_marks.proofs.edges_at.Given as goal

abbrev pub invariant-loop-i : goal.invariant-loop-i
invariant-loop-i l = (l.i ≤ l.n) × EdgesMarked l.id l.kinds l.starts l.ends l.i l.marks
