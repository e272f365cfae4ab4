-- `rows_star::list_marked` meets its contract. Assumes nothing.
use borrow.Author.Rules.{rules}
use Prim.Native.Nat.{◌≤◌, ◌-◌}
use mathlib.Core.Path.{◌≡◌, refl, ◌∙◌}
use mathlib.Core.Bool.{false}
use native.Mathlib.Omega.{arith}
use lib.ListN.{length}
use Rattle.store.specs.Places.{bit}
use Rattle.rows_marks.proofs.Marking.{sum_within}
use Rattle.rows_star.proofs.Marking.{Picking, picking_turn}
use Rattle.rows_star.proofs.list_marked.Given as goal

abbrev pub invariant-loop-i : goal.invariant-loop-i
invariant-loop-i l = (l.i ≤ l.n) × (length l.out ≡ length l.initial.out) × Picking l.marks l.ids l.initial.out l.i l.at l.out
