-- `mark_faces` meets its contract. Assumes nothing.
use borrow.Author.Rules.{rules}
use Prim.Native.Nat.{◌≤◌, ◌-◌}
use mathlib.Core.Path.{◌≡◌, refl}
use mathlib.Core.Logic.{⊎_elim}
use mathlib.Core.Bool.{false}
use native.Mathlib.Omega.{arith}
use lib.ListN.{take}
use Rattle.rows_marks.specs.Marks.{cycle_marked}
use Rattle.rows_marks.proofs.Faces.{Facing, facing_cycles, facing_steps, facing_turn, facing_skip}
use Rattle.rows_marks.proofs.mark_faces.Given as goal

abbrev pub invariant-loop-i : goal.invariant-loop-i
invariant-loop-i l =
    (l.i ≤ l.n) × Facing (cycle_marked (take l.n l.ids) (take l.n l.marks) l.v) l.n l.counts l.cycles l.steps l.initial.out l.i l.first l.from l.out
