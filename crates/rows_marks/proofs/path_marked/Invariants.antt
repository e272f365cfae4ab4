-- `path_marked` meets its contract. Assumes nothing.
use borrow.Author.Rules.{rules}
use Prim.Native.Nat.{ℕ, ◌≤◌, ◌-◌}
use mathlib.Core.Path.{refl, sym, ◌∙◌}
use native.Mathlib.Omega.{arith}
use lib.ListN.{take, drop}
use Rattle.store.specs.View.{halfedge_of}
use Rattle.rows_marks.specs.Marks.{step_marked}
use Rattle.rows_marks.proofs.Marking.{Seeking, seeking_turn, seeking_found, seeking_end, any_map}
use Rattle.rows_marks.proofs.path_marked.Given as goal

abbrev pub invariant-loop-i : goal.invariant-loop-i
invariant-loop-i l = (l.i ≤ l.m) × Seeking (λ (s : ℕ). step_marked (take l.n l.ids) (take l.n l.marks) (halfedge_of s)) l.steps l.from l.m l.i
