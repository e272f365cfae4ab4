-- `path_uses` meets its contract. The loop keeps: the uses of the steps left are to be added. Assumes nothing.
use borrow.Author.Rules.{rules}
use Prim.Native.Nat.{◌≤◌, ◌-◌}
use mathlib.Core.Path.{refl}
use mathlib.Core.Logic.{⊎_elim}
use native.Mathlib.Omega.{arith}
use Rattle.ask_uncut_uses.proofs.Using.{Pathing, pathing_turn, pathing_end, step_not}
use Rattle.ask_uncut_uses.proofs.path_uses.Given as goal

abbrev pub invariant-loop-i : goal.invariant-loop-i
invariant-loop-i l = (l.i ≤ l.m) × Pathing l.e l.face l.cycle l.steps l.from l.m l.initial.x l.x l.i
