-- `lent_cycles::walk` meets its contract. The loop keeps: the whole test is the test of the steps left, from where the last one ended. Assumes nothing.
use borrow.Author.Rules.{rules}
use Prim.Native.Nat.{◌≤◌, ◌-◌}
use mathlib.Core.Path.{refl, ◌∙◌}
use native.Mathlib.Omega.{arith}
use borrow.Author.Tests.{not-true, not-false}
use Rattle.sound.specs.Rows.{rows_of}
use Rattle.sound.proofs.Looking.{step_goes, step_head, step_dead}
use Rattle.sound.proofs.Walking.{Leading, leading_fail, leading_turn, leading_end}
use Rattle.lent_cycles.proofs.walk.Given as goal

abbrev pub invariant-loop-i : goal.invariant-loop-i
invariant-loop-i l = (l.i ≤ l.m) × Leading (rows_of l.n l.ids l.kinds l.starts l.ends) l.steps l.from l.m l.u l.w l.at l.i
