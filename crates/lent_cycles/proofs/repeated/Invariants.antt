-- `lent_cycles::repeated` meets its contract. The loop keeps: the whole test is the test of the steps left. Assumes nothing.
use borrow.Author.Rules.{rules}
use Prim.Native.Nat.{◌≤◌, ◌-◌}
use mathlib.Core.Path.{sym, ◌∙◌}
use native.Mathlib.Omega.{arith}
use lib.Dec.{eqb}
use lib.ListN.{drop}
use borrow.Author.Tests.{eq-eqb, ne_eqb}
use Rattle.sound.proofs.Testing.{Testing, testing_start, testing_turn, testing_fail, testing_end}
use Rattle.sound.proofs.Walking.{room, step_at}
use Rattle.lent_cycles.proofs.repeated.Given as goal

abbrev pub invariant-loop-i : goal.invariant-loop-i
invariant-loop-i l = (l.i ≤ l.m) × Testing (eqb l.s) (drop l.from l.steps) l.m l.i
