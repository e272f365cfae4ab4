-- `copy_run` meets its contract. Assumes nothing.
use borrow.Author.Rules.{rules}
use Prim.Native.Nat.{◌≤◌, ◌-◌}
use mathlib.Core.Path.{◌≡◌}
use native.Mathlib.Omega.{arith}
use Rattle.rows_copied.proofs.Runs.{Running, running_start, running_turn}
use Rattle.rows_copied.proofs.copy_run.Given as goal

abbrev pub invariant-loop-j : goal.invariant-loop-j
invariant-loop-j l =
    (l.j ≤ l.n) × Running l.each l.i l.next l.k0 l.initial.l l.j l.k l.l
