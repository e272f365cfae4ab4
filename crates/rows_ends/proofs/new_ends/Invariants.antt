-- `new_ends` meets its contract. Assumes nothing.
use borrow.Author.Rules.{rules}
use Prim.Native.Nat.{ℕ, ◌+◌, ◌*◌, ◌-◌, ◌≤◌}
use native.Mathlib.Omega.{arith}
use mathlib.Core.Path.{◌≡◌, subst}
use Rattle.rows_ends.specs.Ends.{NewEnds}
use Rattle.rows_ends.proofs.Ends.{ends_start, ends_turn}
use Rattle.rows_ends.proofs.new_ends.Given as goal

abbrev pub invariant-loop-j : goal.invariant-loop-j
invariant-loop-j l = (l.j ≤ l.n) × NewEnds l.side l.at l.groups l.v l.next l.j l.initial.ends l.ends
