-- `mark_ends` meets its contract. Assumes nothing.
use borrow.Author.Rules.{rules}
use Prim.Native.Nat.{ℕ, ◌+◌, ◌*◌, ◌-◌, ◌≤◌}
use native.Mathlib.Omega.{arith}
use mathlib.Core.Path.{◌≡◌, refl, subst, ◌∙◌}
use lib.ListN.{length, length-set}
use Rattle.rows_ends.specs.Ends.{EndMarks}
use Rattle.rows_ends.proofs.Ends.{marks_turn}
use Rattle.rows_ends.proofs.mark_ends.Given as goal

abbrev pub invariant-loop-j : goal.invariant-loop-j
invariant-loop-j l = (l.j ≤ l.n) × (length l.at ≡ length l.initial.at) × EndMarks l.kinds l.starts l.ends l.v l.j l.at
