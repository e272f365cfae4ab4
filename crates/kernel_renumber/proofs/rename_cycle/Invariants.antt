-- `rename_cycle` meets its contract. Assumes nothing.
use borrow.Author.Rules.{rules}
use Prim.Native.Nat.{◌-◌, ◌≤◌}
use native.Mathlib.Omega.{arith}
use mathlib.Core.Path.{◌≡◌}
use mathlib.Core.List.{map}
use lib.ListN.{take, drop}
use Rattle.rows_steps.specs.Swap.{Wrote}
use Rattle.rows_steps.proofs.Writing.{wrote_none}
use Rattle.kernel_renumber.specs.Renumbers.{new_id, new_place}
use Rattle.kernel_renumber.proofs.Places.{wrote_more}
use Rattle.kernel_renumber.proofs.rename_cycle.Given as goal

abbrev pub invariant-loop-j : goal.invariant-loop-j
invariant-loop-j l = (l.j ≤ l.k) × Wrote l.initial.steps l.at (map (new_place (new_id (take l.n l.ids)) l.lone) (take l.j (drop l.at l.initial.steps))) l.steps
