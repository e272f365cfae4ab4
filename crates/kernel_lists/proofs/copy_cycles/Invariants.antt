-- `copy_cycles` meets its contract: after i cycles those of them that are not skipped follow the list. Assumes nothing.
use borrow.Author.Rules.{rules}
use Prim.Native.Nat.{ℕ, ◌+◌, ◌≤◌, ◌<◌, ◌-◌}
use mathlib.Core.Path.{◌≡◌, sym, ◌∙◌}
use mathlib.Core.Bool.{false}
use native.Mathlib.Omega.{arith}
use lib.ListN.{length, drop, get_or, length-drop}
use lib.Seq.{get_or-drop}
use Rattle.store.proofs.Lists.{places_one}
use Rattle.rows_spans.proofs.Building.{Copying, copying_start, copying_place, copying_cycles, copying_steps, copying_turn}
use Rattle.kernel_lists.proofs.copy_cycles.Given as goal

abbrev pub invariant-loop-i : goal.invariant-loop-i
invariant-loop-i l =
    (l.i ≤ l.k) × Copying (drop l.from l.cycles) l.src l.step l.skip l.initial.counts l.initial.out l.initial.steps l.i l.at l.counts l.out l.steps
