-- `turns` meets its contract. The loop keeps: the whole test is the test of the cycles left, whose steps begin at `from`. Assumes nothing.
use borrow.Author.Rules.{rules}
use Prim.Native.Nat.{ℕ, ◌+◌, ◌-◌, ◌≤◌}
use mathlib.Core.Path.{sym, ◌∙◌}
use native.Mathlib.Omega.{arith}
use lib.ListN.{get_or}
use Rattle.complex.specs.Cells.{Cycle, steps_of}
use Rattle.complex.specs.Uses.{passages}
use Rattle.store.specs.View.{width}
use Rattle.store.proofs.Lists.{places_one}
use Rattle.sound.specs.Rows.{rows_of}
use Rattle.ask_uncut_turns.specs.Turns.{turns_at}
use Rattle.ask_uncut_turns.proofs.Turning.{Rounding, rounding_start, rounding_room, rounding_found, rounding_turn, rounding_end}
use Rattle.ask_uncut_turns.proofs.turns.Given as goal

abbrev pub invariant-loop-i : goal.invariant-loop-i
invariant-loop-i l =
    (l.i ≤ l.m) × Rounding (turns_at (rows_of l.n l.ids l.kinds l.starts l.ends) l.whole l.v) (λ (k : Cycle). passages (steps_of k)) l.cycles l.steps l.m l.from l.i
