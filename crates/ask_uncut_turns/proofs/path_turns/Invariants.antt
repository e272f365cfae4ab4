-- `path_turns` meets its contract. The loop keeps: the whole test is the test of the passages left. Assumes nothing.
use borrow.Author.Rules.{rules}
use Prim.Native.Nat.{◌≤◌, ◌-◌}
use mathlib.Core.Path.{refl, sym, ◌∙◌}
use native.Mathlib.Omega.{arith}
use Rattle.sound.specs.Rows.{rows_of}
use Rattle.ask_uncut_turns.specs.Turns.{turns_at}
use Rattle.ask_uncut_turns.proofs.Turning.{Turning, turning_start, turning_found, turning_turn, turning_end}
use Rattle.ask_uncut_turns.proofs.path_turns.Given as goal

abbrev pub invariant-loop-i : goal.invariant-loop-i
invariant-loop-i l =
    (l.i ≤ l.m) × Turning (turns_at (rows_of l.n l.ids l.kinds l.starts l.ends) l.whole l.v) l.steps l.from l.m l.first l.h l.i
