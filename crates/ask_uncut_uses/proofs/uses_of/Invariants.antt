-- `uses_of` meets its contract. The loop keeps: the uses of the rows left are to be added. Assumes nothing.
use borrow.Author.Rules.{rules}
use Prim.Native.Nat.{◌≤◌, ◌-◌, ◌+◌}
use mathlib.Core.Path.{ap, ◌∙◌}
use mathlib.Core.Logic.{⊎_elim}
use native.Mathlib.Omega.{arith}
use lib.ListN.{take, drop}
use Rattle.store.specs.View.{width_sum}
use Rattle.ask_uncut_uses.specs.declared.Past.{Past}
use Rattle.ask_uncut_uses.proofs.Using.{Rowing, rowing_start, rowing_cycles, rowing_places, rowing_turn, rowing_skip, rowing_end}
use Rattle.ask_uncut_uses.proofs.uses_of.Given as goal

abbrev pub invariant-loop-i : goal.invariant-loop-i
invariant-loop-i l = (l.i ≤ l.n) × Rowing l.e l.n l.ids l.counts l.pool l.steps l.x l.c0 l.from l.i
