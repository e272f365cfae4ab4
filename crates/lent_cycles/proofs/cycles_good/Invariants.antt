-- `lent_cycles::cycles_good` meets its contract. The loop keeps: the sum of the steps so far, and that the cycles left decide. Assumes nothing.
use borrow.Author.Rules.{rules}
use Prim.Native.Nat.{◌≤◌, ◌-◌}
use mathlib.Core.Path.{refl, sym, ap, ◌∙◌}
use native.Mathlib.Omega.{arith}
use lib.ListN.{get_or}
use borrow.Author.Tests.{not-true, not-false}
use Rattle.store.proofs.Lists.{places_one}
use Rattle.sound.specs.Rows.{rows_of}
use Rattle.lent_cycles.specs.Ring.{steps_say}
use Rattle.lent_cycles.proofs.Going.{Going, going_start, going_over, going_fail, going_turn, going_end}
use Rattle.lent_cycles.proofs.cycles_good.Given as goal

abbrev pub invariant-loop-i : goal.invariant-loop-i
invariant-loop-i l = (l.i ≤ l.m) × Going (rows_of l.n l.ids l.kinds l.starts l.ends) l.cycles l.steps l.k l.m l.at l.i
