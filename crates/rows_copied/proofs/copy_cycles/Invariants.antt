-- `copy_cycles` meets its contract. Assumes nothing.
use borrow.Author.Rules.{rules}
use lib.ListN.{length, take, drop, get_or}
use mathlib.Core.List.{List}
use Rattle.store.specs.View.{width, cycle_of}
use Rattle.rows_uses.specs.Uses.{uses_in}
use Rattle.rows_copied.specs.Copying.{Changed, copied}
use mathlib.Core.Path.{subst, ◌≡◌, refl, ap, ◌∙◌}
use Rattle.rows_sides.proofs.Passing.{part_is, part_room, from_within}
use Rattle.rows_copied.proofs.Passing.{part_put, Passing, passing_start, passing_turn}
use Prim.Native.Nat.{ℕ, ◌+◌, ◌≤◌, ◌<◌, ◌-◌}
use native.Mathlib.Omega.{arith}
use Rattle.store.proofs.Lists.{places_one}
use Rattle.rows_uses.proofs.Runs.{uses_few}
use Rattle.rows_copied.proofs.copy_cycles.Given as goal

abbrev pub invariant-loop-j : goal.invariant-loop-j
invariant-loop-j l =
    (l.j ≤ l.n) × Passing (uses_in l.u l.i) (copied l.u l.i l.next) l.k0 l.cycles l.initial.steps l.j l.from l.k l.steps
