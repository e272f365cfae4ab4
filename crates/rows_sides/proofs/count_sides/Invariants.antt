-- `count_sides` meets its contract. Assumes nothing.
use borrow.Author.Rules.{rules}
use Prim.Native.Nat.{ℕ, ◌≤◌, ◌<◌, ◌-◌, ◌+◌}
use mathlib.Core.Path.{◌≡◌, refl, ◌∙◌}
use native.Mathlib.Omega.{arith}
use lib.ListN.{length, take, drop, get_or}
use Rattle.complex.specs.Lists.{total}
use Rattle.store.specs.View.{width, width_sum, cycles_from}
use Rattle.store.proofs.Lists.{places_one}
use Rattle.rows_sides.specs.Sides.{forward_use, backward_use, forward_in, backward_in}
use Rattle.rows_sides.proofs.Counting.{cycle_few, forward_one, backward_one}
use Rattle.rows_sides.proofs.Passing.{Walked, walked_none, walked_room, walked_on, part_room, sum_next}
use Rattle.rows_sides.proofs.count_sides.Given as goal

abbrev pub invariant-loop-j : goal.invariant-loop-j
invariant-loop-j l =
    Walked l.cycles l.steps l.n l.j l.from × (l.forward ≡ total (forward_in l.e) (cycles_from (take l.j l.cycles) l.steps))
    × (l.backward ≡ total (backward_in l.e) (cycles_from (take l.j l.cycles) l.steps)) × (l.forward ≤ l.from)
    × (l.backward ≤ l.from)
