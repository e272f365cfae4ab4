-- `count_uses` meets its contract. Assumes nothing.
use borrow.Author.Rules.{rules}
use lib.ListN.{length, take, drop, get_or}
use Rattle.store.specs.View.{width, width_sum, cycles_from}
use Rattle.rows_sides.proofs.Passing.{Walked, walked_none, walked_room, walked_part, walked_on, sum_next}
use Prim.Native.Nat.{ℕ, ◌≤◌, ◌<◌, ◌-◌, ◌+◌}
use mathlib.Core.Path.{◌≡◌, refl, ◌∙◌}
use native.Mathlib.Omega.{arith}
use Rattle.complex.specs.Lists.{total}
use Rattle.rows_uses.specs.Uses.{uses_in}
use Rattle.store.proofs.Lists.{places_one}
use Rattle.rows_uses.proofs.Runs.{uses_few}
use Rattle.rows_uses.proofs.count_uses.Given as goal

abbrev pub invariant-loop-j : goal.invariant-loop-j
invariant-loop-j l =
    Walked l.cycles l.steps l.n l.j l.from × (l.sum ≡ total (uses_in l.u l.i) (cycles_from (take l.j l.cycles) l.steps)) × (l.sum ≤ l.from)
