-- `find_links` meets its contract. Assumes nothing.
use borrow.Author.Rules.{rules}
use Prim.Native.Nat.{ℕ, ◌+◌, ◌-◌, ◌≤◌, ◌<◌}
use native.Mathlib.Omega.{arith}
use mathlib.Core.Path.{◌≡◌, refl, ap, ◌∙◌}
use lib.ListN.{length, take, drop, get_or, length-drop}
use Rattle.store.specs.View.{width, width_sum, cycles_from}
use Rattle.store.proofs.Lists.{places_one}
use Rattle.rows_sides.proofs.Passing.{part_is, from_more, from_within}
use Rattle.rows_links.specs.Links.{turns_of}
use Rattle.rows_links.proofs.Links.{Linking, linking_none, linking_on, put_as, put_over, cycles_turn}
use Rattle.rows_links.proofs.find_links.Given as goal

abbrev pub invariant-loop-j : goal.invariant-loop-j
invariant-loop-j l =
    (l.j ≤ l.m) × (l.from ≡ width_sum (take l.j l.cycles)) × Linking (take l.n l.ids) l.at (turns_of (cycles_from (take l.j l.cycles) l.steps)) 0 l.initial.xs l.initial.ys l.from l.k l.xs l.ys
