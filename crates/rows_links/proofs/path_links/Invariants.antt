-- `path_links` meets its contract. Assumes nothing.
use borrow.Author.Rules.{rules}
use Prim.Native.Nat.{◌+◌, ◌-◌, ◌≤◌}
use native.Mathlib.Omega.{arith}
use mathlib.Core.List.{map}
use lib.ListN.{take}
use Rattle.complex.specs.Uses.{passages}
use Rattle.store.specs.View.{halfedge_of}
use lib.Seq.{take_all}
use Rattle.rows_links.proofs.Links.{Linking, linking_none, linking_on, put_as, path_turn, path_length}
use Rattle.rows_links.proofs.path_links.Given as goal

abbrev pub invariant-loop-j : goal.invariant-loop-j
invariant-loop-j l =
    (l.j ≤ l.c) × Linking (take l.n l.ids) l.at (take l.j (passages (map halfedge_of (take l.c l.l)))) l.used l.initial.xs l.initial.ys (l.used + l.j) l.k l.xs l.ys
