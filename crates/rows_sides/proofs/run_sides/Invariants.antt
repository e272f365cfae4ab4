-- `run_sides` meets its contract. Assumes nothing.
use borrow.Author.Rules.{rules}
use Prim.Native.Nat.{ℕ, ◌≤◌, ◌-◌}
use mathlib.Core.Path.{◌≡◌, refl, ◌∙◌}
use native.Mathlib.Omega.{arith}
use lib.ListN.{take, get_or}
use Rattle.complex.specs.Lists.{total}
use Rattle.store.specs.View.{halfedge_of}
use Rattle.store.proofs.Lists.{sum_more}
use Rattle.rows_sides.specs.Sides.{forward_use, backward_use}
use Rattle.rows_sides.proofs.Counting.{total_map, forward_one, backward_one}
use Rattle.rows_sides.proofs.run_sides.Given as goal

abbrev pub invariant-loop-j : goal.invariant-loop-j
invariant-loop-j l =
    (l.j ≤ l.n) × (l.forward ≡ total (λ (s : ℕ). forward_use l.e (halfedge_of s)) (take l.j l.l))
    × (l.backward ≡ total (λ (s : ℕ). backward_use l.e (halfedge_of s)) (take l.j l.l)) × (l.forward ≤ l.j) × (l.backward ≤ l.j)
