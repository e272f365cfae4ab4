-- `find_groups` meets its contract. Assumes nothing.
use borrow.Author.Rules.{rules}
use Prim.Native.Nat.{ℕ, ◌-◌, ◌≤◌}
use native.Mathlib.Omega.{arith}
use mathlib.Core.Path.{◌≡◌, refl, sym, subst, ◌∙◌}
use lib.ListN.{length}
use Rattle.rows_groups.specs.Search.{LinksReady, Sorting}
use Rattle.rows_groups.proofs.find_groups.Given as goal

abbrev pub invariant-loop-p : goal.invariant-loop-p
invariant-loop-p l = (l.p ≤ l.n) × (length l.groups ≡ length l.initial.groups) × Sorting l.at l.xs l.ys l.m l.p l.g l.groups
