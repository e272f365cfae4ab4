-- `place_sum` meets its contract: after i counts the sum is of those. Assumes nothing.
use borrow.Author.Rules.{rules}
use Prim.Native.Nat.{ℕ, ◌≤◌, ◌-◌, ◌+◌}
use mathlib.Core.Path.{◌≡◌, ap, ap₂, sym, ◌∙◌}
use mathlib.Core.List.{List}
use native.Mathlib.Omega.{arith}
use lib.ListN.{take, drop, length-drop}
use lib.Seq.{get_or-drop}
use Rattle.complex.specs.Lists.{total}
use Rattle.store.specs.Edits.{places_of}
use Rattle.store.proofs.Lists.{sum_more, sum_le}
use Rattle.rows_spans.proofs.place_sum.Given as goal

abbrev pub invariant-loop-i : goal.invariant-loop-i
invariant-loop-i l = (l.i ≤ l.n) × (l.sum ≡ total (places_of l.z) (take l.i (drop l.from l.counts)))
