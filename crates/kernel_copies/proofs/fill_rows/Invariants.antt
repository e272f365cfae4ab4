-- `fill_rows` meets its contract: a row more at each turn. Assumes nothing.
use Prim.Native.Nat.{◌≤◌}
use mathlib.Core.Path.{◌≡◌}
use Rattle.kernel_copies.specs.Copies.{filled_rows}
use Rattle.kernel_copies.proofs.fill_rows.Given as goal

abbrev pub invariant-loop-i : goal.invariant-loop-i
invariant-loop-i l = record { within : l.i ≤ l.n; filled : l.l ≡ filled_rows l.initial.l l.at l.x l.i }
