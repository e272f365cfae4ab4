-- `fill_positions` meets its contract: a row more at each turn. Assumes nothing.
use Prim.Native.Nat.{◌≤◌}
use mathlib.Core.Path.{◌≡◌}
use Rattle.kernel_copies.specs.Copies.{filled_rows}
use Rattle.kernel_copies.proofs.fill_positions.Given as goal

abbrev pub invariant-loop-i : goal.invariant-loop-i
invariant-loop-i l = record { within : l.i ≤ l.n; xs : l.px ≡ filled_rows l.initial.px l.at l.p.x l.i; ys : l.py ≡ filled_rows l.initial.py l.at l.p.y l.i }
