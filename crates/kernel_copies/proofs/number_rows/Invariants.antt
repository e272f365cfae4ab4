-- `number_rows` meets its contract: a row more at each turn. Assumes nothing.
use Prim.Native.Nat.{◌≤◌, ◌+◌}
use mathlib.Core.Path.{◌≡◌}
use Rattle.kernel_copies.specs.Copies.{numbered_rows}
use Rattle.kernel_copies.proofs.number_rows.Given as goal

abbrev pub invariant-loop-i : goal.invariant-loop-i
invariant-loop-i l = record { within : l.i ≤ l.n; id : l.id ≡ l.x + l.i; numbered : l.l ≡ numbered_rows l.initial.l l.at l.x l.i }
