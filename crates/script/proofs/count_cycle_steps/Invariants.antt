-- `script::count_cycle_steps` meets its contract. The loop's invariant: the sum so far and the steps of the cycles that are left make the whole count.
-- Assumes nothing.
use mathlib.Core.Path.{◌≡◌}
use Prim.Native.Nat.{◌+◌, ◌≤◌, ◌-◌}
use Rattle.complex.specs.Lists.{total}
use Rattle.complex.specs.Sound.{step_count}
use Rattle.complex.specs.Decode.{read_cycle}
use Rattle.decode_parts.specs.Lists.{cycles_read, Stand}
use Rattle.script.proofs.count_cycle_steps.Given as goal

abbrev pub invariant-loop-i : goal.invariant-loop-i
invariant-loop-i l =
    Stand read_cycle l.script l.at (l.count - l.i) × (l.most ≡ l.max) × (l.sum ≤ l.most)
    × (l.sum + total step_count (cycles_read l.script l.at (l.count - l.i)) ≡ total step_count (cycles_read l.script l.first l.count))
