-- `heads` meets its contract. The loop's invariant: the sum is that of the first i cells. Assumes nothing.
use Prim.Native.Nat.{◌-◌, ◌≤◌}
use mathlib.Core.Path.{◌≡◌}
use lib.ListN.{take}
use Rattle.complex.specs.Lists.{total}
use Rattle.file_length.specs.Widths.{head_width}
use Rattle.lent.specs.Arrays.{held_by}
use Rattle.lent.specs.Sheets.{seen}
use Rattle.call_cells.proofs.heads.Given as goal

abbrev pub invariant-loop-i : goal.invariant-loop-i
invariant-loop-i l =
    (l.i ≤ l.n) × (l.sum ≡ total head_width (take l.i (held_by (seen l.view)).cells))
