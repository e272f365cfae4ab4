-- `pieces` meets its contract. Assumes nothing.
use Prim.Native.Nat.{◌-◌, ◌≤◌}
use Rattle.complex.specs.Sound.{cells_most}
use Rattle.lent.specs.Arrays.{held_by, rows_by}
use Rattle.lent.specs.Sheets.{seen}
use Rattle.call_pieces.proofs.Rows.{Counting}
use Rattle.call_pieces.proofs.pieces.Given as goal

abbrev pub invariant-loop-i : goal.invariant-loop-i
invariant-loop-i l = record {
  i_le_count : l.i ≤ l.view.count;
  few : l.view.count ≤ cells_most;
  counting : Counting (held_by (seen l.view)) (rows_by (seen l.view)) l.i l.up l.left l.first l.from;
}
