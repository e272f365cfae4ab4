-- `put_cells` meets its contract: a row more at each turn. Assumes nothing.
use Prim.Native.Nat.{◌≤◌, ◌-◌}
use mathlib.Core.Path.{◌≡◌}
use Rattle.lent.specs.Sheets.{arrays, Same}
use Rattle.lent.proofs.Held.{numbered}
use Rattle.door.proofs.Rows.{Put, rest_from}
use Rattle.door.proofs.put_cells.Given as goal

abbrev pub invariant-loop-i : goal.invariant-loop-i
invariant-loop-i l =
    record {
      inside : l.i ≤ 256;
      rows : Put l.cells (numbered (arrays l.sheet) 0 l.i);
      same : Same l.initial.sheet l.sheet;
      kept : arrays l.sheet ≡ rest_from (arrays l.initial.sheet) (arrays l.sheet);
    }
