-- `put_lines` meets its contract: each turn puts the line of a command. Assumes nothing.
use Prim.Native.Nat.{◌-◌}
use lib.ListN.{length}
use Rattle.lent.specs.Sheets.{arrays, Same}
use Rattle.printing.specs.Lines.{LinesPut}
use Rattle.printing.proofs.put_lines.Given as goal

abbrev pub invariant-loop-at : goal.invariant-loop-at
invariant-loop-at l =
    record {
      put : LinesPut (arrays l.initial.sheet) l.script l.from (arrays l.sheet) l.initial.out l.out l.at l.end;
      same : Same l.initial.sheet l.sheet;
    }

abbrev pub decreases-loop-at : goal.decreases-loop-at
decreases-loop-at l = length l.script - l.at
