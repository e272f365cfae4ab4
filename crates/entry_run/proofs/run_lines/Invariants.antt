-- `entry_run::run_lines` meets its contract: each turn is a command of the script. Assumes nothing.
use Prim.Native.Nat.{◌-◌}
use lib.ListN.{length}
use Rattle.lent.specs.Sheets.{arrays, Same}
use Rattle.entry_run.proofs.Running.{Come}
use Rattle.entry_run.proofs.run_lines.Given as goal

abbrev pub invariant-loop-at : goal.invariant-loop-at
invariant-loop-at l =
    record {
      come : Come (arrays l.initial.sheet) l.script l.initial.lines l.lines (arrays l.sheet) l.at l.commands;
      same : Same l.initial.sheet l.sheet;
    }

abbrev pub decreases-loop-at : goal.decreases-loop-at
decreases-loop-at l =
    length l.script - l.at
