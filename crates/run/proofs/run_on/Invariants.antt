-- `run_on` meets its contract: each turn is a command of the script. Assumes nothing.
use Rattle.std.proofs.Common.{◌-◌, length}
use Rattle.lent.specs.Sheets.{arrays, Same}
use Rattle.run.proofs.Coming.{Come}
use Rattle.run.proofs.run_on.Given as goal

abbrev pub invariant-loop-at : goal.invariant-loop-at
invariant-loop-at l =
    record {
      come : Come (arrays l.initial.sheet) l.script (arrays l.sheet) l.at l.commands;
      same : Same l.initial.sheet l.sheet;
    }

abbrev pub decreases-loop-at : goal.decreases-loop-at
decreases-loop-at l = length l.script - l.at
