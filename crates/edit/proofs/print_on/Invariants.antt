-- `print_on` meets its contract: each piece but the last takes a command, so fewer bytes of the script are left. Assumes nothing.
use Rattle.std.proofs.Common.{◌-◌, T, length}
use Rattle.lent.specs.Arrays.{sound_arrays}
use Rattle.lent.specs.Sheets.{arrays, Same}
use Rattle.edit.proofs.print_on.Given as goal

abbrev pub invariant-loop-out : goal.invariant-loop-out
invariant-loop-out g l =
    record { sound : T (sound_arrays (arrays l.sheet)); same : Same l.initial.sheet l.sheet }

abbrev pub decreases-loop-out : goal.decreases-loop-out
decreases-loop-out g l = length l.script - l.at
