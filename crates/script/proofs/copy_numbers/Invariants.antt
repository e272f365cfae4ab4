-- `script::copy_numbers` meets its contract. The loop's invariant: what is left to copy makes, from here on, what all of it makes. Assumes nothing.
use Prim.Native.Nat.{◌-◌}
use Rattle.script.proofs.Loads.{Copying}
use Rattle.script.proofs.copy_numbers.Given as goal

abbrev pub invariant-loop-row : goal.invariant-loop-row
invariant-loop-row l = Copying l.script l.at l.count l.to l.initial.out l.out l.place (l.row-end - l.row) l.row
