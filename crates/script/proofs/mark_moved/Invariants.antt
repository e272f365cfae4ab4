-- `script::mark_moved` meets its contract. The loop's invariant: what is flagged, with the numbers that are left, is all that is to be flagged.
-- Assumes nothing.
use Prim.Native.Nat.{◌-◌}
use Rattle.number.specs.Numbers.{read_number}
use Rattle.decode_parts.specs.Lists.{numbers_read, Stand}
use Rattle.script.proofs.Moved.{Marking}
use Rattle.script.proofs.mark_moved.Given as goal

abbrev pub invariant-loop : goal.invariant-loop
invariant-loop l =
    Stand read_number l.script l.at (l.count - l.counter) × Marking (numbers_read l.script l.place l.count) (numbers_read l.script l.at (l.count - l.counter)) l.flags
