-- `script::moved_has` meets its contract. The loop's invariant: the numbers that are left hold it if all of them do. Assumes nothing.
use Prim.Native.Nat.{◌-◌}
use Rattle.number.specs.Numbers.{read_number}
use Rattle.complex.specs.Lists.{holds}
use Rattle.decode_parts.specs.Lists.{numbers_read}
use Rattle.script.proofs.Steps.{Asking}
use Rattle.script.proofs.moved_has.Given as goal

abbrev pub invariant-loop : goal.invariant-loop
invariant-loop l =
    Asking read_number l.script l.place l.count l.at (l.count - l.counter) (holds l.cycle) (holds l.cycle (numbers_read l.script l.place l.count))
