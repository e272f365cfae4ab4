-- `cycle_named` meets its contract. The loop's invariant: the steps that are left name edges if all of them do. Assumes nothing.
use Prim.Native.Nat.{◌-◌}
use lib.ListN.{take}
use Rattle.number.specs.Numbers.{read_number}
use Rattle.complex.specs.Lists.{all}
use Rattle.decode_parts.specs.Lists.{numbers_read}
use Rattle.script.proofs.Steps.{Asking}
use Rattle.ask_face_named.specs.Walks.{step_named}
use Rattle.ask_face_named.proofs.cycle_named.Given as goal

abbrev pub invariant-loop : goal.invariant-loop
invariant-loop l =
    Asking read_number l.script l.first l.m l.place (l.m - l.counter) (all (step_named (take l.n l.ids) (take l.n l.kinds)))
    (all (step_named (take l.n l.ids) (take l.n l.kinds)) (numbers_read l.script l.first l.m))
