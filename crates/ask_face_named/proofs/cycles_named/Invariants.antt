-- `cycles_named` meets its contract. The loop's invariant: the cycles that are left name vertices and edges if all of them do. Assumes nothing.
use lib.ListN.{take}
use Prim.Native.Nat.{◌-◌}
use Rattle.complex.specs.Lists.{all}
use Rattle.complex.specs.Decode.{read_cycle}
use Rattle.decode_parts.specs.Lists.{cycles_read}
use Rattle.script.proofs.Steps.{Asking}
use Rattle.ask_face_named.specs.Walks.{names_in}
use Rattle.ask_face_named.proofs.cycles_named.Given as goal

abbrev pub invariant-loop : goal.invariant-loop
invariant-loop l =
    Asking read_cycle l.script l.first l.k l.at (l.k - l.counter) (all (names_in (take l.n l.ids) (take l.n l.kinds)))
    (all (names_in (take l.n l.ids) (take l.n l.kinds)) (cycles_read l.script l.first l.k))
