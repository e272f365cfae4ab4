-- `cycles_join` meets its contract. The loop's invariant: the cycles that are left join if all of them do. Assumes nothing.
use mathlib.Core.Bool.{false}
use mathlib.Core.Path.{◌≡◌}
use lib.ListN.{length}
use Prim.Native.Nat.{◌-◌}
use Rattle.complex.specs.Lists.{all}
use Rattle.complex.specs.Decode.{read_cycle}
use Rattle.sound.specs.Rows.{rows_of}
use Rattle.decode_parts.specs.Lists.{cycles_read}
use Rattle.script.proofs.Steps.{Asking}
use Rattle.ask_face_named.specs.Walks.{passes_in}
use Rattle.ask_face_joins.proofs.cycles_join.Given as goal

abbrev pub invariant-loop : goal.invariant-loop
invariant-loop l =
    Asking read_cycle l.script l.first l.k l.at (l.k - l.counter) (all (passes_in (rows_of l.n l.ids l.kinds l.starts l.ends) false))
    (all (passes_in (rows_of l.n l.ids l.kinds l.starts l.ends) false) (cycles_read l.script l.first l.k))
    × (length l.hints ≡ 256)
