-- `leads` meets its contract. The loop's invariant: the steps that are left lead from here to w if all of them lead from u. Assumes nothing.
use Prim.Native.Nat.{ℕ, ◌-◌}
use mathlib.Core.List.{List}
use mathlib.Core.Path.{◌≡◌}
use lib.ListN.{length}
use Rattle.number.specs.Numbers.{read_number}
use Rattle.sound.specs.Rows.{rows_of, leads_in}
use Rattle.decode_parts.specs.Lists.{numbers_read}
use Rattle.script.proofs.Steps.{Asking}
use Rattle.ask_face_joins.proofs.leads.Given as goal

abbrev pub invariant-loop : goal.invariant-loop
invariant-loop l =
    Asking read_number l.script l.at l.m l.place (l.m - l.counter) (λ (ns : List ℕ). leads_in (rows_of l.n l.ids l.kinds l.starts l.ends) l.here ns l.w)
    (leads_in (rows_of l.n l.ids l.kinds l.starts l.ends) l.u (numbers_read l.script l.at l.m) l.w)
    × (length l.hints ≡ 256)
