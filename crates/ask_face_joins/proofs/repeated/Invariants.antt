-- `repeated` meets its contract. The loop's invariant: those that are left are s if all of them are. Assumes nothing.
use lib.Dec.{eqb}
use Prim.Native.Nat.{◌-◌}
use Rattle.number.specs.Numbers.{read_number}
use Rattle.complex.specs.Lists.{all}
use Rattle.decode_parts.specs.Lists.{numbers_read}
use Rattle.script.proofs.Steps.{Asking}
use Rattle.ask_face_joins.proofs.repeated.Given as goal

abbrev pub invariant-loop : goal.invariant-loop
invariant-loop l = Asking read_number l.script l.at l.m l.place (l.m - l.counter) (all (eqb l.s)) (all (eqb l.s) (numbers_read l.script l.at l.m))
