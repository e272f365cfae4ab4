-- `script::moved_rise` meets its contract. The loop's invariant: the test of all the numbers is the test of those that are left, from the least that may come.
-- Assumes nothing.
use Rattle.number.specs.Numbers.{read_number}
use Prim.Native.Nat.{ℕ, ◌-◌}
use mathlib.Core.List.{List}
use Rattle.complex.specs.Lists.{places}
use Rattle.decode_parts.specs.Lists.{numbers_read}
use Rattle.script.proofs.Steps.{Asking}
use Rattle.script.proofs.moved_rise.Given as goal

abbrev pub invariant-loop : goal.invariant-loop
invariant-loop l =
    Asking read_number l.script l.place l.count l.at (l.count - l.counter) (λ (ns : List ℕ). places l.least ns l.limit) (places 0 (numbers_read l.script l.place l.count) l.limit)
