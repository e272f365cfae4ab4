-- `decode_parts::skip_numbers` meets its contract. The loop's invariant: the numbers after those that were passed end where all of them end.
-- Assumes nothing.
use Rattle.number.specs.Numbers.{read_number}
use Rattle.decode_parts.proofs.Skips.{Skipping}
use Rattle.decode_parts.proofs.skip_numbers.Given as goal

abbrev pub invariant-loop : goal.invariant-loop
invariant-loop l = Skipping read_number l.script l.at l.count l.place l.counter
