-- `decode_parts::skip_cycles` meets its contract. The loop's invariant: the cycles after those that were passed end where all of them end.
-- Assumes nothing.
use Rattle.complex.specs.Decode.{read_cycle}
use Rattle.decode_parts.proofs.Skips.{Skipping}
use Rattle.decode_parts.proofs.skip_cycles.Given as goal

abbrev pub invariant-loop : goal.invariant-loop
invariant-loop l = Skipping read_cycle l.script l.at l.count l.place l.counter
