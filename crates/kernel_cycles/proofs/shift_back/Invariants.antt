-- `shift_back` meets its contract. Assumes nothing.
use Rattle.kernel_cycles.proofs.Moving.{GoingBack}
use Rattle.kernel_cycles.proofs.shift_back.Given as goal

abbrev pub invariant-loop-i : goal.invariant-loop-i
invariant-loop-i l = GoingBack l.initial.l l.from l.n l.to l.i l.l
