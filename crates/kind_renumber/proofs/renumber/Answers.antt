-- `renumber` meets its contract: the kernel's drawing, and 0. Assumes nothing.
use Rattle.lent.proofs.Sums.{ready_cycles}
use Rattle.kind_renumber.proofs.renumber.Goals as goal

pub renumber-requires-clause-k_value : goal.renumber-requires-clause-k_value
renumber-requires-clause-k_value c = ready_cycles _ _ c.requires
