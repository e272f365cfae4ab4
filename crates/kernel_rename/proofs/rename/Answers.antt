-- `rename` meets its contract. Assumes nothing.
use borrow.Author.Tests.{eq-eqb, ne_eqb}
use Rattle.kernel_rename.proofs.rename.Goals as goal

pub returns-then-b-v : goal.returns-then-b-v
returns-then-b-v c = simp (eq-eqb _ _ c.if-b-v.true)

pub returns-else-b-v : goal.returns-else-b-v
returns-else-b-v c = simp (ne_eqb _ _ c.if-b-v.false)
