-- `head_of` meets its contract. Assumes nothing.
use borrow.Author.Rules.{rules}
use Rattle.kernel_places.proofs.head_of.Goals as goal

pub returns-then-back : goal.returns-then-back
returns-then-back c = rw c.if-back.true c.value_at.ensures

pub returns : goal.returns
returns c = rw c.if-back.false c.value_at-2.ensures
