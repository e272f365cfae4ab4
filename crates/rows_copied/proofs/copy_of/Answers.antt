-- `copy_of` meets its contract. Assumes nothing.
use borrow.Author.Rules.{rules}
use Rattle.rows_copied.proofs.Runs.{copy_later}
use Rattle.rows_copied.proofs.copy_of.Goals as goal

pub returns : goal.returns
returns c = copy_later c.args.i c.args.next c.args.k c.if-k-eq0.false
