-- `between` meets its contract. Assumes nothing.
use borrow.Author.Rules.{rules}
use borrow.Author.Tests.{le-leb, lt-leb}
use Rattle.rows_corners.proofs.between.Goals as goal

pub returns-then-s-t : goal.returns-then-s-t
returns-then-s-t c =
    let a = c.args in
    rw (le-leb a.s a.t c.if-s-t.true)

pub returns : goal.returns
returns c =
    let a = c.args in
    rw (lt-leb a.s a.t c.if-s-t.false)
