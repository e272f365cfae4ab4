-- `rows_halfedge::goes_on` meets its contract. The kind in the row, then where the step begins. Assumes nothing.
use borrow.Author.Rules.{rules}
use native.Mathlib.Omega.{arith}
use Rattle.sound.proofs.Looking.{goes_open, goes_not}
use Rattle.rows_halfedge.proofs.goes_on.Goals as goal

pub returns-then-k-eq-OPEN : goal.returns-then-k-eq-OPEN
returns-then-k-eq-OPEN c =
    let s = c in
    let a = s.args in
    goes_open a.n a.kinds.now a.starts.now a.ends.now a.row a.u a.s (omega arith) (omega arith) c.if-k-eq-OPEN.true _
    c.side-t.ensures

pub returns : goal.returns
returns c =
    let s = c in
    let a = s.args in
    goes_not a.n a.kinds.now a.starts.now a.ends.now a.row a.u a.s (omega arith) (omega arith) c.if-k-eq-OPEN.false
