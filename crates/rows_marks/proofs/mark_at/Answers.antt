-- `mark_at` meets its contract. Assumes nothing.
use native.Mathlib.Omega.{arith}
use mathlib.Core.Bool.{false}
use Rattle.rows_marks.proofs.Marking.{mark_found, mark_none}
use borrow.Author.Rules.{rules}
use Rattle.rows_marks.proofs.mark_at.Goals as goal

pub returns-then-row-n : goal.returns-then-row-n
returns-then-row-n c =
    let f = c in
    let a = f.args in
    mark_found a.ids.now a.marks.now a.n _ a.edge (omega arith) f.find-row.ensures false (omega arith)

pub returns : goal.returns
returns c =
    let f = c in
    let a = f.args in
    mark_none a.ids.now a.marks.now a.n _ a.edge (omega arith) f.find-row.ensures (omega arith)
