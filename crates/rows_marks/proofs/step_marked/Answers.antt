-- `step_marked` meets its contract. Assumes nothing.
use Rattle.rows_marks.proofs.Faces.{unflagged}
use borrow.Author.Rules.{rules}
use Rattle.rows_marks.proofs.step_marked.Goals as goal

pub returns : goal.returns
returns c =
    let s = c in
    let a = s.args in
    unflagged a.ids.now a.marks.now a.n a.flags.now s.requires _ _ c.wide-at.ensures c.if-flags-at.false
