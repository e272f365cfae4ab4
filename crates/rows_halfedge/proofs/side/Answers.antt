-- `rows_halfedge::side` meets its contract. The first n places have what the array has. Assumes nothing.
use borrow.Author.Rules.{rules}
use Rattle.sound.proofs.Looking.{side_back, side_forth}
use Rattle.rows_halfedge.proofs.side.Goals as goal

pub returns-then-s-eq1 : goal.returns-then-s-eq1
returns-then-s-eq1 c = side_back _ _ _ _ _ c.requires.row_lt_n c.if-s-eq1.true

pub returns : goal.returns
returns c = side_forth _ _ _ _ _ c.requires.row_lt_n c.if-s-eq1.false
