-- `lent_table::is_vertex` meets its contract. The kind in the row. Assumes nothing.
use borrow.Author.Rules.{rules}
use native.Mathlib.Omega.{arith}
use Rattle.sound.proofs.Looking.{vertex_found, vertex_none}
use Rattle.lent_table.proofs.is_vertex.Goals as goal

pub returns-then-row-n : goal.returns-then-row-n
returns-then-row-n c =
    let f = c in
    let a = f.args in
    vertex_found a.ids.now a.kinds.now a.n _ a.v (omega arith) f.row_of-row.ensures (omega arith)

pub returns : goal.returns
returns c =
    let f = c in
    let a = f.args in
    vertex_none a.ids.now a.kinds.now a.n _ a.v (omega arith) f.row_of-row.ensures (omega arith)
