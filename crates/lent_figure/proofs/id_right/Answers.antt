-- `lent_row::id_right` meets its contract. Below the next id, then above the one before. Assumes nothing.
use borrow.Author.Rules.{rules}
use Rattle.lent_figure.proofs.Testing.{id_late, id_first, id_after}
use Rattle.lent_figure.proofs.id_right.Goals as goal

pub returns-then-next-x : goal.returns-then-next-x
returns-then-next-x c =
    let a = c.args in
    id_late a.next a.ids.now a.i c.if-next-x.true

pub returns-then-i-eq0 : goal.returns-then-i-eq0
returns-then-i-eq0 c =
    let a = c.args in
    id_first a.next a.ids.now a.i c.if-next-x.false c.if-i-eq0.true

pub returns : goal.returns
returns c =
    let a = c.args in
    id_after a.next a.ids.now a.i c.if-next-x.false c.if-i-eq0.false
