-- `side_use` meets its contract. Assumes nothing.
use borrow.Author.Tests.{eq-eqb, ne_eqb}
use Rattle.rows_sides.proofs.side_use.Goals as goal

pub returns-then-e-s : goal.returns-then-e-s
returns-then-e-s c = simp (ne_eqb _ _ c.if-e-s.true)

pub returns-then-s-eq1 : goal.returns-then-s-eq1
returns-then-s-eq1 c = simp (eq-eqb _ _ c.if-e-s.false, eq-eqb _ 1 c.if-s-eq1.true)

pub returns : goal.returns
returns c = simp (eq-eqb _ _ c.if-e-s.false, ne_eqb _ 1 c.if-s-eq1.false)
