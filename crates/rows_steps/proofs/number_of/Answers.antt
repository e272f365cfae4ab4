-- `rows_steps::number_of` meets its contract. Assumes nothing.
use borrow.Author.Rules.{rules}
use borrow.Author.Tests.{eq-eqb, ne_eqb}
use Rattle.rows_steps.proofs.number_of.Goals as goal

pub returns-then-c-eq0 : goal.returns-then-c-eq0
returns-then-c-eq0 c = simp (eq-eqb _ _ c.if-c-eq0.true)

pub returns : goal.returns
returns c = simp (ne_eqb _ _ c.if-c-eq0.false)
