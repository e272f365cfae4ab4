-- `ends_at` meets its contract. Assumes nothing.
use mathlib.Core.Path.{sym, ◌∙◌}
use borrow.Author.Tests.{eq-eqb, ne_eqb}
use Rattle.rows_marks.proofs.Marking.{and_true, and_false, or_true, or_false}
use Rattle.rows_marks.proofs.ends_at.Goals as goal

pub returns-then-id-start : goal.returns-then-id-start
returns-then-id-start c = sym (and_true _ (eq-eqb _ 1 c.if-kind-eq1.true) ∙ or_true _ (eq-eqb _ _ c.if-id-start.true))

pub returns-then-kind-eq1 : goal.returns-then-kind-eq1
returns-then-kind-eq1 c = sym (and_true _ (eq-eqb _ 1 c.if-kind-eq1.true) ∙ or_false _ (ne_eqb _ _ c.if-id-start.false))

pub returns : goal.returns
returns c = sym (and_false _ (ne_eqb _ 1 c.if-kind-eq1.false))
