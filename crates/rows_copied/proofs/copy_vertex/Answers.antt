-- `copy_vertex` meets its contract. Assumes nothing.
use borrow.Author.Rules.{rules}
use borrow.Author.Tests.{eq-eqb, ne_eqb}
use mathlib.Core.Path.{◌∙◌}
use Rattle.rows_copied.proofs.copy_vertex.Goals as goal

pub returns-then-i-v : goal.returns-then-i-v
returns-then-i-v c = c.copy_of.ensures ∙ simp (eq-eqb _ _ c.if-i-v.true)

pub returns : goal.returns
returns c = simp (ne_eqb _ _ c.if-i-v.false)
