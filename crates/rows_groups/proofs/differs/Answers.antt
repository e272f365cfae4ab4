-- `differs` meets its contract. Assumes nothing.
use mathlib.Core.Path.{ap, sym}
use mathlib.Core.Bool.{Bool, not, cond}
use borrow.Author.Tests.{eq-eqb, ne_eqb}
use lib.Dec.{eqb}
use Rattle.rows_groups.proofs.differs.Goals as goal

pub returns-then-a-g : goal.returns-then-a-g
returns-then-a-g c = let a = c.args in sym (ap (λ (t : Bool). cond t (not (eqb a.b a.g)) (eqb a.b a.g)) (eq-eqb a.a a.g c.if-a-g.true))

pub returns : goal.returns
returns c = let a = c.args in sym (ap (λ (t : Bool). cond t (not (eqb a.b a.g)) (eqb a.b a.g)) (ne_eqb a.a a.g c.if-a-g.false))
