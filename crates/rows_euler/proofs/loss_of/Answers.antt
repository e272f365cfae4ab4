-- `loss_of` meets its contract. Assumes nothing.
use mathlib.Core.Path.{ap, sym}
use mathlib.Core.Bool.{Bool, cond}
use borrow.Author.Tests.{eq-eqb, ne_eqb}
use Rattle.rows_euler.proofs.loss_of.Goals as goal

pub returns-then-kind-eq1 : goal.returns-then-kind-eq1
returns-then-kind-eq1 c = sym (ap (λ (b : Bool). cond b 1 c.args.cycles) (eq-eqb _ 1 c.if-kind-eq1.true))

pub returns : goal.returns
returns c = sym (ap (λ (b : Bool). cond b 1 c.args.cycles) (ne_eqb _ 1 c.if-kind-eq1.false))
