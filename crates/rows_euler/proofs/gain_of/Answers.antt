-- `gain_of` meets its contract. Assumes nothing.
use mathlib.Core.Path.{ap, sym, ◌∙◌}
use mathlib.Core.Bool.{Bool, cond}
use lib.Dec.{eqb}
use borrow.Author.Tests.{eq-eqb, ne_eqb}
use Rattle.rows_euler.proofs.gain_of.Goals as goal

pub returns-then-kind-eq0 : goal.returns-then-kind-eq0
returns-then-kind-eq0 c = sym (ap (λ (b : Bool). cond b 1 (cond (eqb c.args.kind 3) 2 0)) (eq-eqb _ 0 c.if-kind-eq0.true))

pub returns-then-kind-eq3 : goal.returns-then-kind-eq3
returns-then-kind-eq3 c =
    let k = c.args.kind in
    sym (ap (λ (b : Bool). cond b 1 (cond (eqb k 3) 2 0)) (ne_eqb k 0 c.if-kind-eq0.false) ∙ ap (λ (b : Bool). cond b 2 0) (eq-eqb k 3 c.if-kind-eq3.true))

pub returns : goal.returns
returns c =
    let k = c.args.kind in
    sym (ap (λ (b : Bool). cond b 1 (cond (eqb k 3) 2 0)) (ne_eqb k 0 c.if-kind-eq0.false) ∙ ap (λ (b : Bool). cond b 2 0) (ne_eqb k 3 c.if-kind-eq3.false))
