-- `cycle_uses` meets its contract. Assumes nothing.
use borrow.Author.Rules.{rules}
use mathlib.Core.Path.{ap, sym, ◌∙◌}
use Rattle.rows_uses.specs.declared.Use.{Use}
use Rattle.store.specs.View.{cycle_of}
use Rattle.rows_uses.specs.Uses.{uses_in}
use Rattle.rows_uses.proofs.cycle_uses.Goals as goal

pub returns-in-Step : goal.returns-in-Step
returns-in-Step c =
    let a = c.args in
    c.path_uses.ensures ∙ ap (λ (u : Use). uses_in u a.i (cycle_of a.c a.l.now)) (sym c.in-Step.is)

pub returns-in-Ring : goal.returns-in-Ring
returns-in-Ring c =
    let a = c.args in
    c.ring_uses.ensures ∙ ap (λ (u : Use). uses_in u a.i (cycle_of a.c a.l.now)) (sym c.in-Ring.is)

pub returns-in-Lone : goal.returns-in-Lone
returns-in-Lone c =
    let a = c.args in
    c.lone_uses.ensures ∙ ap (λ (u : Use). uses_in u a.i (cycle_of a.c a.l.now)) (sym c.in-Lone.is)
