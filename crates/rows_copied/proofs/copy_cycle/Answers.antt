-- `copy_cycle` meets its contract. Assumes nothing.
use borrow.Author.Rules.{rules}
use mathlib.Core.Path.{sym, subst}
use Rattle.rows_uses.specs.declared.Use.{Use}
use Rattle.rows_copied.specs.Copying.{copied, Changed}
use Rattle.rows_copied.proofs.copy_cycle.Goals as goal

pub returns-in-Step : goal.returns-in-Step
returns-in-Step c =
    let a = c.args in
    subst (λ (u : Use). Changed (copied u a.i a.next a.k) a.c a.l.now c.copy_path.new.l)
    (sym c.in-Step.is) c.copy_path.ensures

pub returns-in-Ring : goal.returns-in-Ring
returns-in-Ring c =
    let a = c.args in
    subst (λ (u : Use). Changed (copied u a.i a.next a.k) a.c a.l.now c.copy_path-in-Ring.new.l)
    (sym c.in-Ring.is) c.copy_path-in-Ring.ensures

pub returns-in-Lone : goal.returns-in-Lone
returns-in-Lone c =
    let a = c.args in
    subst (λ (u : Use). Changed (copied u a.i a.next a.k) a.c a.l.now c.copy_lone.new.l)
    (sym c.in-Lone.is) c.copy_lone.ensures
