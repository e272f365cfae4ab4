-- `fit_after` meets its contract, limit by limit. Assumes nothing.
use mathlib.Core.Path.{sym}
use Rattle.answer.proofs.Late.{above, upto, no_first, yes_first}
use borrow.Author.Rules.{rules}
use Rattle.answer.proofs.fit_after.Goals as goal

pub returns-then-less-t : goal.returns-then-less-t
returns-then-less-t c = no_first _ _ (above _ _ _ _ c.if-less-t.true)

pub returns-then-less-t-2 : goal.returns-then-less-t-2
returns-then-less-t-2 c = yes_first _ _ _ (upto _ _ _ _ c.if-less-t.false) (no_first _ _ (above _ _ _ _ c.if-less-t-2.true))

pub returns-then-less-t-3 : goal.returns-then-less-t-3
returns-then-less-t-3 c =
    yes_first _ _ _ (upto _ _ _ _ c.if-less-t.false)
    (yes_first _ _ _ (upto _ _ _ _ c.if-less-t-2.false) (no_first _ _ (above _ _ _ _ c.if-less-t-3.true)))

pub returns-then-less-t-4 : goal.returns-then-less-t-4
returns-then-less-t-4 c =
    yes_first _ _ _ (upto _ _ _ _ c.if-less-t.false)
    (yes_first _ _ _ (upto _ _ _ _ c.if-less-t-2.false)
    (yes_first _ _ _ (upto _ _ _ _ c.if-less-t-3.false) (sym (above _ _ _ _ c.if-less-t-4.true))))

pub returns : goal.returns
returns c =
    yes_first _ _ _ (upto _ _ _ _ c.if-less-t.false)
    (yes_first _ _ _ (upto _ _ _ _ c.if-less-t-2.false)
    (yes_first _ _ _ (upto _ _ _ _ c.if-less-t-3.false) (sym (upto _ _ _ _ c.if-less-t-4.false))))
