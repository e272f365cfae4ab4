-- `readable` meets its contract: question 1 of the rows that were loaded, and what was said of the bends. Assumes nothing.
use mathlib.Core.Path.{ap, ◌∙◌}
use mathlib.Core.Bool.{false}
use Rattle.lent_sound.specs.Walk.{walk_right}
use Rattle.lent_sound.proofs.Cells.{walked_no, walked_yes}
use Rattle.call_open.proofs.Judged.{rows_some, rows_none, rows_right, rows_bent}
use Rattle.call_open.proofs.readable.Goals as goal

pub returns-in_default-clause-value : goal.returns-in_default-clause-value
returns-in_default-clause-value c = rows_none _ _ _ _ c.load.result c.load.ensures.rows_loaded c.in_default.is

pub returns-in_default-walk-clause-value : goal.returns-in_default-walk-clause-value
returns-in_default-walk-clause-value c =
    rows_right _ _ _ _ _ (rows_some _ _ _ _ c.load.result c.load.ensures.rows_loaded _ _ _ c.in-Some.is) c.if-good.true _
    (walked_no _ _ c.walk.result c.walk.ensures.result_value c.in_default-walk.is ∙ ap (walk_right false) c.view.ensures)

pub returns-then-good-clause-value : goal.returns-then-good-clause-value
returns-then-good-clause-value c =
    rows_right _ _ _ _ _ (rows_some _ _ _ _ c.load.result c.load.ensures.rows_loaded _ _ _ c.in-Some.is) c.if-good.true _
    (walked_yes _ _ c.walk.result c.walk.ensures.result_value _ c.in-Some-walk.is ∙ ap (walk_right false) c.view.ensures)

pub returns-clause-value : goal.returns-clause-value
returns-clause-value c =
    rows_bent _ _ _ _ _ (rows_some _ _ _ _ c.load.result c.load.ensures.rows_loaded _ _ _ c.in-Some.is) c.if-good.false
