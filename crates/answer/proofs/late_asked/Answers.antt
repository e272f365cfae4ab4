-- `late_asked` meets its contract: 7 before 8. Assumes nothing.
use mathlib.Core.Path.{sym}
use borrow.Author.Tests.{le-leb, lt-leb}
use borrow.Author.Rules.{rules}
use Rattle.answer.proofs.late_asked.Goals as goal

pub returns-then-next-n-gt-IDS_END : goal.returns-then-next-n-gt-IDS_END
returns-then-next-n-gt-IDS_END c = rw (lt-leb _ _ c.if-next-n-gt-IDS_END.true)

pub returns-then-fit_after : goal.returns-then-fit_after
returns-then-fit_after c = rw (le-leb _ _ c.if-next-n-gt-IDS_END.false, sym c.fit_after.ensures, c.if-fit_after.true)

pub returns : goal.returns
returns c = rw (le-leb _ _ c.if-next-n-gt-IDS_END.false, sym c.fit_after.ensures, c.if-fit_after.false)
