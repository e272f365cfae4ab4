-- `open` meets its contract: question 10 is question 1 of what was loaded. Assumes nothing.
use mathlib.Core.Path.{subst}
use Rattle.lent.specs.Arrays.{Arrays}
use Rattle.call_asked.specs.Entries.{Asked}
use Rattle.call_open.proofs.Judged.{loaded_some, loaded_none, no_file, opened_in}
use Rattle.call_open.proofs.open.Goals as goal

pub returns-in_default-clause-opened_in : goal.returns-in_default-clause-opened_in
returns-in_default-clause-opened_in c = no_file _ (loaded_none _ _ _ _ c.load.result c.load.ensures.rows_loaded c.in_default.is)

pub returns-clause-opened_in : goal.returns-clause-opened_in
returns-clause-opened_in c =
    opened_in _ _ (loaded_some _ _ _ _ c.load.result c.load.ensures.rows_loaded _ _ _ c.in-Some.is) c.asked.result
    (subst (λ (b : Arrays). Asked b c.asked.result) c.view-view.ensures c.asked.ensures)
