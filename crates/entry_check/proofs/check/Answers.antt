-- `check` meets its contract: what the walk says is the verdict. Assumes nothing.
use Rattle.lent.specs.Sheets.{seen}
use Rattle.entry_check.proofs.Verdicts.{told_yes, told_no}
use Rattle.entry_check.proofs.check.Goals as goal

pub returns-in-Ok : goal.returns-in-Ok
returns-in-Ok c =
    let w = c.visit-v.ensures in
    let whole = told_yes (seen c.args.view.now) w.lengths c.visit-v.result w.result_value w.result_value_2 _ c.in-Ok.is in record {
      result_value = whole.0;
      visited_le_cells_most = whole.1;
    }

pub returns-in-Err : goal.returns-in-Err
returns-in-Err c =
    let w = c.visit-v.ensures in
    let whole = told_no (seen c.args.view.now) w.lengths c.visit-v.result w.result_value w.result_value_2 _ c.in-Err.is in record {
      result_value = whole.0;
      visited_le_cells_most = whole.1;
    }
